-- `reading::read_text` meets its contract: the walk into cells apart, which hold every value of so few bytes, decides, and only then is the sheet filled.
use Prim.Native.Nat.{◌≤◌}
use lib.ListN.{length}
use mathlib.Core.Path.{◌≡◌, refl, sym, ap, ◌∙◌}
use native.Mathlib.Omega.{arith}
use borrow.Author.Rules.{rules}
use Rattle.std.specs.Prelude.{Err}
use Rattle.std.proofs.lemmas.List.{length-take, length-take-le}
use Rattle.answers.specs.Answers.{answered}
use Rattle.answers.proofs.Lent.{failed}
use Rattle.bits.specs.Bytes.{bits_of}
use Rattle.bits.proofs.Bytes.{bits_of_length}
use Rattle.reading.proofs.Entry.{text_within, text_made, text_few, made_fits, refused_right, copied_right}
use Rattle.reading.proofs.Texts.{text_room}
use Rattle.reading.proofs.read_text.Goals as goal

pub text-r-requires : goal.text-r-requires
text-r-requires c = (record { place = omega arith; few = omega (arith, c.requires); padded = omega (arith, c.requires, c.copy_front.auto.to) }, record { room = omega arith; next = omega arith })

pub judged-requires : goal.judged-requires
judged-requires c = λ h. record { place = text_within c.args.bytes.now _ c.args.sheet.now c.requires (c.copy_front.ensures.whole (omega (arith, c.requires))) refl _ c.text-r.ensures h; few = omega (arith, c.requires); padded = omega (arith, c.requires, c.copy_front.auto.to) }

pub returns-in_err-done : goal.returns-in_err-done
returns-in_err-done c = let told = refused_right 129 (omega arith) _ (omega (arith, c.requires)) c.args.sheet.now (text_made c.args.bytes.now _ c.args.sheet.now c.requires (c.copy_front.ensures.whole (omega (arith, c.requires))) refl _ c.text-r.ensures (ap answered (sym c.in_err-done.was) ∙ c.judged.ensures)) (failed c.in_err-done.field-0.0) in record { answer = (let e : c.from_residual.result ≡ Err c.in_err-done.field-0.0 = search rules in ap answered e ∙ told.0); cells = told.1 }

pub slice_bounds-made-end : goal.slice_bounds-made-end
slice_bounds-made-end c = omega (arith, text_few c.args.bytes.now _ c.args.sheet.now c.requires (c.copy_front.ensures.whole (omega (arith, c.requires))) refl _ c.text-r.ensures (ap answered (sym c.in_ok-done.was) ∙ c.judged.ensures) (text_room (bits_of c.args.bytes.now) (omega (arith, c.requires, bits_of_length c.args.bytes.now))) refl, c.text-r.auto.sheet)

pub slice_bounds-copy_front-end-2 : goal.slice_bounds-copy_front-end-2
slice_bounds-copy_front-end-2 c = let few : c.in_ok-done.done.count ≤ length c.text-r.new.sheet = omega (arith, text_few c.args.bytes.now _ c.args.sheet.now c.requires (c.copy_front.ensures.whole (omega (arith, c.requires))) refl _ c.text-r.ensures (ap answered (sym c.in_ok-done.was) ∙ c.judged.ensures) (text_room (bits_of c.args.bytes.now) (omega (arith, c.requires, bits_of_length c.args.bytes.now))) refl, c.text-r.auto.sheet) in sym (length-take-le _ _ few)

pub returns : goal.returns
returns c = let told = copied_right 129 (omega arith) _ (omega (arith, c.requires)) c.args.sheet.now (text_made c.args.bytes.now _ c.args.sheet.now c.requires (c.copy_front.ensures.whole (omega (arith, c.requires))) refl _ c.text-r.ensures (ap answered (sym c.in_ok-done.was) ∙ c.judged.ensures)) refl (omega (arith, text_few c.args.bytes.now _ c.args.sheet.now c.requires (c.copy_front.ensures.whole (omega (arith, c.requires))) refl _ c.text-r.ensures (ap answered (sym c.in_ok-done.was) ∙ c.judged.ensures) (text_room (bits_of c.args.bytes.now) (omega (arith, c.requires, bits_of_length c.args.bytes.now))) refl, c.text-r.auto.sheet)) (c.copy_front-2.ensures.whole (simp length-take (omega (arith, made_fits 129 (omega arith) _ (omega (arith, c.requires)) c.args.sheet.now (text_made c.args.bytes.now _ c.args.sheet.now c.requires (c.copy_front.ensures.whole (omega (arith, c.requires))) refl _ c.text-r.ensures (ap answered (sym c.in_ok-done.was) ∙ c.judged.ensures)) refl)))) in record { answer = told.0; cells = told.1 }
