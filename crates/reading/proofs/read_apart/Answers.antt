-- `reading::read_apart` meets its contract: the walk into cells apart decides, and only then is the sheet filled.
use mathlib.Core.Path.{◌≡◌, refl, sym, ap, ◌∙◌}
use native.Mathlib.Omega.{arith}
use borrow.Author.Rules.{rules}
use Rattle.std.specs.Prelude.{Err}
use Rattle.std.proofs.lemmas.List.{length-take, length-take-le}
use Rattle.answers.specs.Answers.{answered}
use Rattle.answers.proofs.Lent.{failed}
use Rattle.reading.proofs.Entry.{known_ready, known_type, known_within, known_made, walked_bytes, made_fits, front_length, front_few, front_right, refused_right, copied_right}
use Rattle.reading.proofs.read_apart.Goals as goal

pub walk-r-requires : goal.walk-r-requires
walk-r-requires c = (known_ready c.requires.0, known_type c.requires.0, record { place = omega arith; few = omega (arith, c.requires.1); padded = omega (arith, c.requires.2, c.copy_front.auto.to) }, record { room = c.requires.3; next = omega arith })

pub judged-requires : goal.judged-requires
judged-requires c = λ h. record { place = known_within c.requires.0 c.args.bytes.now c.args.b.now c.args.sheet.now c.requires.1 (c.copy_front.ensures.whole (omega (arith, c.requires.2))) refl _ c.walk-r.ensures h; few = omega (arith, c.requires.1); padded = omega (arith, c.requires.2, c.copy_front.auto.to) }

pub returns-in_err-done : goal.returns-in_err-done
returns-in_err-done c = let told = refused_right _ c.requires.0.there _ c.requires.1 c.args.sheet.now (known_made c.requires.0 c.args.bytes.now c.args.b.now c.args.sheet.now c.requires.1 (c.copy_front.ensures.whole (omega (arith, c.requires.2))) refl _ c.walk-r.ensures (ap answered (sym c.in_err-done.was) ∙ c.judged.ensures)) (failed c.in_err-done.field-0.0) in record { answer = (let e : c.from_residual.result ≡ Err c.in_err-done.field-0.0 = search rules in ap answered e ∙ told.0); cells = told.1 }

pub slice_bounds-walk-end : goal.slice_bounds-walk-end
slice_bounds-walk-end c = made_fits _ c.requires.0.there _ c.requires.1 c.args.sheet.now (known_made c.requires.0 c.args.bytes.now c.args.b.now c.args.sheet.now c.requires.1 (c.copy_front.ensures.whole (omega (arith, c.requires.2))) refl _ c.walk-r.ensures (ap answered (sym c.in_ok-done.was) ∙ c.judged.ensures)) refl

pub slice_bounds-walk-end-then-made-done : goal.slice_bounds-walk-end-then-made-done
slice_bounds-walk-end-then-made-done c = front_length _ c.requires.0.there _ c.requires.1 c.args.sheet.now (known_made c.requires.0 c.args.bytes.now c.args.b.now c.args.sheet.now c.requires.1 (c.copy_front.ensures.whole (omega (arith, c.requires.2))) refl _ c.walk-r.ensures (ap answered (sym c.in_ok-done.was) ∙ c.judged.ensures)) refl

pub walk-requires : goal.walk-requires
walk-requires c = (known_ready c.requires.0, known_type c.requires.0, record { place = omega arith; few = omega (arith, c.requires.1); padded = omega (arith, c.requires.2, c.copy_front.auto.to) }, record { room = front_few _ c.requires.0.there _ c.requires.1 c.args.sheet.now (known_made c.requires.0 c.args.bytes.now c.args.b.now c.args.sheet.now c.requires.1 (c.copy_front.ensures.whole (omega (arith, c.requires.2))) refl _ c.walk-r.ensures (ap answered (sym c.in_ok-done.was) ∙ c.judged.ensures)) refl; next = omega arith })

pub returns-then-made-done : goal.returns-then-made-done
returns-then-made-done c = let told = front_right _ c.requires.0.there _ c.requires.1 c.args.sheet.now (known_made c.requires.0 c.args.bytes.now c.args.b.now c.args.sheet.now c.requires.1 (c.copy_front.ensures.whole (omega (arith, c.requires.2))) refl _ c.walk-r.ensures (ap answered (sym c.in_ok-done.was) ∙ c.judged.ensures)) refl (walked_bytes c.requires.0 c.args.bytes.now _ (c.copy_front.ensures.whole (omega (arith, c.requires.2))) refl c.walk.ensures) refl in record { answer = told.0; cells = told.1 }

pub slice_bounds-copy_front-end : goal.slice_bounds-copy_front-end
slice_bounds-copy_front-end c = c.if-made-done.false

pub slice_bounds-copy_front-end-2 : goal.slice_bounds-copy_front-end-2
slice_bounds-copy_front-end-2 c = sym (length-take-le _ _ c.if-made-done.false)

pub returns : goal.returns
returns c = let told = copied_right _ c.requires.0.there _ c.requires.1 c.args.sheet.now (known_made c.requires.0 c.args.bytes.now c.args.b.now c.args.sheet.now c.requires.1 (c.copy_front.ensures.whole (omega (arith, c.requires.2))) refl _ c.walk-r.ensures (ap answered (sym c.in_ok-done.was) ∙ c.judged.ensures)) refl c.if-made-done.false (c.copy_front-2.ensures.whole (simp length-take (omega (arith, c.if-made-done.false, made_fits _ c.requires.0.there _ c.requires.1 c.args.sheet.now (known_made c.requires.0 c.args.bytes.now c.args.b.now c.args.sheet.now c.requires.1 (c.copy_front.ensures.whole (omega (arith, c.requires.2))) refl _ c.walk-r.ensures (ap answered (sym c.in_ok-done.was) ∙ c.judged.ensures)) refl)))) in record { answer = told.0; cells = told.1 }
