-- `bits::Cursor::store` meets its contract: each answer by its law, and only the last one stores.
-- Assumes nothing.
use mathlib.Core.Path.{refl, sym, ap, ◌∙◌}
use native.Mathlib.Omega.{arith}
use Rattle.std.specs.Prelude.{Err}
use Rattle.answers.specs.declared.Refusal.{Refusal}
use Rattle.answers.specs.declared.Failure.TheVariants.{Refused}
use Rattle.bits.specs.Storing.{afterwards}
use Rattle.bits.proofs.Bytes.{bits_of_length}
use Rattle.bits.proofs.Storing.{stored_wide, stored_outside, stored_long, stored_full, stored_done}
use Rattle.bits.proofs.Says.{store_told}
use Rattle.bits.proofs.Cursor.store.Goals as goal

pub returns-then-width-gt-MOST_WIDTH : goal.returns-then-width-gt-MOST_WIDTH
unfolding afterwards
returns-then-width-gt-MOST_WIDTH c = let a = c.args in let told = store_told a.bytes.now a.self.at a.width a.code (ap (λ (why : Refusal). Err (Refused why)) c.new.ensures ∙ sym (stored_wide a.bytes.now a.self.at a.width a.code (omega arith))) in record { answer = told.0; bits = refl; says = told.1 }

pub returns-then-power-code : goal.returns-then-power-code
unfolding afterwards
returns-then-power-code c = let a = c.args in let fits = c.power.ensures.fits (omega arith) in let told = store_told a.bytes.now a.self.at a.width a.code (ap (λ (why : Refusal). Err (Refused why)) c.new-then-power-code.ensures ∙ sym (stored_outside a.bytes.now a.self.at a.width a.code (omega arith) (omega arith))) in record { answer = told.0; bits = refl; says = told.1 }

pub returns-then-w-at : goal.returns-then-w-at
unfolding afterwards
returns-then-w-at c = let a = c.args in let fits = c.power.ensures.fits (omega arith) in let told = store_told a.bytes.now a.self.at a.width a.code (ap (λ (why : Refusal). Err (Refused why)) c.new-then-w-at.ensures ∙ sym (stored_long a.bytes.now a.self.at a.width a.code (omega arith) (omega arith) (omega arith))) in record { answer = told.0; bits = refl; says = told.1 }

pub returns-then-bytes-end : goal.returns-then-bytes-end
unfolding afterwards
returns-then-bytes-end c = let a = c.args in let fits = c.power.ensures.fits (omega arith) in let told = store_told a.bytes.now a.self.at a.width a.code (sym (stored_full a.bytes.now a.self.at a.width a.code (omega arith) (omega arith) (omega arith) (omega (arith, bits_of_length a.bytes.now)))) in record { answer = told.0; bits = refl; says = told.1 }

pub returns : goal.returns
unfolding afterwards
returns c = let a = c.args in let fits = c.power.ensures.fits (omega arith) in let told = store_told a.bytes.now a.self.at a.width a.code (sym (stored_done a.bytes.now a.self.at a.width a.code (omega arith) (omega arith) (omega arith) (omega (arith, bits_of_length a.bytes.now)))) in record { answer = told.0; bits = c.put.ensures; says = told.1 }
