-- `bits::Cursor::fetch` meets its contract: each answer by its law.
-- Assumes nothing.
use mathlib.Core.Path.{◌≡◌, sym, ap, ap₂, ◌∙◌}
use Prim.Native.Nat.{ℕ, ◌+◌, ◌-◌, ◌*◌, ◌<◌}
use native.Mathlib.Omega.{arith}
use lib.ListN.{length}
use Rattle.answers.specs.Refusals.{short_by}
use Rattle.bits.specs.Bytes.{bits_of}
use Rattle.bits.specs.Fetching.{code}
use Rattle.bits.proofs.Bytes.{bits_of_length, code_none}
use Rattle.bits.proofs.Fetching.{fetched_wide, fetched_long, fetched_inside, fetched_lacking, fetched_whole}
use Rattle.bits.proofs.Says.{fetch_told}
use Rattle.bits.proofs.Cursor.fetch.Goals.{then-total-w-via-then-total-w, then-total-w-via-else-total-w+then-total-w-2}
use Rattle.bits.proofs.Cursor.fetch.Goals as goal
use Rattle.std.specs.Prelude.{Ok, Err}

pub returns-then-width-gt-MOST_WIDTH : goal.returns-then-width-gt-MOST_WIDTH
returns-then-width-gt-MOST_WIDTH c = let a = c.args in let told = fetch_told a.bytes.now a.self.at a.width (ap Err c.new.ensures ∙ sym (fetched_wide a.bytes.now a.self.at a.width (omega arith))) in record { answer = told.0; says = told.1 }

pub returns-then-bytes-gt-MOST_BYTES : goal.returns-then-bytes-gt-MOST_BYTES
returns-then-bytes-gt-MOST_BYTES c = let a = c.args in let told = fetch_told a.bytes.now a.self.at a.width (ap Err c.new-then-bytes-gt-MOST_BYTES.ensures ∙ sym (fetched_long a.bytes.now a.self.at a.width (omega arith) (omega arith))) in record { answer = told.0; says = told.1 }

pub returns-then-w-eq0 : goal.returns-then-w-eq0
returns-then-w-eq0 c =
    let a = c.args in
    let bs = bits_of a.bytes.now in
    let none : 0 ≡ code bs a.self.at a.width = code_none bs a.self.at ∙ ap (code bs a.self.at) (sym c.if-w-eq0.true) in
    let here : a.self.at ≡ a.self.at + a.width = omega arith in
    let told = fetch_told a.bytes.now a.self.at a.width (ap₂ (λ (n p : ℕ). Ok (n, record { at = p })) none here
    ∙ sym (fetched_inside a.bytes.now a.self.at a.width (omega arith) (omega arith) ∙ fetched_whole bs a.self.at a.width (omega arith))) in record { answer = told.0; says = told.1 }

pub returns-then-total-w : goal.returns-then-total-w
returns-then-total-w c =
    let a = c.args in
    let lacks : length a.bytes.now * 8 - a.self.at < a.width = elim c.then-total-w.branch [ then-total-w-via-then-total-w w ↦ omega arith | then-total-w-via-else-total-w+then-total-w-2 w ↦ omega arith ] in
    let told = fetch_told a.bytes.now a.self.at a.width (ap Err (c.short.ensures ∙ ap (λ (n : ℕ). short_by (a.width - n) a.self.at) c.saturating_sub-there.ensures)
    ∙ sym (fetched_lacking a.bytes.now a.self.at a.width (omega arith) (omega arith) (length a.bytes.now * 8) (omega arith) lacks)) in record { answer = told.0; says = told.1 }

pub returns : goal.returns
returns c =
    let a = c.args in
    let told = fetch_told a.bytes.now a.self.at a.width (ap (λ (n : ℕ). Ok (n, record { at = a.self.at + a.width })) c.code_at-code.ensures
    ∙ sym (fetched_inside a.bytes.now a.self.at a.width (omega arith) (omega arith) ∙ fetched_whole (bits_of a.bytes.now) a.self.at a.width (omega (arith, bits_of_length a.bytes.now)))) in record { answer = told.0; says = told.1 }
