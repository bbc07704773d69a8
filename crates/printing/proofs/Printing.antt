-- A whole text in a buffer: a first pass over no bytes learns its length, a second one puts it there.
-- Assumes nothing.
use Prim.Native.Nat.{ℕ, ◌<◌, ◌≤◌, ◌^◌}
use mathlib.Core.List.{List, ◌++◌}
use mathlib.Core.Bool.{Bool, true, false, cond}
use mathlib.Core.Path.{◌≡◌, refl, sym, ap, ap₂, ◌∙◌}
use native.Mathlib.Decide.{dec_le}
use native.Mathlib.Nat.{zero-add}
use native.Mathlib.Omega.{arith}
use borrow.Author.Tests.{le-leb, lt-leb}
use lib.Dec.{leb}
use lib.ListN.{length, take, drop}
use lib.Seq.{sets-eq, take-append_seam}
use Rattle.basics.specs.Lists.{filled}
use Rattle.basics.specs.Counts.{capped}
use Rattle.printing.specs.Buffers.{printed, printed_says, print_answer, no_room, after_printing, buffer_after, Appended}
use Rattle.printing.specs.declared.NoRoom.{NoRoom}
use Rattle.std.specs.Prelude.{Result, Ok, Err}

module _ (text out : List ℕ) {none none' : List ℕ} {needed : ℕ} (first : Appended text none 0 needed none') where
  pub no_room_lem : length out < needed → (Err (no_room needed) ≡ printed text (length out)) × (out ≡ buffer_after text out)
  unfolding printed after_printing
  no_room_lem h =
      let l : length out < length text = omega (arith, first.place) in
      let e : needed ≡ capped (length text) = omega (arith, first.place) in
      rw (lt-leb (length text) (length out) l) (ap (λ (k : ℕ). Err (no_room k)) e, refl)

  pub put : {next : ℕ} {out' : List ℕ} → length out < 2 ^ 63 → needed ≤ length out → Appended text out 0 next out' → (Ok next ≡ printed text (length out)) × (out' ≡ buffer_after text out)
  unfolding printed after_printing
  put {next} {out'} few h second =
      let l : length text ≤ length out = omega (arith, first.place) in
      let e : next ≡ length text = omega (arith, second.place) in
      let stored : out' ≡ filled text out = second.bytes ∙ sets-eq text out 0 (omega arith) ∙ ap (λ (k : ℕ). text ++ drop k out) (zero-add (length text)) in
      rw (le-leb (length text) (length out) l) (ap Ok e, stored)

-- what a caller learns whose buffer has room
module _ (text out : List ℕ) (h : length text ≤ length out) where
  pub room_put : printed text (length out) ≡ Ok (length text)
  unfolding printed
  room_put = rw (le-leb (length text) (length out) h)

  pub room_bytes : buffer_after text out ≡ filled text out
  unfolding printed after_printing
  room_bytes = rw (le-leb (length text) (length out) h)

-- and what any caller learns of a text that was put: its length, that it lies in the buffer, and that it is there
module _ (text : List ℕ) (room n : ℕ) (e : printed text room ≡ Ok n) where
  pub put_length : (n ≡ length text) × (n ≤ room)
  unfolding printed
  put_length = go (dec_le (length text) room)
    where
      go : Dec (length text ≤ room) → (n ≡ length text) × (n ≤ room)
      go (yes l) =
          let both : ◌≡◌ {A = Result ℕ NoRoom} (Ok (length text)) (Ok n) = sym (rw (le-leb (length text) room l) refl) ∙ e in
          let same : length text ≡ n = cc in
          (sym same, omega arith)
      go (no l) =
          let s : room < length text = omega arith in
          let both : ◌≡◌ {A = Result ℕ NoRoom} (Err (no_room (capped (length text)))) (Ok n) = sym (rw (lt-leb (length text) room s) refl) ∙ e in
          absurd (let z : ◌≡◌ {A = ℕ} 0 1 = cc in omega arith)

pub put_bytes : (text out : List ℕ) (n : ℕ) → printed text (length out) ≡ Ok n → take n (buffer_after text out) ≡ text
put_bytes text out n e =
    let l = put_length text (length out) n e in
    ap₂ take l.0 (room_bytes text out (omega arith)) ∙ take-append_seam text (drop (length text) out)

-- ---- what an answer says

-- an answer that is the definition's says what document 01 says
pub print_says : {r : Result ℕ NoRoom} (text : List ℕ) (room : ℕ) → r ≡ printed text room → printed_says r ≡ print_answer text room
unfolding printed print_answer
print_says text room e = ap printed_says e ∙ by (leb (length text) room)
  where
    by : (b : Bool) → printed_says (cond b (Ok (length text)) (Err (no_room (capped (length text))))) ≡ cond b (printed_says (Ok (length text))) (printed_says (Err (no_room (capped (length text)))))
    by true = refl
    by false = refl
