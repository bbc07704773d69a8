-- Demand 3, of the meaning: the bits of a run of frames, joined with nothing between, are the bits of no other run;
-- a readable message of a named type that lost whole bytes from its end is short.
-- Assumes nothing.
use Prim.Native.Nat.{ℕ, zero, suc, ◌+◌, ◌*◌, ◌≤◌, ◌<◌}
use mathlib.Core.Path.{◌≡◌, refl, sym, subst, ◌∙◌}
use mathlib.Core.List.{List, []}
use native.Mathlib.Omega.{arith}
use borrow.Author.Tests.{le-ltb}
use lib.ListN.{length, take}
use lib.Seq.{length-take-le}
use lib.IntN.{ℤ}
use Rattle.bits.specs.Numbers.{halvings, Binary}
use Rattle.bits.specs.Bytes.{bits_of, octets_for, message}
use Rattle.bits.specs.Limits.{most_bytes}
use Rattle.bits.proofs.Bytes.{bits_of_take, message_length}
use Rattle.types.specs.Shape.{Ty, last}
use Rattle.types.specs.Rows.{rows}
use Rattle.types.specs.Table.{type_of, the_rows, type_at, type_by, body_of, fields_of, alts_of}
use Rattle.types.specs.Named.{named_row}
use Rattle.std.specs.Prelude.{Some, None}
use Rattle.meaning.specs.Values.{Value}
use Rattle.meaning.specs.Steps.{Got, ok, refused, pure, prepend, and_then, ◌>>=◌}
use Rattle.meaning.specs.Walk.{flags, times, walk, fields, alternative}
use Rattle.meaning.specs.Reading.{read, within, part, read_whole, judged, read_extension, unextended}
use Rattle.meaning.specs.Writing.{Codes}
use Rattle.meaning.specs.Messages.{read_answer, read_typed, read_message, Encodes, Run, nothing, and, Joined, none, with, Short}
use Rattle.meaning.proofs.Unique.{takes_bits, run_unique}
use Rattle.meaning.proofs.Cut.{cut}
use Rattle.meaning.proofs.Plain.{the_types_plain}
use Rattle.meaning.proofs.Bits.{plain_binary}
use Rattle.meaning.proofs.DemandTwo.{message_read, octets_for_lem}

-- ---- every value of a type of edition 1 has bits, however long it is

pub row_binary : (row : ℕ) (v : Value) (cells : List ℤ) (bits : List ℕ) → Codes (type_of the_rows row) v cells bits → Binary bits
row_binary row v cells bits e = plain_binary (type_of the_rows row) (the_types_plain (row + 1) row) cells 0 (length cells) v bits e

-- so values of such a type, joined, are a run
joined_run : (row : ℕ) {run : List (List ℤ)} {bits : List ℕ} → Joined (type_of the_rows row) run bits → Run (type_of the_rows row) run bits
joined_run row none = nothing
joined_run row (with {v = v} {cells = cells} {bits = bits} e more) = and e (row_binary row v cells bits e) (joined_run row more)

-- ---- each named type takes at least one bit

unnamed : (number : ℕ) → 3 ≤ number → named_row number ≡ None
unfolding named_row
unnamed number h = rw (le-ltb number 3 h)

needs_bits : (number row : ℕ) → named_row number ≡ Some row → Short (read (type_of the_rows row) [] 0)
unfolding named_row rows type_at type_by body_of fields_of alts_of last walk flags fields alternative times pure ◌>>=◌ and_then prepend within part read_whole judged read_extension unextended halvings
needs_bits zero row e = let r : 413 ≡ row = cc in subst (λ (n : ℕ). Short (read (type_of the_rows n) [] 0)) r refl
needs_bits (suc zero) row e = let r : 129 ≡ row = cc in subst (λ (n : ℕ). Short (read (type_of the_rows n) [] 0)) r refl
needs_bits (suc (suc zero)) row e = let r : 236 ≡ row = cc in subst (λ (n : ℕ). Short (read (type_of the_rows n) [] 0)) r refl
needs_bits (suc (suc (suc number))) row e =
    let none : None ≡ Some row = sym (unnamed (suc (suc (suc number))) (omega arith)) ∙ e in
    absurd (let z : ◌≡◌ {A = ℕ} 0 1 = cc in omega arith)

pub at_least_one_bit : (number row : ℕ) (v : Value) (cells : List ℤ) (bits : List ℕ) → named_row number ≡ Some row → Codes (type_of the_rows row) v cells bits → 0 < length bits
at_least_one_bit number row v cells bits n e = takes_bits (type_of the_rows row) (needs_bits number row n) v cells bits e (row_binary row v cells bits e)

-- ---- runs

-- the message frame
abbrev pub frame : Ty
frame = type_of the_rows 413

-- two runs of frames, of any number and kinds, whose joined bits are the same, are the same run
pub runs_of_frames : {run other : List (List ℤ)} {bits bits' : List ℕ} → Joined frame run bits → Joined frame other bits' → bits ≡ bits' → run ≡ other
unfolding named_row
runs_of_frames j k = run_unique frame (needs_bits 0 413 refl) (joined_run 413 j) (joined_run 413 k)

-- ---- bytes lost from the end

got_short : (bs : List ℕ) (room : ℕ) (g : Got ℤ Value) → Short g → (read_answer bs room g).number ≡ 3
unfolding read_answer
got_short bs room (ok x out next) h = absurd h
got_short bs room (refused why) h = h

-- of any type: a message of at most 2,048 bytes that lost one or more of them is short
pub message_cut : (t : Ty) (v : Value) (cells : List ℤ) (bits : List ℕ) → Codes t v cells bits → octets_for (length bits) ≤ most_bytes → (m : ℕ) → m < length (message bits) → Short (read t (bits_of (take m (message bits))) 0)
message_cut t v cells bits e few m h =
    rw (bits_of_take m (message bits) (omega arith))
    (cut t (bits_of (message bits)) 0 (length bits) v cells (message_read t v cells bits e few) (8 * m) (omega arith) (omega (arith, message_length bits)))

pub lost_bytes : (edition number : ℕ) (cells : List ℤ) (bytes : List ℕ) → Encodes edition number cells bytes → (m : ℕ) → m < length bytes → (sheet : List ℤ) → (read_message number (take m bytes) sheet).number ≡ 3
unfolding read_typed
lost_bytes edition number cells bytes E m h sheet =
    let t : Ty = type_of the_rows E.row in
    let l : length (take m bytes) ≡ m = length-take-le m bytes (omega arith) in
    let few : length (take m bytes) ≤ 2048 = omega (arith, E.few) in
    let short : Short (read t (bits_of (take m bytes)) 0) = rw E.padded at (message_cut t E.value cells E.bits E.codes (omega (arith, octets_for_lem E, E.few)) m (omega (arith, octets_for_lem E, message_length E.bits))) in
    rw (E.named, le-ltb 2048 (length (take m bytes)) few)
    (got_short (bits_of (take m bytes)) (length sheet) (read t (bits_of (take m bytes)) 0) short)
