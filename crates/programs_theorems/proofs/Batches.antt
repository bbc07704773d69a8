-- A batch for reading, record by record.
-- Assumes nothing.
use Prim.Native.Nat.{ℕ, zero, suc}
use mathlib.Core.List.{List, [], ◌++◌}
use mathlib.Core.Path.{◌≡◌, refl, sym, ap, ap₂, ◌∙◌}
use native.Mathlib.Omega.{arith}
use lib.IntN.{ℤ, pos}
use lib.ListN.{length, take, drop, replicate, length-replicate}
use Rattle.std.specs.Prelude.{Option, Some, None, Result, Ok, Err}
use Rattle.printing.specs.Buffers.{printed, after_printing, buffer_after}
use Rattle.printing.specs.declared.NoRoom.{NoRoom}
use Rattle.printing.proofs.Printing.{put_bytes}
use Rattle.records.specs.Records.{record_length, first_record, whole, record_of}
use Rattle.records.specs.declared.Record.{Record}
use Rattle.records.specs.declared.Cut.{Cut}
use Rattle.records.proofs.Records.{still_whole, same_record, same_rest}
use Rattle.programs.specs.Inputs.{read_cells, input_text, program_text}
use Rattle.programs.specs.Batches.{Turn, answering, batch_text, turn_printed, turn_by, turn_of, after_turn, turn_buffer}
use Rattle.programs.specs.declared.TurnError.TheVariants as turn
use Rattle.programs.proofs.Batches.{answered}
use Rattle.programs_theorems.proofs.Theorems.{any_sheet}

-- what a turn puts into the buffer is the batch's next text, and the batch goes on behind the bytes used, whatever comes behind the held ones
pub batch_goes_on : (held : List ℕ) (sheet : List ℤ) (out : List ℕ) (used n : ℕ) → turn_of held sheet (length out) ≡ Ok (answering used n) → length sheet ≡ read_cells
    → (more : List ℕ) (most : ℕ) → batch_text (suc most) (held ++ more) ≡ take n (turn_buffer held sheet out) ++ batch_text most (drop used held ++ more)
unfolding batch_text after_turn after_printing
batch_goes_on held sheet out used n e cells more most =
    let t = answered held sheet (length out) used n e in
    let w = t.all_there in
    let text = input_text (record_of held) sheet in
    let there : turn_buffer held sheet out ≡ buffer_after text out = ap (λ (x : Turn). after_turn x text out) e ∙ sym (ap (λ (p : Result ℕ NoRoom). after_printing p text out) t.is_put) in
    let put : take n (turn_buffer held sheet out) ≡ text = ap (take n) there ∙ put_bytes text out n t.is_put in
    let rest : drop (record_length (held ++ more)) (held ++ more) ≡ drop used held ++ more = same_rest held more w ∙ ap (λ (k : ℕ). drop k held ++ more) (sym t.is_used.0) in
    let same : program_text (record_of (held ++ more)) ≡ text =
    ap program_text (same_record held more w) ∙ any_sheet (record_of held) (replicate read_cells (pos 0)) sheet (length-replicate read_cells (pos 0) ∙ sym cells)
    in
    rw (still_whole held more w, put) (ap₂ (λ (s l : List ℕ). s ++ batch_text most l) same rest)

-- a record that is cut ends it
pub batch_ends : (held : List ℕ) (sheet : List ℤ) (room : ℕ) → turn_of held sheet room ≡ Err turn.RecordCut → (most : ℕ) → batch_text most held ≡ []
unfolding turn_by turn_printed batch_text whole
batch_ends held sheet room e zero = refl
batch_ends held sheet room e (suc most) = go (first_record held) refl
  where
    by : (end : ℕ) (p : Result ℕ NoRoom) → turn_printed end p ≡ Err turn.RecordCut → ⊥
    by end (Ok k) u = let z : ◌≡◌ {A = ℕ} 0 1 = cc in omega arith
    by end (Err lack) u = let z : ◌≡◌ {A = ℕ} 0 1 = cc in omega arith

    go : (r : Result (Option Record) Cut) → first_record held ≡ r → batch_text (suc most) held ≡ []
    go (Ok (Some found)) w = absurd (by found.end (printed (input_text (record_of held) sheet) room) (rw w at e))
    go (Err why) w = rw w refl
    go (Ok None) w = rw w refl
