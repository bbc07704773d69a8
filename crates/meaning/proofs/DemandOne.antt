-- Demand 1, "a refusal changes no byte or cell": the lent memory afterwards is the lent memory, wherever the answer has a number but 0.
-- Assumes nothing.
use Prim.Native.Nat.{ℕ}
use mathlib.Core.Path.{◌≡◌}
use mathlib.Core.List.{List}
use lib.IntN.{ℤ}
use Rattle.answers.proofs.Lent.{lent_kept}
use Rattle.types.specs.Named.{named_row}
use Rattle.meaning.specs.Messages.{cells_read, read_message, sheet_after, bytes_made, write_message, bytes_after}

pub refusal_leaves_the_sheet : (number : ℕ) (bytes : List ℕ) (sheet : List ℤ) → ¬ ((read_message number bytes sheet).number ≡ 0) → sheet_after number bytes sheet ≡ sheet
refusal_leaves_the_sheet number bytes sheet = lent_kept (read_message number bytes sheet) (cells_read (named_row number) bytes) sheet

pub refusal_leaves_the_bytes : (edition number : ℕ) (sheet : List ℤ) (bytes : List ℕ) → ¬ ((write_message edition number sheet bytes).number ≡ 0) → bytes_after edition number sheet bytes ≡ bytes
refusal_leaves_the_bytes edition number sheet bytes = lent_kept (write_message edition number sheet bytes) (bytes_made (named_row number) sheet) bytes
