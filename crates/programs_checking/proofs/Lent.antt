-- With cells enough for the bits of a frame, what it comes to is the same as with the cells of the longest frame.
-- Assumes nothing.
use Prim.Native.Nat.{ℕ}
use mathlib.Core.List.{List}
use mathlib.Core.Path.{◌≡◌, refl, sym, ap, ◌∙◌}
use lib.IntN.{ℤ}
use lib.ListN.{length}
use Rattle.answers.specs.declared.Refusal.{Refusal}
use Rattle.answers.specs.Answers.{done, refused_by}
use Rattle.basics.specs.Lists.{filled}
use Rattle.meaning.specs.Messages.{read_message, sheet_after}
use Rattle.findings.specs.Found.{found}
use Rattle.programs.proofs.Frames.{Enough, same_frame, own_cells}
use Rattle.programs_checking.specs.Checks.{found_outcome, answer_outcome, frame_outcome}

module _ (map : List ℤ) where
  by_refusal : (why : Refusal) (s t : List ℤ) → answer_outcome map (refused_by why) s ≡ answer_outcome map (refused_by why) t
  unfolding answer_outcome
  by_refusal why s t = refl

  by_cells : (bits : ℕ) (cells s t : List ℤ) → answer_outcome map (done bits (length cells)) (filled cells s) ≡ answer_outcome map (done bits (length cells)) (filled cells t)
  unfolding answer_outcome
  by_cells bits cells s t = ap (λ (l : List ℤ). found_outcome map l (found l map)) (own_cells cells s ∙ sym (own_cells cells t))

  pub same_outcome : (frame : List ℕ) (sheet : List ℤ) → Enough frame sheet → answer_outcome map (read_message 0 frame sheet) (sheet_after 0 frame sheet) ≡ frame_outcome map frame
  same_outcome frame sheet h = same_frame (answer_outcome map) by_refusal by_cells frame sheet h
