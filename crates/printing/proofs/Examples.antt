-- Texts that document 01 gives, computed.
-- Assumes nothing.
use mathlib.Core.Path.{◌≡◌, refl}
use mathlib.Core.List.{[], ◌∷◌}
use lib.IntN.{pos, negsuc}
use Rattle.answers.specs.Refusals.{naming, no_value}
use Rattle.printing.specs.Digits.{digits, signed}
use Rattle.printing.specs.Texts.{ascii, each, read_text, written_text}
use Rattle.answers.specs.Answers.{done, refused_by}
use Rattle.answers.specs.declared.reasons.Reason.TheVariants as reason

pub accepted_example : read_text 1 (done 17 3) (pos 0 ∷ pos 1 ∷ pos 65 ∷ []) ≡ ascii "edition 1\naccepted 17 bits 3 cells\n0\n1\n65\n"
unfolding read_text each digits signed ascii
accepted_example = refl

pub refused_example : read_text 1 (refused_by (naming reason.AlternativeOutside 413 1)) [] ≡ ascii "refused 43 at bit 1\n"
unfolding read_text digits ascii
refused_example = refl

pub written_example : written_text (done 17 3) (0 ∷ 32 ∷ 128 ∷ 7 ∷ []) ≡ ascii "002080\n"
unfolding written_text each ascii
written_example = refl

pub no_value_example : written_text (refused_by (no_value 2)) [] ≡ ascii "refused 7 at cell 2\n"
unfolding written_text digits ascii
no_value_example = refl

pub below_zero_example : read_text 1 (done 28 4) (pos 0 ∷ pos 0 ∷ pos 0 ∷ negsuc 0 ∷ pos 9 ∷ []) ≡ ascii "edition 1\naccepted 28 bits 4 cells\n0\n0\n0\n-1\n"
unfolding read_text each digits signed ascii
below_zero_example = refl
