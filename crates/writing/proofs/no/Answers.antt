-- `writing::no` meets its contract: above the place stand the number, and the mark of a refusal.
-- Assumes nothing.
use mathlib.Core.Path.{◌≡◌}
use native.Mathlib.Omega.{arith}
use Rattle.answers.specs.Refusals.{no_value}
use Rattle.walking.proofs.Packed.{no_went}
use Rattle.writing.proofs.no.Goals as goal

pub returns : goal.returns
returns c =
    let seven : c.number.result ≡ 7 = c.number.ensures.is in
    (rw seven (no_went (no_value c.args.place) (omega arith) (omega arith) c.requires), omega arith)
