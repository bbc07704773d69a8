-- `origins::octet` meets its contract: the lowest bits of a cell.
-- Assumes nothing.
use mathlib.Core.Path.{ap, ◌∙◌}
use Rattle.basics.specs.Lists.{cell_at}
use Prim.Native.Nat.{ℕ, ◌%◌}
use Rattle.origins.proofs.octet.Goals as goal

pub returns : goal.returns
returns c = ap (λ (n : ℕ). n % 256) (c.value.ensures ∙ ap (λ (k : ℕ). cell_at c.args.sheet.now k) c.later.ensures)
