-- `reading::value_in` meets its contract: the bits behind are shifted out, and those before are dropped.
-- Assumes nothing.
use native.Mathlib.Omega.{arith}
use mathlib.Core.Path.{ap, ◌∙◌}
use Prim.Native.Nat.{ℕ, ◌/◌, ◌%◌, ◌^◌}
use lib.IntN.{pos, ◌+ℤ◌}
use mir.Facts.{to_z-of_z}
use mir.Syntax.{w64}
use lib.Pow.{pow_pos}
use Rattle.types.specs.Table.{lowest_of}
use Rattle.reading.proofs.Runs.{byte_small}
use borrow.Author.Rules.{rules}
use Rattle.reading.proofs.value_in.Goals as goal

pub nonzero_rem-x : goal.nonzero_rem-x
nonzero_rem-x c = let u = c.power.ensures.fits (omega arith) in omega (arith, pow_pos (c.args.w))

pub value_of-requires : goal.value_of-requires
value_of-requires c = let u = c.power.ensures.fits (omega arith) in let s = byte_small (c.args.x / 2 ^ c.args.d) (c.args.w) (c.requires.0) in (search rules, rw u (omega arith))

pub returns : goal.returns
returns c = to_z-of_z {w = w64} {z = c.value_of.result} (record { sfits = c.value_of.type_inv }) ∙ c.value_of.ensures ∙ ap (λ (y : ℕ). lowest_of (c.args.low) +ℤ pos (c.args.x / 2 ^ c.args.d % y)) (c.power.ensures.fits (omega arith))
