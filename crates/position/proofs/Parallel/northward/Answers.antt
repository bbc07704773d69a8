-- `position::Parallel::northward` meets its contract: the sum cannot wrap, and the checked constructor judges it. Assumes nothing.
use mathlib.Core.Path.{◌≡◌}
use native.Mathlib.Omega.{arith}
use lib.IntN.{◌+ℤ◌}
use Rattle.std.proofs.lemmas.Int.{ints}
use Rattle.position.proofs.Ranges.{read, between}
use Rattle.position.proofs.Parallel.northward.Goals as goal

pub overflow_add-self : goal.overflow_add-self
overflow_add-self c =
    let a = between _ _ c.args.self.in_range in
    let b = between _ _ c.args.by.in_range in
    omega (arith, ints)

pub returns : goal.returns
returns c =
    let a = between _ _ c.args.self.in_range in
    let b = between _ _ c.args.by.in_range in
    let sum : read (read c.args.self.value +ℤ read c.args.by.value) ≡ c.args.self.value +ℤ c.args.by.value = omega (arith, ints) in
    rw sum at c.new.ensures
