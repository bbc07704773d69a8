-- `origins::octets` meets its contract: eight cells, one behind the other.
-- Assumes nothing.
use Prim.Native.Nat.{ℕ, zero, suc, ◌<◌}
use native.Mathlib.Omega.{arith}
use mathlib.Core.Path.{◌≡◌, refl, ◌∙◌}
use mathlib.Core.List.{List}
use lib.IntN.{ℤ}
use lib.ListN.{get_or}
use Rattle.std.proofs.lemmas.List.{ext_get_or}
use Rattle.origins.specs.Octets.{octet_at, eight_at}
use Rattle.origins.proofs.octets.Goals as goal

each : (cells : List ℤ) (place i : ℕ) → i < 8 → octet_at cells place i ≡ get_or (eight_at cells place) i 0
each cells place zero h = refl
each cells place (suc zero) h = refl
each cells place (suc (suc zero)) h = refl
each cells place (suc (suc (suc zero))) h = refl
each cells place (suc (suc (suc (suc zero)))) h = refl
each cells place (suc (suc (suc (suc (suc zero))))) h = refl
each cells place (suc (suc (suc (suc (suc (suc zero)))))) h = refl
each cells place (suc (suc (suc (suc (suc (suc (suc zero))))))) h = refl
each cells place (suc (suc (suc (suc (suc (suc (suc (suc i)))))))) h = absurd (omega arith)

pub returns : goal.returns
returns c = ext_get_or 0 _ _ c.loop-i-test.array_long (λ i h. c.loop-i.invariant i (omega (arith, h, c.loop-i-test)) ∙ each _ _ i (omega (arith, h, c.loop-i-test)))
