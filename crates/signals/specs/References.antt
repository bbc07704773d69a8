-- References of nodes (source 000, 5.2.3.22): a region and an id, or an id alone.
use Rattle.std.specs.Prelude.{ℕ, Bool, false, cond, ◌&&◌, eqb}
use Rattle.meaning.specs.Values.{Parts}
use Rattle.sheet.specs.Values.{has, part, parts_of}
use Rattle.messages.specs.Message.{number_of}
use Rattle.signals.specs.Components.{region, local_id}

pub data Reference : Type 0 where
  alone : ℕ → Reference  -- an id without a region
  within : ℕ → ℕ → Reference  -- a region, and an id in it

-- document 02, A7: "equal region and id, a missing region equal only to a missing one"
unfoldable pub same : Reference → Reference → Bool
same (alone i) (alone j) = eqb i j
same (alone i) (within q j) = false
same (within p i) (alone j) = false
same (within p i) (within q j) = eqb p q && eqb i j

-- of the components of a NodeReferenceID
unfoldable pub reference_of : Parts → Reference
reference_of node = cond (has region node) (within (number_of (part region node)) (number_of (part local_id node))) (alone (number_of (part local_id node)))

-- the reference that is component k of a sequence
unfoldable pub reference_at : ℕ → Parts → Reference
reference_at k parts = reference_of (parts_of (part k parts))
