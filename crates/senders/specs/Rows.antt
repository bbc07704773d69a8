-- The rows of the loss table: which sender stands in one, and where a sender stands (document 02, A4).
use Rattle.std.specs.Prelude.{ℕ, suc, Bool, true, false, cond, not, ◌&&◌, List, [], ◌∷◌, length, ◌==◌, nat_lt}
use Rattle.senders.specs.declared.Sender.{Sender}

-- where a sender stands: in the row that it holds, in the lowest free row, or nowhere
pub data Spot : Type 0 where
  Known : ℕ → Spot
  Free : ℕ → Spot
  Full : Spot

-- whether two ids are the same, byte by byte
unfoldable pub same_bytes : List ℕ → List ℕ → Bool
same_bytes [] [] = true
same_bytes (a ∷ more) (b ∷ others) = a == b && same_bytes more others
same_bytes [] (b ∷ others) = false
same_bytes (a ∷ more) [] = false

-- a sender that is held was received at least once: a row with nothing received is free
abbrev pub free : Sender → Bool
free s = s.received == 0

-- "One id that sends two kinds is two senders": a row holds a sender where both are its own
abbrev pub holds : ℕ → List ℕ → Sender → Bool
holds kind id s = not (free s) && (s.kind == kind && same_bytes s.id id)

-- the lowest row that passes a test; where none does, as many as there are rows
unfoldable pub first_at : (Sender → Bool) → List Sender → ℕ
first_at test [] = 0
first_at test (s ∷ more) = cond (test s) 0 (suc (first_at test more))

-- a row if there is one so low
abbrev pub row_or : List Sender → ℕ → (ℕ → Spot) → Spot → Spot
row_or rows row spot none = cond (nat_lt row (length rows)) (spot row) none

-- the row of a known sender; else "the lowest free row"; else none is free
unfoldable pub spot_in : List Sender → ℕ → List ℕ → Spot
spot_in rows kind id = row_or rows (first_at (holds kind id) rows) Spot.Known (row_or rows (first_at free rows) Spot.Free Spot.Full)
