-- The types of those cases as rows of a table: a row of each kind that edition 2 alone has stands for its type, and where such a table keeps the rule, a value has no more cells than bits.
-- Assumes nothing.
use Prim.Native.Nat.{ℕ, ◌+◌, ◌≤◌, ◌<◌}
use mathlib.Core.Path.{◌≡◌, refl}
use mathlib.Core.List.{List, [], ◌∷◌}
use lib.Dec.{T}
use lib.IntN.{ℤ, pos}
use lib.ListN.{length}
use Rattle.types.specs.Row.{Row, integer, sequence, list, must, extensible, extended_sequence, extended_choice, extended_enumeration, selecting, known}
use Rattle.types.specs.Table.{type_of, row_in, type_at, type_by, body_of, extended_of, fields_of, alts_of, opens_of}
use Rattle.types.specs.Rule.{reach, parts, opens, are_of, is_coded, right_row, right_from, right}
use Rattle.meaning.specs.Values.{Value}
use Rattle.meaning.specs.Steps.{ok}
use Rattle.meaning.specs.Reading.{read}
use Rattle.meaning.proofs.Coded.{cells_in_bits}
use Rattle.meaning.proofs.Extended.{frame, light_state, vehicle_types}

abbrev little : List Row
little =
    integer (pos 0) (pos 1) ∷  -- 0, a bit
    integer (pos 0) (pos 255) ∷  -- 1, an octet
    integer (pos 0) (pos 127) ∷  -- 2
    list 1 2048 1 ∷  -- 3, of octets
    must 2 ∷  -- 4
    must 3 ∷  -- 5
    sequence 4 2 ∷  -- 6, a test message
    known 0 6 ∷  -- 7, number 0
    selecting (pos 0) (pos 32767) 7 1 ∷  -- 8, a number and its open value
    must 8 ∷  -- 9
    extended_sequence 9 1 0 ∷  -- 10, the frame's addition
    must 1 ∷  -- 11 to 15, the root alternatives
    must 1 ∷
    must 1 ∷
    must 1 ∷
    must 1 ∷
    known 0 10 ∷  -- 16, addition 0
    extended_choice 11 5 1 ∷  -- 17, the frame
    extended_enumeration 9 ∷  -- 18, a light's state
    extensible (list 5 5 0) ∷  -- 19, the kinds of vehicles
    []

pub frame_row : type_of (row_in little) 17 ≡ frame
unfolding type_at type_by body_of extended_of fields_of alts_of opens_of
frame_row = refl

pub light_row : type_of (row_in little) 18 ≡ light_state
unfolding type_at type_by body_of extended_of fields_of alts_of opens_of
light_row = refl

pub size_row : type_of (row_in little) 19 ≡ vehicle_types
unfolding type_at type_by body_of extended_of fields_of alts_of opens_of
size_row = refl

little_right : T (right little)
unfolding right_from right_row reach parts opens are_of is_coded
little_right = tt

pub little_cells : (row : ℕ) → row < length little → (bs : List ℕ) (i j : ℕ) (v : Value) (cells : List ℤ) → read (type_of (row_in little) row) bs i ≡ ok v cells j → i + length cells ≤ j
little_cells = cells_in_bits little little_right
