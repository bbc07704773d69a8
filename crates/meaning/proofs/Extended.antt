-- Cases of what edition 2 alone has, worked out by hand and computed of the definitions: both ways where there is a value.
-- Their types are made for this, after types of source 001: they are no part of a table of edition 2.
-- Assumes nothing.
use Prim.Native.Nat.{ℕ}
use mathlib.Core.Path.{◌≡◌, refl}
use mathlib.Core.List.{List, [], ◌∷◌, ◌++◌}
use lib.IntN.{ℤ, pos, negsuc}
use lib.ListN.{length, replicate}
use Rattle.bits.specs.Numbers.{val, to_bits, halvings}
use Rattle.bits.specs.Bytes.{bits_of}
use Rattle.answers.specs.Refusals.{refusal, naming, short_by}
use Rattle.types.specs.Shape.{Ty, Field, field, told, last}
use Rattle.types.specs.Shape.Ty.{num, seq, list, ext, enumx, seqx, choicex, pick}
use Rattle.types.specs.Shape.Fields.{none, must, may}
use Rattle.types.specs.Shape.Alts.{one, or}
use Rattle.types.specs.Shape.Opens.{unknown, on}
use Rattle.meaning.specs.Steps.{ok, refused, pure, prepend, and_then, ◌>>=◌, judged_by, guarded}
use Rattle.meaning.specs.Coded.{tree, length_then, index_octets, holds, coded, length_bits}
use Rattle.meaning.specs.Walk.{times, bits, listed, keep, additions, walk, flags, fields, alternative, open_value}
use Rattle.meaning.specs.Reading.{read, within, part, judged, read_whole, unextended, read_extension, follow, shown, read_number, narrowed, clean, closed, read_opened}
use Rattle.meaning.specs.Writing.{write, write_above, write_whole, write_extension, write_held, write_number, enclosed, write_closed, write_opened}
use Rattle.meaning.proofs.Cases.{silenced}
use Rattle.answers.specs.declared.reasons.Reason.TheVariants as reason
use Rattle.answers.specs.declared.reasons.Reason.{Reason}

-- ---- types: where source 001 has a type of its own that no case needs, a number stands for it; the rows are those of ExtendedRows.antt, and 0 where a type has none there

-- a whole number from 0 on, of the type in a row
abbrev whole : ℕ → ℕ → Field
whole row span = told reason.NumberOutside row (field (pos 0) span)

abbrev pub octet : Ty
octet = num (whole 1 255)

abbrev pub test_msg : Ty
test_msg = seq (must (num (whole 2 127)) (must (list 3 1 2047 octet) none))

abbrev pub frame_ext : Ty
frame_ext = seqx (must (pick (whole 8 32767) (on 0 test_msg unknown)) none) unknown

abbrev pub frame : Ty
frame = choicex 17 (or octet (or octet (or octet (or octet (one octet))))) (on 0 frame_ext unknown)

abbrev pub light_state : Ty
light_state = enumx 18 8

abbrev revision : Ty
revision = enumx 0 17

abbrev personal_request : Ty
personal_request = seqx (may (enumx 0 3) none) unknown

abbrev pub vehicle_types : Ty
vehicle_types = ext (list 19 5 0 (num (whole 0 1)))

abbrev auxiliary_sign : Ty
auxiliary_sign = seqx (may vehicle_types (may (enumx 0 3) none)) unknown

abbrev rts_data : Ty
rts_data = seqx (must octet (must (num (whole 0 65535)) (may octet (may octet (may octet (may octet (may octet (may octet none)))))))) (on 0 auxiliary_sign unknown)

-- an open value in an open value whose octets begin inside an octet of the outer one
abbrev nested : Ty
nested = choicex 0 (one octet) (on 0 (seqx none (on 0 light_state unknown)) unknown)

-- a known value of no bits
abbrev emptied : Ty
emptied = choicex 0 (one octet) (on 0 (seq none) unknown)

-- ---- the cases

-- a value of a type and its bits, both ways; or bits that reading refuses, by number and place or by number, row and place; or cells that writing refuses with 7
pub data Case : Type 0 where
  both : Ty → List ℤ → List ℕ → Case
  refuses : Ty → List ℕ → Reason → ℕ → Case
  lacks : Ty → List ℕ → ℕ → ℕ → Case
  outside : Ty → List ℕ → Reason → ℕ → ℕ → Case
  no_value : Ty → List ℤ → ℕ → Case

abbrev pub Right : Case → Type 0
Right (both t cells bits) = (silenced (read t bits 0) ≡ ok tt cells (length bits)) × (silenced (write t cells 0) ≡ ok tt bits (length cells))
Right (refuses t bits why place) = read t bits 0 ≡ refused (refusal why place)
Right (lacks t bits lacking place) = read t bits 0 ≡ refused (short_by lacking place)
Right (outside t bits why row place) = read t bits 0 ≡ refused (naming why row place)
Right (no_value t cells place) = write t cells 0 ≡ refused (refusal reason.NoValue place)

abbrev pub AllRight : List Case → Type 0
AllRight [] = Unit {0}
AllRight (c ∷ cs) = Right c × AllRight cs

abbrev pub extended_cases : List Case
extended_cases =
    both rts_data (pos 1 ∷ replicate 6 (pos 0) ++ (pos 7 ∷ pos 3 ∷ pos 1 ∷ pos 1 ∷ pos 0 ∷ pos 0 ∷ pos 0 ∷ [])) (to_bits 55 0b1000000000001110000000000000011000000010000000100000000)  -- known, count as the table
    ∷ both rts_data (pos 1 ∷ replicate 6 (pos 0) ++ (pos 7 ∷ pos 3 ∷ pos 2 ∷ pos 1 ∷ pos 0 ∷ pos 0 ∷ pos 0 ∷ pos 0 ∷ [])) (to_bits 56 0b10000000000011100000000000000110000001100000000100000000)  -- count longer, unknown absent
    ∷ both rts_data (pos 1 ∷ replicate 6 (pos 0) ++ (pos 7 ∷ pos 3 ∷ pos 2 ∷ pos 0 ∷ pos 1 ∷ pos 2 ∷ pos 170 ∷ pos 1 ∷ [])) (to_bits 64 0b1000000000001110000000000000011000000101000000101010101000000001)  -- unknown present
    ∷ both personal_request (pos 1 ∷ pos 0 ∷ pos 64 ∷ pos 1 ∷ replicate 63 (pos 0) ++ (pos 1 ∷ pos 255 ∷ [])) (to_bits 89 0b10011111110000000000000000000000000000000000000000000000000000000000000000000000111111111)  -- list of 64
    ∷ both personal_request (pos 1 ∷ pos 0 ∷ pos 65 ∷ replicate 64 (pos 0) ++ (pos 1 ∷ pos 1 ∷ pos 255 ∷ [])) (to_bits 92 0b10101000001000000000000000000000000000000000000000000000000000000000000000010000000111111111)  -- list of 65
    ∷ both personal_request (pos 1 ∷ pos 0 ∷ pos 128 ∷ replicate 127 (pos 0) ++ (pos 1 ∷ pos 1 ∷ pos 0 ∷ [])) (to_bits 163 0b1011000000010000000000000000000000000000000000000000000000000000000000000000000000000000000000000000000000000000000000000000000000000000000000000010000000100000000)  -- list of 128
    ∷ refuses personal_request (to_bits 80 0b10101000000111111111111111111111111111111111111111111111111111111111111111100000) reason.NotShortest 2  -- count 64 in the long form
    ∷ refuses personal_request (to_bits 24 0b101000000000000000000000) reason.NotShortest 2  -- count 0 in the long form
    ∷ refuses personal_request (to_bits 152 0b10110000000011111111111111111111111111111111111111111111111111111111111111111111111111111111111111111111111111111111111111111111111111111111111111000000) reason.NotShortest 2  -- count 127 in two bytes
    ∷ refuses personal_request (to_bits 16 0b1011100000100000) reason.NotShortest 2  -- count in fragments
    ∷ refuses personal_request (to_bits 16 0b1000000010000000) reason.NotShortest 0  -- no addition present
    ∷ refuses rts_data (to_bits 40 0b1000000000001110000000000000011000000000) reason.NotShortest 0  -- no addition present, nothing behind
    ∷ lacks personal_request (to_bits 16 0b1001111110000000) 1 16  -- list cut before its last bit
    ∷ both frame (pos 1 ∷ pos 0 ∷ pos 0 ∷ pos 0 ∷ pos 5 ∷ pos 1 ∷ pos 171 ∷ []) (to_bits 72 0b100000000000011100000000000000000000010000001010000000000010101011000000)  -- frame, TestMsg
    ∷ both frame (pos 1 ∷ pos 1 ∷ pos 1 ∷ pos 0 ∷ []) (to_bits 24 0b100000010000000100000000)  -- unknown alternative 1
    ∷ both frame (pos 1 ∷ pos 63 ∷ pos 1 ∷ pos 255 ∷ []) (to_bits 24 0b101111110000000111111111)  -- alternative 63
    ∷ both frame (pos 1 ∷ pos 64 ∷ pos 1 ∷ pos 255 ∷ []) (to_bits 34 0b1100000001010000000000000111111111)  -- alternative 64
    ∷ both frame (pos 1 ∷ pos 256 ∷ pos 1 ∷ pos 255 ∷ []) (to_bits 42 0b110000001000000001000000000000000111111111)  -- alternative 256
    ∷ both frame (pos 1 ∷ pos 65535 ∷ pos 2 ∷ pos 1 ∷ pos 2 ∷ []) (to_bits 50 0b11000000101111111111111111000000100000000100000010)  -- alternative 65535
    ∷ refuses frame (to_bits 40 0b1100000001001111110000000111111111000000) reason.NotShortest 1  -- alternative 63 in the long form
    ∷ refuses frame (to_bits 48 0b110000001000000000111111110000000111111111000000) reason.NotShortest 1  -- alternative 255 in two octets
    ∷ refuses frame (to_bits 56 0b11000000110000000100000000000000000000000111111111000000) reason.NotShortest 1  -- alternative 65536
    ∷ refuses frame (to_bits 16 0b1100000000000000) reason.NotShortest 1  -- index of no octets
    ∷ both light_state (pos 1 ∷ pos 0 ∷ []) (to_bits 8 0b10000000)  -- item 0 of the additions
    ∷ both light_state (pos 1 ∷ pos 63 ∷ []) (to_bits 8 0b10111111)  -- item 63
    ∷ both light_state (pos 1 ∷ pos 64 ∷ []) (to_bits 18 0b110000000101000000)  -- item 64
    ∷ both light_state (pos 1 ∷ pos 65535 ∷ []) (to_bits 26 0b11000000101111111111111111)  -- item 65535
    ∷ refuses light_state (to_bits 24 0b110000000100111111000000) reason.NotShortest 1  -- item 63, long form
    ∷ both light_state (pos 0 ∷ pos 3 ∷ []) (to_bits 5 0b00011)  -- root item 3
    ∷ outside light_state (to_bits 8 0b01001000) reason.ItemOutside 18 1  -- root code 9
    ∷ both revision (pos 0 ∷ pos 11 ∷ []) (to_bits 6 0b001011)  -- root item of number 19 has index 11
    ∷ outside revision (to_bits 8 0b01001000) reason.ItemOutside 0 1  -- root code 18
    ∷ both frame (pos 1 ∷ pos 5 ∷ pos 127 ∷ replicate 127 (pos 128) ++ ([])) (to_bits 16 0b1000010101111111 ++ bits_of (replicate 127 128))  -- length 127
    ∷ both frame (pos 1 ∷ pos 5 ∷ pos 128 ∷ replicate 128 (pos 129) ++ ([])) (to_bits 24 0b100001011000000010000000 ++ bits_of (replicate 128 129))  -- length 128
    ∷ refuses frame (to_bits 24 0b100001011000000001111111 ++ bits_of (replicate 127 128)) reason.NotShortest 8  -- length 127 in two bytes
    ∷ refuses frame (to_bits 16 0b1000010100000000) reason.NotShortest 8  -- length 0
    ∷ refuses frame (to_bits 24 0b100001011000000000000000) reason.NotShortest 8  -- length 0 in two bytes
    ∷ refuses frame (to_bits 16 0b1000010111000001) reason.NotShortest 8  -- length in fragments
    ∷ refuses frame (to_bits 16 0b1000000000000000) reason.NotShortest 8  -- length 0 of a known value
    ∷ lacks frame (to_bits 8 0b10000101) 8 8  -- length cut
    ∷ lacks frame (to_bits 16 0b1000010110000001) 8 8  -- second byte of a length cut
    ∷ lacks frame (to_bits 24 0b100001010000001111111111) 8 24  -- an octet of an unknown value cut
    ∷ refuses frame (to_bits 80 0b10000000000010000000000000000000000001000000101000000000001010101100000000000000) reason.NotShortest 8  -- one octet too many
    ∷ refuses frame (to_bits 72 0b100000000000011000000000000000000000010000001010000000000010101011000000) reason.NotShortest 8  -- one octet too few, outer
    ∷ refuses frame (to_bits 80 0b10000000000010000000000000000000000001010000101000000000001010101100000000000000) reason.NotShortest 32  -- one octet too many, inner
    ∷ refuses frame (to_bits 64 0b1000000000000110000000000000000000000011000010100000000000101010) reason.NotShortest 32  -- one octet too few, inner
    ∷ refuses frame (to_bits 24 0b100000000000000100000000) reason.NotShortest 8  -- field past its octets is 27, not 3
    ∷ lacks frame (to_bits 24 0b100000000000011100000000) 8 17  -- message ends before the octets do: 3
    ∷ lacks frame (to_bits 24 0b100000000000001000000000) 8 17  -- a field cut by the message inside its octets: 3
    ∷ refuses frame (to_bits 56 0b10000000000001110000000000000000000000010000101000000000) reason.NotShortest 32  -- a field past its octets and past the message: 27
    ∷ refuses frame (to_bits 72 0b100000000000010100000000000000000000010000001010000000000010101011000000) reason.NotShortest 8  -- inner value past the outer octets
    ∷ refuses rts_data (to_bits 56 0b10000000000011100000000000000110000000100000001000000010) reason.SpareBits 50  -- padding not zero
    ∷ refuses rts_data (to_bits 64 0b1000000000001110000000000000011000000010000001000000001000000000) reason.NotShortest 39  -- length before padding
    ∷ refuses frame (to_bits 72 0b100000000000011100000000000000000000010000001010000000000010101011000001) reason.SpareBits 66  -- padding in TestMsg
    ∷ both frame (pos 1 ∷ pos 0 ∷ pos 0 ∷ pos 9 ∷ pos 1 ∷ pos 7 ∷ []) (to_bits 48 0b100000000000010000000000000010010000000100000111)  -- number with no type
    ∷ both frame (pos 1 ∷ pos 0 ∷ pos 0 ∷ pos 32767 ∷ pos 1 ∷ pos 7 ∷ []) (to_bits 48 0b100000000000010001111111111111110000000100000111)  -- number 32767
    ∷ both frame (pos 1 ∷ pos 0 ∷ pos 0 ∷ pos 17 ∷ pos 2 ∷ pos 7 ∷ pos 255 ∷ []) (to_bits 56 0b10000000000001010000000000010001000000100000011111111111)  -- VPM is kept
    ∷ both frame (pos 1 ∷ pos 0 ∷ pos 1 ∷ pos 0 ∷ pos 5 ∷ pos 1 ∷ pos 171 ∷ pos 1 ∷ pos 1 ∷ pos 1 ∷ pos 204 ∷ []) (to_bits 96 0b100000000000101010000000000000000000010000001010000000000010101011000000000000010000000111001100)  -- MessageFrameExt with an unknown addition
    ∷ refuses vehicle_types (to_bits 8 0b10000000) reason.Extended 0  -- extended size
    ∷ both vehicle_types (pos 1 ∷ pos 0 ∷ pos 0 ∷ pos 0 ∷ pos 1 ∷ []) (to_bits 6 0b010001)  -- root size
    ∷ refuses rts_data (to_bits 64 0b1000000000001110000000000000011000000010000001001010000000000000) reason.Extended 50  -- extended size inside an open value
    ∷ outside frame (to_bits 8 0b01010000) reason.AlternativeOutside 17 1  -- frame index 5
    ∷ lacks frame [] 1 0  -- frame, no bytes
    ∷ no_value personal_request (pos 1 ∷ pos 0 ∷ pos 2 ∷ pos 0 ∷ pos 0 ∷ []) 0  -- no addition present
    ∷ no_value personal_request (pos 1 ∷ pos 0 ∷ pos 1 ∷ pos 0 ∷ []) 0  -- inside a list
    ∷ no_value personal_request (pos 1 ∷ pos 0 ∷ pos 2 ∷ pos 0 ∷ []) 4  -- cells lack in the list
    ∷ no_value personal_request (pos 1 ∷ pos 0 ∷ pos 0 ∷ []) 2  -- count 0
    ∷ no_value personal_request (pos 1 ∷ pos 0 ∷ pos 16384 ∷ []) 2  -- count 16384
    ∷ no_value personal_request (pos 1 ∷ pos 0 ∷ pos 1 ∷ pos 2 ∷ pos 1 ∷ pos 0 ∷ []) 3  -- presence 2
    ∷ no_value personal_request (pos 1 ∷ pos 0 ∷ pos 1 ∷ pos 1 ∷ pos 0 ∷ []) 4  -- unknown of no octets
    ∷ no_value personal_request (pos 1 ∷ pos 0 ∷ pos 1 ∷ pos 1 ∷ pos 1 ∷ pos 256 ∷ []) 5  -- octet 256
    ∷ no_value personal_request (pos 1 ∷ pos 0 ∷ pos 1 ∷ pos 1 ∷ pos 2 ∷ pos 255 ∷ []) 6  -- octets lack
    ∷ no_value light_state (pos 1 ∷ pos 65536 ∷ []) 1  -- index 65536
    ∷ no_value light_state (pos 1 ∷ negsuc 0 ∷ []) 1  -- index -1
    ∷ no_value light_state (pos 0 ∷ pos 9 ∷ []) 1  -- root item 9
    ∷ no_value light_state (pos 2 ∷ pos 0 ∷ []) 0  -- extension cell 2
    ∷ no_value frame (pos 1 ∷ pos 65536 ∷ pos 1 ∷ pos 0 ∷ []) 1  -- alternative 65536
    ∷ no_value frame (pos 0 ∷ pos 5 ∷ []) 1  -- root alternative 5
    ∷ both nested (pos 1 ∷ pos 0 ∷ pos 1 ∷ pos 1 ∷ pos 1 ∷ pos 0 ∷ pos 3 ∷ []) (to_bits 48 0b100000000000010010000000100000001000110000000000)  -- inner octets that do not begin with an outer one
    ∷ refuses nested (to_bits 48 0b100000000000001110000000100000001000110000000000) reason.NotShortest 8  -- inner padding past the outer octets
    ∷ lacks nested (to_bits 40 0b1000000000000100100000001000000010001100) 1 38  -- inner padding cut
    ∷ both emptied (pos 1 ∷ pos 0 ∷ []) (to_bits 24 0b100000000000000100000000)  -- a known value of no bits is one octet
    ∷ refuses emptied (to_bits 24 0b100000000000000100000001) reason.SpareBits 16  -- all of it padding
    ∷ []

pub extended_right : AllRight extended_cases
unfolding val to_bits halvings bits_of last tree length_then index_octets holds coded length_bits pure prepend and_then ◌>>=◌ judged_by guarded times bits listed keep additions walk flags fields alternative open_value within part judged read_whole unextended read_extension follow shown read_number narrowed clean closed read_opened write_above write_whole write_extension write_held write_number enclosed write_closed write_opened
extended_right = ((refl, refl), ((refl, refl), ((refl, refl), ((refl, refl), ((refl, refl), ((refl, refl), (refl, (refl, (refl, (refl, (refl, (refl, (refl, ((refl, refl), ((refl, refl), ((refl, refl), ((refl, refl), ((refl, refl), ((refl, refl), (refl, (refl, (refl, (refl, ((refl, refl), ((refl, refl), ((refl, refl), ((refl, refl), (refl, ((refl, refl), (refl, ((refl, refl), (refl, ((refl, refl), ((refl, refl), (refl, (refl, (refl, (refl, (refl, (refl, (refl, (refl, (refl, (refl, (refl, (refl, (refl, (refl, (refl, (refl, (refl, (refl, (refl, (refl, ((refl, refl), ((refl, refl), ((refl, refl), ((refl, refl), (refl, ((refl, refl), (refl, (refl, (refl, (refl, (refl, (refl, (refl, (refl, (refl, (refl, (refl, (refl, (refl, (refl, (refl, (refl, (refl, (refl, ((refl, refl), (refl, (refl, ((refl, refl), (refl, tt)))))))))))))))))))))))))))))))))))))))))))))))))))))))))))))))))))))))))))))))))))
