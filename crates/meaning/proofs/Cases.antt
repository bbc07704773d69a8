-- Cases, computed of the definitions: those that document 01 marks (p), and worked examples of X.691 (Annex A.2 and A.4, unaligned) that hold no extension.
-- Assumes nothing.
use Prim.Native.Nat.{ℕ}
use mathlib.Core.Path.{◌≡◌, refl}
use mathlib.Core.List.{List, [], ◌∷◌, ◌++◌}
use lib.IntN.{ℤ, pos}
use lib.ListN.{length, take}
use Rattle.answers.specs.Refusals.{refusal, naming, short_by}
use Rattle.answers.specs.Answers.{refused_by}
use Rattle.bits.specs.Numbers.{val, to_bits, halvings}
use Rattle.bits.specs.Bytes.{bits_of}
use Rattle.types.specs.Shape.{Ty, field, last}
use Rattle.types.specs.Shape.Ty.{num, seq, list}
use Rattle.types.specs.Shape.Fields.{none, must, may}
use Rattle.types.specs.Rows.{rows}
use Rattle.types.specs.Row.{minus}
use Rattle.types.specs.Table.{type_of, the_rows, type_at, type_by, body_of, fields_of, alts_of}
use Rattle.types.specs.Named.{named_row}
use Rattle.meaning.specs.Steps.{Got, ok, refused, pure, prepend, and_then, ◌>>=◌}
use Rattle.meaning.specs.Walk.{times, walk, flags, fields, alternative}
use Rattle.meaning.specs.Reading.{read, within, part, read_whole, judged, read_extension, unextended}
use Rattle.meaning.specs.Writing.{write, write_whole, write_above, write_extension}
use Rattle.meaning.specs.Messages.{read_message, read_typed, read_answer}
use Rattle.answers.specs.declared.reasons.Reason.{Reason}
use Rattle.answers.specs.declared.reasons.Reason.TheVariants as reason

-- ---- document 01, "Bench cases", marked (p); the two others that document 02, A2, gives a number; bits that lack (A6); and the seventh form with both numbers for "no information" (A3)

-- an answer without the value that it tells
abbrev pub silenced : {B X : Type 0} → Got B X → Got B (Unit {0})
silenced (ok x out next) = ok tt out next
silenced (refused why) = refused why

-- a value of a row and its bits, both ways; bits with a code outside its range; bits that end within a field; bits that are refused whatever stands behind them; messages of type number 0 with a code outside its range, or refused otherwise, whatever sheet is lent
pub data Case : Type 0 where
  both : ℕ → List ℤ → List ℕ → Case
  outside : ℕ → List ℕ → Reason → ℕ → ℕ → Case
  lacks : ℕ → List ℕ → ℕ → ℕ → Case
  begins : ℕ → List ℕ → Reason → ℕ → Case
  frame_outside : List ℕ → Reason → ℕ → ℕ → Case
  frame : List ℕ → Reason → ℕ → Case

-- row, then cells and bits, or bits with the number, the row where it names one, and the place of the refusal, or with the bits that lack and the place; of a frame its bytes, with the same
abbrev pub Right : Case → Type 0
Right (both row cells bits) = (silenced (read (type_of the_rows row) bits 0) ≡ ok tt cells (length bits)) × (silenced (write (type_of the_rows row) cells 0) ≡ ok tt bits (length cells))
Right (outside row bits why owner place) = read (type_of the_rows row) bits 0 ≡ refused (naming why owner place)
Right (lacks row bits count place) = read (type_of the_rows row) bits 0 ≡ refused (short_by count place)
Right (begins row bits why place) = (more : List ℕ) → read (type_of the_rows row) (bits ++ more) 0 ≡ refused (refusal why place)
Right (frame_outside bytes why owner place) = (sheet : List ℤ) → read_message 0 bytes sheet ≡ refused_by (naming why owner place)
Right (frame bytes why place) = (sheet : List ℤ) → read_message 0 bytes sheet ≡ refused_by (refusal why place)

abbrev pub AllRight : List Case → Type 0
AllRight [] = Unit {0}
AllRight (c ∷ cs) = Right c × AllRight cs

-- the rows of MinuteOfTheYear, Longitude, OffsetLL-B12, LightState, Description and the type of its textGB2312, PositionOffsetLL, PositionOffsetLLV and MessageFrame
abbrev minute_of_the_year : ℕ
minute_of_the_year = 46

abbrev longitude : ℕ
longitude = 45

abbrev offset12 : ℕ
offset12 = 49

abbrev light_state : ℕ
light_state = 44

abbrev octet_text : ℕ
octet_text = 126

abbrev description : ℕ
description = 129

abbrev offset_forms : ℕ
offset_forms = 225

abbrev position_offset : ℕ
position_offset = 236

abbrev message_frame : ℕ
message_frame = 413

abbrev pub cases : List Case
cases =
    both minute_of_the_year (pos 527040 ∷ []) (to_bits 20 0x80AC0)
    ∷ outside minute_of_the_year (to_bits 20 0x80AC1) reason.NumberOutside minute_of_the_year 0
    ∷ both longitude (minus 1799999999 ∷ []) (to_bits 32 0)
    ∷ both longitude (pos 0 ∷ []) (to_bits 32 0x6B49D1FF)
    ∷ both longitude (pos 1800000001 ∷ []) (to_bits 32 0xD693A400)
    ∷ outside longitude (to_bits 32 0xD693A401) reason.NumberOutside longitude 0
    ∷ both offset12 (minus 2048 ∷ []) (to_bits 12 0b000000000000)
    ∷ both offset12 (pos 0 ∷ []) (to_bits 12 0b100000000000)
    ∷ both light_state (pos 6 ∷ []) (to_bits 5 0b00110)
    ∷ outside light_state (to_bits 5 0b01001) reason.ItemOutside light_state 1
    ∷ begins light_state (1 ∷ []) reason.Extended 0
    ∷ frame_outside (0x50 ∷ []) reason.AlternativeOutside message_frame 1
    ∷ frame (0x80 ∷ []) reason.Extended 0
    ∷ outside position_offset (to_bits 8 0x70) reason.AlternativeOutside offset_forms 1
    ∷ outside description (to_bits 10 0b1111111111) reason.SizeOutside octet_text 1
    ∷ both offset_forms (pos 6 ∷ pos 1800000001 ∷ pos 900000001 ∷ []) (to_bits 3 6 ++ to_bits 32 0xD693A400 ++ to_bits 31 0x6B49D201)
    ∷ lacks minute_of_the_year (to_bits 16 0x80AC) 4 0
    ∷ lacks position_offset (to_bits 24 0x08007F) 4 16
    ∷ lacks position_offset (to_bits 16 0x0800) 12 16
    ∷ []

pub cases_right : AllRight cases
unfolding val to_bits halvings bits_of last rows type_at type_by body_of fields_of alts_of pure prepend and_then ◌>>=◌ times walk flags fields alternative within part read_whole judged read_extension unextended write_whole write_above write_extension read_typed read_answer named_row
cases_right = ((refl, refl), (refl, ((refl, refl), ((refl, refl), ((refl, refl), (refl, ((refl, refl), ((refl, refl), ((refl, refl), (refl, ((λ more. refl), ((λ sheet. refl), ((λ sheet. refl), (refl, (refl, ((refl, refl), (refl, (refl, (refl, tt)))))))))))))))))))

-- ---- pieces of the worked examples of X.691, Annex A.2 and A.4 (unaligned), that hold no extension: their bits are cut from the encodings there

-- a character is its index among "-", ".", A to Z, a to z; a digit is itself; a character of a numeric string is its index among " ", 0 to 9
abbrev character : Ty
character = num (field (pos 0) 53)

abbrev name_string : Ty
name_string = list 0 1 63 character

abbrev name : Ty
name = seq (must name_string (must (list 0 1 0 character) (must name_string none)))

abbrev date : Ty
date = list 0 8 0 (num (field (pos 0) 9))

abbrev child : Ty
child = seq (must name (must date none))

abbrev children : Ty
children = list 0 2 0 child

abbrev number : Ty
number = num (field (pos 250) 3)

abbrev digits : Ty
digits = list 0 3 0 (num (field (pos 0) 10))

-- the record of A.2 as far as its first component: the presence bit of the children stands before all components
abbrev record_begins : Ty
record_begins = seq (must name (may children none))

-- a type, its cells, and its bits
pub record Example : Type 0 where
  pub type : Ty
  pub cells : List ℤ
  pub bits : List ℕ

abbrev pub example : Ty → List ℤ → List ℕ → Example
example t cells bits = record { type = t; cells = cells; bits = bits }

abbrev pub AllShown : List Example → Type 0
AllShown [] = Unit {0}
AllShown (e ∷ es) = (silenced (read e.type e.bits 0) ≡ ok tt e.cells (length e.bits)) × (silenced (write e.type e.cells 0) ≡ ok tt e.bits (length e.cells)) × AllShown es

abbrev pub examples : List Example
examples =
    -- A.2: the name John P Smith
    example name (pos 4 ∷ pos 11 ∷ pos 42 ∷ pos 35 ∷ pos 41 ∷ pos 17 ∷ pos 5 ∷ pos 20 ∷ pos 40 ∷ pos 36 ∷ pos 47 ∷ pos 35 ∷ []) (take 72 (bits_of (0x0C ∷ 0xBA ∷ 0xA3 ∷ 0xA5 ∷ 0x11 ∷ 0x14 ∷ 0xA2 ∷ 0x4B ∷ 0xE3 ∷ []))) ∷
    -- A.2: the name of the spouse, Mary T Smith
    example name (pos 4 ∷ pos 14 ∷ pos 28 ∷ pos 45 ∷ pos 52 ∷ pos 21 ∷ pos 5 ∷ pos 20 ∷ pos 40 ∷ pos 36 ∷ pos 47 ∷ pos 35 ∷ []) (take 72 (bits_of (0x0C ∷ 0xE7 ∷ 0x2D ∷ 0xD1 ∷ 0x51 ∷ 0x14 ∷ 0xA2 ∷ 0x4B ∷ 0xE3 ∷ []))) ∷
    -- A.2: the name of a child, Ralph T Smith
    example name (pos 5 ∷ pos 19 ∷ pos 28 ∷ pos 39 ∷ pos 43 ∷ pos 35 ∷ pos 21 ∷ pos 5 ∷ pos 20 ∷ pos 40 ∷ pos 36 ∷ pos 47 ∷ pos 35 ∷ []) (take 78 (bits_of (0x11 ∷ 0x37 ∷ 0x27 ∷ 0xAE ∷ 0x35 ∷ 0x44 ∷ 0x52 ∷ 0x89 ∷ 0x2F ∷ 0x8C ∷ []))) ∷
    -- A.2: the name of a child, Susan B Jones
    example name (pos 5 ∷ pos 20 ∷ pos 48 ∷ pos 46 ∷ pos 28 ∷ pos 41 ∷ pos 3 ∷ pos 5 ∷ pos 11 ∷ pos 42 ∷ pos 41 ∷ pos 32 ∷ pos 46 ∷ []) (take 78 (bits_of (0x11 ∷ 0x4C ∷ 0x2E ∷ 0x72 ∷ 0x90 ∷ 0xC4 ∷ 0x2E ∷ 0xAA ∷ 0x60 ∷ 0xB8 ∷ []))) ∷
    -- A.2: the date of hire
    example date (pos 1 ∷ pos 9 ∷ pos 7 ∷ pos 1 ∷ pos 0 ∷ pos 9 ∷ pos 1 ∷ pos 7 ∷ []) (take 32 (bits_of (0x19 ∷ 0x71 ∷ 0x09 ∷ 0x17 ∷ []))) ∷
    -- A.2: a date of birth
    example date (pos 1 ∷ pos 9 ∷ pos 5 ∷ pos 7 ∷ pos 1 ∷ pos 1 ∷ pos 1 ∷ pos 1 ∷ []) (take 32 (bits_of (0x19 ∷ 0x57 ∷ 0x11 ∷ 0x11 ∷ []))) ∷
    -- A.2: a date of birth
    example date (pos 1 ∷ pos 9 ∷ pos 5 ∷ pos 9 ∷ pos 0 ∷ pos 7 ∷ pos 1 ∷ pos 7 ∷ []) (take 32 (bits_of (0x19 ∷ 0x59 ∷ 0x07 ∷ 0x17 ∷ []))) ∷
    -- A.2: a child
    example child (pos 5 ∷ pos 19 ∷ pos 28 ∷ pos 39 ∷ pos 43 ∷ pos 35 ∷ pos 21 ∷ pos 5 ∷ pos 20 ∷ pos 40 ∷ pos 36 ∷ pos 47 ∷ pos 35 ∷ pos 1 ∷ pos 9 ∷ pos 5 ∷ pos 7 ∷ pos 1 ∷ pos 1 ∷ pos 1 ∷ pos 1 ∷ []) (take 110 (bits_of (0x11 ∷ 0x37 ∷ 0x27 ∷ 0xAE ∷ 0x35 ∷ 0x44 ∷ 0x52 ∷ 0x89 ∷ 0x2F ∷ 0x8C ∷ 0x65 ∷ 0x5C ∷ 0x44 ∷ 0x44 ∷ []))) ∷
    -- A.2: a child
    example child (pos 5 ∷ pos 20 ∷ pos 48 ∷ pos 46 ∷ pos 28 ∷ pos 41 ∷ pos 3 ∷ pos 5 ∷ pos 11 ∷ pos 42 ∷ pos 41 ∷ pos 32 ∷ pos 46 ∷ pos 1 ∷ pos 9 ∷ pos 5 ∷ pos 9 ∷ pos 0 ∷ pos 7 ∷ pos 1 ∷ pos 7 ∷ []) (take 110 (bits_of (0x11 ∷ 0x4C ∷ 0x2E ∷ 0x72 ∷ 0x90 ∷ 0xC4 ∷ 0x2E ∷ 0xAA ∷ 0x60 ∷ 0xB8 ∷ 0x65 ∷ 0x64 ∷ 0x1C ∷ 0x5C ∷ []))) ∷
    -- A.2: both children, a list of fixed size
    example children (pos 5 ∷ pos 19 ∷ pos 28 ∷ pos 39 ∷ pos 43 ∷ pos 35 ∷ pos 21 ∷ pos 5 ∷ pos 20 ∷ pos 40 ∷ pos 36 ∷ pos 47 ∷ pos 35 ∷ pos 1 ∷ pos 9 ∷ pos 5 ∷ pos 7 ∷ pos 1 ∷ pos 1 ∷ pos 1 ∷ pos 1 ∷ pos 5 ∷ pos 20 ∷ pos 48 ∷ pos 46 ∷ pos 28 ∷ pos 41 ∷ pos 3 ∷ pos 5 ∷ pos 11 ∷ pos 42 ∷ pos 41 ∷ pos 32 ∷ pos 46 ∷ pos 1 ∷ pos 9 ∷ pos 5 ∷ pos 9 ∷ pos 0 ∷ pos 7 ∷ pos 1 ∷ pos 7 ∷ []) (take 220 (bits_of (0x11 ∷ 0x37 ∷ 0x27 ∷ 0xAE ∷ 0x35 ∷ 0x44 ∷ 0x52 ∷ 0x89 ∷ 0x2F ∷ 0x8C ∷ 0x65 ∷ 0x5C ∷ 0x44 ∷ 0x44 ∷ 0x45 ∷ 0x30 ∷ 0xB9 ∷ 0xCA ∷ 0x43 ∷ 0x10 ∷ 0xBA ∷ 0xA9 ∷ 0x82 ∷ 0xE1 ∷ 0x95 ∷ 0x90 ∷ 0x71 ∷ 0x70 ∷ []))) ∷
    -- A.4: a whole number of 250 to 253
    example number (pos 253 ∷ []) (take 2 (bits_of (0xC0 ∷ []))) ∷
    -- A.4: the numeric string 123
    example digits (pos 2 ∷ pos 3 ∷ pos 4 ∷ []) (take 12 (bits_of (0x23 ∷ 0x40 ∷ []))) ∷
    -- A.2: the presence bit, then the name, then the children (865D51D2 888A5125 F1 begins so)
    example record_begins (pos 1 ∷ pos 4 ∷ pos 11 ∷ pos 42 ∷ pos 35 ∷ pos 41 ∷ pos 17 ∷ pos 5 ∷ pos 20 ∷ pos 40 ∷ pos 36 ∷ pos 47 ∷ pos 35 ∷ pos 5 ∷ pos 19 ∷ pos 28 ∷ pos 39 ∷ pos 43 ∷ pos 35 ∷ pos 21 ∷ pos 5 ∷ pos 20 ∷ pos 40 ∷ pos 36 ∷ pos 47 ∷ pos 35 ∷ pos 1 ∷ pos 9 ∷ pos 5 ∷ pos 7 ∷ pos 1 ∷ pos 1 ∷ pos 1 ∷ pos 1 ∷ pos 5 ∷ pos 20 ∷ pos 48 ∷ pos 46 ∷ pos 28 ∷ pos 41 ∷ pos 3 ∷ pos 5 ∷ pos 11 ∷ pos 42 ∷ pos 41 ∷ pos 32 ∷ pos 46 ∷ pos 1 ∷ pos 9 ∷ pos 5 ∷ pos 9 ∷ pos 0 ∷ pos 7 ∷ pos 1 ∷ pos 7 ∷ []) (take 293 (bits_of (0x86 ∷ 0x5D ∷ 0x51 ∷ 0xD2 ∷ 0x88 ∷ 0x8A ∷ 0x51 ∷ 0x25 ∷ 0xF1 ∷ 0x88 ∷ 0x9B ∷ 0x93 ∷ 0xD7 ∷ 0x1A ∷ 0xA2 ∷ 0x29 ∷ 0x44 ∷ 0x97 ∷ 0xC6 ∷ 0x32 ∷ 0xAE ∷ 0x22 ∷ 0x22 ∷ 0x22 ∷ 0x98 ∷ 0x5C ∷ 0xE5 ∷ 0x21 ∷ 0x88 ∷ 0x5D ∷ 0x54 ∷ 0xC1 ∷ 0x70 ∷ 0xCA ∷ 0xC8 ∷ 0x38 ∷ 0xB8 ∷ []))) ∷
    []

pub examples_shown : AllShown examples
unfolding val to_bits halvings bits_of pure prepend and_then ◌>>=◌ times walk flags fields within part read_whole judged write_whole write_above
examples_shown = (refl, refl, (refl, refl, (refl, refl, (refl, refl, (refl, refl, (refl, refl, (refl, refl, (refl, refl, (refl, refl, (refl, refl, (refl, refl, (refl, refl, (refl, refl, tt)))))))))))))
