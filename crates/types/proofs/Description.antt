-- The type of a Description, as the table of source 000 has it: what code that takes a Description without the table goes by.
-- Assumes nothing.
use mathlib.Core.Path.{◌≡◌, refl}
use lib.IntN.{pos}
use Rattle.types.specs.Shape.{Alts, Field, field, told}
use Rattle.types.specs.Shape.Ty.{num, choice, list}
use Rattle.types.specs.Shape.Alts.{one, or}
use Rattle.types.specs.Rows.{rows}
use Rattle.types.specs.Table.{alts_of, body_of, type_by, type_at, type_of, the_rows}
use Rattle.answers.specs.declared.reasons.Reason.TheVariants as reason

-- a character and an octet, each of its row
abbrev pub character : Field
character = told reason.NumberOutside 2 (field (pos 0) 127)

abbrev pub octet : Field
octet = told reason.NumberOutside 1 (field (pos 0) 255)

-- textString, whose items are characters, and textGB2312, whose items are octets
abbrev pub texts : Alts
texts = or (list 125 1 511 (num character)) (one (list 126 2 510 (num octet)))

pub description_type : type_of the_rows 129 ≡ choice 129 texts
unfolding rows type_at type_by body_of alts_of
description_type = refl
