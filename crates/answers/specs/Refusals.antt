-- The one place where a refusal is made, by the numbers of document 01, "Numbers given back", and of document 02, A2.
use Rattle.std.specs.Prelude.{ℕ}
use Rattle.answers.specs.declared.reasons.Reason.{Reason}
use Rattle.answers.specs.declared.reasons.Reason.TheVariants as reason
use Rattle.answers.specs.declared.Refusal.{Refusal}

-- a reason with its place; the row of the type table that it names, where 0 is none; and how many bits of a field are not there
abbrev pub carrying : Reason → ℕ → ℕ → ℕ → Refusal
carrying reason row lacking place = record { reason = reason; place = place; row = row; lacking = lacking }

-- a refusal that names no row, and lacks no bit
abbrev pub refusal : Reason → ℕ → Refusal
refusal reason place = carrying reason 0 0 place

-- one that names a row: with 41 to 44, that of the type whose range a code is outside of (document 02, A2)
abbrev pub naming : Reason → ℕ → ℕ → Refusal
naming reason row place = carrying reason row 0 place

-- 3: of a field's bits so many are not there, by its first bit (document 02, A6)
abbrev pub short_by : ℕ → ℕ → Refusal
short_by lacking place = carrying reason.Short 0 lacking place

-- 1: more than 2,048 bytes
abbrev pub too_long : Refusal
too_long = refusal reason.TooLong 0

-- 2: a type, row or width that is not there
abbrev pub unknown_type : Refusal
unknown_type = refusal reason.UnknownType 0

-- 4: a code to store, or an argument, outside the range, by the field's first bit
abbrev pub outside : ℕ → Refusal
outside at = refusal reason.Outside at

-- 5: an extension bit is 1, by that bit
abbrev pub extended : ℕ → Refusal
extended at = refusal reason.Extended at

-- 6: padding that is not zero, or a byte too many, by the first bit behind the message
abbrev pub spare_bits : ℕ → Refusal
spare_bits at = refusal reason.SpareBits at

-- 7: the sheet is no value of the type, by the cell that shows it
abbrev pub no_value : ℕ → Refusal
no_value cell = refusal reason.NoValue cell

-- 27: a number of the extension parts that is not in its shortest form, or an open value that is not as long as it says, by the first bit of that number or length (edition 2)
abbrev pub not_shortest : ℕ → Refusal
not_shortest at = refusal reason.NotShortest at
