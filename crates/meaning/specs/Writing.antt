-- Writing cells, which puts out bits (document 01, "Numbers given back": 7 at the first wrong cell, else at the sheet's length where cells lack; for edition 2, document 02, A12).
use Rattle.std.specs.Prelude.{ℕ, ◌+◌, ◌-◌, ◌*◌, List, [], ◌∷◌, ◌++◌, cond, ℤ, pos, negsuc, ◌-ℤ◌, length, get_or, replicate, leb, ltb, ◌≡◌}
use Rattle.bits.specs.Numbers.{to_bits, width}
use Rattle.answers.specs.Refusals.{refusal}
use Rattle.types.specs.Shape.{Ty, Field}
use Rattle.meaning.specs.Values.{Value}
use Rattle.meaning.specs.Steps.{Got, ok, refused, Step}
use Rattle.meaning.specs.Coded.{Coded, holds, coded, length_bits}
use Rattle.meaning.specs.Reading.{octets_of}
use Rattle.meaning.specs.Walk.{Side, walk}
use Rattle.answers.specs.declared.reasons.Reason.TheVariants as reason

-- a number that is so far above the lowest, in the fewest bits of the span
unfoldable pub write_above : ℕ → ℤ → ℕ → Got ℕ ℕ
write_above span (pos n) c = cond (leb n span) (ok n (to_bits (width span) n) (c + 1)) (refused (refusal reason.NoValue c))
write_above span (negsuc n) c = refused (refusal reason.NoValue c)

unfoldable pub write_whole : Field → Step (List ℤ) ℕ ℕ
write_whole f cells c = cond (ltb c (length cells)) (write_above f.span (get_or cells c (pos 0) -ℤ f.lowest) c) (refused (refusal reason.NoValue (length cells)))

-- an extension bit that gives no cell is 0 and takes none
unfoldable pub write_extension : Step (List ℤ) ℕ (Unit {0})
write_extension cells c = ok tt (0 ∷ []) c

-- edition 2: a number of the extension parts, in its shortest form
unfoldable pub write_held : Coded → ℤ → ℕ → Got ℕ ℕ
write_held k (pos n) c = cond (holds k n) (ok n (coded k n) (c + 1)) (refused (refusal reason.NoValue c))
write_held k (negsuc n) c = refused (refusal reason.NoValue c)

unfoldable pub write_number : Coded → Step (List ℤ) ℕ ℕ
write_number k cells c = cond (ltb c (length cells)) (write_held k (get_or cells c (pos 0)) c) (refused (refusal reason.NoValue (length cells)))

-- edition 2: an open value (X.691, 11.2): bits with zero bits to whole octets, at least one; before them how many octets these are. More than 16,383 octets have no length: the bits then hold a mark that is no bit
unfoldable pub enclosed : List ℕ → List ℕ
enclosed bits = length_bits (octets_of (length bits)) ++ (bits ++ replicate (8 * octets_of (length bits) - length bits) 0)

unfoldable pub write_closed : Got ℕ Value → Got ℕ Value
write_closed (ok v bits next) = ok v (enclosed bits) next
write_closed (refused why) = refused why

unfoldable pub write_opened : Step (List ℤ) ℕ Value → Step (List ℤ) ℕ Value
write_opened f cells c = write_closed (f cells c)

abbrev pub writer : Side (List ℤ) ℕ
writer = record { whole = write_whole; extension = write_extension; number = write_number; opened = write_opened; amiss = refusal reason.NoValue }

-- a value of a type, written from a cell of a sheet on
abbrev pub write : Ty → List ℤ → ℕ → Got ℕ Value
write t = walk t writer

-- the bits of a value of a type whose cells are the whole sheet
abbrev pub Codes : Ty → Value → List ℤ → List ℕ → Type 0
Codes t v cells bits = write t cells 0 ≡ ok v bits (length cells)
