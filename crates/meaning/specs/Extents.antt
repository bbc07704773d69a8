-- The field that a bit of a message belongs to, by its first bit and its width: the walk of reading, which stops at that field (document 02, A6).
-- The extension parts of edition 2 are not among the fields: no type of edition 1 has such.
use Rattle.std.specs.Prelude.{ℕ, ◌+◌, ◌≡◌, List, cond, leb, ℤ}
use Rattle.answers.specs.Refusals.{carrying}
use Rattle.answers.specs.declared.reasons.Reason.TheVariants as reason
use Rattle.answers.specs.declared.Refusal.{Refusal}
use Rattle.bits.specs.Numbers.{width}
use Rattle.types.specs.Shape.{Ty}
use Rattle.meaning.specs.Steps.{Got, refused}
use Rattle.meaning.specs.Walk.{Side, walk}
use Rattle.meaning.specs.Reading.{Source, source, free, read_whole, read_extension, reader}

-- a field, by its first bit and how many bits it has
pub record Extent : Type 0 where
  pub first : ℕ
  pub bits : ℕ

abbrev pub extent : ℕ → ℕ → Extent
extent first bits = record { first = first; bits = bits }

-- what a walk tells that stopped at a field; reading refuses nothing as a cut record, so no refusal is taken for it
abbrev pub stopped : Extent → Refusal
stopped f = carrying reason.RecordCut 0 f.bits f.first

-- what reading tells of a field, unless the bit is one of the field's
unfoldable pub stopping : ℕ → Extent → {X : Type 0} → Got ℤ X → Got ℤ X
stopping bit f g = cond (leb f.first bit) (cond (leb (f.first + f.bits) bit) g (refused (stopped f))) g

-- reading that stops at the field of a bit
abbrev pub stopper : ℕ → Side Source ℤ
stopper bit = record {
  whole = λ f src at. stopping bit (extent at (width f.span)) (read_whole f src at);
  extension = λ src at. stopping bit (extent at 1) (read_extension src at);
  number = reader.number;
  opened = reader.opened;
  amiss = reader.amiss;
}

-- in reading a type from a place of these bits on, the bit belongs to this field
abbrev pub BelongsTo : Ty → List ℕ → ℕ → ℕ → Extent → Type 0
BelongsTo t bs from bit f = walk t (stopper bit) (source bs free) from ≡ refused (stopped f)
