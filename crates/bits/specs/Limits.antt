-- How long a message and how wide a field can be (document 01, "Numbers given back", row 1; "The type table").
use Rattle.std.specs.Prelude.{ℕ}

-- the most bytes of a message, and its bits
abbrev pub most_bytes : ℕ
most_bytes = 2048

abbrev pub most_bits : ℕ
most_bits = 16384

-- the widest field: a type spans at most 2^32 values
abbrev pub most_width : ℕ
most_width = 32
