-- A record and its ten bytes. 01, "The score": "a two-byte mark 56 4E (hex), position (4 bytes, low byte first), kind
-- (1 on, 2 off, 3 reset), note, velocity, a zero byte: 10 bytes"; "A reset has note and velocity 0". 01, "Domain of the
-- ported calls": "Notes and velocities are 0 to 127".
-- Wider than 01: a record can be read from any list of bytes, and a byte past the end of the list is 0. Definitions
-- only.
use Rattle.std.specs.Prelude.{cond, List, [], ◌∷◌, ◌++◌, ℕ, ◌+◌, ◌*◌, ◌/◌, ◌%◌, ◌≤◌, ◌<◌, length, get_or, eqb}
use Rattle.words.specs.Words.{word_of}
use Rattle.score.specs.declared.Kind.{Kind}
use Rattle.score.specs.declared.Kind.TheVariants.{On, Off, Reset}
use Rattle.score.specs.declared.Record.{Record}

-- the number of whole records
abbrev pub count_of : List ℕ → ℕ
count_of s = length s / 10

-- byte j of record i, 0 past the end
abbrev pub byte_at : List ℕ → ℕ → ℕ → ℕ
byte_at s i j = get_or s (i * 10 + j) 0

-- bytes j to j + 3 of record i as one number, low byte first
abbrev pub word_at : List ℕ → ℕ → ℕ → ℕ
word_at s i j = word_of (byte_at s i j) (byte_at s i (j + 1)) (byte_at s i (j + 2)) (byte_at s i (j + 3))

-- ---- a record
-- the position of record i
unfoldable pub position_at : List ℕ → ℕ → ℕ
position_at s i = word_at s i 2

-- 1 on, 2 off, 3 reset
abbrev pub kind_byte : Kind → ℕ
kind_byte On = 1
kind_byte Off = 2
kind_byte Reset = 3

-- the kind of a byte from 1 to 3; any other byte reads as a reset, and the check refuses the record
abbrev pub kind_of : ℕ → Kind
kind_of b = cond (eqb b 1) On (cond (eqb b 2) Off Reset)

-- ---- the codec
-- record i of a score
abbrev pub record_at : List ℕ → ℕ → Record
record_at s i = record { position = position_at s i; kind = kind_of (byte_at s i 6); note = byte_at s i 7; velocity = byte_at s i 8 }

-- the record of ten bytes
abbrev pub decode_of : List ℕ → Record
decode_of bytes = record_at bytes 0

-- the ten bytes of a record
abbrev pub encode_of : Record → List ℕ
encode_of r =
    0x56 ∷ 0x4E
    ∷ r.position % 256 ∷ r.position / 256 % 256 ∷ r.position / 65536 % 256 ∷ r.position / 16777216 % 256
    ∷ kind_byte r.kind ∷ r.note ∷ r.velocity ∷ 0 ∷ []

-- note and velocity are at most 127, of a reset at most 0
abbrev pub field_limit_of : Kind → ℕ
field_limit_of On = 127
field_limit_of Off = 127
field_limit_of Reset = 0

-- the records that can be encoded: a position of four bytes, note and velocity in range
pub record Valid (r : Record) : Type 0 where
  pub position-fits : r.position < 4294967296
  pub note-most : r.note ≤ field_limit_of r.kind
  pub velocity-most : r.velocity ≤ field_limit_of r.kind

-- ---- lists of records, and of bytes
-- what is read past the end of a list of records
abbrev pub blank : Record
blank = record { position = 0; kind = Reset; note = 0; velocity = 0 }

-- the records' bytes, one after the other
abbrev pub encode_all : List Record → List ℕ
encode_all [] = []
encode_all (r ∷ rs) = encode_of r ++ encode_all rs

-- every element is a byte: known of each slice of bytes in a program
abbrev pub Bytes : List ℕ → Type 0
Bytes s = (k : ℕ) → get_or s k 0 < 256
