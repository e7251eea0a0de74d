-- What private functions are held to: those that read a record a word at a time, and those that read a position that
-- may not be there. No public statement cites these definitions. Definitions only.
use Rattle.std.specs.Prelude.{cond, List, None, Option, Some, ℕ, ◌+◌, ◌*◌, ltb}
use Rattle.words.specs.Words.{word_of}
use Rattle.score.specs.Record.{count_of, byte_at, word_at, position_at}
use Rattle.score.specs.Apart.{from_end}

-- the two bytes of a record's mark, and the eight bytes after the mark, low byte first
abbrev pub mark_at : List ℕ → ℕ → ℕ
mark_at s i = word_of (byte_at s i 0) (byte_at s i 1) 0 0

abbrev pub body_at : List ℕ → ℕ → ℕ
body_at s i = word_at s i 2 + word_at s i 6 * 4294967296

-- the position of record i, and that of the record that k records follow, if there is one
abbrev pub position_if : List ℕ → ℕ → Option ℕ
position_if s i = cond (ltb i (count_of s)) (Some (position_at s i)) None

abbrev pub position_back : List ℕ → ℕ → Option ℕ
position_back s k = cond (ltb k (count_of s)) (Some (position_at s (from_end s k))) None
