-- How many entries the shelf of an output of n samples has: one for each section, the last of which ends at n and may
-- be short. Assumes nothing.
use mathlib.Core.Path.{◌≡◌, refl}
use Prim.Native.Nat.{ℕ, ◌+◌, ◌*◌, ◌/◌, ◌≤◌, ◌<◌}
use native.Mathlib.Omega.{arith}
use Rattle.shelf.specs.Shelf.{entry_words, section_size, entries_for, words_for}

-- entry m exists exactly if its first sample does
pub entry-there : (n m : ℕ) → m * section_size < n → m < entries_for n
entry-there n m h = omega arith

pub entry-below : (n m : ℕ) → m < entries_for n → m * section_size < n
entry-below n m h = omega arith

-- the sections of the entries reach the end, and the last starts before it
pub entries-reach : (n : ℕ) → n ≤ entries_for n * section_size
entries-reach n = omega arith

pub entries-near : (n : ℕ) → entries_for n * section_size < n + section_size
entries-near n = omega arith

pub no_entries : entries_for 0 ≡ 0
no_entries = refl

-- the section of each sample of the output has an entry
pub start_there : (n p : ℕ) → p < n → p / section_size < entries_for n
start_there n p h = omega arith

-- the words of entry m lie within the shelf
pub words-there : (n m : ℕ) → m < entries_for n → m * entry_words + entry_words ≤ words_for n
words-there n m h = omega arith
