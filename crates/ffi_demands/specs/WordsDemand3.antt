-- Demand 3 of the calls that C makes, as a claim. `demands`' specs/Demand3.antt has the demand's words;
-- include/gavberin.h, of gav_rerender: "old, old_len: the score that out, shelf and summary were rendered of".
-- Premise: a gav_render of the old score, in any buffers of as many samples, answered 0, and all from the start section
-- on in output, shelf and summary is what it left; or, of `entries_alone`, the entries are, or, of `start_alone` and
-- `nothing_stops`, the entry of the start section is, and all else is arbitrary. The number 0 includes that the
-- settings are known and in their domain and that the old score is accepted.
-- The argument is in proofs/FfiDemand3.antt. Definitions only.
use Rattle.std.specs.Prelude.{◌≡◌, false, List, ℕ, ◌-◌, ◌*◌, ◌/◌, min, ◌≤◌, ◌<◌, T, Ok, Some}
use Rattle.std.specs.Float.{binary64}
use Rattle.std.specs.Float.Ieee.{fits}
use Rattle.sections.specs.Outcome.{Buffers, samples_in, Lent, before, onward, Outcome, leaves}
use Rattle.answers.specs.Numbers.{numbers_of}
use Rattle.score.specs.Apart.{difference_of}
use Rattle.shelf.specs.Shelf.{section_size, entries_for, is_entry, entry_at}
use Rattle.state.specs.declared.Settings.{Settings}
use Rattle.demands.specs.Demand3.{Taken, BuffersOf, at_section, StopsAt, StopsOver, FromSection, Recounted}
use Rattle.ffi.specs.declared.Asked.{Asked}
use Rattle.ffi.specs.Packed.{packed_of, numbers_in}
use Rattle.ffi.specs.Ffi.{choice_of, render_for, rerender_for}

-- what a gav_render of s leaves
abbrev pub ffi_left : {n : ℕ} → Asked → List ℕ → BuffersOf n → Outcome ℕ
ffi_left a s r = render_for (choice_of a) s r.buffers

-- the number in a word is 0
abbrev pub Zero : ℕ → Type 0
Zero word = (numbers_in word).number ≡ 0

-- a gav_rerender that started at section m and stopped at section k, or at the end where k is the number of sections:
-- its word, and what a host reads in the word
pub record FfiCounted (m k : ℕ) (b : Buffers) (word : ℕ) : Type 0 where
  pub counted : word ≡ packed_of (Ok (min (k * section_size) (samples_in b) - m * section_size))
  pub reads : numbers_in word ≡ numbers_of (Ok (min (k * section_size) (samples_in b) - m * section_size))

-- where all from section m on came as the old render left it
pub record FfiRemade (a : Asked) (old new : List ℕ) (m : ℕ) (b : Buffers) (o : Outcome ℕ) : Type 0 where
  pub settings : Settings
  pub known : choice_of a ≡ Some settings
  pub stop_section : ℕ
  pub stops : StopsAt settings old new m (samples_in b) stop_section
  pub says : FfiCounted m stop_section b o.result
  pub left : FromSection b (ffi_left a new) m o.left

-- where the entry of section m came so
pub record FfiStartRemade (a : Asked) (old new : List ℕ) (m : ℕ) (b : Buffers) (o : Outcome ℕ) : Type 0 where
  pub settings : Settings
  pub known : choice_of a ≡ Some settings
  pub stop_section : ℕ
  pub stops : StopsOver settings old new m (at_section settings new m) b stop_section
  pub says : FfiCounted m stop_section b o.result
  pub are_rendered : (r : BuffersOf (samples_in b)) → onward m (before stop_section o.left) ≡ onward m (before stop_section (ffi_left a new r).left)
  pub stay : before m o.left ≡ before m b
  pub recounted : Recounted new stop_section b o.left
  pub to_the_end : stop_section ≡ entries_for (samples_in b) → FromSection b (ffi_left a new) m o.left

-- where the entries from section m on came so
pub record FfiEntriesRemade (a : Asked) (old new : List ℕ) (m : ℕ) (b : Buffers) (o : Outcome ℕ) : Type 0 where
  pub settings : Settings
  pub known : choice_of a ≡ Some settings
  pub stop_section : ℕ
  pub stops : StopsAt settings old new m (samples_in b) stop_section
  pub says : FfiCounted m stop_section b o.result
  pub entries : (r : BuffersOf (samples_in b)) → (onward m o.left).stored ≡ (onward m (ffi_left a new r).left).stored

-- where nothing stopped the call
pub record FfiToTheEnd (a : Asked) (new : List ℕ) (m : ℕ) (b : Buffers) (o : Outcome ℕ) : Type 0 where
  pub counted : o.result ≡ packed_of (Ok (samples_in b - m * section_size))
  pub left : FromSection b (ffi_left a new) m o.left

-- ---- the claim: for any settings whose sustain is a value of an f64, as every f64 of the code is
pub record WordsDemand3 : Type 0 where
  pub re_rendered : (a : Asked) → T (fits binary64 a.sustain) → (old new : List ℕ) → Taken new → (b : Buffers) → Lent b → (p : ℕ) → difference_of old new ≡ Some p → p < samples_in b
      → (r : BuffersOf (samples_in b)) → Zero (ffi_left a old r).result → onward (p / section_size) b ≡ onward (p / section_size) (ffi_left a old r).left
      → FfiRemade a old new (p / section_size) b (rerender_for (choice_of a) old new b)
  pub entries_alone : (a : Asked) → T (fits binary64 a.sustain) → (old new : List ℕ) → Taken new → (b : Buffers) → Lent b → (p : ℕ) → difference_of old new ≡ Some p → p < samples_in b
      → (r : BuffersOf (samples_in b)) → Zero (ffi_left a old r).result → (onward (p / section_size) b).stored ≡ (onward (p / section_size) (ffi_left a old r).left).stored
      → FfiEntriesRemade a old new (p / section_size) b (rerender_for (choice_of a) old new b)
  pub start_alone : (a : Asked) → T (fits binary64 a.sustain) → (old new : List ℕ) → Taken new → (b : Buffers) → Lent b → (p : ℕ) → difference_of old new ≡ Some p → p < samples_in b
      → (r : BuffersOf (samples_in b)) → Zero (ffi_left a old r).result → entry_at b.stored (p / section_size) ≡ entry_at (ffi_left a old r).left.stored (p / section_size)
      → FfiStartRemade a old new (p / section_size) b (rerender_for (choice_of a) old new b)
  -- the entries after the start's are spoilt
  pub nothing_stops : (a : Asked) → T (fits binary64 a.sustain) → (old new : List ℕ) → Taken new → (b : Buffers) → Lent b → (p : ℕ) → difference_of old new ≡ Some p → p < samples_in b
      → (r : BuffersOf (samples_in b)) → Zero (ffi_left a old r).result → entry_at b.stored (p / section_size) ≡ entry_at (ffi_left a old r).left.stored (p / section_size)
      → ((j : ℕ) → p / section_size < j → j < entries_for (samples_in b) → is_entry (entry_at b.stored j) ≡ false) → FfiToTheEnd a new (p / section_size) b (rerender_for (choice_of a) old new b)
  pub equal : (a : Asked) → T (fits binary64 a.sustain) → (s : List ℕ) (b : Buffers) → Lent b → (r : BuffersOf (samples_in b)) → Zero (ffi_left a s r).result → rerender_for (choice_of a) s s b ≡ leaves (packed_of (Ok 0)) b
  pub late : (a : Asked) → T (fits binary64 a.sustain) → (old new : List ℕ) → Taken new → (b : Buffers) → Lent b → (p : ℕ) → difference_of old new ≡ Some p → samples_in b ≤ p
      → (r : BuffersOf (samples_in b)) → Zero (ffi_left a old r).result → rerender_for (choice_of a) old new b ≡ leaves (packed_of (Ok 0)) b
