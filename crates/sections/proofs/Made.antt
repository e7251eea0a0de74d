-- Buffers in which something was made from a section up to a stop: where a stop may be, what stays around it, what lies
-- between, and that the sizes stay. Assumes nothing.
use mathlib.Core.Path.{◌≡◌, refl, sym, ap, ◌∙◌}
use mathlib.Core.Bool.{Bool}
use mathlib.Core.List.{List}
use mathlib.Core.Logic.{⊎_elim}
use Prim.Native.Nat.{ℕ, suc, ◌+◌, ◌-◌, ◌*◌, ◌≤◌, ◌<◌}
use native.Mathlib.Omega.{arith}
use lib.ListN.{length, take, drop, drop_of_length-le}
use lib.Seq.{drop_at, take_all, length-take-le}
use lib.Ieee.{Float}
use Rattle.runs.proofs.First.{first_passing_lem}
use Rattle.score.proofs.Cuts.{lt_or_ge}
use Rattle.shelf.specs.Shelf.{section_size, entry_words, entries_for}
use Rattle.peaks.specs.declared.Peak.{Peak}
use Rattle.sections.specs.Outcome.{Buffers, lends, samples_in, Lent, before, onward}
use Rattle.sections.specs.Summary.{largest, first_number, said_from, summary_of}
use Rattle.sections.specs.Sections.{between, made_between, stop_where}
use Rattle.sections.proofs.Between.{between_end, between-front, between-after, between-before, between-length}
use Rattle.sections.proofs.Summed.{said_length}

-- a stop lies after the first sample of section m, at the first of a later section or at the end
pub record Stop (m n stop : ℕ) : Type 0 where
  pub after : m * section_size ≤ stop
  pub within : stop ≤ n
  pub later : m < entries_for stop
  pub whole : stop < n → stop ≡ entries_for stop * section_size

pub stop_is : (passes : ℕ → Bool) (m n : ℕ) → m < entries_for n → Stop m n (stop_where passes m n)
stop_is passes m n h =
    let f = first_passing_lem passes (entries_for n - suc m) (suc m) in
    record { after = omega (arith, f.low, h); within = omega arith; later = omega (arith, f.low, h); whole = λ l. omega (arith, f.low, h) }

-- the samples xs and the words ws are made from section m up to the stop
module _ (m stop : ℕ) (xs : List Float) (ws : List ℕ) (b : Buffers) (s : Stop m (samples_in b) stop) (lx : length xs ≡ stop - m * section_size) (lw : length ws ≡ (entries_for stop - m) * entry_words) (z : Lent b) where
  abbrev e : ℕ
  e = entries_for stop

  abbrev made : Buffers
  made = made_between m stop xs ws b

  -- ---- what is replaced is as long as what replaces it
  in_heard : m * section_size ≤ length b.heard
  in_heard = omega (arith, s.after, s.within)

  heard-long : m * section_size + length xs ≡ stop
  heard-long = omega (arith, s.after, lx)

  in_stored : m * entry_words ≤ length b.stored
  in_stored = omega (arith, s.later, s.within, z.fits)

  stored-long : m * entry_words + length ws ≡ e * entry_words
  stored-long = omega (arith, s.later, lw)

  in_magnitudes : m ≤ length b.summary.magnitudes
  in_magnitudes = omega (arith, s.later, s.within, z.magnitudes-fit)

  in_numbers : m ≤ length b.summary.numbers
  in_numbers = omega (arith, s.later, s.within, z.numbers_fit)

  said_long : {A : Type 0} (f : ℕ → Peak → A) → m + length (said_from f made.heard m (e - m)) ≡ e
  said_long f = rw (said_length f made.heard m (e - m)) (omega (arith, s.later))

  abbrev says : {A : Type 0} → (ℕ → Peak → A) → List A
  says f = said_from f made.heard m (e - m)

  -- ---- the sizes stay
  pub made-samples : samples_in made ≡ samples_in b
  made-samples = between-length (m * section_size) stop b.heard xs in_heard heard-long s.within

  pub made-words : length made.stored ≡ length b.stored
  made-words = between-length (m * entry_words) (e * entry_words) b.stored ws in_stored stored-long (omega (arith, s.within, z.fits))

  pub made-lent : Lent made
  made-lent =
      record {
        short = omega (arith, made-samples, z.short);
        fits = made-words ∙ z.fits ∙ ap (λ (n : ℕ). entries_for n * entry_words) (sym made-samples);
        magnitudes-fit = between-length m e b.summary.magnitudes (says largest) in_magnitudes (said_long largest) (omega (arith, s.within, z.magnitudes-fit)) ∙ z.magnitudes-fit ∙ ap entries_for (sym made-samples);
        numbers_fit = between-length m e b.summary.numbers (says first_number) in_numbers (said_long first_number) (omega (arith, s.within, z.numbers_fit)) ∙ z.numbers_fit ∙ ap entries_for (sym made-samples);
      }

  -- ---- what lies before section m, and from the stop on, is as it came
  pub made-before : before m made ≡ before m b
  made-before =
      rw (
        between-before (m * section_size) stop b.heard xs in_heard heard-long,
        between-before (m * entry_words) (e * entry_words) b.stored ws in_stored stored-long,
        between-before m e b.summary.magnitudes (says largest) in_magnitudes (said_long largest),
        between-before m e b.summary.numbers (says first_number) in_numbers (said_long first_number),
      )
      refl

  heard_after_lem : drop (e * section_size) made.heard ≡ drop (e * section_size) b.heard
  heard_after_lem =
      ⊎_elim (λ l. rw (← s.whole l) (between-after (m * section_size) stop b.heard xs in_heard heard-long))
      (λ l. drop_of_length-le made.heard {i = e * section_size} (omega (arith, made-samples)) ∙ sym (drop_of_length-le b.heard {i = e * section_size} (omega arith)))
      (lt_or_ge stop (samples_in b))

  pub made_after : onward e made ≡ onward e b
  made_after =
      rw (
        heard_after_lem,
        between-after (m * entry_words) (e * entry_words) b.stored ws in_stored stored-long,
        between-after m e b.summary.magnitudes (says largest) in_magnitudes (said_long largest),
        between-after m e b.summary.numbers (says first_number) in_numbers (said_long first_number),
      )
      refl

  -- ---- what lies between
  -- a section that the stop does not begin is the last, and then all is taken
  heard-front : take (e * section_size) made.heard ≡ take stop made.heard
  heard-front =
      ⊎_elim (λ l. ap (λ (i : ℕ). take i made.heard) (sym (s.whole l)))
      (λ l. take_all (e * section_size) made.heard (omega (arith, made-samples)) ∙ sym (take_all stop made.heard (omega (arith, made-samples)))) (lt_or_ge stop (samples_in b))

  heard-between : drop (m * section_size) (take (e * section_size) made.heard) ≡ xs
  heard-between =
      ap (drop (m * section_size)) (heard-front ∙ between-front (m * section_size) stop b.heard xs in_heard heard-long)
      ∙ drop_at (take (m * section_size) b.heard) xs (m * section_size) (length-take-le (m * section_size) b.heard in_heard)

  between_is : {A : Type 0} (a c : ℕ) (came new : List A) → a ≤ length came → a + length new ≡ c → drop a (take c (between a c came new)) ≡ new
  between_is a c came new h l = ap (drop a) (between-front a c came new h l) ∙ drop_at (take a came) new a (length-take-le a came h)

  pub made_between_lem : onward m (before e made) ≡ lends xs ws (says largest) (says first_number)
  made_between_lem =
      rw (
        heard-between,
        between_is (m * entry_words) (e * entry_words) b.stored ws in_stored stored-long,
        between_is m e b.summary.magnitudes (says largest) in_magnitudes (said_long largest),
        between_is m e b.summary.numbers (says first_number) in_numbers (said_long first_number),
      )
      refl

-- all of it: what is made from the first section to the end is all that is left
pub made-whole : (xs : List Float) (ws : List ℕ) (b : Buffers) → Lent b → length xs ≡ samples_in b → made_between 0 (samples_in b) xs ws b ≡ record { heard = xs; stored = ws; summary = summary_of xs }
made-whole xs ws b z l =
    let n = samples_in b in
    let all : entries_for n - 0 ≡ entries_for (length xs) = rw l (omega arith) in
    rw (
      between_end 0 n b.heard xs (omega arith),
      between_end 0 (entries_for n * entry_words) b.stored ws (omega (arith, z.fits)),
      all,
      between_end 0 (entries_for n) b.summary.magnitudes (said_from largest xs 0 (entries_for (length xs))) (omega (arith, z.magnitudes-fit)),
      between_end 0 (entries_for n) b.summary.numbers (said_from first_number xs 0 (entries_for (length xs))) (omega (arith, z.numbers_fit)),
    )
    refl
