-- What a render leaves: samples, shelf and summary of n samples from sample zero; what lies before a section, from one
-- on, and between two. Assumes nothing.
use mathlib.Core.Path.{◌≡◌, refl, sym, ap, ◌∙◌}
use mathlib.Core.List.{List, ◌++◌}
use mathlib.Core.Logic.{⊎_elim}
use mathlib.Core.Bool.{true}
use Prim.Native.Nat.{ℕ, ◌+◌, ◌-◌, ◌*◌, min, ◌≤◌, ◌<◌}
use native.Mathlib.Nat.{zero-add}
use native.Mathlib.Omega.{arith}
use lib.ListN.{length, take, drop}
use lib.Seq.{take_at, drop_at, take_all}
use lib.Ieee.{Float}
use Rattle.peaks.specs.declared.Peak.{Peak}
use Rattle.sections.specs.Outcome.{Buffers, lends, samples_in, room_in, Lent, before, onward, Outcome}
use Rattle.sections.specs.Summary.{largest, first_number, said_from}
use Rattle.sections.proofs.Room.{room_in_lem}
use Rattle.sections.proofs.Summed.{said_length, said_first, said_rest, said_shared}
use Rattle.score.proofs.Cuts.{lt_or_ge}
use Rattle.shelf.specs.Shelf.{section_size, entry_words, entries_for, words_for, entry_of, shelf_of, entry_at}
use Rattle.shelf.proofs.Whole.{shelf_append, shelf_length, entry_words_lem}
use Rattle.state.specs.declared.Settings.{Settings}
use Rattle.state.specs.Settings.{settings_ok}
use Rattle.state.specs.State.{fresh_of}
use Rattle.state.specs.Heart.{state_from, samples_from, entries_from}
use Rattle.state.proofs.RunsOn.{state_on, samples_on, samples-length}
use Rattle.state.proofs.Entries.{entries_on, entries-length, entry_at_lem}
use Rattle.judging.proofs.Refusals.{none-refused}
use Rattle.render.specs.declared.Rendered.{Rendered}
use Rattle.render.specs.Calls.{made_of, render_of}
use Rattle.demands.specs.Demand3.{Taken, BuffersOf, left_in, at_section}
use Rattle.demands.proofs.Cut.{Sized}

-- the samples, the shelf and all that a render of s leaves, in n samples
abbrev pub sound_of : Settings → List ℕ → ℕ → List Float
sound_of g s n = samples_from g s 0 (fresh_of 0) n

abbrev pub shelved_of : Settings → List ℕ → ℕ → List ℕ
shelved_of g s n = shelf_of (entries_from g s 0 (fresh_of 0) (entries_for n))

abbrev pub whole_of : Settings → List ℕ → ℕ → Buffers
whole_of g s n = (made_of g s n).left

-- a render of an accepted score is done, and leaves that, in any buffers
pub rendered : (g : Settings) → settings_ok g ≡ true → (s : List ℕ) → Taken s → (b : Buffers) → Lent b → render_of g s b ≡ made_of g s (samples_in b)
unfolding render_of
rendered g ok s a b z = rw (none-refused g (room_in b) s a.records ok (room_in_lem b z) a.accepted) refl

pub left_is : (g : Settings) → settings_ok g ≡ true → (s : List ℕ) → Taken s → (n : ℕ) (r : BuffersOf n) → (left_in g s r).left ≡ whole_of g s n
left_is g ok s a n r = ap (λ (o : Outcome Rendered). o.left) (rendered g ok s a r.buffers r.lent) ∙ ap (whole_of g s) r.long

module _ (g : Settings) (s : List ℕ) where
  -- ---- the state before a section's first sample, from that of an earlier section
  pub section_on : (m k : ℕ) → m ≤ k → state_from g s (m * section_size) (at_section g s m) ((k - m) * section_size) ≡ at_section g s k
  section_on m k h =
      let d : m * section_size + (k - m) * section_size ≡ k * section_size = omega arith in
      sym (ap (state_from g s 0 (fresh_of 0)) (sym d) ∙ state_on g s 0 (fresh_of 0) (m * section_size) ((k - m) * section_size)
      ∙ ap (λ (i : ℕ). state_from g s i (at_section g s m) ((k - m) * section_size)) (zero-add (m * section_size)))

  -- entry i of a render's shelf is the state before the first sample of section i
  pub entry-left : (n i : ℕ) → i < entries_for n → entry_at (shelved_of g s n) i ≡ entry_of (at_section g s i)
  entry-left n i h =
      entry_words_lem (entries_from g s 0 (fresh_of 0) (entries_for n)) i (fresh_of 0) (rw (entries-length g s 0 (fresh_of 0) (entries_for n)) h)
      ∙ ap entry_of (entry_at_lem g s 0 (fresh_of 0) (entries_for n) i (fresh_of 0) h)

  -- ---- sizes
  pub sound_length : (n : ℕ) → length (sound_of g s n) ≡ n
  sound_length n = samples-length g s 0 (fresh_of 0) n

  shelf_long : (k : ℕ) → length (shelf_of (entries_from g s 0 (fresh_of 0) k)) ≡ k * entry_words
  shelf_long k = shelf_length (entries_from g s 0 (fresh_of 0) k) ∙ ap (λ (i : ℕ). i * entry_words) (entries-length g s 0 (fresh_of 0) k)

  pub shelved_length : (n : ℕ) → length (shelved_of g s n) ≡ words_for n
  shelved_length n = shelf_long (entries_for n)

  pub whole-sized : (n : ℕ) → Sized n (whole_of g s n)
  whole-sized n =
      record {
        long = sound_length n;
        fits = shelved_length n;
        magnitudes-fit = said_length largest (sound_of g s n) 0 (entries_for (length (sound_of g s n))) ∙ ap entries_for (sound_length n);
        numbers_fit = said_length first_number (sound_of g s n) 0 (entries_for (length (sound_of g s n))) ∙ ap entries_for (sound_length n);
      }

  -- ---- the first samples and entries
  -- the first k samples of a render of n are a render of k
  pub sound_front : (n k : ℕ) → k ≤ n → take k (sound_of g s n) ≡ sound_of g s k
  sound_front n k h =
      let d : n ≡ k + (n - k) = omega arith in
      ap (λ (i : ℕ). take k (sound_of g s i)) d ∙ ap (take k) (samples_on g s 0 (fresh_of 0) k (n - k))
      ∙ take_at (sound_of g s k) (samples_from g s (0 + k) (state_from g s 0 (fresh_of 0) k) (n - k)) k (sound_length k)

  -- all of them where there are fewer
  pub sound_up_to : (n k : ℕ) → take k (sound_of g s n) ≡ sound_of g s (min k n)
  sound_up_to n k =
      ⊎_elim (λ l. (let e : min k n ≡ k = omega arith in rw e (sound_front n k (omega arith)))) (λ l. (let e : min k n ≡ n = omega arith in rw e (take_all k (sound_of g s n) (omega (arith, sound_length n))))) (lt_or_ge k n)

  -- the first m of k entries are those of sections 0 to m - 1, and the others go on from section m
  entries-cut : (k m : ℕ) → m ≤ k → shelf_of (entries_from g s 0 (fresh_of 0) k) ≡ shelf_of (entries_from g s 0 (fresh_of 0) m) ++ shelf_of (entries_from g s m (at_section g s m) (k - m))
  entries-cut k m h =
      let d : k ≡ m + (k - m) = omega arith in
      ap (λ (i : ℕ). shelf_of (entries_from g s 0 (fresh_of 0) i)) d ∙ ap shelf_of (entries_on g s 0 (fresh_of 0) m (k - m))
      ∙ shelf_append (entries_from g s 0 (fresh_of 0) m) (entries_from g s (0 + m) (at_section g s m) (k - m))
      ∙ ap (λ (i : ℕ). shelf_of (entries_from g s 0 (fresh_of 0) m) ++ shelf_of (entries_from g s i (at_section g s m) (k - m))) (zero-add m)

  pub shelf_front : (k m : ℕ) → m ≤ k → take (m * entry_words) (shelf_of (entries_from g s 0 (fresh_of 0) k)) ≡ shelf_of (entries_from g s 0 (fresh_of 0) m)
  shelf_front k m h = ap (take (m * entry_words)) (entries-cut k m h) ∙ take_at (shelf_of (entries_from g s 0 (fresh_of 0) m)) (shelf_of (entries_from g s m (at_section g s m) (k - m))) (m * entry_words) (shelf_long m)

  pub shelf_after : (k m : ℕ) → m ≤ k → drop (m * entry_words) (shelf_of (entries_from g s 0 (fresh_of 0) k)) ≡ shelf_of (entries_from g s m (at_section g s m) (k - m))
  shelf_after k m h = ap (drop (m * entry_words)) (entries-cut k m h) ∙ drop_at (shelf_of (entries_from g s 0 (fresh_of 0) m)) (shelf_of (entries_from g s m (at_section g s m) (k - m))) (m * entry_words) (shelf_long m)

  -- from section m on a render goes on from its state there
  pub sound_after : (n m : ℕ) → m * section_size ≤ n → drop (m * section_size) (sound_of g s n) ≡ samples_from g s (m * section_size) (at_section g s m) (n - m * section_size)
  sound_after n m h =
      let d : n ≡ m * section_size + (n - m * section_size) = omega arith in
      let front = sound_of g s (m * section_size) in
      ap (λ (k : ℕ). drop (m * section_size) (sound_of g s k)) d
      ∙ ap (drop (m * section_size)) (samples_on g s 0 (fresh_of 0) (m * section_size) (n - m * section_size))
      ∙ drop_at front (samples_from g s (0 + m * section_size) (at_section g s m) (n - m * section_size)) (m * section_size) (sound_length (m * section_size))
      ∙ ap (λ (k : ℕ). samples_from g s k (at_section g s m) (n - m * section_size)) (zero-add (m * section_size))

  -- ---- the summary
  module _ {A : Type 0} (f : ℕ → Peak → A) (n : ℕ) where
    sections : entries_for (length (sound_of g s n)) ≡ entries_for n
    sections = ap entries_for (sound_length n)

    pub said_from_lem : (m : ℕ) → m ≤ entries_for n → drop m (said_from f (sound_of g s n) 0 (entries_for (length (sound_of g s n)))) ≡ said_from f (sound_of g s n) m (entries_for n - m)
    said_from_lem m h = ap (λ (k : ℕ). drop m (said_from f (sound_of g s n) 0 k)) sections ∙ said_rest f (sound_of g s n) m (entries_for n) h

    pub said_between : (m k : ℕ) → m ≤ k → k ≤ entries_for n → drop m (take k (said_from f (sound_of g s n) 0 (entries_for (length (sound_of g s n))))) ≡ said_from f (sound_of g s n) m (k - m)
    said_between m k l h =
        ap (λ (i : ℕ). drop m (take k (said_from f (sound_of g s n) 0 i))) sections ∙ ap (drop m) (said_first f (sound_of g s n) k (entries_for n) h)
        ∙ said_rest f (sound_of g s n) m k l

    -- what is said of the sections before section m is what is said of a render of those alone
    said_front : (m : ℕ) → m * section_size ≤ n → m ≤ entries_for n → take m (said_from f (sound_of g s n) 0 (entries_for (length (sound_of g s n)))) ≡ said_from f (sound_of g s (m * section_size)) 0 m
    said_front m h l =
        ap (λ (i : ℕ). take m (said_from f (sound_of g s n) 0 i)) sections ∙ said_first f (sound_of g s n) m (entries_for n) l
        ∙ said_shared f (sound_of g s n) (sound_of g s (m * section_size)) 0 m m (omega arith)
        (sound_front n (m * section_size) h ∙ sym (take_all (m * section_size) (sound_of g s (m * section_size)) (omega (arith, sound_length (m * section_size)))))

  -- ---- all of it
  -- before section m, what a render leaves hangs on the samples and entries before it
  pub front-is : (n m : ℕ) → m * section_size ≤ n → m ≤ entries_for n
      → before m (whole_of g s n) ≡ lends (sound_of g s (m * section_size)) (shelf_of (entries_from g s 0 (fresh_of 0) m)) (said_from largest (sound_of g s (m * section_size)) 0 m) (said_from first_number (sound_of g s (m * section_size)) 0 m)
  front-is n m h l = rw (said_front largest n m h l, said_front first_number n m h l, sound_front n (m * section_size) h, shelf_front (entries_for n) m l) refl

  -- from section m up to section k, or the end
  pub between_is : (n m k : ℕ) → m < k → k ≤ entries_for n
      → onward m (before k (whole_of g s n))
      ≡ lends (samples_from g s (m * section_size) (at_section g s m) (min (k * section_size) n - m * section_size)) (shelf_of (entries_from g s m (at_section g s m) (k - m))) (said_from largest (sound_of g s n) m (k - m)) (said_from first_number (sound_of g s n) m (k - m))
  between_is n m k h l =
      rw (
        sound_up_to n (k * section_size),
        sound_after (min (k * section_size) n) m (omega arith),
        shelf_front (entries_for n) k l,
        shelf_after k m (omega arith),
        said_between largest n m k (omega arith) l,
        said_between first_number n m k (omega arith) l,
      )
      refl
