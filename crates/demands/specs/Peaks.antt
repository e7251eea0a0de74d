-- Peaks beside the sound, as a claim.
-- 02, R-3: "Keep, for each 4,096-sample section, the largest magnitude and the number, from the output's start, of the
-- first sample where it stands; the last section may be short. A re-render brings the summary up to date and touches
-- only sections from its start entry on. If it was right for the buffer as that came, all finite, it afterwards equals
-- a summary of the finished buffer worked out from nothing."
-- What a summary tells is said here in the samples' own numbers, without sections cut out of a list and without a
-- running peak (`Tells`): of finite samples the summary that is worked out from nothing tells this, and no other does.
-- That a summary stays right needs no finite sample; that it then tells the largest does, and every sample that a
-- render or a re-render makes is finite. 02, R-12: "nothing else from the stop on is written". Demand 3 over the
-- summary is in specs/Demand3.antt. The argument is in proofs/Peaks.antt. Definitions only.
use Rattle.std.specs.Prelude.{◌≡◌, List, ℕ, suc, ◌+◌, ◌*◌, ◌≤◌, ◌<◌, T, length, get_or, take, drop, Float, Err, None, Ok, Some}
use Rattle.std.specs.Float.{nan, binary64}
use Rattle.std.specs.Float.Ieee.{fits, lt, le, eq}
use Rattle.std.specs.Float.Ieee.Scale.{finite}
use Rattle.floats.specs.Double.{zero64}
use Rattle.answers.specs.declared.Refusal.{Refusal}
use Rattle.peaks.specs.Peaks.{magnitude_of, sample_at, magnitude_at, IsMagnitude}
use Rattle.shelf.specs.Shelf.{section_size, entries_for}
use Rattle.sections.specs.Outcome.{Summary, Buffers, samples_in, before, onward}
use Rattle.sections.specs.Summary.{summary_of}
use Rattle.state.specs.declared.Settings.{Settings}
use Rattle.render.specs.Calls.{render_of}
use Rattle.rerender.specs.Rerender.{plan_of, rerender_of}

-- ---- what a summary tells of the samples xs
abbrev pub AllFinite : List Float → Type 0
AllFinite xs = (i : ℕ) → i < length xs → T (finite (sample_at xs i))

-- sample i lies in section j
pub record InSection (xs : List Float) (j i : ℕ) : Type 0 where
  pub from : j * section_size ≤ i
  pub to : i < suc j * section_size
  pub there : i < length xs

-- of section j: a is the largest magnitude, and sample i the first that has it
pub record TellsOf (xs : List Float) (j : ℕ) (a : Float) (i : ℕ) : Type 0 where
  pub there : InSection xs j i
  pub here : a ≡ magnitude_at xs i
  pub largest : (k : ℕ) → InSection xs j k → T (le (magnitude_at xs k) a)
  pub first : (k : ℕ) → InSection xs j k → k < i → T (lt (magnitude_at xs k) a)

-- of every section
pub record Tells (xs : List Float) (sum : Summary) : Type 0 where
  pub magnitudes-long : length sum.magnitudes ≡ entries_for (length xs)
  pub numbers-long : length sum.numbers ≡ entries_for (length xs)
  pub each : (j : ℕ) → j < entries_for (length xs) → TellsOf xs j (get_or sum.magnitudes j nan) (get_or sum.numbers j 0)

-- right for these buffers: what is worked out from nothing
abbrev pub IsRight : Buffers → Type 0
IsRight b = b.summary ≡ summary_of b.heard

-- right for the sections from section m up to, not including, section e
pub record IsRightBetween (m e : ℕ) (b : Buffers) : Type 0 where
  pub magnitudes : drop m (take e b.summary.magnitudes) ≡ drop m (take e (summary_of b.heard).magnitudes)
  pub numbers : drop m (take e b.summary.numbers) ≡ drop m (take e (summary_of b.heard).numbers)

-- the same samples and summary from section e on
pub record SameAfter (e : ℕ) (b c : Buffers) : Type 0 where
  pub heard : (onward e b).heard ≡ (onward e c).heard
  pub summary : (onward e b).summary ≡ (onward e c).summary

-- ---- the claim; the sustain is a value of an f64, as every f64 of the code is
pub record PeaksBesideTheSound : Type 0 where
  -- a magnitude is a sample without its sign, +0 for a zero
  pub magnitudes : (x : Float) → IsMagnitude x (magnitude_of x)
  -- of finite samples the summary worked out from nothing tells this, and no other summary does
  pub tells : (xs : List Float) → AllFinite xs → Tells xs (summary_of xs)
  pub tells_alone : (xs : List Float) (sum : Summary) → AllFinite xs → Tells xs sum → sum ≡ summary_of xs
  -- a silent section, of zeros of either sign, has +0 at its first sample
  pub silent : (xs : List Float) → AllFinite xs → (j : ℕ) → j < entries_for (length xs) → ((k : ℕ) → InSection xs j k → T (eq (sample_at xs k) zero64))
      → (get_or (summary_of xs).magnitudes j nan ≡ zero64) × (get_or (summary_of xs).numbers j 0 ≡ j * section_size)
  -- a render that is done makes finite samples, and leaves a right summary, which so tells of its output
  pub render-finite : (g : Settings) → T (fits binary64 g.adsr.sustain) → (s : List ℕ) (b : Buffers) (k : ℕ) → (render_of g s b).result.answer ≡ Ok k → AllFinite (render_of g s b).left.heard
  pub render-right : (g : Settings) (s : List ℕ) (b : Buffers) (k : ℕ) → (render_of g s b).result.answer ≡ Ok k → IsRight (render_of g s b).left
  pub render-told : (g : Settings) → T (fits binary64 g.adsr.sustain) → (s : List ℕ) (b : Buffers) (k : ℕ) → (render_of g s b).result.answer ≡ Ok k → Tells (render_of g s b).left.heard (render_of g s b).left.summary
  -- the k samples that a re-render makes from section m on are finite, its summary is right for their sections,
  -- whatever came, and samples and summary after them stay as they came
  pub rerender-finite : (g : Settings) → T (fits binary64 g.adsr.sustain) → (old new : List ℕ) (b : Buffers) (m : ℕ) → plan_of old new (samples_in b) ≡ Some m → (k : ℕ) → (rerender_of g old new b).result ≡ Ok k
      → AllFinite (take k (onward m (rerender_of g old new b).left).heard)
  pub rerender-right : (g : Settings) (old new : List ℕ) (b : Buffers) (m : ℕ) → plan_of old new (samples_in b) ≡ Some m → (k : ℕ) → (rerender_of g old new b).result ≡ Ok k
      → IsRightBetween m (entries_for (m * section_size + k)) (rerender_of g old new b).left
  pub rerender-stops : (g : Settings) (old new : List ℕ) (b : Buffers) (m : ℕ) → plan_of old new (samples_in b) ≡ Some m → (k : ℕ) → (rerender_of g old new b).result ≡ Ok k
      → SameAfter (entries_for (m * section_size + k)) (rerender_of g old new b).left b
  -- so, whatever the answer, a summary that came right stays right, finite samples stay finite, and a summary that told
  -- the truth of finite samples tells it of the finished output
  pub stays-right : (g : Settings) (old new : List ℕ) (b : Buffers) → IsRight b → IsRight (rerender_of g old new b).left
  pub stays-finite : (g : Settings) → T (fits binary64 g.adsr.sustain) → (old new : List ℕ) (b : Buffers) → AllFinite b.heard → AllFinite (rerender_of g old new b).left.heard
  pub stays-told : (g : Settings) → T (fits binary64 g.adsr.sustain) → (old new : List ℕ) (b : Buffers) → AllFinite b.heard → Tells b.heard b.summary → Tells (rerender_of g old new b).left.heard (rerender_of g old new b).left.summary
  -- what lies before the start is not touched, whatever the answer; where the plan is nothing or the call is refused,
  -- nothing is touched
  pub untouched : (g : Settings) (old new : List ℕ) (b : Buffers) (m : ℕ) → plan_of old new (samples_in b) ≡ Some m → before m (rerender_of g old new b).left ≡ before m b
  pub untouched-whole : (g : Settings) (old new : List ℕ) (b : Buffers) → plan_of old new (samples_in b) ≡ None → (rerender_of g old new b).left ≡ b
  pub untouched-refused : (g : Settings) (old new : List ℕ) (b : Buffers) (why : Refusal) → (rerender_of g old new b).result ≡ Err why → (rerender_of g old new b).left ≡ b
  -- what lies before a section and what lies from it on are all that there is
  pub cut : (m : ℕ) (b c : Buffers) → before m b ≡ before m c → onward m b ≡ onward m c → b ≡ c
