-- Peaks beside the sound, of the calls that C makes, as a claim. `demands`' specs/Peaks.antt has 02's words, and says
-- what a summary tells.
-- Of the answers the claim asks only what a host sees: the number in a word is 0. Of a re-render it asks nothing: what
-- holds of the summary holds whatever the answer is, unknown settings included.
-- The argument is in proofs/FfiPeaks.antt. Definitions only.
use Rattle.std.specs.Prelude.{◌≡◌, List, ℕ, T, Some}
use Rattle.std.specs.Float.{binary64}
use Rattle.std.specs.Float.Ieee.{fits}
use Rattle.sections.specs.Outcome.{Buffers, samples_in, before}
use Rattle.rerender.specs.Rerender.{plan_of}
use Rattle.demands.specs.Peaks.{AllFinite, Tells, IsRight}
use Rattle.ffi.specs.declared.Asked.{Asked}
use Rattle.ffi.specs.Ffi.{choice_of, render_for, rerender_for}
use Rattle.ffi_demands.specs.WordsDemand3.{Zero}

pub record WordsPeaks : Type 0 where
  -- a gav_render whose number is 0 leaves a right summary, which tells of its output; the sustain is a value of an f64,
  -- as every f64 of the code is
  pub render-right : (a : Asked) (s : List ℕ) (b : Buffers) → Zero (render_for (choice_of a) s b).result → IsRight (render_for (choice_of a) s b).left
  pub render-told : (a : Asked) → T (fits binary64 a.sustain) → (s : List ℕ) (b : Buffers) → Zero (render_for (choice_of a) s b).result
      → Tells (render_for (choice_of a) s b).left.heard (render_for (choice_of a) s b).left.summary
  -- a gav_rerender leaves a right summary where a right one came, and one that tells of finite samples where one came
  pub stays-right : (a : Asked) (old new : List ℕ) (b : Buffers) → IsRight b → IsRight (rerender_for (choice_of a) old new b).left
  pub stays-told : (a : Asked) → T (fits binary64 a.sustain) → (old new : List ℕ) (b : Buffers) → AllFinite b.heard → Tells b.heard b.summary
      → Tells (rerender_for (choice_of a) old new b).left.heard (rerender_for (choice_of a) old new b).left.summary
  -- and leaves what lies before its start as it came
  pub untouched : (a : Asked) (old new : List ℕ) (b : Buffers) (m : ℕ) → plan_of old new (samples_in b) ≡ Some m → before m (rerender_for (choice_of a) old new b).left ≡ before m b
