-- The claim of specs/WordsPeaks.antt: under known settings the calls are those of `demands`, each answer packed; under
-- unknown ones all is left as it came. Assumes nothing.
use Rattle.std.specs.Prelude.{None, Ok, Option, Some}
use mathlib.Core.Path.{◌≡◌, refl}
use mathlib.Core.List.{List}
use Prim.Native.Nat.{ℕ}
use lib.Dec.{T}
use lib.Ieee.{binary64, fits}
use Rattle.answers.specs.declared.Refusal.TheVariants.{Setting}
use Rattle.sections.specs.Outcome.{Buffers, samples_in, before}
use Rattle.state.specs.declared.Settings.{Settings}
use Rattle.render.specs.Calls.{render_of}
use Rattle.rerender.specs.Rerender.{plan_of, rerender_of}
use Rattle.demands.specs.Peaks.{AllFinite, Tells, IsRight}
use Rattle.demands.proofs.Peaks.{peaks_beside_the_sound}
use Rattle.ffi.specs.declared.Asked.{Asked}
use Rattle.ffi.specs.Ffi.{choice_of, render_for, rerender_for}
use Rattle.ffi_demands.specs.WordsDemand3.{Zero}
use Rattle.ffi_demands.specs.WordsPeaks.{WordsPeaks}
use Rattle.ffi_demands.proofs.Zero.{refused-not-zero, zero-done}
use Rattle.ffi_demands.proofs.Codes.{sustain_fits}

-- ---- a gav_render whose number is 0 is a render that is done
module _ (a : Asked) (s : List ℕ) (b : Buffers) (P : Buffers → Type 0) (made : (g : Settings) → choice_of a ≡ Some g → (k : ℕ) → (render_of g s b).result.answer ≡ Ok k → P (render_of g s b).left) where
  of_render : Zero (render_for (choice_of a) s b).result → P (render_for (choice_of a) s b).left
  of_render z = go (choice_of a) refl z
    where
      go : (c : Option Settings) → choice_of a ≡ c → Zero (render_for c s b).result → P (render_for c s b).left
      go (Some g) e z = let d = zero-done (render_of g s b).result.answer z in made g e d.0 d.1
      go None e z = absurd (refused-not-zero Setting z)

-- ---- a gav_rerender is a re-render, or leaves all as it came
module _ (a : Asked) (old new : List ℕ) (b : Buffers) (P : Buffers → Type 0) (came : P b) (made : (g : Settings) → choice_of a ≡ Some g → P (rerender_of g old new b).left) where
  of_rerender : P (rerender_for (choice_of a) old new b).left
  of_rerender = go (choice_of a) refl
    where
      go : (c : Option Settings) → choice_of a ≡ c → P (rerender_for c old new b).left
      go (Some g) e = made g e
      go None e = came

render-right : (a : Asked) (s : List ℕ) (b : Buffers) → Zero (render_for (choice_of a) s b).result → IsRight (render_for (choice_of a) s b).left
render-right a s b = of_render a s b IsRight (λ g e k d. peaks_beside_the_sound.render-right g s b k d)

render-told : (a : Asked) → T (fits binary64 a.sustain) → (s : List ℕ) (b : Buffers) → Zero (render_for (choice_of a) s b).result → Tells (render_for (choice_of a) s b).left.heard (render_for (choice_of a) s b).left.summary
render-told a w s b = of_render a s b (λ (c : Buffers). Tells c.heard c.summary) (λ g e k d. peaks_beside_the_sound.render-told g (sustain_fits a w g e) s b k d)

stays-right : (a : Asked) (old new : List ℕ) (b : Buffers) → IsRight b → IsRight (rerender_for (choice_of a) old new b).left
stays-right a old new b right = of_rerender a old new b IsRight right (λ g e. peaks_beside_the_sound.stays-right g old new b right)

stays-told : (a : Asked) → T (fits binary64 a.sustain) → (old new : List ℕ) (b : Buffers) → AllFinite b.heard → Tells b.heard b.summary
    → Tells (rerender_for (choice_of a) old new b).left.heard (rerender_for (choice_of a) old new b).left.summary
stays-told a w old new b all told = of_rerender a old new b (λ (c : Buffers). Tells c.heard c.summary) told (λ g e. peaks_beside_the_sound.stays-told g (sustain_fits a w g e) old new b all told)

untouched : (a : Asked) (old new : List ℕ) (b : Buffers) (m : ℕ) → plan_of old new (samples_in b) ≡ Some m → before m (rerender_for (choice_of a) old new b).left ≡ before m b
untouched a old new b m q = of_rerender a old new b (λ (c : Buffers). before m c ≡ before m b) refl (λ g e. peaks_beside_the_sound.untouched g old new b m q)

pub words_peaks : WordsPeaks
words_peaks = record { render-right = render-right; render-told = render-told; stays-right = stays-right; stays-told = stays-told; untouched = untouched }
