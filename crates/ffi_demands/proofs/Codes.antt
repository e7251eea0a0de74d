-- What a host asks for is known or unknown. Known settings have the host's own sustain; a call whose number is not 6
-- shows that the settings are known. Assumes nothing.
use Rattle.std.specs.Prelude.{None, Option, Some}
use mathlib.Core.Path.{◌≡◌, refl, subst, ap}
use lib.Dec.{T}
use lib.Ieee.{Float, binary64, fits}
use Rattle.state.specs.declared.Settings.{Settings}
use Rattle.ffi.specs.declared.Asked.{Asked}
use Rattle.ffi.specs.Ffi.{shape_of, manner_of, settings_of, choice_for, choice_of}
use Rattle.score.proofs.Parted.{clash}
use Rattle.state.specs.declared.Keying.{Keying}
use Rattle.waveform.specs.declared.Waveform.{Waveform}

pub record IsKnown (a : Asked) : Type 0 where
  pub settings : Settings
  pub known : choice_of a ≡ Some settings

pub is_known : (a : Asked) → (choice_of a ≡ None → ⊥) → IsKnown a
is_known a n = go (choice_of a) refl
  where
    go : (c : Option Settings) → choice_of a ≡ c → IsKnown a
    go (Some g) e = record { settings = g; known = e }
    go None e = absurd (n e)

pub sustain_fits : (a : Asked) → T (fits binary64 a.sustain) → (g : Settings) → choice_of a ≡ Some g → T (fits binary64 g.adsr.sustain)
unfolding choice_of
sustain_fits a w g e = go (shape_of a.code a.duty) (shape_of a.lfo_code a.lfo_duty) (manner_of a.joined) e
  where
    go : (x y : Option Waveform) (m : Option Keying) → choice_for x y m a ≡ Some g → T (fits binary64 g.adsr.sustain)
    go (Some f) (Some l) (Some k) e = let q : settings_of a f l k ≡ g = cc in subst (λ (x : Float). T (fits binary64 x)) (ap (λ (h : Settings). h.adsr.sustain) q) w
    go (Some f) (Some l) None e = absurd (clash (cc))
    go (Some f) None m e = absurd (clash (cc))
    go None y m e = absurd (clash (cc))
