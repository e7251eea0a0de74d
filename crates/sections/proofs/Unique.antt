-- Two outcomes that meet a public function's statement are equal. Assumes nothing.
use mathlib.Core.Path.{◌≡◌, sym, ap, ◌∙◌}
use mathlib.Core.Bool.{Bool}
use mathlib.Core.List.{List}
use Prim.Native.Nat.{ℕ}
use lib.Ieee.{Float}
use Rattle.state.specs.declared.Settings.{Settings}
use Rattle.spans.specs.declared.Place.{Place}
use Rattle.sections.specs.declared.End.{End}
use Rattle.sections.specs.Outcome.{lends, room_in, Outcome, leaves}
use Rattle.sections.specs.declared.Buffers as lent
use Rattle.sections.specs.Lending.{held, OutcomeIn, leaves_in, left_in}
use Rattle.sections.specs.Sections.{play_on_of}

pub fits_unique : (b : lent.Buffers) (r t : Bool) → r ≡ room_in (held b) → t ≡ room_in (held b) → r ≡ t
fits_unique b r t x y = x ∙ sym y

-- for a result of any type: the result, and each part of what was lent
pub same_left : {R : Type 0} (o : Outcome R) (r t : R) (ys zs : List Float) (ws vs : List ℕ) (ms ns : List Float) (is js : List ℕ)
    → leaves r (lends ys ws ms is) ≡ o → leaves t (lends zs vs ns js) ≡ o → (r ≡ t) × (ys ≡ zs) × (ws ≡ vs) × (ms ≡ ns) × (is ≡ js)
same_left o r t ys zs ws vs ms ns is js x y =
    let e = x ∙ sym y in
    (ap (λ o. o.result) e, ap (λ o. o.left.heard) e, ap (λ o. o.left.stored) e, ap (λ o. o.left.summary.magnitudes) e, ap (λ o. o.left.summary.numbers) e)

-- the same where slices are lent as one
pub same_left_in : {R : Type 0} (o : OutcomeIn R) (r t : R) (c d : lent.Buffers) → leaves_in r c ≡ o → leaves_in t d ≡ o → (r ≡ t) × (c ≡ d)
same_left_in o r t c d x y = let e = x ∙ sym y in (ap (λ o. o.result) e, ap (λ o. o.left) e)

pub play_on_unique : (g : Settings) (s : List ℕ) (m : ℕ) (p : Place) (quiet : ℕ) (b : lent.Buffers) (r t : End) (c d : lent.Buffers)
    → leaves_in r c ≡ left_in b (play_on_of g s m p quiet (held b)) → leaves_in t d ≡ left_in b (play_on_of g s m p quiet (held b)) → (r ≡ t) × (c ≡ d)
play_on_unique g s m p quiet b r t c d x y = same_left_in (left_in b (play_on_of g s m p quiet (held b))) r t c d x y
