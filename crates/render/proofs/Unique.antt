-- Two outcomes that meet a public function's statement are equal. Assumes nothing.
use mathlib.Core.Path.{◌≡◌, sym, ap, ◌∙◌}
use mathlib.Core.List.{List}
use Prim.Native.Nat.{ℕ}
use lib.Ieee.{Float}
use Rattle.sections.specs.declared.Buffers as lent
use Rattle.sections.specs.Lending.{held, leaves_in, left_in}
use Rattle.sections.proofs.Unique.{same_left_in}
use Rattle.state.specs.declared.Settings.{Settings}
use Rattle.state.specs.declared.State.{State}
use Rattle.render.specs.declared.Rendered.{Rendered}
use Rattle.render.specs.Calls.{render_of, PartOutcome, leaves_part, continue_of}

pub render_unique : (g : Settings) (s : List ℕ) (b : lent.Buffers) (r t : Rendered) (c d : lent.Buffers)
    → leaves_in r c ≡ left_in b (render_of g s (held b)) → leaves_in t d ≡ left_in b (render_of g s (held b)) → (r ≡ t) × (c ≡ d)
render_unique g s b r t c d x y = same_left_in (left_in b (render_of g s (held b))) r t c d x y

pub continue_render_unique : (g : Settings) (s : List ℕ) (v : State) (p : ℕ) (part a b : List Float) (r t : Rendered) → leaves_part r a ≡ continue_of g s v p part → leaves_part t b ≡ continue_of g s v p part → (r ≡ t) × (a ≡ b)
continue_render_unique g s v p part a b r t x y =
    let e : leaves_part r a ≡ leaves_part t b = x ∙ sym y in
    (ap (λ (o : PartOutcome). o.result) e, ap (λ (o : PartOutcome). o.heard) e)
