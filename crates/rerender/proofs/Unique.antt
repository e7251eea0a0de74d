-- Two outcomes that meet a public function's statement are equal. Assumes nothing.
use mathlib.Core.Path.{◌≡◌}
use mathlib.Core.List.{List}
use Prim.Native.Nat.{ℕ}
use Rattle.sections.specs.declared.Buffers as lent
use Rattle.sections.specs.Lending.{held, leaves_in, left_in}
use Rattle.sections.proofs.Unique.{same_left_in}
use Rattle.answers.specs.Answer.{Answer}
use Rattle.state.specs.declared.Settings.{Settings}
use Rattle.rerender.specs.Rerender.{rerender_of}

pub rerender_unique : (g : Settings) (old new : List ℕ) (b : lent.Buffers) (r t : Answer) (c d : lent.Buffers)
    → leaves_in r c ≡ left_in b (rerender_of g old new (held b)) → leaves_in t d ≡ left_in b (rerender_of g old new (held b)) → (r ≡ t) × (c ≡ d)
rerender_unique g old new b r t c d x y = same_left_in (left_in b (rerender_of g old new (held b))) r t c d x y
