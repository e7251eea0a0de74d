-- Two outcomes that meet the public function's statement are equal. Assumes nothing.
use mathlib.Core.Path.{◌≡◌, sym, ap, ◌∙◌}
use mathlib.Core.List.{List}
use Prim.Native.Nat.{ℕ}
use lib.Ieee.{Float}
use Rattle.sections.specs.declared.Buffers as lent
use Rattle.sections.specs.Outcome.{lends}
use Rattle.sections.specs.Lending.{held}
use Rattle.state.specs.declared.Settings.{Settings}
use Rattle.page.specs.declared.Paged.{Paged}
use Rattle.page.specs.Page.{Rewritten, rewrites, RewrittenIn, rewrites_in, rewritten_in, edit_of}

-- a call that is lent a buffer for a score too: its result, and every lent sample, word and byte
pub same_rewritten : {R : Type 0} (o : Rewritten R) (r t : R) (ys zs : List Float) (ws vs : List ℕ) (ms ns : List Float) (is js : List ℕ) (xs us : List ℕ)
    → rewrites r (lends ys ws ms is) xs ≡ o → rewrites t (lends zs vs ns js) us ≡ o → (r ≡ t) × (ys ≡ zs) × (ws ≡ vs) × (ms ≡ ns) × (is ≡ js) × (xs ≡ us)
same_rewritten {R} o r t ys zs ws vs ms ns is js xs us p q =
    let e : rewrites r (lends ys ws ms is) xs ≡ rewrites t (lends zs vs ns js) us = p ∙ sym q in (
      ap (λ (x : Rewritten R). x.result) e,
      ap (λ (x : Rewritten R). x.left.heard) e,
      ap (λ (x : Rewritten R). x.left.stored) e,
      ap (λ (x : Rewritten R). x.left.summary.magnitudes) e,
      ap (λ (x : Rewritten R). x.left.summary.numbers) e,
      ap (λ (x : Rewritten R). x.space) e,
    )

pub edit_unique : (g : Settings) (old es : List ℕ) (b : lent.Buffers) (space : List ℕ) (r t : Paged) (c d : lent.Buffers) (xs us : List ℕ)
    → rewrites_in r c xs ≡ rewritten_in b (edit_of g old es (held b) space) → rewrites_in t d us ≡ rewritten_in b (edit_of g old es (held b) space) → (r ≡ t) × (c ≡ d) × (xs ≡ us)
edit_unique g old es b space r t c d xs us p q =
    let e : rewrites_in r c xs ≡ rewrites_in t d us = p ∙ sym q in (ap (λ (x : RewrittenIn Paged). x.result) e, ap (λ (x : RewrittenIn Paged). x.left) e, ap (λ (x : RewrittenIn Paged). x.space) e)
