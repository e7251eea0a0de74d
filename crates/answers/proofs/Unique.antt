-- Two outcomes that meet a public function's statement are equal. Assumes nothing.
use mathlib.Core.Path.{◌≡◌, sym, ap, ◌∙◌}
use mathlib.Core.Bool.{Bool}
use mathlib.Core.List.{List}
use lib.Ieee.{Float}
use Rattle.std.specs.Prelude.{Result}
use Rattle.answers.specs.Changed.{changed_or}
use Rattle.answers.specs.Numbers.{numbers_of}
use Rattle.answers.specs.Order.{unless}
use Rattle.answers.specs.Outcome.{Outcome, leaves}
use Rattle.answers.specs.Value.{value_or}
use Rattle.answers.specs.Answer.{Answer}
use Rattle.answers.specs.declared.Changed.{Changed}
use Rattle.answers.specs.declared.Numbers.{Numbers}
use Rattle.answers.specs.declared.Refusal.{Refusal}

pub from_unique : (a : Answer) (r t : Numbers) → r ≡ numbers_of a → t ≡ numbers_of a → r ≡ t
from_unique a r t p q = p ∙ sym q

pub value_if_unique : {A : Type 0} (ok : Bool) (refusal : Refusal) (x : A) (r t : Result A Refusal) → r ≡ value_or (unless ok refusal) x → t ≡ value_or (unless ok refusal) x → r ≡ t
value_if_unique ok refusal x r t p q = p ∙ sym q

pub changed_if_unique : {S : Type 0} (ok : Bool) (refusal : Refusal) (before after : S) (r t : Changed S) → r ≡ changed_or (unless ok refusal) before after → t ≡ changed_or (unless ok refusal) before after → r ≡ t
changed_if_unique ok refusal before after r t p q = p ∙ sym q

-- a block call: the result and every lent number
pub same_left : {R : Type 0} (o : Outcome R) (r t : R) (ys zs : List Float) → leaves r ys ≡ o → leaves t zs ≡ o → (r ≡ t) × (ys ≡ zs)
same_left {R} o r t ys zs p q = (ap (λ (x : Outcome R). x.result) (p ∙ sym q), ap (λ (x : Outcome R). x.lent) (p ∙ sym q))
