-- A call hands back the slices that it was lent: what it leaves in them is what it leaves. Assumes nothing.
use mathlib.Core.Path.{◌≡◌, refl, sym, ap, ◌∙◌}
use mathlib.Core.List.{List}
use Prim.Native.Nat.{ℕ}
use lib.Ieee.{Float}
use Rattle.std.proofs.Common.{MutBor}
use Rattle.sections.specs.declared.Buffers as lent
use Rattle.sections.specs.Outcome.{Buffers, Outcome, leaves}
use Rattle.sections.specs.Lending.{held, filled, OutcomeIn, leaves_in, left_in}

-- the slices `new` are the slices `old`, whatever they hold
pub record SameSlices (old new : lent.Buffers) : Type 0 where
  pub heard : new.heard ≡ record old.heard { now = new.heard.now }
  pub stored : new.stored ≡ record old.stored { now = new.stored.now }
  pub magnitudes : new.magnitudes ≡ record old.magnitudes { now = new.magnitudes.now }
  pub numbers : new.numbers ≡ record old.numbers { now = new.numbers.now }

pub same_first : (b : lent.Buffers) → SameSlices b b
same_first b = record { heard = refl; stored = refl; magnitudes = refl; numbers = refl }

abbrev of_slices : MutBor (List Float) → MutBor (List ℕ) → MutBor (List Float) → MutBor (List ℕ) → lent.Buffers
of_slices h v k n = record { heard = h; stored = v; magnitudes = k; numbers = n }

same_filled : (b c : lent.Buffers) → SameSlices b c → c ≡ filled b (held c)
same_filled b c s = joined _ _ _ _ _ _ _ _ s.heard s.stored s.magnitudes s.numbers
  where
    joined : (h i : MutBor (List Float)) (v w : MutBor (List ℕ)) (k m : MutBor (List Float)) (n o : MutBor (List ℕ)) → h ≡ i → v ≡ w → k ≡ m → n ≡ o
        → of_slices h v k n ≡ of_slices i w m o
    joined h i v w k m n o a b c d = cc

pub left-same : {R : Type 0} (b c : lent.Buffers) (r : R) (o : Outcome R) → SameSlices b c → leaves r (held c) ≡ o → leaves_in r c ≡ left_in b o
left-same b c r o s e = ap (leaves_in r) (same_filled b c s) ∙ ap (left_in b) e

-- what a call left, as the outcome of what the slices held
pub left-held : {R : Type 0} (c : lent.Buffers) (r : R) (x : OutcomeIn R) → leaves_in r c ≡ x → leaves r (held c) ≡ leaves x.result (held x.left)
left-held c r x e = ap (λ y. leaves y.result (held y.left)) e

-- a call that goes on from what another left in the slices that both were lent
pub left-on : {R S : Type 0} (b c : lent.Buffers) (r : R) (o : Outcome R) (t : S) (k : Buffers) (q : Outcome S) → leaves_in r c ≡ left_in b o → leaves t k ≡ q → leaves_in t (filled c k) ≡ left_in b q
left-on b c r o t k q e f = ap (λ x. leaves_in t (filled x.left k)) e ∙ ap (left_in b) f

-- the slices that a call left are those that it was lent, filled with what they hold
pub left_filled : {R : Type 0} (b c : lent.Buffers) (r : R) (o : Outcome R) → leaves_in r c ≡ left_in b o → filled b (held c) ≡ c
left_filled b c r o e = let q : c ≡ filled b o.left = ap (λ x. x.left) e in ap (λ x. filled b (held x)) q ∙ sym q
