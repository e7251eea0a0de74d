-- Dropping every pair of a note n, on the list of pairs: what is kept of the first i pairs, and of one more. Assumes
-- nothing.
use mathlib.Core.Path.{◌≡◌, refl, ap}
use mathlib.Core.Bool.{Bool, true, false, cond}
use mathlib.Core.List.{List, [], ◌∷◌, ◌++◌, append-nil}
use Prim.Native.Nat.{ℕ, suc, ◌<◌}
use lib.Dec.{eqb}
use lib.ListN.{length, take, get_or}
use lib.Seq.{take-suc}
use borrow.Author.Tests.{eq-eqb, ne_eqb}
use Rattle.voice.specs.Keys.{Pair, others}
use Rattle.voice.proofs.Pairs.{unused}

-- what is kept of two lists, one after the other
others_append : (n : ℕ) (ps qs : List Pair) → others n (ps ++ qs) ≡ others n ps ++ others n qs
unfolding others
others_append n [] qs = refl
others_append n (p ∷ ps) qs = go (eqb p.note n) (others_append n ps qs)
  where
    go : (t : Bool) → others n (ps ++ qs) ≡ others n ps ++ others n qs → cond t (others n (ps ++ qs)) (p ∷ others n (ps ++ qs)) ≡ cond t (others n ps) (p ∷ others n ps) ++ others n qs
    go true e = e
    go false e = ap (λ (l : List Pair). p ∷ l) e

module _ (n i : ℕ) (ps : List Pair) (h : i < length ps) where
  -- one more, which is a pair of n
  pub others_drops : (get_or ps i unused).note ≡ n → others n (take (suc i) ps) ≡ others n (take i ps)
  unfolding others
  others_drops e =
      rw (take-suc ps i unused h, others_append n (take i ps) (get_or ps i unused ∷ []), eq-eqb (get_or ps i unused).note n e) (append-nil (others n (take i ps)))

  -- one more, which is a pair of another note
  pub others_keeps : ((get_or ps i unused).note ≡ n → ⊥) → others n (take (suc i) ps) ≡ others n (take i ps) ++ (get_or ps i unused ∷ [])
  unfolding others
  others_keeps e = rw (take-suc ps i unused h, others_append n (take i ps) (get_or ps i unused ∷ []), ne_eqb (get_or ps i unused).note n e) refl
