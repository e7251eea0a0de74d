-- The records below a position: in a score whose positions never fall they are the first records, and `count_below` is
-- their number. Assumes nothing.
use Rattle.std.specs.Prelude.{Ok}
use mathlib.Core.Path.{◌≡◌, refl, sym, ap, ◌∙◌}
use mathlib.Core.Bool.{Bool, true, false, ◌&&◌, ◌||◌}
use mathlib.Core.List.{List}
use mathlib.Core.Logic.{◌⊎◌, inl, inr, ⊎_elim}
use Prim.Native.Nat.{ℕ, zero, suc, ◌*◌, ◌-◌, ◌≤◌, ◌<◌}
use native.Mathlib.Nat.{add-zero, eq-or-lt_of_le, le_of_suc-le-suc}
use native.Mathlib.Omega.{arith}
use lib.Dec.{ltb, leb, eqb}
use lib.ListN.{length}
use borrow.Author.Tests.{lt-ltb, le-ltb, ltb-true, ltb-false, le-leb, leb-true, eq-eqb, eqb-true}
use Rattle.score.specs.Record.{count_of, position_at}
use Rattle.score.specs.Score.{in_order, verdict_of}
use Rattle.score.specs.Below.{below, count_below, last_below, is_count_below, Sorted, Cut}
use Rattle.score.proofs.Codec.{both, either, or_right}
use Rattle.score.proofs.Verdicts.{accepted_all}

pub lt_or_ge : (a b : ℕ) → (a < b) ⊎ (b ≤ a)
lt_or_ge a b = go (ltb a b) refl
  where
    go : (t : Bool) → ltb a b ≡ t → (a < b) ⊎ (b ≤ a)
    go true e = inl (ltb-true a b e)
    go false e = inr (ltb-false a b e)

-- ---- an accepted score
-- its length is ten bytes a record
pub accepted-count : (s : List ℕ) (n : ℕ) → verdict_of s ≡ Ok n → n ≡ count_of s
accepted-count s n h = let size : length s ≡ n * 10 = (accepted_all s n h).size in omega arith

pub accepted-few : (s : List ℕ) (n : ℕ) → verdict_of s ≡ Ok n → count_of s ≤ 4096
accepted-few s n h = let few : n ≤ 4096 = (accepted_all s n h).few in omega (arith, accepted-count s n h)

pub accepted-length : (s : List ℕ) (n : ℕ) → verdict_of s ≡ Ok n → length s ≡ count_of s * 10
accepted-length s n h = let size : length s ≡ n * 10 = (accepted_all s n h).size in omega arith

-- its positions never fall
pub accepted-sorted : (s : List ℕ) (n : ℕ) → verdict_of s ≡ Ok n → Sorted s
unfolding in_order
accepted-sorted s n h =
    let e : n ≡ count_of s = accepted-count s n h in
    record { adjacent = λ i l. leb-true (position_at s i) (position_at s (suc i)) ((accepted_all s n h).fine (suc i) (omega arith)).ordered }

-- ---- where the records below p end
pub sorted-le : (s : List ℕ) → Sorted s → (i j : ℕ) → i ≤ j → j < count_of s → position_at s i ≤ position_at s j
sorted-le s o i zero h k = let e : i ≡ 0 = omega arith in rw e (omega arith)
sorted-le s o i (suc j) h k =
    ⊎_elim (λ e. rw e (omega arith))
    (λ l. let a : position_at s i ≤ position_at s j = sorted-le s o i j (omega arith) (omega arith) in
    let b : position_at s j ≤ position_at s (suc j) = o.adjacent j k in omega arith)
    (eq-or-lt_of_le h)

-- of the first k records those below p are the first c
CutTo : List ℕ → ℕ → ℕ → ℕ → Type 0
CutTo s p k c = (c ≤ k) × ((i : ℕ) → i < c → position_at s i < p) × ((i : ℕ) → c ≤ i → i < k → p ≤ position_at s i)

below-cut : (s : List ℕ) → Sorted s → (p k : ℕ) → k ≤ count_of s → CutTo s p k (below s p k)
unfolding below CutTo
below-cut s o p zero h = (omega arith, (λ i l. omega arith), (λ i a l. omega arith))
below-cut s o p (suc k) h =
    let c = below s p k in
    let ih : CutTo s p k c = below-cut s o p k (omega arith) in
    ⊎_elim
    (λ g. rw (lt-ltb (position_at s k) p g) (
      omega (arith, ih.0),
      (λ i q. let a : position_at s i ≤ position_at s k = sorted-le s o i k (omega (arith, ih.0)) (omega arith) in omega arith),
      (λ i q r. let a : p ≤ position_at s c = ih.2 c (omega arith) (omega arith) in
          let b : position_at s c ≤ position_at s k = sorted-le s o c k (omega (arith, ih.0)) (omega arith) in omega arith),
    ))
    (λ g. rw (le-ltb (position_at s k) p g, add-zero (below s p k)) (
      omega (arith, ih.0),
      ih.1,
      (λ i q r. ⊎_elim (λ e. rw e g) (λ l. ih.2 i q l) (eq-or-lt_of_le (le_of_suc-le-suc r))),
    ))
    (lt_or_ge (position_at s k) p)

-- the records below p are the first `count_below` of the score
pub count_cut : (s : List ℕ) → Sorted s → (p : ℕ) → Cut s p (count_below s p)
unfolding CutTo
count_cut s o p =
    let u : CutTo s p (count_of s) (below s p (count_of s)) = below-cut s o p (count_of s) (omega arith) in
    record { inside = u.0; lows = u.1; highs = u.2 }

cut-le : (s : List ℕ) (p c d : ℕ) → Cut s p c → Cut s p d → c ≤ d
cut-le s p c d x y =
    ⊎_elim
    (λ l. let a : position_at s d < p = x.lows d l in
    let b : p ≤ position_at s d = y.highs d (omega arith) (omega (arith, x.inside)) in omega arith)
    (λ g. g) (lt_or_ge d c)

-- there is one such number
pub cut-same : (s : List ℕ) (p c d : ℕ) → Cut s p c → Cut s p d → c ≡ d
cut-same s p c d x y = let a = cut-le s p c d x y in let b = cut-le s p d c y x in omega (arith, a, b)

pub cut-count : (s : List ℕ) → Sorted s → (p c : ℕ) → Cut s p c → c ≡ count_below s p
cut-count s o p c x = cut-same s p c (count_below s p) x (count_cut s o p)

-- at a higher position the number is not lower
pub cut_rises : (s : List ℕ) (p q c d : ℕ) → p ≤ q → Cut s p c → Cut s q d → c ≤ d
cut_rises s p q c d h x y =
    ⊎_elim
    (λ l. let a : position_at s d < p = x.lows d l in
    let b : q ≤ position_at s d = y.highs d (omega arith) (omega (arith, x.inside)) in omega arith)
    (λ g. g) (lt_or_ge d c)

-- ---- in such a score two records suffice to test the number
pub last-before : (s : List ℕ) (k p : ℕ) → 0 < k → last_below s k p ≡ ltb (position_at s (k - 1)) p
unfolding last_below
last-before s k p h = let left : k ≡ suc (k - 1) = omega arith in ap (λ (j : ℕ). last_below s j p) left

module _ (s : List ℕ) (o : Sorted s) (k p : ℕ) where
  pub parts_cut : is_count_below s k p ≡ true → Cut s p k
  unfolding is_count_below
  parts_cut h =
      let a = both (leb k (count_of s) && last_below s k p) (leb (count_of s) k || leb p (position_at s k)) h in
      let b = both (leb k (count_of s)) (last_below s k p) a.0 in
      let inside : k ≤ count_of s = leb-true _ _ b.0 in
      record {
        inside = inside;
        lows = λ i l. (
            let low : position_at s (k - 1) < p = ltb-true _ _ (sym (last-before s k p (omega arith)) ∙ b.1) in
            let le : position_at s i ≤ position_at s (k - 1) = sorted-le s o i (k - 1) (omega arith) (omega arith) in omega arith);
        highs = λ i g l. ⊎_elim
            (λ e. let end : count_of s ≤ k = leb-true _ _ e in omega arith)
            (λ e. let high : p ≤ position_at s k = leb-true _ _ e in let le : position_at s k ≤ position_at s i = sorted-le s o k i g l in omega arith)
            (either (leb (count_of s) k) (leb p (position_at s k)) a.1);
      }

  cut_parts : Cut s p k → is_count_below s k p ≡ true
  unfolding is_count_below last_below
  cut_parts c =
      let low : last_below s k p ≡ true = ⊎_elim (λ h. last-before s k p h ∙ lt-ltb _ _ (c.lows (k - 1) (omega arith))) (λ h. let e : k ≡ 0 = omega arith in rw e refl) (lt_or_ge 0 k) in
      ⊎_elim
      (λ l. rw (le-leb k (count_of s) c.inside, low) (or_right (leb (count_of s) k) _ (le-leb _ _ (c.highs k (omega arith) l))))
      (λ g. rw (le-leb k (count_of s) c.inside, low, le-leb (count_of s) k g))
      (lt_or_ge k (count_of s))

  -- the test holds exactly of the number of records below p
  pub parts-count : is_count_below s k p ≡ eqb k (count_below s p)
  parts-count = go (is_count_below s k p) refl (eqb k (count_below s p)) refl
    where
      go : (a : Bool) → is_count_below s k p ≡ a → (b : Bool) → eqb k (count_below s p) ≡ b → a ≡ b
      go true e b f = sym (eq-eqb k (count_below s p) (cut-count s o p k (parts_cut e))) ∙ f
      go false e true f = sym e ∙ cut_parts (rw (eqb-true k (count_below s p) f) (count_cut s o p))
      go false e false f = refl
