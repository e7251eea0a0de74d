-- Offsets in a part: where the next record is, and where a span ends. Assumes nothing.
use Rattle.std.specs.Prelude.{Option, Some, None}
use mathlib.Core.Path.{◌≡◌, refl, sym, ◌∙◌}
use mathlib.Core.Bool.{Bool, true, false, ◌||◌, and-false, or-true}
use mathlib.Core.List.{List}
use mathlib.Core.Logic.{⊎_elim}
use Prim.Native.Nat.{ℕ, ◌+◌, ◌-◌, ◌<◌, ◌≤◌}
use native.Mathlib.Omega.{arith}
use lib.Dec.{ltb, leb, eqb}
use borrow.Author.Tests.{lt-ltb, le-ltb, eq-eqb, ne_eqb, eqb-true, eqb-false, ltb-true, ltb-false, leb-true, leb-false}
use Rattle.score.specs.Record.{count_of, position_at}
use Rattle.score.proofs.Codec.{either}
use Rattle.score.proofs.Parted.{clash}
use Rattle.spans.specs.declared.Walker.{Walker}
use Rattle.spans.specs.Walk.{is_due_at, begins_at}
use Rattle.spans.specs.Inner.{is_at, is_due_in, is_block_start, begins_in, Sees, FirstAfter}

-- if `p || q` is false, p and q are
pub neither : (p q : Bool) → (p || q) ≡ false → (p ≡ false) × (q ≡ false)
neither true q e = let z : true ≡ false = e in absurd (clash (cc))
neither false q e = (refl, e)

-- p - n is the offset a exactly if p is n + a
distance_is : (p n a : ℕ) → n ≤ p → eqb (p - n) a ≡ eqb p (n + a)
distance_is p n a h = go (eqb (p - n) a) refl
  where
    go : (t : Bool) → eqb (p - n) a ≡ t → t ≡ eqb p (n + a)
    go true e = let q : p - n ≡ a = eqb-true (p - n) a e in sym (eq-eqb p (n + a) (omega arith))
    go false e = let q : p - n ≡ a → ⊥ = eqb-false (p - n) a e in sym (ne_eqb p (n + a) (λ x. q (omega arith)))

-- ---- where record i is, as an offset from position n
module _ (s : List ℕ) (i n : ℕ) where
  pub passed : (leb (count_of s) i || ltb (position_at s i) n) ≡ true → (m : ℕ) → false ≡ is_due_at s i (n + m)
  passed e m = ⊎_elim (λ h. rw (le-ltb i (count_of s) (leb-true _ _ h)) refl) (λ h. let l : position_at s i < n = ltb-true _ _ h in rw (ne_eqb (position_at s i) (n + m) (λ z. omega arith)) (sym (and-false (ltb i (count_of s))))) (either (leb (count_of s) i) (ltb (position_at s i) n) e)

  pub ahead : (leb (count_of s) i || ltb (position_at s i) n) ≡ false → (m : ℕ) → eqb (position_at s i - n) m ≡ is_due_at s i (n + m)
  ahead e m = let f = neither (leb (count_of s) i) (ltb (position_at s i) n) e in rw (lt-ltb i (count_of s) (leb-false _ _ f.0)) (distance_is (position_at s i) n m (ltb-false _ _ f.1))

-- what a walker has read is true of the score: its next record, and where a span begins
pub due_so : (s : List ℕ) (n m : ℕ) (w : Walker) (r t : Bool) → Sees s n w → r ≡ is_due_in w m → r ≡ t → is_due_at s w.next (n + m) ≡ t
due_so s n m w r t v e h = sym (v m) ∙ sym e ∙ h

pub begins_so : (s : List ℕ) (n : ℕ) (w : Walker) → Sees s n w → (m : ℕ) → begins_in w n m ≡ begins_at s w.next (n + m)
begins_so s n w v m = rw (v m) refl

-- ---- the end of a span
-- equal tests have the same first offset
pub first_so : (test other : ℕ → Bool) (a k r : ℕ) → ((m : ℕ) → test m ≡ other m) → FirstAfter test a k r → FirstAfter other a k r
first_so test other a k r e f = record { after = f.after; within = f.within; near = f.near; ends = λ x. sym (e r) ∙ f.ends x; apart = λ m x y. sym (e m) ∙ f.apart m x y }

-- if the walker's next record comes before the end of the block, the span ends at the record, else with the block
module _ (n a k e : ℕ) (w : Walker) (b : FirstAfter (is_block_start n) a k e) where
  pub end_record : (d : ℕ) → w.due ≡ Some d → a < d → d < e → FirstAfter (begins_in w n) a k d
  end_record d q x y =
      record {
        after = x;
        within = omega (arith, b.within);
        near = omega (arith, b.near);
        ends = λ z. rw (q, eq-eqb d d refl) (or-true (is_block_start n d));
        apart = λ m l h. rw (q, b.apart m l (omega arith), ne_eqb d m (λ z. omega arith)) refl;
      }

  pub end_block : ((d : ℕ) → w.due ≡ Some d → a < d → d < e → ⊥) → FirstAfter (begins_in w n) a k e
  end_block f =
      record {
        after = b.after;
        within = b.within;
        near = b.near;
        ends = λ x. rw (b.ends x) refl;
        apart = λ m x y. rw (b.apart m x y) (go m x y w.due refl);
      }
    where
      at : (m d : ℕ) → a < m → m < e → w.due ≡ Some d → (t : Bool) → eqb d m ≡ t → t ≡ false
      at m d x y q false h = refl
      at m d x y q true h = let z : d ≡ m = eqb-true d m h in absurd (f d q (omega arith) (omega arith))

      go : (m : ℕ) → a < m → m < e → (o : Option ℕ) → w.due ≡ o → is_at o m ≡ false
      go m x y None q = refl
      go m x y (Some d) q = at m d x y q (eqb d m) refl
