-- From where on two scores are the same: with positions that never fall and whole records, exactly above the position
-- of their last difference; so at or below their first difference they are not. And the number of records below a
-- position, found from that below a lower one. Assumes nothing.
use Rattle.std.specs.Prelude.{None, Ok, Some}
use mathlib.Core.Path.{◌≡◌, refl, sym, ap, ◌∙◌}
use mathlib.Core.Bool.{Bool, true, false, cond, true≢false}
use mathlib.Core.List.{List}
use mathlib.Core.Logic.{◌⊎◌, inl, inr, ⊎_elim}
use Prim.Native.Nat.{ℕ, suc, ◌+◌, ◌*◌, ◌/◌, ◌%◌, ◌-◌, ◌<◌, ◌≤◌, max}
use native.Mathlib.Omega.{arith}
use lib.Dec.{ltb, leb}
use lib.ListN.{length, get_or, drop, length-drop, take-append-drop}
use lib.Seq.{ext_get_or, get_or-drop}
use borrow.Author.Tests.{lt-ltb, le-ltb, ltb-true, ltb-false, leb-true, leb-false}
use Rattle.runs.proofs.First.{first_passing_lem}
use Rattle.words.proofs.Same.{same-equal, equal-same, unlike-same}
use Rattle.score.specs.Record.{count_of, byte_at, position_at}
use Rattle.score.specs.Score.{verdict_of}
use Rattle.score.specs.Below.{count_below, next_not_below, Sorted, Cut}
use Rattle.score.specs.Apart.{difference_of, from_end, same_back, same_end, last_difference_at, last_difference_of, records_from, same_from}
use Rattle.score.proofs.Cuts.{lt_or_ge, accepted-length, accepted-sorted, sorted-le, count_cut, cut-count}
use Rattle.score.proofs.Parted.{clash, same_bytes, bytes_same, same-position, Last, same_end_lem, at_inj}
use Rattle.score.proofs.Agree.{SameBelow, same-below, self-equal}

-- ---- the first record not below p is the number below p, sought from the number below q on
module _ (s : List ℕ) (o : Sorted s) (q i p : ℕ) (cut : Cut s q i) (h : q ≤ p) where
  pub next-cut : Cut s p (next_not_below s i p)
  unfolding next_not_below
  next-cut =
      let f = first_passing_lem (λ (j : ℕ). leb p (position_at s j)) (count_of s - i) i in
      let high : next_not_below s i p ≤ i + (count_of s - i) = f.high in
      let inside : i ≤ count_of s = cut.inside in
      record {
        inside = omega arith;
        lows = λ j l. ⊎_elim
            (λ k. let a : position_at s j < q = cut.lows j k in omega arith)
            (λ k. leb-false p (position_at s j) (f.none j k l))
            (lt_or_ge j i);
        highs = λ j g l. (
            let a : p ≤ position_at s (next_not_below s i p) = leb-true _ _ (f.here (omega arith)) in
            let b : position_at s (next_not_below s i p) ≤ position_at s j = sorted-le s o (next_not_below s i p) j g l in omega arith);
      }

  pub next-count : next_not_below s i p ≡ count_below s p
  next-count = cut-count s o p (next_not_below s i p) next-cut

-- ---- the same records from q on
pub same-records : (s t : List ℕ) (q : ℕ) → same_from s t q ≡ true → records_from s q ≡ records_from t q
unfolding same_from
same-records s t q e = same-equal (records_from s q) (records_from t q) e

pub records-same : (s t : List ℕ) (q : ℕ) → records_from s q ≡ records_from t q → same_from s t q ≡ true
unfolding same_from
records-same s t q e = equal-same (records_from s q) (records_from t q) e

pub records-unlike : (s t : List ℕ) (q : ℕ) → (records_from s q ≡ records_from t q → ⊥) → same_from s t q ≡ false
unfolding same_from
records-unlike s t q h = unlike-same (records_from s q) (records_from t q) h

-- ---- the last difference
-- p is at or above the position of the record that d records follow, in either score
record AtOrAbove (s t : List ℕ) (p d : ℕ) : Type 0 where
  low_s : d < count_of s → position_at s (from_end s d) ≤ p
  low_t : d < count_of t → position_at t (from_end t d) ≤ p

-- s has a record that d records follow, and its position is p
abbrev EndsAt : List ℕ → ℕ → ℕ → Type 0
EndsAt s d p = (d < count_of s) × (position_at s (from_end s d) ≡ p)

module _ (s t : List ℕ) (d : ℕ) where
  abbrev x : ℕ
  x = position_at s (from_end s d)

  abbrev y : ℕ
  y = position_at t (from_end t d)

  at_above : (p : ℕ) → last_difference_at s t d ≡ Some p → AtOrAbove s t p d
  at_above p e = go (ltb d (count_of s)) refl (ltb d (count_of t)) refl e
    where
      go : (a : Bool) → ltb d (count_of s) ≡ a → (b : Bool) → ltb d (count_of t) ≡ b → cond a (cond b (Some (max x y)) (Some x)) (cond b (Some y) None) ≡ Some p → AtOrAbove s t p d
      go true f true g e = let z : max x y ≡ p = at_inj e in record { low_s = λ h. omega arith; low_t = λ h. omega arith }
      go true f false g e = let z : x ≡ p = at_inj e in let w : count_of t ≤ d = ltb-false _ _ g in record { low_s = λ h. omega arith; low_t = λ h. absurd (omega arith) }
      go false f true g e = let z : y ≡ p = at_inj e in let w : count_of s ≤ d = ltb-false _ _ f in record { low_s = λ h. absurd (omega arith); low_t = λ h. omega arith }
      go false f false g e = absurd (clash (cc))

  at-reached : (p : ℕ) → last_difference_at s t d ≡ Some p → EndsAt s d p ⊎ EndsAt t d p
  at-reached p e = go (ltb d (count_of s)) refl (ltb d (count_of t)) refl e
    where
      higher : (x y : ℕ) → max x y ≡ p → (x ≡ p) ⊎ (y ≡ p)
      higher x y e = ⊎_elim (λ l. inr (omega arith)) (λ g. inl (omega arith)) (lt_or_ge x y)

      go : (a : Bool) → ltb d (count_of s) ≡ a → (b : Bool) → ltb d (count_of t) ≡ b → cond a (cond b (Some (max x y)) (Some x)) (cond b (Some y) None) ≡ Some p → EndsAt s d p ⊎ EndsAt t d p
      go true f true g e = ⊎_elim (λ u. inl (ltb-true _ _ f, u)) (λ u. inr (ltb-true _ _ g, u)) (higher x y (at_inj e))
      go true f false g e = inl (ltb-true _ _ f, at_inj e)
      go false f true g e = inr (ltb-true _ _ g, at_inj e)
      go false f false g e = absurd (clash (cc))

  ends-equal : last_difference_at s t d ≡ None → (count_of s ≤ d) × (count_of t ≤ d)
  ends-equal e = go (ltb d (count_of s)) refl (ltb d (count_of t)) refl e
    where
      go : (a : Bool) → ltb d (count_of s) ≡ a → (b : Bool) → ltb d (count_of t) ≡ b → cond a (cond b (Some (max x y)) (Some x)) (cond b (Some y) None) ≡ None → (count_of s ≤ d) × (count_of t ≤ d)
      go true f true g e = absurd (clash (cc))
      go true f false g e = absurd (clash (cc))
      go false f true g e = absurd (clash (cc))
      go false f false g e = (ltb-false _ _ f, ltb-false _ _ g)

-- ---- the last e records of two scores of whole records
module _ (s t : List ℕ) (ws : length s ≡ count_of s * 10) (wt : length t ≡ count_of t * 10) (e : ℕ) (es : e ≤ count_of s) (et : e ≤ count_of t) where
  abbrev end_of : List ℕ → List ℕ
  end_of u = drop ((count_of u - e) * 10) u

  -- byte k of record i from the end, i < e
  end_byte : (u : List ℕ) → e ≤ count_of u → (i k : ℕ) → i < e → byte_at u (from_end u i) k ≡ get_or (end_of u) ((e - suc i) * 10 + k) 0
  end_byte u l i k h =
      let at : (count_of u - suc i) * 10 + k ≡ (count_of u - e) * 10 + ((e - suc i) * 10 + k) = omega arith in
      rw (get_or-drop ((count_of u - e) * 10) u ((e - suc i) * 10 + k) 0) (ap (λ (n : ℕ). get_or u n 0) at)

  -- the same records, the same bytes; and back
  back_same : ((i : ℕ) → i < e → same_back s t i ≡ true) → end_of s ≡ end_of t
  back_same f =
      let ls : length (end_of s) ≡ e * 10 = rw (length-drop ((count_of s - e) * 10) s) (omega arith) in
      let lt : length (end_of t) ≡ e * 10 = rw (length-drop ((count_of t - e) * 10) t) (omega arith) in
      ext_get_or 0 (end_of s) (end_of t) (ls ∙ sym lt)
      (λ k h. let i = e - suc (k / 10) in
      let l : i < e = omega arith in
      let at : k ≡ (e - suc i) * 10 + k % 10 = omega arith in
      ap (λ (n : ℕ). get_or (end_of s) n 0) at ∙ sym (end_byte s es i (k % 10) l)
      ∙ same_bytes s (from_end s i) t (from_end t i) 10 (f i l) (k % 10) (omega arith)
      ∙ end_byte t et i (k % 10) l ∙ ap (λ (n : ℕ). get_or (end_of t) n 0) (sym at))

  back_from : end_of s ≡ end_of t → (i : ℕ) → i < e → same_back s t i ≡ true
  back_from f i l =
      bytes_same s (from_end s i) t (from_end t i) 10
      (λ k h. end_byte s es i k l ∙ ap (λ (u : List ℕ). get_or u ((e - suc i) * 10 + k) 0) f ∙ sym (end_byte t et i k l))

-- ---- the records from q on are the same exactly above the last difference
module _ (s t : List ℕ) (os : Sorted s) (ot : Sorted t) (ws : length s ≡ count_of s * 10) (wt : length t ≡ count_of t * 10) where
  abbrev d : ℕ
  d = same_end s t

  last : Last s t d
  last = same_end_lem s t

  module _ (q : ℕ) where
    abbrev c : ℕ
    c = count_below s q

    cut : Cut s q c
    cut = count_cut s os q

    cut_t : Cut t q (count_below t q)
    cut_t = count_cut t ot q

    -- how many records of s are at q or above
    abbrev e : ℕ
    e = count_of s - c

    -- every record before the last d is below q
    module _ (low_s : d < count_of s → position_at s (from_end s d) < q) (low_t : d < count_of t → position_at t (from_end t d) < q) where
      few : e ≤ d
      few =
          ⊎_elim
          (λ l. ⊎_elim (λ g. omega arith)
          (λ g. let a : q ≤ position_at s (from_end s d) = cut.highs (from_end s d) g (omega arith) in let b = low_s l in absurd (clash (omega arith))) (lt_or_ge (from_end s d) c))
          (λ g. omega arith) (lt_or_ge d (count_of s))

      -- record i of t, one of the last d, is record count_of s - suc j of s where j records follow it
      back_position : (i : ℕ) → count_of t ≤ i + d → i < count_of t → position_at s (from_end s (count_of t - suc i)) ≡ position_at t i
      back_position i a b =
          let in_t : d ≤ count_of t = last.in_t in
          let j = count_of t - suc i in
          let at : count_of t - suc j ≡ i = omega arith in
          same-position s (from_end s j) t (from_end t j) (last.same j (omega arith)) ∙ ap (position_at t) at

      cut-other : Cut t q (count_of t - e)
      cut-other =
          let in_s : d ≤ count_of s = last.in_s in
          let in_t : d ≤ count_of t = last.in_t in
          let inside : c ≤ count_of s = cut.inside in
          let most : e ≤ d = few in
          record {
            inside = omega arith;
            lows = λ i l. ⊎_elim
                (λ g. let a : position_at t i ≤ position_at t (from_end t d) = sorted-le t ot i (from_end t d) (omega arith) (omega arith) in
                let b : position_at t (from_end t d) < q = low_t (omega arith) in omega arith)
                (λ g. let a : position_at s (from_end s (count_of t - suc i)) ≡ position_at t i = back_position i g (omega arith) in
                let b : position_at s (from_end s (count_of t - suc i)) < q = cut.lows (from_end s (count_of t - suc i)) (omega arith) in omega arith)
                (lt_or_ge (i + d) (count_of t));
            highs = λ i g l. (
                let a : position_at s (from_end s (count_of t - suc i)) ≡ position_at t i = back_position i (omega arith) l in
                let b : q ≤ position_at s (from_end s (count_of t - suc i)) = cut.highs (from_end s (count_of t - suc i)) (omega arith) (omega arith) in omega arith);
          }

      same_above : records_from s q ≡ records_from t q
      same_above =
          let in_s : d ≤ count_of s = last.in_s in
          let in_t : d ≤ count_of t = last.in_t in
          let inside : c ≤ count_of s = cut.inside in
          let most : e ≤ d = few in
          let at : count_of s - e ≡ c = omega arith in
          let same = back_same s t ws wt e (omega arith) (omega arith) (λ i l. last.same i (omega arith)) in
          ap (λ (n : ℕ). drop (n * 10) s) (sym at) ∙ same ∙ ap (λ (n : ℕ). drop (n * 10) t) (cut-count t ot q (count_of t - e) cut-other)

    -- the records from q on are as many
    as_many : records_from s q ≡ records_from t q → count_of t - count_below t q ≡ e
    as_many same =
        let l : length (records_from s q) ≡ length (records_from t q) = ap length same in
        let a = length-drop (c * 10) s in
        let b = length-drop (count_below t q * 10) t in
        omega (arith, l, a, b)

    -- a record at q or above which d records follow is in both: none
    not_same : records_from s q ≡ records_from t q → d < e → ⊥
    not_same same l =
        let in_s : c ≤ count_of s = cut.inside in
        let in_t : count_below t q ≤ count_of t = cut_t.inside in
        let many : count_of t - count_below t q ≡ e = as_many same in
        let from-s : count_of s - e ≡ c = omega arith in
        let from-t : count_of t - e ≡ count_below t q = omega arith in
        let ends = ap (λ (n : ℕ). drop (n * 10) s) from-s ∙ same ∙ ap (λ (n : ℕ). drop (n * 10) t) (sym from-t) in
        true≢false (sym (back_from s t ws wt e (omega arith) (omega arith) ends d l) ∙ last.differs (omega arith) (omega arith))

    apart_below : (p : ℕ) → last_difference_of s t ≡ Some p → q ≤ p → records_from s q ≡ records_from t q → ⊥
    apart_below p found h same =
        let in_s : c ≤ count_of s = cut.inside in
        let in_t : count_below t q ≤ count_of t = cut_t.inside in
        let many : count_of t - count_below t q ≡ e = as_many same in
        ⊎_elim
        (λ r. not_same same (⊎_elim (λ l. let a : position_at s (from_end s d) < q = cut.lows (from_end s d) l in absurd (clash (omega (arith, r.1)))) (λ g. omega (arith, r.0)) (lt_or_ge (from_end s d) c)))
        (λ r. not_same same (⊎_elim (λ l. let a : position_at t (from_end t d) < q = cut_t.lows (from_end t d) l in absurd (clash (omega (arith, r.1)))) (λ g. omega (arith, r.0)) (lt_or_ge (from_end t d) (count_below t q))))
        (at-reached s t d p found)

    pub same_from_lem : (p : ℕ) → last_difference_of s t ≡ Some p → same_from s t q ≡ ltb p q
    same_from_lem p found =
        let bound : AtOrAbove s t p d = at_above s t d p found in
        ⊎_elim
        (λ l. records-same s t q (same_above (λ h. let a = bound.low_s h in omega (arith, a)) (λ h. let a = bound.low_t h in omega (arith, a))) ∙ sym (lt-ltb p q l))
        (λ g. records-unlike s t q (apart_below p found g) ∙ sym (le-ltb p q g))
        (lt_or_ge p q)

    pub same_everywhere : last_difference_of s t ≡ None → same_from s t q ≡ true
    same_everywhere none =
        let ends = ends-equal s t d none in
        records-same s t q (same_above (λ h. absurd (clash (omega (arith, ends.0)))) (λ h. absurd (clash (omega (arith, ends.1)))))

-- ---- at or below the first difference the records from q on differ
pub apart_from : (s t : List ℕ) → Sorted s → Sorted t → (p q : ℕ) → difference_of s t ≡ Some p → q ≤ p → same_from s t q ≡ false
apart_from s t os ot p q found h =
    let below : SameBelow s t q = same-below s t os ot p found q h in
    records-unlike s t q
    (λ same.
    let rest : drop (count_below s q * 10) s ≡ drop (count_below s q * 10) t = same ∙ ap (λ (n : ℕ). drop (n * 10) t) (sym below.count) in
    let equal : s ≡ t =
    sym (take-append-drop (count_below s q * 10) s)
    ∙ rw (below.front, rest) (take-append-drop (count_below s q * 10) t) in
    let z : Some p ≡ None = sym found ∙ rw (← equal) (self-equal s) in
    clash (cc))

-- ---- for accepted scores
module _ (s t : List ℕ) (n m : ℕ) (a : verdict_of s ≡ Ok n) (b : verdict_of t ≡ Ok m) where
  pub accepted-same_from : (p : ℕ) → last_difference_of s t ≡ Some p → (q : ℕ) → same_from s t q ≡ ltb p q
  accepted-same_from p found q = same_from_lem s t (accepted-sorted s n a) (accepted-sorted t m b) (accepted-length s n a) (accepted-length t m b) q p found

  pub accepted-same_everywhere : last_difference_of s t ≡ None → (q : ℕ) → same_from s t q ≡ true
  accepted-same_everywhere none q = same_everywhere s t (accepted-sorted s n a) (accepted-sorted t m b) (accepted-length s n a) (accepted-length t m b) q none

  pub accepted-apart-from : (p q : ℕ) → difference_of s t ≡ Some p → q ≤ p → same_from s t q ≡ false
  accepted-apart-from p q found h = apart_from s t (accepted-sorted s n a) (accepted-sorted t m b) p q found h
