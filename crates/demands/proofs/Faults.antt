-- A score is faulty exactly as 01's rows say: by its length, or at the first record that is not right, by the first of
-- 2, 3, 4, 5 that holds of the record. Assumes nothing.
use Rattle.std.specs.Prelude.{Err, Ok}
use mathlib.Core.Path.{◌≡◌, refl, subst}
use mathlib.Core.Bool.{Bool, true, false}
use mathlib.Core.List.{List, [], ◌++◌}
use mathlib.Core.Logic.{⊎_elim}
use Prim.Native.Nat.{ℕ, zero, suc, ◌+◌, ◌≤◌, ◌<◌}
use native.Mathlib.Nat.{eq-or-lt_of_le, zero-add}
use native.Mathlib.Omega.{arith}
use Rattle.answers.specs.Order.{unless}
use Rattle.answers.specs.declared.ScoreFault.{ScoreFault}
use Rattle.answers.specs.declared.ScoreFault.TheVariants.{Length, Mark, Kind, Field, Order}
use Rattle.answers.proofs.Order.{passed, Leads, leads_first, leads_append, leads_after, leads_parts, leads_unless}
use Rattle.score.specs.Record.{count_of}
use Rattle.score.specs.Score.{mark_right, kind_right, fields_right, all_right, in_order, faults_at, faults_from, faults_of, verdict_of}
use Rattle.score.proofs.Parted.{clash}
use Rattle.score.proofs.Codec.{both, right_mark, right_kind, right_fields}
use Rattle.score.proofs.Verdicts.{none_fine, right-none, faulty_faults}
use Rattle.demands.specs.Demand1.{is_sized, Reaches, FaultWhen, FaultsExactly}

-- ---- the first fault of a record
module _ (s : List ℕ) (i : ℕ) where
  -- P holds of the first fault where P holds of each fault under the condition that makes it the first
  at_first : (P : ScoreFault → Type 0) → (mark_right s i ≡ false → P (Mark i)) → (mark_right s i ≡ true → kind_right s i ≡ false → P (Kind i))
      → (mark_right s i ≡ true → kind_right s i ≡ true → fields_right s i ≡ false → P (Field i)) → (mark_right s i ≡ true → kind_right s i ≡ true → fields_right s i ≡ true → in_order s i ≡ false → P (Order i))
      → (f : ScoreFault) → Leads f (faults_at s i) → P f
  unfolding faults_at
  at_first P two three four five f h = go (mark_right s i) refl (kind_right s i) refl (fields_right s i) refl (in_order s i) refl h
    where
      go : (a : Bool) → mark_right s i ≡ a → (b : Bool) → kind_right s i ≡ b → (c : Bool) → fields_right s i ≡ c → (d : Bool) → in_order s i ≡ d
          → Leads f (unless a (Mark i) ++ unless b (Kind i) ++ unless c (Field i) ++ unless d (Order i)) → P f
      go false e b p c q d r h = subst P h (two e)
      go true e false p c q d r h = subst P h (three e p)
      go true e true p false q d r h = subst P h (four e p q)
      go true e true p true q false r h = subst P h (five e p q r)
      go true e true p true q true r h = absurd h

  right_alone : faults_at s i ≡ [] → (all_right s i ≡ true) × (in_order s i ≡ true)
  right_alone e = let f = none_fine s i e in (rw (right_mark s i f.right, right_kind s i f.right, right_fields s i f.right) refl, f.ordered)

-- ---- lists one after the other: `from k i` is `each i`, `each (i + 1)` and so on, k of them
module _ {A : Type 0} (each : ℕ → List A) (from : ℕ → ℕ → List A) (ends : (i : ℕ) → from zero i ≡ []) (goes : (k i : ℕ) → from (suc k) i ≡ each i ++ from k (suc i)) where
  -- P holds of the first element where P holds of the first of each list before which all are empty
  pub from_first : (P : A → Type 0) (k i : ℕ) → ((j : ℕ) → i ≤ j → j < i + k → ((l : ℕ) → i ≤ l → l < j → each l ≡ []) → (f : A) → Leads f (each j) → P f) → (f : A) → Leads f (from k i) → P f
  from_first P zero i step f h = absurd (subst (Leads f) (ends i) h)
  from_first P (suc k) i step f h =
      ⊎_elim (λ l. step i (omega arith) (omega arith) (λ m a b. absurd (clash (omega arith))) f l)
      (λ l. from_first P k (suc i) (λ j a b c. step j (omega arith) (omega arith) (λ m x y. ⊎_elim (λ q. rw (← q) l.0) (λ z. c m z y) (eq-or-lt_of_le x))) f l.1)
      (leads_parts f (each i) (from k (suc i)) (subst (Leads f) (goes k i) h))

  pub from_leads : (f : A) (d k i : ℕ) → d < k → ((j : ℕ) → i ≤ j → j < i + d → each j ≡ []) → Leads f (each (i + d)) → Leads f (from k i)
  from_leads f zero (suc k) i h b l = let e : i + 0 ≡ i = omega arith in rw (goes k i) (leads_append f (each i) (from k (suc i)) (rw e at l))
  from_leads f (suc d) (suc k) i h b l =
      let e : i + suc d ≡ suc i + d = omega arith in
      rw (goes k i) (leads_after f (each i) (from k (suc i)) (b i (omega arith) (omega arith)) (from_leads f d k (suc i) (omega arith) (λ j x y. b j (omega arith) (omega arith)) (rw e at l)))
  from_leads f d zero i h b l = absurd (clash (omega arith))

-- ---- the first fault of a score
module _ (s : List ℕ) where
  only_when : (f : ScoreFault) → Leads f (faults_of s) → FaultWhen s f
  unfolding faults_of faults_from
  only_when f h =
      ⊎_elim (λ l. let u = leads_unless f (is_sized s) Length l in subst (FaultWhen s) u.1 u.0)
      (λ l. from_first (faults_at s) (faults_from s) (λ i. refl) (λ k i. refl) (FaultWhen s) (count_of s) 0
      (λ j a b c. (
      let r : Reaches s j = record { sized = passed (is_sized s) Length l.0; there = omega arith; before = λ m x. right_alone s m (c m (omega arith) x) } in
      at_first s j (FaultWhen s) (λ e. (r, e)) (λ e p. (r, e, p)) (λ e p q. (r, e, p, q)) (λ e p q o. (r, rw (e, p, q) refl, o)))) f l.1)
      (leads_parts f (unless (is_sized s) Length) (faults_from s (count_of s) 0) h)

  reached : (i : ℕ) → Reaches s i → (f : ScoreFault) → Leads f (faults_at s i) → verdict_of s ≡ Err f
  unfolding faults_of faults_from verdict_of
  reached i r f h =
      let here : Leads f (faults_at s (0 + i)) = rw (zero-add i) h in
      leads_first f (faults_of s) Err (Ok (count_of s))
      (rw r.sized (from_leads (faults_at s) (faults_from s) (λ i. refl) (λ k i. refl) f i (count_of s) 0 r.there (λ j a b. (let x = r.before j (omega arith) in right-none s j x.0 x.1)) here))

  whenever : (f : ScoreFault) → FaultWhen s f → verdict_of s ≡ Err f
  unfolding faults_at faults_of verdict_of
  whenever Length h = rw h refl
  whenever (Mark i) h = reached i h.0 (Mark i) (rw h.1 refl)
  whenever (Kind i) h = reached i h.0 (Kind i) (rw (h.1, h.2) refl)
  whenever (Field i) h = reached i h.0 (Field i) (rw (h.1, h.2, h.3) refl)
  whenever (Order i) h =
      let a = both _ (fields_right s i) h.1 in
      let b = both (mark_right s i) (kind_right s i) a.0 in
      reached i h.0 (Order i) (rw (b.0, b.1, a.1, h.2) refl)

  pub faults_exactly : FaultsExactly s
  faults_exactly = record { faulty = λ f. record { only_when = λ e. only_when f (faulty_faults s f e); whenever = whenever f } }
