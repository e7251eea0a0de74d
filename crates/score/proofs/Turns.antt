-- One turn of the check, said of the records that are left to judge: it goes on, stops, or ends. Assumes nothing.
use Rattle.std.specs.Prelude.{Err, Ok, Result}
use mathlib.Core.Path.{◌≡◌, refl, sym, ◌∙◌}
use mathlib.Core.Bool.{Bool, true, false, ◌&&◌}
use mathlib.Core.List.{List, ◌++◌}
use Prim.Native.Nat.{ℕ, suc, ◌+◌, ◌-◌, ◌%◌, ◌<◌, ◌≤◌}
use native.Mathlib.Nat.{sub-zero}
use native.Mathlib.Numerals.{add-one}
use native.Mathlib.Omega.{arith}
use lib.Dec.{leb, eqb}
use lib.ListN.{length}
use borrow.Author.Tests.{le-leb, leb-true, eq-eqb, eqb-true}
use Rattle.answers.specs.Order.{unless, first_of}
use Rattle.answers.specs.declared.ScoreFault.{ScoreFault}
use Rattle.answers.specs.declared.ScoreFault.TheVariants.{Length}
use Rattle.answers.proofs.Order.{first_append, leads_first}
use Rattle.score.specs.Record.{count_of, position_at}
use Rattle.score.specs.Score.{in_order, faults_at, faults_from, faults_of, verdict_of}
use Rattle.score.proofs.Verdicts.{accepted-none, faulty_leads}

-- the verdict of the faults from record i on
abbrev pub verdict_from : List ℕ → ℕ → ℕ → Result ℕ ScoreFault
verdict_from s n i = first_of (faults_from s (n - i) i) Err (Ok n)

-- the length is judged first
pub judge-length : (s : List ℕ) → (length s % 10 ≡ 0 → count_of s ≤ 4096 → ⊥) → verdict_of s ≡ Err Length
unfolding faults_of verdict_of
judge-length s h = go (eqb (length s % 10) 0) refl (leb (count_of s) 4096) refl
  where
    go : (a : Bool) → eqb (length s % 10) 0 ≡ a → (b : Bool) → leb (count_of s) 4096 ≡ b → first_of {R = Result ℕ ScoreFault} (unless (a && b) Length ++ faults_from s (count_of s) 0) Err (Ok (count_of s)) ≡ Err Length
    go true e true f = absurd (h (eqb-true _ _ e) (leb-true _ _ f))
    go true e false f = refl
    go false e b f = refl

pub judge-first : (s : List ℕ) (n : ℕ) → n ≡ count_of s → length s % 10 ≡ 0 → n ≤ 4096 → verdict_of s ≡ verdict_from s n 0
unfolding faults_of verdict_of
judge-first s n e whole few =
    let l : count_of s ≤ 4096 = omega arith in
    rw (e, sub-zero, eq-eqb _ _ whole, le-leb _ _ l)

module _ (s : List ℕ) (n i : ℕ) (h : i < n) where
  next : verdict_from s n i ≡ first_of (faults_at s i) Err (verdict_from s n (i + 1))
  unfolding faults_from
  next =
      let left : n - i ≡ suc (n - (i + 1)) = omega arith in
      rw (left, add-one i) (first_append (faults_at s i) (faults_from s (n - suc i) (suc i)) Err (Ok n))

  pub judge_on : (m : Unit {0}) → first_of {R = Result (Unit {0}) ScoreFault} (faults_at s i) Err (Ok tt) ≡ Ok m → verdict_from s n i ≡ verdict_from s n (i + 1)
  judge_on m e = next ∙ rw (accepted-none (faults_at s i) tt m e).0 refl

  pub judge_stop : (f : ScoreFault) → first_of {R = Result (Unit {0}) ScoreFault} (faults_at s i) Err (Ok tt) ≡ Err f → verdict_from s n i ≡ Err f
  judge_stop f e = next ∙ leads_first f (faults_at s i) Err (verdict_from s n (i + 1)) (faulty_leads (faults_at s i) tt f e)

pub judge_end : (s : List ℕ) (n i : ℕ) → i ≡ n → verdict_from s n i ≡ Ok n
unfolding faults_from
judge_end s n i h =
    let left : n - i ≡ 0 = omega arith in
    rw left refl

-- record 0 is in order, and each later record is compared with the one before it
pub order-first : (s : List ℕ) → in_order s 0 ≡ leb 0 (position_at s 0)
unfolding in_order
order-first s = sym (le-leb 0 (position_at s 0) (omega arith))

pub order-next : (s : List ℕ) (i : ℕ) → in_order s (i + 1) ≡ leb (position_at s i) (position_at s (i + 1))
unfolding in_order
order-next s i = rw (add-one i)
