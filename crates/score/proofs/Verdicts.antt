-- What is true of an accepted score: its length, and that every record passes its tests and is in order; and that no
-- other test exists. Assumes nothing.
use Rattle.std.specs.Prelude.{Err, Ok, Result, IsErrAnd, MatchResult}
use Rattle.std.proofs.lemmas.Result.{err_from_is_err_and}
use mathlib.Core.Path.{◌≡◌, refl, sym, ap, ◌∙◌}
use mathlib.Core.Bool.{true, ◌&&◌}
use mathlib.Core.List.{List, [], ◌∷◌, ◌++◌, map}
use mathlib.Core.Logic.{⊎_elim}
use Prim.Native.Nat.{ℕ, zero, suc, ◌+◌, ◌*◌, ◌%◌, ◌≤◌, ◌<◌}
use native.Mathlib.Nat.{eq-or-lt_of_le}
use native.Mathlib.Omega.{arith}
use lib.Dec.{leb, eqb}
use lib.ListN.{length}
use borrow.Author.Tests.{le-leb, leb-true, eq-eqb, eqb-true}
use Rattle.answers.specs.Order.{unless, first_of}
use Rattle.answers.specs.declared.ScoreFault.{ScoreFault}
use Rattle.answers.specs.declared.ScoreFault.TheVariants.{Length, Mark, Kind, Field, Order}
use Rattle.answers.proofs.Order.{first-map, Leads, leads_first, passed, none_both}
use Rattle.score.specs.Record.{count_of}
use Rattle.score.specs.Score.{mark_right, kind_right, fields_right, all_right, in_order, faults_at, faults_from, faults_of, verdict_of}
use Rattle.score.proofs.Codec.{both, Right, tests_right, right_mark, right_kind, right_fields}

-- an accepting verdict has an empty list of faults, and a faulty one has its fault first in the list
module _ {A : Type 0} where
  pub accepted-none : (xs : List ScoreFault) (k n : A) → first_of {R = Result A ScoreFault} xs Err (Ok k) ≡ Ok n → (xs ≡ []) × (k ≡ n)
  accepted-none [] k n h = (refl, cc)
  accepted-none (x ∷ xs) k n h = cc

  pub faulty_leads : (xs : List ScoreFault) (k : A) (f : ScoreFault) → first_of {R = Result A ScoreFault} xs Err (Ok k) ≡ Err f → Leads f xs
  faulty_leads [] k f h = cc
  faulty_leads (x ∷ xs) k f h = cc

-- ---- one record
pub record Fine (s : List ℕ) (i : ℕ) : Type 0 where
  pub right : Right s i
  pub ordered : in_order s i ≡ true

pub none_fine : (s : List ℕ) (i : ℕ) → faults_at s i ≡ [] → Fine s i
unfolding faults_at
none_fine s i h =
    let mark = unless (mark_right s i) (Mark i) in
    let kind = unless (kind_right s i) (Kind i) in
    let fields = unless (fields_right s i) (Field i) in
    let c = none_both (mark ++ kind ++ fields) (unless (in_order s i) (Order i)) h in
    let b = none_both (mark ++ kind) fields c.0 in
    let a = none_both mark kind b.0 in
    record { right = tests_right s i (passed _ _ a.0) (passed _ _ a.1) (passed _ _ b.1); ordered = passed _ _ c.1 }

pub fine_none : (s : List ℕ) (i : ℕ) → Fine s i → faults_at s i ≡ []
unfolding faults_at
fine_none s i f = rw (right_mark s i f.right, right_kind s i f.right, right_fields s i f.right, f.ordered)

pub right-none : (s : List ℕ) (i : ℕ) → all_right s i ≡ true → in_order s i ≡ true → faults_at s i ≡ []
unfolding faults_at
right-none s i h o =
    let a = both (mark_right s i && kind_right s i) (fields_right s i) h in
    let b = both (mark_right s i) (kind_right s i) a.0 in
    rw (b.0, b.1, a.1, o)

-- ---- k records from the i-th on
from_fine : (s : List ℕ) (k i : ℕ) → faults_from s k i ≡ [] → (j : ℕ) → i ≤ j → j < i + k → Fine s j
unfolding faults_from
from_fine s zero i h j a b = absurd (omega arith)
from_fine s (suc k) i h j a b =
    let n = none_both (faults_at s i) (faults_from s k (suc i)) h in
    ⊎_elim (λ q. rw (← q) (none_fine s i n.0)) (λ l. from_fine s k (suc i) n.1 j l (omega arith)) (eq-or-lt_of_le a)

fine_from : (s : List ℕ) (k i : ℕ) → ((j : ℕ) → i ≤ j → j < i + k → Fine s j) → faults_from s k i ≡ []
unfolding faults_from
fine_from s zero i f = refl
fine_from s (suc k) i f = rw (fine_none s i (f i (omega arith) (omega arith))) (fine_from s k (suc i) (λ j a b. f j (omega arith) (omega arith)))

-- ---- a score
pub record AllFine (s : List ℕ) (n : ℕ) : Type 0 where
  pub size : length s ≡ n * 10
  pub few : n ≤ 4096
  pub fine : (i : ℕ) → i < n → Fine s i

pub accepted_all : (s : List ℕ) (n : ℕ) → verdict_of s ≡ Ok n → AllFine s n
unfolding verdict_of faults_of
accepted_all s n h =
    let v = accepted-none (faults_of s) (count_of s) n h in
    let sized = eqb (length s % 10) 0 && leb (count_of s) 4096 in
    let a = none_both (unless sized Length) (faults_from s (count_of s) 0) v.0 in
    let b = both (eqb (length s % 10) 0) (leb (count_of s) 4096) (passed sized Length a.0) in
    let whole : length s % 10 ≡ 0 = eqb-true _ _ b.0 in
    let few : count_of s ≤ 4096 = leb-true _ _ b.1 in
    let e : count_of s ≡ n = v.1 in
    record { size = omega arith; few = omega arith; fine = λ i l. from_fine s (count_of s) 0 a.1 i (omega arith) (omega arith) }

-- a score is accepted exactly where it has no fault
pub all_none : (s : List ℕ) (n : ℕ) → AllFine s n → faults_of s ≡ []
unfolding faults_of
all_none s n f =
    let size : length s ≡ n * 10 = f.size in
    let few : n ≤ 4096 = f.few in
    let whole : length s % 10 ≡ 0 = omega arith in
    let count : count_of s ≡ n = omega arith in
    rw (eq-eqb _ _ whole, count, le-leb _ _ few) (fine_from s n 0 (λ j a b. f.fine j (omega arith)))

pub all_accepted : (s : List ℕ) (n : ℕ) → AllFine s n → verdict_of s ≡ Ok n
unfolding verdict_of
all_accepted s n f =
    let size : length s ≡ n * 10 = f.size in
    let count : count_of s ≡ n = omega arith in
    rw (all_none s n f, count) refl

pub accepted_faults : (s : List ℕ) (n : ℕ) → verdict_of s ≡ Ok n → faults_of s ≡ []
unfolding verdict_of
accepted_faults s n h = (accepted-none (faults_of s) (count_of s) n h).0

pub none-accepted : (s : List ℕ) → faults_of s ≡ [] → verdict_of s ≡ Ok (count_of s)
unfolding verdict_of
none-accepted s e = rw e refl

pub faulty_faults : (s : List ℕ) (f : ScoreFault) → verdict_of s ≡ Err f → Leads f (faults_of s)
unfolding verdict_of
faulty_faults s f h = faulty_leads (faults_of s) (count_of s) f h

-- ---- what the first fault decides, the verdict decides
pub accepted-first : (s : List ℕ) (n : ℕ) → verdict_of s ≡ Ok n → {R : Type 0} (f : ScoreFault → R) (d : R) → first_of (faults_of s) f d ≡ d
accepted-first s n h f d = rw (accepted_faults s n h) refl

pub faulty-first : (s : List ℕ) (fault : ScoreFault) → verdict_of s ≡ Err fault → {R : Type 0} (f : ScoreFault → R) (d : R) → first_of (faults_of s) f d ≡ f fault
faulty-first s fault h f d = leads_first fault (faults_of s) f d (faulty_faults s fault h)

-- `judge(score).map_err(f)?`: where it goes on there is no fault, and where it ends the first one is refused
module _ {W : Type 0} (f : ScoreFault → W) (s : List ℕ) (m : Result ℕ W) where
  abbrev pub Mapped : Result ℕ ScoreFault → Type 0
  Mapped v = MatchResult v (λ n. m ≡ Ok n) (λ fault. IsErrAnd m (λ w. w ≡ f fault))

  pub judged_on : (v : Result ℕ ScoreFault) → v ≡ verdict_of s → Mapped v → (n : ℕ) → m ≡ Ok n → {R : Type 0} (refused : W → R) (rest : R) → first_of (map f (faults_of s)) refused rest ≡ rest
  judged_on (Ok k) is c n e refused rest = first-map f (faults_of s) refused rest ∙ accepted-first s k (sym is) (λ x. refused (f x)) rest
  judged_on (Err fault) is c n e refused rest = let w = err_from_is_err_and m c in absurd (cc (w.1))

  pub judged_out : (v : Result ℕ ScoreFault) → v ≡ verdict_of s → Mapped v → (w : W) → m ≡ Err w → {R : Type 0} (refused : W → R) (rest : R) → first_of (map f (faults_of s)) refused rest ≡ refused w
  judged_out (Ok k) is c w e refused rest = absurd (cc)
  judged_out (Err fault) is c w e refused rest =
      let p = err_from_is_err_and m c in
      let q : f fault ≡ w = cc (p.1, p.2) in
      first-map f (faults_of s) refused rest ∙ faulty-first s fault (sym is) (λ x. refused (f x)) rest ∙ ap refused q
