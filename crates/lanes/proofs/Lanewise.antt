-- The calls, lane by lane: what holds of all four lanes holds of each, and the other way round. Assumes nothing.
use Rattle.std.specs.Prelude.{Err, Ok}
use Rattle.std.proofs.Common.{◌≡◌, ℕ, zero, suc, ◌<◌, Bool, true, false, not, ◌&&◌, T, List, refl, ap, ◌∙◌, arith}
use lib.Dec.{not_T}
use lib.Ieee.{Float}
use lib.Ieee.Fits.{and_i, and_l, and_r}
use lib.Ieee.Scale.{finite}
use Rattle.floats.specs.Double.{zero64, eight}
use Rattle.domain.specs.Domain.{is_phase, is_duty}
use Rattle.answers.specs.Order.{unless}
use Rattle.answers.specs.declared.Refusal.TheVariants.{Argument}
use Rattle.polyblep.specs.Polyblep.{saw_by, square_by, pulse_by, triangle_by}
use Rattle.polyblep.proofs.Clear.{four_pass}
use Rattle.lanes.specs.declared.Lanes.{Lanes}
use Rattle.lanes.specs.Lanes.{lane, four_of, blep_lane, blamp_lane}
use Rattle.lanes.specs.Calls.{all_four, are_phases, are_finite, are_taken, spread, lanes_or}
use Rattle.lanes.specs.LaneByLane.{EachLane, is_taken, LaneByLane}

-- ---- four lanes, and one of them
by_four : (P : ℕ → Type 0) → P 0 → P 1 → P 2 → P 3 → (i : ℕ) → i < 4 → P i
by_four P a b c d zero l = a
by_four P a b c d (suc zero) l = b
by_four P a b c d (suc (suc zero)) l = c
by_four P a b c d (suc (suc (suc zero))) l = d
by_four P a b c d (suc (suc (suc (suc i)))) l = absurd (omega arith)

pub all_of : (f : ℕ → Bool) → ((i : ℕ) → i < 4 → T (f i)) → T (all_four f)
all_of f h = four-in (f 0) (f 1) (f 2) (f 3) (h 0 (omega arith)) (h 1 (omega arith)) (h 2 (omega arith)) (h 3 (omega arith))
  where
    four-in : (a b c d : Bool) → T a → T b → T c → T d → T (a && b && c && d)
    four-in true true true true p q r s = tt
    four-in false b c d p q r s = elim p [ ]
    four-in true false c d p q r s = elim q [ ]
    four-in true true false d p q r s = elim r [ ]
    four-in true true true false p q r s = elim s [ ]

pub each_of : (f : ℕ → Bool) → T (all_four f) → (i : ℕ) → i < 4 → T (f i)
each_of f t =
    let (a, b, c, d) = four_pass (f 0) (f 1) (f 2) (f 3) t in
    by_four (λ (i : ℕ). T (f i)) a b c d

-- ---- a call whose test passes exactly where every lane is inside
pub is-done : (ok : Bool) (kept values : List Float) → T ok → lanes_or (unless ok Argument) kept values ≡ record { answer = Ok 0; values = values }
is-done true kept values t = refl
is-done false kept values t = elim t [ ]

is-refused : (ok : Bool) (kept values : List Float) → T (not ok) → lanes_or (unless ok Argument) kept values ≡ record { answer = Err Argument; values = kept }
is-refused false kept values t = refl
is-refused true kept values t = elim t [ ]

clash : (b : Bool) → T (not b) → T b → ⊥
clash true n t = n
clash false n t = t

lane-is : (f : ℕ → Float) (i : ℕ) → i < 4 → lane (four_of f) i ≡ f i
lane-is f = by_four (λ (i : ℕ). lane (four_of f) i ≡ f i) refl refl refl refl

by_lane : (inside : ℕ → Bool) (value : ℕ → Float) (kept : List Float) (ok : Bool) → (((i : ℕ) → i < 4 → T (inside i)) → T ok) → (T ok → (i : ℕ) → i < 4 → T (inside i))
    → EachLane inside value kept (lanes_or (unless ok Argument) kept (four_of value))
by_lane inside value kept ok all one =
    record {
      done = λ (h : (i : ℕ) → i < 4 → T (inside i)).
          let e = is-done ok kept (four_of value) (all h) in
          (ap (λ (r : Lanes). r.answer) e, λ (i : ℕ) (l : i < 4). ap (λ (r : Lanes). lane r.values i) e ∙ lane-is value i l);
      refused = λ (i : ℕ) (l : i < 4) (n : T (not (inside i))). is-refused ok kept (four_of value) (not_T ok (λ (t : T ok). clash (inside i) n (one t i l)));
    }

-- ---- what an apply call takes
module _ (x p : List Float) (dt : Float) where
  abbrev taken : ℕ → Bool
  taken i = is_taken (lane p i) dt (lane x i)

  all_taken : ((i : ℕ) → i < 4 → T (taken i)) → T (are_taken x p dt)
  all_taken h =
      and_i (are_phases p (spread dt)) (are_finite x) (all_of (λ (i : ℕ). is_phase (lane p i) dt) (λ (i : ℕ) (l : i < 4). and_l (is_phase (lane p i) dt) (finite (lane x i)) (h i l)))
      (all_of (λ (i : ℕ). finite (lane x i)) (λ (i : ℕ) (l : i < 4). and_r (is_phase (lane p i) dt) (finite (lane x i)) (h i l)))

  each-taken : T (are_taken x p dt) → (i : ℕ) → i < 4 → T (taken i)
  each-taken t i l =
      and_i (is_phase (lane p i) dt) (finite (lane x i)) (each_of (λ (j : ℕ). is_phase (lane p j) dt) (and_l (are_phases p (spread dt)) (are_finite x) t) i l)
      (each_of (λ (j : ℕ). finite (lane x j)) (and_r (are_phases p (spread dt)) (are_finite x) t) i l)

abbrev phased : List Float → List Float → ℕ → Bool
phased t dt i = is_phase (lane t i) (lane dt i)

pub lane_by_lane : LaneByLane
lane_by_lane =
    record {
      blep = λ (t dt : List Float). by_lane (phased t dt) (λ (i : ℕ). blep_lane (lane t i) (lane dt i)) (spread zero64) (are_phases t dt) (all_of (phased t dt)) (each_of (phased t dt));
      blamp = λ (t dt : List Float). by_lane (phased t dt) (λ (i : ℕ). blamp_lane (lane t i) (lane dt i)) (spread zero64) (are_phases t dt) (all_of (phased t dt)) (each_of (phased t dt));
      saw = λ (x p : List Float) (dt : Float). by_lane (taken x p dt) (λ (i : ℕ). saw_by blep_lane (lane x i) (lane p i) dt) x (are_taken x p dt) (all_taken x p dt) (each-taken x p dt);
      square = λ (x p : List Float) (dt : Float). by_lane (taken x p dt) (λ (i : ℕ). square_by blep_lane (lane x i) (lane p i) dt) x (are_taken x p dt) (all_taken x p dt) (each-taken x p dt);
      pulse = λ (x p : List Float) (dt duty : Float).
          by_lane (λ (i : ℕ). taken x p dt i && is_duty duty) (λ (i : ℕ). pulse_by blep_lane (lane x i) (lane p i) dt duty) x (are_taken x p dt && is_duty duty)
          (λ (h : (i : ℕ) → i < 4 → T (taken x p dt i && is_duty duty)). and_i (are_taken x p dt) (is_duty duty) (all_taken x p dt (λ (i : ℕ) (l : i < 4). and_l (taken x p dt i) (is_duty duty) (h i l))) (and_r (taken x p dt 0) (is_duty duty) (h 0 (omega arith))))
          (λ (t : T (are_taken x p dt && is_duty duty)) (i : ℕ) (l : i < 4). and_i (taken x p dt i) (is_duty duty) (each-taken x p dt (and_l (are_taken x p dt) (is_duty duty) t) i l) (and_r (are_taken x p dt) (is_duty duty) t));
      triangle = λ (x p : List Float) (dt : Float). by_lane (taken x p dt) (λ (i : ℕ). triangle_by eight blamp_lane (lane x i) (lane p i) dt) x (are_taken x p dt) (all_taken x p dt) (each-taken x p dt);
    }
