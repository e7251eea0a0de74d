-- Two edges that are apart: where the correction of one is due, that of the other is not. The second edge's phase grows
-- with the fraction of a cycle, so that testing it at four fractions suffices. Assumes nothing.
use mathlib.Core.Path.{◌≡◌, refl, sym, subst, ◌∙◌}
use mathlib.Core.Bool.{Bool, true, false, true≢false, not, cond, ◌&&◌, ◌||◌}
use lib.Dec.{T}
use lib.Ieee.{Float, binary64, of_bits, add, mul, lt, le, fits}
use lib.Ieee.Fits.{and_i, and_l, and_r, add-fits}
use Rattle.floats.specs.Range.{within}
use Rattle.floats.specs.Double.{◌⊕◌, ◌⊖◌, ◌⊗◌, zero64, half, one, four, eight}
use Rattle.floats.proofs.Order.{fle_trans, lt-le, not-le-le, not-lt-le}
use Rattle.polyblep.specs.declared.Side.TheVariants.{Away}
use Rattle.polyblep.specs.Polyblep.{side_of, fract_of, blep_of, naive_triangle_of, blamp_of, rounded_blamp_of}
use Rattle.polyblep.proofs.Clear.{InUnit, unit_finite, side_away, below_one, from_one, four_pass, clear-between, half_grows, duty_grows}
use Rattle.high_notes.specs.Inner.{least, most, quarter, three_quarters, is_second, from_nearer_corner, with_nearer_corner, OneEdge, HalfApart, is_apart}

-- ---- the nearer correction alone
pub nearer_is : (naive : Float) (correction : Float → Float) (second : Bool) (u v t c added taken : Float) → t ≡ cond second v u → c ≡ correction t → added ≡ cond second zero64 c → taken ≡ cond second c zero64 → (second ≡ true → correction u ≡ zero64) → (second ≡ false → correction v ≡ zero64)
    → naive ⊕ added ⊖ taken ≡ naive ⊕ correction u ⊖ correction v
nearer_is naive correction true u v t c added taken chosen made e g h k = rw (e, g, made, chosen, h refl) refl
nearer_is naive correction false u v t c added taken chosen made e g h k = rw (e, g, made, chosen, k refl) refl

pub no_blep : (t dt : Float) → side_of t dt ≡ Away → blep_of t dt ≡ zero64
unfolding blep_of
no_blep t dt e = rw e refl

pub no_blamp : (t dt : Float) → side_of t dt ≡ Away → eight ⊗ blamp_of t dt ≡ zero64
unfolding blamp_of
no_blamp t dt e = rw e (unfold of_bits in unfold mul in refl)

pub no_rounded_blamp : (t dt : Float) → side_of t dt ≡ Away → four ⊗ rounded_blamp_of t dt ≡ zero64
unfolding rounded_blamp_of
no_rounded_blamp t dt e = rw e (unfold of_bits in unfold mul in refl)

-- a triangle with the correction of its nearer corner alone has both: the other is 0
pub corner_apart : (correction : Float → Float) (u dt : Float) → T (within zero64 one u) → HalfApart dt → ((t : Float) → side_of t dt ≡ Away → correction t ≡ zero64)
    → with_nearer_corner u (correction (from_nearer_corner u)) ≡ naive_triangle_of u ⊕ correction u ⊖ correction (fract_of (u ⊕ half))
corner_apart correction u dt h apart none =
    let (first, other) = apart u h in
    nearer_is (naive_triangle_of u) correction (is_second quarter three_quarters u) u (fract_of (u ⊕ half)) _ _ _ _ refl refl refl refl (λ e. none u (first e)) (λ e. none (fract_of (u ⊕ half)) (other e))

-- ---- the test
either_l : (a b : Bool) → T a → (a || b) ≡ true
either_l true b t = refl
either_l false b t = elim t [ ]

either_r : (a b : Bool) → T b → (a || b) ≡ true
either_r true b t = refl
either_r false true t = refl
either_r false false t = elim t [ ]

module _ (other : Float → Float) (grows : (x y : Float) → InUnit x → InUnit y → T (le x y) → T (le (other x) (other y))) (held : (x : Float) → T (fits binary64 (other x))) (from to dt : Float)
    (e : is_apart from to (other zero64) (other from) (other to) (other one) dt ≡ true)
  where
    abbrev Tests : Type 0
    Tests = T (within zero64 one from) × T (within zero64 one to) × T (le dt from && le to (one ⊖ dt)) × T (below_one (other zero64) (other from) dt && from_one (other to) (other one) dt)

    tests : Tests
    tests = four_pass (within zero64 one from) (within zero64 one to) (le dt from && le to (one ⊖ dt)) (below_one (other zero64) (other from) dt && from_one (other to) (other one) dt) (subst T (sym e) tt)

    unit_ends : InUnit zero64 × InUnit one
    unit_ends = (unfold of_bits in unfold le in tt, unfold of_bits in unfold le in tt)

    inside : (u : Float) → is_second from to u ≡ true → side_of u dt ≡ Away
    inside u s =
        let t : T (le from u && lt u to) = subst T (sym s) tt in
        side_away u dt (fle_trans dt from u (and_l (le dt from) (le to (one ⊖ dt)) tests.2) (and_l (le from u) (lt u to) t))
        (fle_trans u to (one ⊖ dt) (lt-le u to (and_r (le from u) (lt u to) t)) (and_r (le dt from) (le to (one ⊖ dt)) tests.2))

    outside : (u : Float) → InUnit u → (a b : Bool) → le from u ≡ a → lt u to ≡ b → (a && b) ≡ false → side_of (fract_of (other u)) dt ≡ Away
    outside u h true true p q s = absurd (true≢false s)
    outside u h true false p q s =
        let up : T (le to u) = not-lt-le u to (unit_finite u h) (unit_finite to tests.1) (subst (λ (t : Bool). T (not t)) (sym q) tt) in
        clear-between (other to) (other one) dt (other u) (held u) (grows to u tests.1 h up) (grows u one h unit_ends.1 (and_r (le zero64 u) (le u one) h))
        (either_r (below_one (other to) (other one) dt) (from_one (other to) (other one) dt) (and_r (below_one (other zero64) (other from) dt) (from_one (other to) (other one) dt) tests.3))
    outside u h false b p q s =
        let down : T (le u from) = not-le-le from u (unit_finite from tests.0) (unit_finite u h) (subst (λ (t : Bool). T (not t)) (sym p) tt) in
        clear-between (other zero64) (other from) dt (other u) (held u) (grows zero64 u unit_ends.0 h (and_l (le zero64 u) (le u one) h)) (grows u from h tests.0 down)
        (either_l (below_one (other zero64) (other from) dt) (from_one (other zero64) (other from) dt) (and_l (below_one (other zero64) (other from) dt) (from_one (other to) (other one) dt) tests.3))

    pub apart-is : OneEdge other dt from to
    apart-is u h = (inside u, outside u h (le from u) (lt u to) refl refl)

-- at the half
pub half-apart : (dt : Float) (r : Bool) → r ≡ is_apart quarter three_quarters half three_quarters (of_bits binary64 0x3ff4_0000_0000_0000) (of_bits binary64 0x3ff8_0000_0000_0000) dt → r ≡ true → HalfApart dt
half-apart dt r is e = apart-is (λ (t : Float). t ⊕ half) half_grows (λ (x : Float). add-fits binary64 x half) quarter three_quarters dt (rw (sums.0, sums.1, sums.2, sums.3) (sym is ∙ e))
  where
    sums : (zero64 ⊕ half ≡ half) × (quarter ⊕ half ≡ three_quarters) × (three_quarters ⊕ half ≡ of_bits binary64 0x3ff4_0000_0000_0000) × (one ⊕ half ≡ of_bits binary64 0x3ff8_0000_0000_0000)
    sums = (unfold of_bits in unfold add in refl, unfold of_bits in unfold add in refl, unfold of_bits in unfold add in refl, unfold of_bits in unfold add in refl)

-- at a duty
pub duty_apart : (duty dt : Float) (r : Bool) → T (within least most duty) → r ≡ is_apart (duty ⊗ half) (half ⊕ duty ⊗ half) (zero64 ⊖ duty ⊕ one) (duty ⊗ half ⊖ duty ⊕ one) (half ⊕ duty ⊗ half ⊖ duty ⊕ one) (one ⊖ duty ⊕ one) dt → r ≡ true
    → OneEdge (λ (t : Float). t ⊖ duty ⊕ one) dt (duty ⊗ half) (half ⊕ duty ⊗ half)
duty_apart duty dt r d is e =
    let unit : InUnit duty = and_i (le zero64 duty) (le duty one) (fle_trans zero64 least duty (unfold of_bits in unfold le in tt) (and_l (le least duty) (le duty most) d)) (fle_trans duty most one (and_r (le least duty) (le duty most) d) (unfold of_bits in unfold le in tt)) in
    apart-is (λ (t : Float). t ⊖ duty ⊕ one) (duty_grows duty unit) (λ (x : Float). add-fits binary64 (x ⊖ duty) one) (duty ⊗ half) (half ⊕ duty ⊗ half) dt (sym is ∙ e)
