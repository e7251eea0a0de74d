-- Within one cycle the fraction of the cycle is (phase - base) * INV_TAU. Rounded subtraction and multiplication are
-- monotone, so testing the two ends of a segment suffices. Where no correction is due, a waveform is a line. Assumes
-- nothing.
use mathlib.Core.Path.{◌≡◌, refl, sym, subst, ap, ◌∙◌}
use mathlib.Core.Bool.{Bool, true, false, cond, ◌&&◌}
use lib.Dec.{T, not_T}
use lib.Ieee.{Float, binary64, of_bits, rem, add, sub, mul, neg, lt, le, fits}
use lib.Ieee.Bits.{is_true, is_false}
use lib.Ieee.Fits.{and_i, and_l, and_r}
use lib.Ieee.Scale.{finite}
use lib.Ieee.Positive.{positive}
use Rattle.floats.specs.Range.{plus_zero, nonneg, within}
use Rattle.floats.specs.Double.{◌⊕◌, ◌⊖◌, ◌⊗◌, zero64, half, one, three, four, eight}
use Rattle.floats.proofs.Literals.{zero_of-is}
use Rattle.floats.proofs.Order.{fle_trans, fle_refl, lt-le, lt_not_le, lt-le-lt, le-lt-lt, le→ge0, ge0→le, nonneg→ge0, under, between-finite, nonneg→finite, positive-nonneg, above-positive}
use Rattle.floats.proofs.Near.{sub_order}
use Rattle.floats.proofs.Monotone.{mul_mono}
use Rattle.floats.proofs.Ranges.{within-nonneg, add_grows}
use Rattle.floats.proofs.Units.{rem_below, less_zero}
use Rattle.polyblep.specs.declared.Side.TheVariants.{Away}
use Rattle.polyblep.specs.Polyblep.{side_of, fract_of, blep_of, blamp_of, saw_of, square_of, pulse_of, triangle_of, rounded_of}
use Rattle.polyblep.proofs.Clear.{Lies, unit_finite, rounded-clear}
use Rattle.polyblep.proofs.Clear as away
use Rattle.waveform.specs.Waveform.{tau, two_tau, inv_tau, normal_of, radians}
use Rattle.low_notes.specs.declared.Line.{Line}
use Rattle.low_notes.specs.declared.Line.TheVariants.{High, Low, Climb, Rise, Fall}
use Rattle.low_notes.specs.declared.Segment.{Segment}
use Rattle.low_notes.specs.declared.Guess.{Guess}
use Rattle.waveform.specs.declared.Radians.{Radians}
use Rattle.low_notes.specs.Inner.{line_of, base_of, is_one_cycle, is_clear, fraction_of, is_rising, is_in_segment, Inside, Straight, TwoLines, segment_of}
use Rattle.waveform.proofs.Normal.{tau-positive, rem-nonneg, inv_nonneg}
use Rattle.waveform.proofs.Remainders.{far, next_cycle}

-- a conjunction of three tests passes: each passes
three_pass : (a b c : Bool) → T (a && b && c) → T a × T b × T c
three_pass true true true t = (tt, tt, tt)
three_pass false b c t = elim t [ ]
three_pass true false c t = elim t [ ]
three_pass true true false t = elim t [ ]

two_tau-finite : T (finite two_tau)
two_tau-finite = unfold of_bits in tt

-- 0 ≤ q and q < 2^14, as `waveform::remainder` tests a phase
under-far : (q bound : Float) → T (finite q) → T (le zero64 q) → T (lt q bound) → T (le bound far) → (le zero64 q && lt q far) ≡ true
under-far q bound f z l k = is_true _ (and_i (le zero64 q) (lt q far) z (lt-le-lt q bound far f (unfold of_bits in tt) l k))

-- the remainder of a phase is the phase less the base of its cycle
pub rest_is : (first : Bool) (low high q : Float) → is_one_cycle first low high ≡ true → T (fits binary64 q) → T (le low q) → T (lt q high) → (rem binary64 q tau ≡ q ⊖ base_of first) × T (nonneg q)
rest_is true low high q e w a b =
    let t : T (lt zero64 low && le high tau) = subst T (sym e) tt in
    let q-finite : T (finite q) = between-finite zero64 q tau (unfold of_bits in tt) (unfold of_bits in tt) (fle_trans zero64 low q (lt-le zero64 low (and_l (lt zero64 low) (le high tau) t)) a) (fle_trans q high tau (lt-le q high b) (and_r (lt zero64 low) (le high tau) t)) in
    let above : T (lt zero64 q) = lt-le-lt zero64 low q (unfold of_bits in tt) q-finite (and_l (lt zero64 low) (le high tau) t) a in
    let below : T (lt q tau) = lt-le-lt q high tau q-finite (unfold of_bits in tt) b (and_r (lt zero64 low) (le high tau) t) in
    let p : T (positive q) = above-positive plus_zero q tt q-finite (subst (λ (z : Float). T (lt z q)) (zero_of-is binary64) above) in
    let z : q ⊖ zero64 ≡ q = ap (λ (z : Float). q ⊖ z) (zero_of-is binary64) ∙ less_zero binary64 q w p in
    (rem_below binary64 q tau w (positive-nonneg q p) tau-positive below ∙ sym z, positive-nonneg q p)
rest_is false low high q e w a b =
    let t : T (le tau low && le high two_tau) = subst T (sym e) tt in
    let from : T (le tau q) = fle_trans tau low q (and_l (le tau low) (le high two_tau) t) a in
    let to : T (le high two_tau) = and_r (le tau low) (le high two_tau) t in
    let q-finite : T (finite q) = between-finite tau q two_tau (unfold of_bits in tt) two_tau-finite from (fle_trans q high two_tau (lt-le q high b) to) in
    let below : T (lt q two_tau) = lt-le-lt q high two_tau q-finite two_tau-finite b to in
    let z : T (le zero64 q) = fle_trans zero64 tau q (unfold of_bits in unfold le in tt) from in
    let no : lt q tau ≡ false = is_false (lt q tau) (not_T (lt q tau) (λ (l : T (lt q tau)). lt_not_le q tau l from)) in (
      sym (next_cycle q (under-far q two_tau q-finite z below (unfold of_bits in unfold le in tt)) no (is_true _ below)),
      under q two_tau (le→ge0 q (subst (λ (z : Float). T (le z q)) (zero_of-is binary64) z)) two_tau-finite (lt-le q two_tau below),
    )

-- x ≤ y: the fraction at x is at most that at y
grows : (first : Bool) (x y : Float) → T (finite x) → T (finite y) → T (nonneg (x ⊖ base_of first)) → T (le x y) → T (le y two_tau) → T (le (fraction_of (base_of first) x) (fraction_of (base_of first) y))
grows first x y f g n h k =
    let b : T (finite (base_of first)) = base-finite first in
    let up : T (le (x ⊖ base_of first) (y ⊖ base_of first)) = sub_order binary64 x y (base_of first) (base_of first) f g b b h (fle_refl (base_of first) b) in
    let most : T (le (y ⊖ base_of first) (two_tau ⊖ base_of first)) = sub_order binary64 y two_tau (base_of first) (base_of first) g two_tau-finite b b k (fle_refl (base_of first) b) in
    let zero : T (le plus_zero (x ⊖ base_of first)) = ge0→le (x ⊖ base_of first) (nonneg→ge0 (x ⊖ base_of first) n) in
    let m : T (nonneg (y ⊖ base_of first)) = under (y ⊖ base_of first) (two_tau ⊖ base_of first) (le→ge0 (y ⊖ base_of first) (fle_trans plus_zero (x ⊖ base_of first) (y ⊖ base_of first) zero up)) (all_finite first) most in
    mul_mono binary64 (x ⊖ base_of first) (y ⊖ base_of first) inv_tau inv_tau n m inv_nonneg inv_nonneg up (fle_refl inv_tau (nonneg→finite inv_tau inv_nonneg))
  where
    base-finite : (first : Bool) → T (finite (base_of first))
    base-finite true = unfold of_bits in tt
    base-finite false = unfold of_bits in tt

    all_finite : (first : Bool) → T (finite (two_tau ⊖ base_of first))
    all_finite true = unfold of_bits in unfold sub in tt
    all_finite false = unfold of_bits in unfold sub in tt

-- ---- a phase of a segment, as a fraction of its cycle, lies between the fractions of the segment's ends
pub record Fraction (base low high q : Float) : Type 0 where
  pub is : normal_of q ≡ fraction_of base q
  pub from : T (le low (fraction_of base q))
  pub to : T (le (fraction_of base q) high)

pub fraction : (first : Bool) (low high q : Float) → is_one_cycle first low high ≡ true → T (fits binary64 low) → T (fits binary64 q) → T (le low q) → T (lt q high) → Fraction (base_of first) (fraction_of (base_of first) low) (fraction_of (base_of first) high) q
fraction first low high q e v w a b =
    let at = rest_is first low high q e w a b in
    let f : T (finite q) = nonneg→finite q at.1 in
    let top : T (le high two_tau) = tops first e in
    let g : T (finite high) = between-finite q high two_tau f two_tau-finite (lt-le q high b) top in
    let l : T (finite low) = between-finite zero64 low q (unfold of_bits in tt) f (bottoms first e) a in
    let start = rest_is first low high low e v (fle_refl low l) (le-lt-lt low q high l g a b) in
    record {
      is = ap (λ (z : Float). z ⊗ inv_tau) at.0;
      from = grows first low q l f (subst (λ (z : Float). T (nonneg z)) start.0 (rem-nonneg low v start.1)) a (fle_trans q high two_tau (lt-le q high b) top);
      to = grows first q high f g (subst (λ (z : Float). T (nonneg z)) at.0 (rem-nonneg q w at.1)) (lt-le q high b) top;
    }
  where
    tops : (first : Bool) → is_one_cycle first low high ≡ true → T (le high two_tau)
    tops true e = fle_trans high tau two_tau (and_r (lt zero64 low) (le high tau) (subst T (sym e) tt)) (unfold of_bits in unfold le in tt)
    tops false e = and_r (le tau low) (le high two_tau) (subst T (sym e) tt)

    bottoms : (first : Bool) → is_one_cycle first low high ≡ true → T (le zero64 low)
    bottoms true e = lt-le zero64 low (and_l (lt zero64 low) (le high tau) (subst T (sym e) tt))
    bottoms false e = fle_trans zero64 tau low (unfold of_bits in unfold le in tt) (and_l (le tau low) (le high two_tau) (subst T (sym e) tt))

-- ---- where no correction is due, each waveform is a line
-- the line of a sawtooth is `Climb` on either side s of a second edge
pub saw-line : (t dt : Float) (s : Bool) → side_of t dt ≡ Away → saw_of t dt ≡ line_of (cond s Climb Climb) t
unfolding saw_of blep_of
saw-line t dt true e = rw e refl
saw-line t dt false e = rw e refl

-- 1 or -1, with corrections of +0
levels : (t : Float) (s : Bool) → cond s one (neg one) ⊕ zero64 ⊖ zero64 ≡ line_of (cond s High Low) t
levels t true = unfold of_bits in unfold add in unfold sub in refl
levels t false = unfold of_bits in unfold neg in unfold add in unfold sub in refl

pub square_lines : (dt : Float) → TwoLines (λ (t : Float). square_of t dt) dt High Low
unfolding square_of blep_of
square_lines dt t a b = rw (a, b) (levels t (lt t half))

pub triangle_lines : (dt : Float) → TwoLines (λ (t : Float). triangle_of t dt) dt Rise Fall
unfolding triangle_of blamp_of
triangle_lines dt t a b = rw (a, b, none) (slopes (lt t half))
  where
    none : eight ⊗ zero64 ≡ zero64
    none = unfold of_bits in unfold mul in refl

    slopes : (s : Bool) → cond s (four ⊗ t ⊖ one) (three ⊖ four ⊗ t) ⊕ zero64 ⊖ zero64 ≡ line_of (cond s Rise Fall) t
    slopes true = refl
    slopes false = refl

-- with no correction due, the rounded triangle is the triangle
pub rounded_lines : (dt : Float) → TwoLines (λ (t : Float). rounded_of t dt) dt Rise Fall
rounded_lines dt t a b = rounded-clear t dt (a, b) ∙ triangle_lines dt t a b

pub pulse_lines : (t dt duty : Float) → side_of t dt ≡ Away → side_of (fract_of (t ⊖ duty ⊕ one)) dt ≡ Away → pulse_of t dt duty ≡ line_of (cond (lt t duty) High Low) t
unfolding pulse_of blep_of
pulse_lines t dt duty a b = rw (a, b) (levels t (lt t duty))

-- ---- a guess that passes the code's tests; its ends are the fractions lo and hi of their cycle
pub guessed : (first : Bool) (from to base : Radians) (lo hi dt : Float) → base ≡ radians (base_of first) → lo ≡ fraction_of base.0 from.0 → hi ≡ fraction_of base.0 to.0 → is_one_cycle first from.0 to.0 ≡ true → T (fits binary64 from.0)
    → is_clear lo hi dt ≡ true → (q : Float) → Inside from.0 to.0 q → (normal_of q ≡ fraction_of base.0 q) × Lies (fraction_of base.0 q) lo hi dt
guessed first from to base lo hi dt b l h one-cycle v clear q i =
    let p : Fraction base.0 lo hi q = rw (l, h, b) (fraction first from.0 to.0 q one-cycle v i.0 i.1 i.2) in
    let (r, a, z) = three_pass (within zero64 one dt) (le dt lo) (le hi (one ⊖ dt)) (subst T (sym clear) tt) in
    (p.is, away.lies (fraction_of base.0 q) lo hi dt r a p.from p.to z)

-- a guess that lies wholly before the second edge, or wholly behind it
module _ (g : Guess) (dt edge : Float) (value : Float → Float) (before behind : Line)
    (lying : (q : Float) → Inside g.from.0 g.to.0 q → (normal_of q ≡ fraction_of g.base.0 q) × Lies (fraction_of g.base.0 q) g.fraction g.end_fraction dt)
    (two : (t : Float) → Lies t g.fraction g.end_fraction dt → value t ≡ line_of (cond (lt t edge) before behind) t)
  where
    sided : (s : Bool) → ((t : Float) → Lies t g.fraction g.end_fraction dt → lt t edge ≡ s) → Straight (λ (q : Float). value (normal_of q)) (segment_of g (cond s before behind))
    sided s all q i = let (is, l) = lying q i in let t = fraction_of g.base.0 q in rw is (two t l ∙ ap (λ (b : Bool). line_of (cond b before behind) t) (all t l))

    pub before_edge : T (finite edge) → lt g.end_fraction edge ≡ true → Straight (λ (q : Float). value (normal_of q)) (segment_of g before)
    before_edge f e = sided true (λ t l. is_true (lt t edge) (le-lt-lt t g.end_fraction edge (unit_finite t l.phase_in) f l.to (subst T (sym e) tt)))

    pub behind_edge : le edge g.fraction ≡ true → Straight (λ (q : Float). value (normal_of q)) (segment_of g behind)
    behind_edge e = sided false (λ t l. is_false (lt t edge) (not_T (lt t edge) (λ (z : T (lt t edge)). lt_not_le t edge z (fle_trans edge g.fraction t (subst T (sym e) tt) l.from))))

-- ---- where steps rise, a next phase below the segment's end is in the segment
pub next-inside : (s : Segment) (step q : Float) → is_rising s step ≡ true → T (fits binary64 q) → is_in_segment s q ≡ true → lt (q ⊕ step) s.to.0 ≡ true → is_in_segment s (q ⊕ step) ≡ true
next-inside s step q g w t h =
    let (a, b, c) = three_pass (le zero64 s.from.0) (le s.to.0 two_tau) (within zero64 tau step) (subst T (sym g) tt) in
    let from : T (le s.from.0 q) = and_l (le s.from.0 q) (lt q s.to.0) (subst T (sym t) tt) in
    let zero : T (le zero64 q) = fle_trans zero64 s.from.0 q a from in
    let most : T (le q two_tau) = fle_trans q s.to.0 two_tau (lt-le q s.to.0 (and_r (le s.from.0 q) (lt q s.to.0) (subst T (sym t) tt))) b in
    let n : T (nonneg q) = under q two_tau (le→ge0 q (subst (λ (z : Float). T (le z q)) (zero_of-is binary64) zero)) two_tau-finite most in
    let m : T (nonneg step) = within-nonneg tau step (unfold of_bits in tt) (subst (λ (z : Float). T (within z tau step)) (zero_of-is binary64) c) in
    is_true _ (and_i (le s.from.0 (q ⊕ step)) (lt (q ⊕ step) s.to.0) (fle_trans s.from.0 q (q ⊕ step) from (add_grows binary64 q step w n m)) (subst T (sym h) tt))
