-- The remainder of a phase over TAU by differences. A phase below 2 y, less y where it is not below y, is its remainder
-- over y, and nothing is rounded; and the remainder over 2 y has the same remainder over y. The phases of a rising
-- block keep below its end, and their remainders are fractions of a cycle. Assumes nothing.
use mathlib.Core.Path.{◌≡◌, refl, sym, subst, ap, ◌∙◌}
use mathlib.Core.Bool.{Bool, true, false, cond, not, ◌&&◌}
use mathlib.Core.List.{List, [], ◌∷◌}
use Prim.Native.Nat.{ℕ, zero, suc, ◌+◌, ◌-◌, ◌*◌, ◌%◌, ◌≤◌, ◌<◌}
use native.Mathlib.Nat as nat
use native.Mathlib.Omega.{arith}
use lib.Dec.{T, ltb, ltb→lt, not_T}
use lib.ListN.{length, get_or}
use lib.Seq.{ext_get_or}
use lib.Ieee.{Float, nan, inf, fin, binary64, of_bits, rem, lt, le, fits, sum, sub}
use lib.Ieee.Bits.{is_false}
use lib.Ieee.Exact.{HasValue}
use lib.Ieee.Fits.{and_l, and_r, rem-fits}
use lib.Ieee.Scale.{finite, round_same}
use lib.Ieee.Positive.{num, den, den_pos, positive}
use Rattle.runs.specs.Runs.{listed}
use Rattle.runs.proofs.Listed.{listed-length, listed_at, listed_same}
use Rattle.floats.specs.Range.{plus_zero, nonneg, within}
use Rattle.floats.specs.Double.{◌⊖◌, zero64}
use Rattle.floats.proofs.Literals.{zero_of-is}
use Rattle.floats.proofs.Order.{fle_trans, fle_refl, le-lt-lt, lt_not_le, not-lt-le, cross→le, le→cross, nonneg→finite, positive-nonneg, signed, under}
use Rattle.floats.proofs.Operations.{dens_pos, sub_is, rem_is}
use Rattle.floats.proofs.OneWay.{self-is}
use Rattle.floats.proofs.Ranges.{rem-ge0, rem-le, rem-le-first, ge0-positive, add_grows, within-nonneg}
use Rattle.floats.proofs.Remainder.{mod_scale, rem_value, rem_lt}
use Rattle.floats.proofs.Units.{rem_below, rem_once}
use Rattle.waveform.specs.Waveform.{tau, two_tau, remainder_of}
use Rattle.waveform.specs.Filled.{phase_from}
use Rattle.high_notes.specs.Remainders.{made_of}
use Rattle.high_notes.specs.Inner.{four_tau, eight_tau, sixteen_tau, thirty_two_tau, wrap_once_of, Below, AllBelow, AllFractions}
use Rattle.waveform.proofs.Normal.{tau-positive, normal_in}
use Rattle.waveform.proofs.Steps.{phase_more}
use Rattle.waveform.proofs.Values.{far, sixteen, Near, phase-near}
use Rattle.high_notes.proofs.Remaking.{made-twice, made-length, made_at}

-- ---- x - 0 is x, for an x that is not negative, -0 included
less_nothing : (x : Float) → T (fits binary64 x) → T (nonneg x) → x ⊖ zero64 ≡ x
unfolding sum
less_nothing x w h = ap (λ (z : Float). x ⊖ z) (zero_of-is binary64) ∙ go x w h
  where
    go : (x : Float) → T (fits binary64 x) → T (nonneg x) → sub binary64 x plus_zero ≡ x
    go nan w h = absurd h
    go (inf s) w h = absurd h
    go (fin true m e) w h = sub_is binary64 (fin true m e) plus_zero tt tt ∙ rw (nat.mul-one (num (fin true m e)), nat.mul-one (den (fin true m e)), nat.zero-mul (den (fin true m e)), nat.add-zero (num (fin true m e))) (self-is binary64 (fin true m e) w tt)
    go (fin false m e) w h =
        let n = num (fin false m e) in
        sub_is binary64 (fin false m e) plus_zero tt tt ∙ rw (nat.mul-one n, nat.mul-one (den (fin false m e)), nat.zero-mul (den (fin false m e)), is_false (ltb n 0) (not_T (ltb n 0) (λ (t : T (ltb n 0)). omega (arith, ltb→lt n 0 t))), nat.sub-zero n) (self-is binary64 (fin false m e) w tt)

-- what is not below y is y or more
from : (x y : Float) → lt x y ≡ false → T (nonneg x) → T (positive y) → T (le y x)
from x y e h py = not-lt-le x y (nonneg→finite x h) (nonneg→finite y (positive-nonneg y py)) (subst (λ (t : Bool). T (not t)) (sym e) tt)

-- ---- over z, which is k times y
exact : (x z : Float) → T (fits binary64 x) → T (fits binary64 z) → T (positive x) → T (positive z) → HasValue (rem binary64 x z) false (num x * den z % (num z * den x)) (den x * den z)
exact (fin false m e) (fin false (suc n) d) w v p q = rw (rem_is binary64 (fin false m e) (fin false (suc n) d) tt q) (rem_value binary64 false m e n d w v)
exact nan z w v p q = elim p [ ]
exact (inf _) z w v p q = elim p [ ]
exact (fin false m e) nan w v p q = elim q [ ]
exact (fin false m e) (inf _) w v p q = elim q [ ]
exact (fin false m e) (fin false zero d) w v p q = elim q [ ]
exact (fin false m e) (fin true _ d) w v p q = elim q [ ]
exact (fin true m e) z w v p q = elim p [ ]

valued : (r : Float) (a c : ℕ) → HasValue r false a c → T (finite r) × (signed r ≡ false) × (num r * c ≡ a * den r)
valued (fin t m e) a c h = (tt, h.0, h.1)
valued nan a c h = elim h [ ]
valued (inf _) a c h = elim h [ ]

plain : (x : Float) → T (positive x) → signed x ≡ false
plain (fin false m e) p = refl
plain nan p = elim p [ ]
plain (inf _) p = elim p [ ]
plain (fin true m e) p = elim p [ ]

module _ (y z : Float) (k : ℕ) (v : T (fits binary64 z)) (py : T (positive y)) (pz : T (positive z)) (times : num z * den y ≡ k * (num y * den z)) where
  rem-rem : (x : Float) → T (fits binary64 x) → T (positive x) → rem binary64 (rem binary64 x z) y ≡ rem binary64 x y
  rem-rem x w p =
      let r = rem binary64 x z in
      let (f, s, e) = valued r (num x * den z % (num z * den x)) (den x * den z) (exact x z w v p pz) in
      rw (rem_is binary64 r y f py, s, rem_is binary64 x y (nonneg→finite x (positive-nonneg x p)) py, plain x p)
      (round_same binary64 false (num r * den y % (num y * den r)) (den r * den y) (num x * den y % (num y * den x)) (den x * den y) (dens_pos r y) (dens_pos x y)
      (crossed (num x) (den x) (num y) (den y) (num z) (den z) (num r) (den r) (den_pos x) (den_pos y) (den_pos z) (den_pos r) times e))
    where
      -- what r leaves over y is what x leaves, across
      crossed : (nx dx ny dy nz dz nr dr : ℕ) → 0 < dx → 0 < dy → 0 < dz → 0 < dr → nz * dy ≡ k * (ny * dz) → nr * (dx * dz) ≡ nx * dz % (nz * dx) * dr → nr * dy % (ny * dr) * (dx * dy) ≡ nx * dy % (ny * dx) * (dr * dy)
      crossed nx dx ny dy nz dz nr dr X Y Z R t e =
          let a = nx * dz % (nz * dx) in
          let n = ny * (dx * dz) in
          let over : nr * dy % (ny * dr) * (dx * dz) ≡ a * dy % n * dr =
          sym (mod_scale (nr * dy) (ny * dr) (dx * dz) (nat.mul-pos X Z)) ∙ rw (top nr dy dx dz a dr e, bottom ny dr dx dz) (mod_scale (a * dy) n dr R) in
          let twice : a * dy % n ≡ nx * dz * dy % n =
          rw (← mod_scale (nx * dz) (nz * dx) dy Y, whole nz dx dy ny dz t) (nat.mod-mod_of_dvd n {b = k * n} (nx * dz * dy) (nat.dvd-mul_left n k)) in
          let less : nx * dz * dy % n ≡ nx * dy % (ny * dx) * dz = rw (turn nx dz dy, three ny dx dz) (mod_scale (nx * dy) (ny * dx) dz Z) in
          cancel (nr * dy % (ny * dr)) (nx * dy % (ny * dx)) dx dz dr dy Z (over ∙ ap (λ (k : ℕ). k * dr) (twice ∙ less))
        where
          top : (nr dy dx dz a dr : ℕ) → nr * (dx * dz) ≡ a * dr → nr * dy * (dx * dz) ≡ a * dy * dr
          top nr dy dx dz a dr e = omega (arith, ap (λ (k : ℕ). k * dy) e)

          bottom : (ny dr dx dz : ℕ) → ny * dr * (dx * dz) ≡ ny * (dx * dz) * dr
          bottom ny dr dx dz = omega arith

          whole : (nz dx dy ny dz : ℕ) → nz * dy ≡ k * (ny * dz) → nz * dx * dy ≡ k * (ny * (dx * dz))
          whole nz dx dy ny dz t = omega (arith, ap (λ (j : ℕ). j * dx) t)

          turn : (nx dz dy : ℕ) → nx * dz * dy ≡ nx * dy * dz
          turn nx dz dy = omega arith

          three : (ny dx dz : ℕ) → ny * (dx * dz) ≡ ny * dx * dz
          three ny dx dz = omega arith

          cancel : (p q dx dz dr dy : ℕ) → 0 < dz → p * (dx * dz) ≡ q * dz * dr → p * (dx * dy) ≡ q * (dr * dy)
          cancel p q dx dz dr dy Z h = omega (arith, ap (λ (k : ℕ). k * dy) (nat.eq_of_mul-eq-mul_right dz Z (p * dx) (q * dr) (omega arith)))

  pub remainder_of-remainder : (x : Float) → T (fits binary64 x) → T (nonneg x) → rem binary64 (rem binary64 x z) y ≡ rem binary64 x y
  remainder_of-remainder x w h = go (lt x z) refl
    where
      go : (t : Bool) → lt x z ≡ t → rem binary64 (rem binary64 x z) y ≡ rem binary64 x y
      go true e = ap (λ (q : Float). rem binary64 q y) (rem_below binary64 x z w h pz (subst T (sym e) tt))
      go false e = rem-rem x w (ge0-positive z x pz (from x z e h pz) (nonneg→finite x h))

-- ---- one difference, of what is below z, which is 2 y
pub record Double (y z : Float) : Type 0 where
  pub fit : T (fits binary64 y)
  pub above : T (positive y)
  pub over : T (positive z)
  pub double : num z * den y ≡ 2 * (num y * den z)

module _ (y z : Float) (d : Double y z) where
  abbrev py : T (positive y)
  py = d.above

  pub wrap_once-is : (x : Float) → Below z x → wrap_once_of y x ≡ rem binary64 x y
  wrap_once-is x b = go (lt x y) refl
    where
      below : (nx dx ny dy nz dz : ℕ) → 0 < dy → nz * dy ≡ 2 * (ny * dz) → nx * dz < nz * dx → nx * dy < ny * dx + ny * dx
      below nx dx ny dy nz dz Y two h = nat.lt_of_not-le (λ (g : ny * dx + ny * dx ≤ nx * dy). omega (arith, ap (λ (j : ℕ). j * dx) two, nat.mul-lt-mul_of_pos_right h Y, nat.mul-le-mul_right dz g))

      go : (t : Bool) → lt x y ≡ t → x ⊖ cond t zero64 y ≡ rem binary64 x y
      go true e = less_nothing x b.fit b.sign ∙ sym (rem_below binary64 x y b.fit b.sign py (subst T (sym e) tt))
      go false e =
          let l : T (le y x) = from x y e b.sign py in
          rem_once binary64 x y (ge0-positive y x py l (nonneg→finite x b.sign)) py (le→cross y x (positive-nonneg y py) b.sign l)
          (below (num x) (den x) (num y) (den y) (num z) (den z) (den_pos y) d.double (nat.lt_of_not-le (λ (g : num z * den x ≤ num x * den z). lt_not_le x z b.under (cross→le z x (positive-nonneg z d.over) b.sign g))))

-- ---- lists of phases
-- one difference leaves the remainder over y
pub wrapped_once : (y z : Float) → Double y z → (xs ys : List Float) → AllBelow z xs → ys ≡ made_of (wrap_once_of y) xs (length xs) → ys ≡ made_of (λ (x : Float). rem binary64 x y) xs (length xs)
unfolding made_of
wrapped_once y z d xs ys all e = e ∙ listed_same _ _ (length xs) (λ i l. wrap_once-is y z d (get_or xs i nan) (all i l))

-- ---- difference by difference, over fewer and fewer cycles
-- y is k times TAU, and z is 2 y
pub record Over (y z : Float) : Type 0 where
  pub double : Double y z
  pub cycles : ℕ
  pub times : num y * den tau ≡ cycles * (num tau * den y)

-- xs has become ys, whose numbers are below z and have the remainders of those of xs; where the end is below a bound,
-- so are all numbers
pub record WrappedBelow (end z : Float) (xs ys : List Float) : Type 0 where
  pub under : AllBelow z ys
  pub within : (bound : Float) → T (finite bound) → T (lt end bound) → AllBelow bound ys
  pub same : made_of remainder_of ys (length ys) ≡ made_of remainder_of xs (length xs)

module _ (end y z : Float) (o : Over y z) (xs ys : List Float) (w : WrappedBelow end z xs ys) where
  -- no difference is needed where the end is below y
  pub wrapped-not : T (lt end y) → WrappedBelow end y xs ys
  wrapped-not l = record { under = w.within y (nonneg→finite y (positive-nonneg y o.double.above)) l; within = w.within; same = w.same }

  pub wrapped-below : (zs : List Float) → zs ≡ made_of (wrap_once_of y) ys (length ys) → WrappedBelow end y xs zs
  wrapped-below zs e =
      record {
        under = λ i l. at i l y (λ less. let b = w.under i less in rem_lt binary64 (get_or ys i nan) y b.fit o.double.fit b.sign o.double.above);
        within = λ bound f t i l. at i l bound (λ less. let b = w.within bound f t i less in
            le-lt-lt (rem binary64 (get_or ys i nan) y) (get_or ys i nan) bound (nonneg→finite (rem binary64 (get_or ys i nan) y) (kept _ b.sign)) f (rem-le-first binary64 (get_or ys i nan) y b.fit b.sign o.double.above) b.under);
        same = made-twice (λ (x : Float). rem binary64 x y) remainder_of remainder_of ys zs _ made refl (λ i l. remainder_of-remainder tau y o.cycles o.double.fit tau-positive o.double.above o.times (get_or ys i nan) (w.under i l).fit (w.under i l).sign) ∙ w.same;
      }
    where
      made : zs ≡ made_of (λ (x : Float). rem binary64 x y) ys (length ys)
      made = wrapped_once y z o.double ys zs w.under e

      kept : (x : Float) → T (nonneg x) → T (nonneg (rem binary64 x y))
      kept x s = under (rem binary64 x y) y (rem-ge0 binary64 x y s o.double.above) (nonneg→finite y (positive-nonneg y o.double.above)) (rem-le binary64 x y o.double.fit s o.double.above)

      at : (i : ℕ) → i < length zs → (bound : Float) → (i < length ys → T (lt (rem binary64 (get_or ys i nan) y) bound)) → Below bound (get_or zs i nan)
      at i l bound u =
          let less : i < length ys = rw (ap length made ∙ made-length _ ys (length ys)) at l in
          let b = w.under i less in
          rw (made, made_at (λ (x : Float). rem binary64 x y) ys (length ys) i less) (record { fit = rem-fits binary64 (get_or ys i nan) y b.fit; sign = kept _ b.sign; under = u less })

-- below TAU a number is its remainder
pub wrapped-all : (end : Float) (xs ys : List Float) → WrappedBelow end tau xs ys → ys ≡ made_of remainder_of xs (length xs)
wrapped-all end xs ys w =
    ext_get_or nan ys (made_of remainder_of ys (length ys)) (sym (made-length remainder_of ys (length ys)))
    (λ i l. let b = w.under i l in sym (rem_below binary64 (get_or ys i nan) tau b.fit b.sign tau-positive b.under) ∙ sym (made_at remainder_of ys (length ys) i l))
    ∙ w.same

-- the numbers of radians of the differences, and below what each leaves the phases
abbrev pub overs : List Float
overs = sixteen_tau ∷ eight_tau ∷ four_tau ∷ two_tau ∷ tau ∷ []

abbrev pub bounds : List Float
bounds = thirty_two_tau ∷ overs

pub over_at : (i : ℕ) → i < 5 → Over (get_or overs i nan) (get_or bounds i nan)
over_at zero h = record { double = record { fit = unfold of_bits in unfold fits in tt; above = unfold of_bits in tt; over = unfold of_bits in tt; double = unfold of_bits in refl }; cycles = 16; times = unfold of_bits in refl }
over_at (suc zero) h = record { double = record { fit = unfold of_bits in unfold fits in tt; above = unfold of_bits in tt; over = unfold of_bits in tt; double = unfold of_bits in refl }; cycles = 8; times = unfold of_bits in refl }
over_at (suc (suc zero)) h = record { double = record { fit = unfold of_bits in unfold fits in tt; above = unfold of_bits in tt; over = unfold of_bits in tt; double = unfold of_bits in refl }; cycles = 4; times = unfold of_bits in refl }
over_at (suc (suc (suc zero))) h = record { double = record { fit = unfold of_bits in unfold fits in tt; above = unfold of_bits in tt; over = unfold of_bits in tt; double = unfold of_bits in refl }; cycles = 2; times = unfold of_bits in refl }
over_at (suc (suc (suc (suc zero)))) h = record { double = record { fit = unfold of_bits in unfold fits in tt; above = unfold of_bits in tt; over = unfold of_bits in tt; double = unfold of_bits in refl }; cycles = 1; times = unfold of_bits in refl }
over_at (suc (suc (suc (suc (suc i))))) h = absurd (omega arith)

-- ---- the phases of a rising block
module _ (step p : Float) (w : T (fits binary64 p)) (h : (within zero64 far p && within zero64 sixteen step) ≡ true) where
  both : T (within zero64 far p) × T (within zero64 sixteen step)
  both = (and_l (within zero64 far p) (within zero64 sixteen step) (subst T (sym h) tt), and_r (within zero64 far p) (within zero64 sixteen step) (subst T (sym h) tt))

  nonneg_of : (bound x : Float) → T (finite bound) → T (within zero64 bound x) → T (nonneg x)
  nonneg_of bound x f i = within-nonneg bound x f (subst (λ (z : Float). T (within z bound x)) (zero_of-is binary64) i)

  step-nonneg : T (nonneg step)
  step-nonneg = nonneg_of sixteen step (unfold of_bits in tt) both.1

  near : (k : ℕ) → Near (phase_from step p k)
  near = phase-near step p step-nonneg (and_r (le zero64 step) (le step sixteen) both.1) (record { p_fits = w; p_nonneg = nonneg_of far p (unfold of_bits in tt) both.0; p_le = and_r (le zero64 p) (le p far) both.0 })

  rises : (k j : ℕ) → T (le (phase_from step p k) (phase_from step p (k + j)))
  rises k zero = rw (nat.add-zero k) (fle_refl (phase_from step p k) (nonneg→finite (phase_from step p k) (near k).p_nonneg))
  rises k (suc j) =
      let q = phase_from step p (k + j) in
      fle_trans (phase_from step p k) q (phase_from step p (k + suc j)) (rises k j)
      (subst (λ (x : Float). T (le q x)) (sym (phase_more step p (k + j)) ∙ ap (phase_from step p) (omega arith)) (add_grows binary64 q step (near (k + j)).p_fits (near (k + j)).p_nonneg step-nonneg))

  -- below any bound that the end is below
  pub rising-below : (n : ℕ) (xs : List Float) (bound : Float) → T (finite bound) → xs ≡ listed (phase_from step p) n → T (lt (phase_from step p n) bound) → AllBelow bound xs
  rising-below n xs bound f e l i g =
      let less : i < n = rw (ap length e ∙ listed-length _ n) at g in
      let ends : i + (n - i) ≡ n = omega arith in
      let up : T (le (phase_from step p i) (phase_from step p n)) = subst (λ (k : ℕ). T (le (phase_from step p i) (phase_from step p k))) ends (rises i (n - i)) in
      rw (e, listed_at (phase_from step p) n i nan less)
      (record { fit = (near i).p_fits; sign = (near i).p_nonneg; under = le-lt-lt (phase_from step p i) (phase_from step p n) bound (nonneg→finite (phase_from step p i) (near i).p_nonneg) f up l })

  -- their remainders over TAU are fractions of a cycle
  pub rising_fractions : (n : ℕ) (xs ys : List Float) → xs ≡ listed (phase_from step p) n → ys ≡ made_of remainder_of xs (length xs) → AllFractions ys
  rising_fractions n xs ys e h i g =
      let long : length xs ≡ n = ap length e ∙ listed-length _ n in
      let less : i < length xs = rw (ap length h ∙ made-length remainder_of xs (length xs)) at g in
      let at : get_or xs i nan ≡ phase_from step p i = ap (λ (l : List Float). get_or l i nan) e ∙ listed_at (phase_from step p) n i nan (rw long at less) in
      rw (h, made_at remainder_of xs (length xs) i less, at) (normal_in (phase_from step p i) (near i).p_fits (near i).p_nonneg)
