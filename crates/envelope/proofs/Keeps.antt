-- Every step and every note keeps both levels between 0 and 1 and the time between 0 and 11 s. 01: "The level is proved
-- to stay between 0 and 1 from a fresh envelope"; here from every accepted one.
-- A time past the limit of its stage ends the stage, so the time never grows from above 10.5 s. Assumes nothing.
use mathlib.Core.Bool.{Bool, true, false, not, cond}
use lib.Dec.{T, T_not}
use lib.Ieee.{Float, binary64, of_bits, add, sub, mul, div, le, fits}
use lib.Ieee.Fits.{and_i, div-fits}
use lib.Ieee.Positive.{positive}
use Prim.Native.Nat.{ℕ}
use Rattle.floats.specs.Range.{plus_zero, ge0, nonneg, within}
use Rattle.floats.specs.Double.{zero64, one}
use Rattle.floats.proofs.Order.{fle_trans, not-le-le, ge0→le, nonneg→finite, under}
use Rattle.floats.proofs.Ranges.{positive-nonneg, within-nonneg, ge0-positive, add-ge0, mul-ge0, div-ge0, sub-ge0, sub-le, div-le-one, one-le-div, sub_nonpos, neg-sub-nonneg, mul_nonpos}
use Rattle.floats.proofs.Monotone.{add-mono, mul_mono, div_mono}
use Rattle.domain.specs.Domain.{is_rate}
use Rattle.envelope.specs.Limits.{milli, ten, eleven, is_adsr, is_envelope, clamped_of, sample_time_of}
use Rattle.envelope.specs.Stages.{release_floor, attack_level, decay_level, release_level, attack_rule, decay_rule, release_rule, rule_of, grown_of, step_of, fresh_of, triggered_of, is_idle, released_of}
use Rattle.envelope.specs.declared.Adsr.{Adsr}
use Rattle.envelope.specs.declared.Envelope.{Envelope}
use Rattle.envelope.specs.declared.EnvelopeStage.{EnvelopeStage}
use Rattle.envelope.specs.declared.EnvelopeStage.TheVariants.{Idle, Attack, Decay, Sustain, Release}
use Rattle.envelope.proofs.Inside.{choice, lower, upper, Inside, is-inside, accepted, Bounded, clamped_in, slowest, Tick, sample_time_in}
use Rattle.envelope.proofs.Settles.{enough, settled}

-- ---- tests
-- a test that cannot hold
decide : (b : Bool) → (T b → ⊥) → T (not b)
decide true h = absurd (h tt)
decide false h = tt

-- x ≤ y, if y ≤ x cannot hold
not-past : (x y : Float) → T (nonneg x) → T (positive y) → (T (le y x) → ⊥) → T (le x y)
not-past x y p q h = not-le-le y x (nonneg→finite y (positive-nonneg y q)) (nonneg→finite x p) (decide (le y x) h)

-- ---- times
-- a clamped time is above 0
time_positive : (x : Float) → T (within milli ten x) → T (positive x)
unfolding of_bits le
time_positive x h = ge0-positive milli x tt (lower milli ten x h) (nonneg→finite x (within-nonneg ten x tt (and_i (le plus_zero x) (le x ten) (fle_trans plus_zero milli x tt (lower milli ten x h)) (upper milli ten x h))))

-- 10.5: plus the time of a sample it is below 11
abbrev late : Float
late = of_bits binary64 0x4025_0000_0000_0000

-- a time up to 10.5 s may grow by one sample
later : (x t : Float) → T (nonneg x) → T (le x late) → Tick t → T (within zero64 eleven (add binary64 x t))
unfolding of_bits le add
later x t p h d =
    let q : T (nonneg t) = within-nonneg slowest t tt d in
    and_i (le plus_zero (add binary64 x t)) (le (add binary64 x t) eleven) (ge0→le (add binary64 x t) (add-ge0 binary64 x t p q))
    (fle_trans (add binary64 x t) (add binary64 late slowest) eleven (add-mono binary64 x late t slowest p tt q tt h (upper zero64 slowest t d)) tt)

-- 0 ≤ x ≤ 1 as one test
unit_in : (x : Float) → T (ge0 x) → T (le x one) → T (within zero64 one x)
unfolding of_bits
unit_in x p h = and_i (le plus_zero x) (le x one) (ge0→le x p) h

-- ---- one step
module _ (k : Adsr) (t : Float) (e : Envelope) (c : Bounded k) (d : Tick t) (i : Inside e) where
  abbrev time : Float
  time = e.stage_time

  time_nonneg : T (nonneg time)
  unfolding of_bits
  time_nonneg = within-nonneg eleven time tt i.time_in

  -- a time up to a limit y may grow, because y is at most 10 s
  on_time : (y : Float) → T (within milli ten y) → T (le time y) → T (within zero64 eleven (add binary64 time t))
  unfolding of_bits le
  on_time y h l = later time t time_nonneg (fle_trans time y late l (fle_trans y ten late (upper milli ten y h) tt)) d

  -- progress is finite: at most 11 / 0.001
  abbrev most : Float
  most = div binary64 eleven milli

  progress_most : (y : Float) → T (within milli ten y) → T (le (div binary64 time y) most)
  unfolding of_bits le
  progress_most y h = div_mono binary64 time eleven y milli time_nonneg tt (time_positive y h) tt (upper zero64 eleven time i.time_in) (lower milli ten y h)

  progress_nonneg : (y : Float) → T (within milli ten y) → T (nonneg (div binary64 time y))
  unfolding of_bits le div
  progress_nonneg y h = under (div binary64 time y) most (div-ge0 binary64 time y time_nonneg (time_positive y h)) tt (progress_most y h)

  attack_inside : Inside (grown_of t (attack_rule k.attack e))
  unfolding of_bits le
  attack_inside =
      let a = k.attack in
      let pa : T (positive a) = time_positive a c.attack_in in
      let v = attack_level a e in
      choice (λ (x : Envelope). Inside (grown_of t x)) (le one v) _ _
      (λ (h : T (le one v)). record { level_in = tt; release_in = i.release_in; time_in = later zero64 t tt tt d })
      (λ (h : T (not (le one v))).
      let l : T (le time a) = not-past time a time_nonneg pa (λ (u : T (le a time)). T_not (le one v) h (one-le-div binary64 time a time_nonneg pa u)) in
      record { level_in = unit_in v (div-ge0 binary64 time a time_nonneg pa) (div-le-one binary64 time a time_nonneg pa l); release_in = i.release_in; time_in = on_time a c.attack_in l })

  decay_inside : Inside (grown_of t (decay_rule k.decay k.sustain e))
  unfolding of_bits le mul div
  decay_inside =
      let a = k.decay in
      let s = k.sustain in
      let pa : T (positive a) = time_positive a c.decay_in in
      let ns : T (nonneg s) = within-nonneg one s tt c.sustain_in in
      let s1 : T (le s one) = upper zero64 one s c.sustain_in in
      let p = div binary64 time a in
      let np : T (nonneg p) = progress_nonneg a c.decay_in in
      let f = sub binary64 one s in
      let f1 : T (le f one) = sub-le binary64 one s (unfold fits in tt) tt ns s1 in
      let nf : T (nonneg f) = under f one (sub-ge0 binary64 one s tt ns s1) tt f1 in
      let x = mul binary64 f p in
      let nx : T (nonneg x) = under x (mul binary64 one most) (mul-ge0 binary64 f p nf np) tt (mul_mono binary64 f one p most nf tt np tt f1 (progress_most a c.decay_in)) in
      let v = decay_level a s e in
      choice (λ (x : Envelope). Inside (grown_of t x)) (le v s) _ _
      (λ (h : T (le v s)). record { level_in = c.sustain_in; release_in = i.release_in; time_in = tt })
      (λ (h : T (not (le v s))).
      let x1 : T (le x one) = not-past x one nx tt (λ (l : T (le one x)). T_not (le v s) h (fle_trans v plus_zero s (sub_nonpos binary64 one x tt nx l) (lower zero64 one s c.sustain_in))) in
      let l : T (le time late) =
      not-past time late time_nonneg tt
      (λ (l : T (le late time)). T_not (le v s) h
      (settled s p c.sustain_fits ns s1 np
      (fle_trans enough (div binary64 late ten) p tt (div_mono binary64 late time ten a tt time_nonneg tt pa l (upper milli ten a c.decay_in))) nx)) in
      record { level_in = unit_in v (sub-ge0 binary64 one x tt nx x1) (sub-le binary64 one x (unfold fits in tt) tt nx x1); release_in = i.release_in; time_in = later time t time_nonneg l d })

  release_inside : Inside (grown_of t (release_rule k.release e))
  unfolding of_bits le mul fits
  release_inside =
      let a = k.release in
      let r = e.release_level in
      let pa : T (positive a) = time_positive a c.release_in in
      let nr : T (nonneg r) = within-nonneg one r tt i.release_in in
      let p = div binary64 time a in
      let q = sub binary64 one p in
      let v = release_level a e in
      choice (λ (x : Envelope). Inside (grown_of t x)) (le v release_floor) _ _
      (λ (h : T (le v release_floor)). record { level_in = tt; release_in = i.release_in; time_in = tt })
      (λ (h : T (not (le v release_floor))).
      let l : T (le time a) =
      not-past time a time_nonneg pa
      (λ (u : T (le a time)). T_not (le v release_floor) h
      (fle_trans v plus_zero release_floor (mul_nonpos binary64 r q nr (neg-sub-nonneg binary64 one p (div-fits binary64 time a) tt (progress_nonneg a c.release_in) (one-le-div binary64 time a time_nonneg pa u))) tt)) in
      let p1 : T (le p one) = div-le-one binary64 time a time_nonneg pa l in
      let np : T (nonneg p) = progress_nonneg a c.release_in in
      let q1 : T (le q one) = sub-le binary64 one p tt tt np p1 in
      let nq : T (nonneg q) = under q one (sub-ge0 binary64 one p tt np p1) tt q1 in
      record {
        level_in = unit_in v (mul-ge0 binary64 r q nr nq) (fle_trans v (mul binary64 one one) one (mul_mono binary64 r one q one nr tt nq tt (upper zero64 one r i.release_in) q1) tt);
        release_in = i.release_in;
        time_in = on_time a c.release_in l;
      })

  by_stage : (s : EnvelopeStage) → Inside (grown_of t (rule_of s k e))
  unfolding of_bits le
  by_stage Idle = record { level_in = tt; release_in = i.release_in; time_in = i.time_in }
  by_stage Attack = attack_inside
  by_stage Decay = decay_inside
  by_stage Sustain = record { level_in = c.sustain_in; release_in = i.release_in; time_in = i.time_in }
  by_stage Release = release_inside

  pub step-inside : Inside (step_of k t e)
  unfolding step_of
  step-inside = by_stage e.stage

-- a step under accepted settings and at an accepted rate keeps the limits
pub step_keeps : (k : Adsr) (rate : ℕ) (e : Envelope) → T (is_adsr k) → T (fits binary64 k.sustain) → T (is_rate rate) → T (is_envelope e) → T (is_envelope (step_of (clamped_of k) (sample_time_of rate) e))
step_keeps k rate e a w r h = accepted _ (step-inside (clamped_of k) (sample_time_of rate) e (clamped_in k a w) (sample_time_in rate r) (is-inside e h))

-- ---- notes
pub fresh-accepted : T (is_envelope fresh_of)
unfolding is_envelope of_bits le
fresh-accepted = tt

pub triggered_keeps : (e : Envelope) → T (is_envelope e) → T (is_envelope (triggered_of e))
triggered_keeps e h = let i = is-inside e h in accepted _ (record { level_in = i.level_in; release_in = i.release_in; time_in = unfold of_bits in unfold le in tt })

pub released_keeps : (e : Envelope) → T (is_envelope e) → T (is_envelope (released_of e))
unfolding released_of
released_keeps e h = go (is_idle e.stage)
  where
    go : (b : Bool) → T (is_envelope (cond b e (record { stage = Release; level = e.level; stage_time = zero64; release_level = e.level })))
    go true = h
    go false = let i = is-inside e h in accepted _ (record { level_in = i.level_in; release_in = i.level_in; time_in = unfold of_bits in unfold le in tt })
