-- `low_notes::fill` meets its contract. The loop's invariant is `FilledUpTo` of waveform's proofs/Loops.antt. Assumes
-- nothing.
use Prim.Native.Nat.{ℕ, ◌≤◌, ◌<◌}
use native.Mathlib.Nat as nat
use native.Mathlib.Omega.{arith}
use Rattle.waveform.proofs.Loops.{begins, ends}
use Rattle.low_notes.proofs.fill.Goals as goal

pub loop-at-init : goal.loop-at-init
loop-at-init c = begins _ _ _ _ _

pub loop-at-smaller : goal.loop-at-smaller
loop-at-smaller c = let a = c.args in let u = c.fill_next_segment-line.ensures.1 a.start.0 a.out.now c.loop-at.invariant in
    let on = more _ _ _ _ _ c.loop-at-test.true c.fill_next_segment-line.ensures.0 c.fill_sample-before.ensures.1 c.fill_sample-at.ensures.1 (λ l. c.fill_sample-before.ensures.0 (rw (u.size, ← c.loop-at.invariant.size) l)) in
    omega (arith, c.loop-at.invariant.size, c.loop-at-test.true, on)
  where
    -- where there is room for a sample, one is made
    more : (i j k m n : ℕ) → i < n → i ≤ j → j ≤ k → k ≤ m → (j < n → j < k) → i < m
    more i j k m n h a b d one = nat.lt_of_not-le (λ (g : m ≤ i). omega (arith, one (omega arith)))

pub loop-at-preserved : goal.loop-at-preserved
loop-at-preserved c = let a = c.args in let from = a.start.0 in
    let out = a.out.now in
    c.fill_sample-at.ensures.2 from out (c.fill_sample-before.ensures.2 from out (c.fill_next_segment-line.ensures.1 from out c.loop-at.invariant))

pub returns : goal.returns
returns c = ends _ _ _ _ _ _ _ _ c.loop-at.invariant (omega arith)
