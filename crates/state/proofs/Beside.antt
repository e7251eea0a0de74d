-- Two runs side by side over one score, each under its own settings: a relation of states that a reduction, a record
-- and an advance keep holds at every sample. Assumes nothing.
use mathlib.Core.Bool.{Bool, true, false, cond}
use mathlib.Core.List.{List}
use Prim.Native.Nat.{ℕ, zero, suc, ◌+◌}
use lib.Dec.{eqb}
use Rattle.runs.proofs.Laws.{run_beside}
use Rattle.score.specs.declared.Record.{Record}
use Rattle.score.specs.Record.{count_of, position_at, record_at}
use Rattle.state.specs.declared.Settings.{Settings}
use Rattle.state.specs.declared.State.{State}
use Rattle.state.specs.State.{reduced_of, event_of, act_of, advance_of}
use Rattle.state.specs.Heart.{reduces_at, act_to, begun, after_sample, state_from}

-- the steps keep R
pub record Alongside (g h : Settings) (R : State → State → Type 0) : Type 0 where
  pub reduced : (v w : State) → R v w → R (reduced_of v) (reduced_of w)
  pub acted : (v w : State) (r : Record) → R v w → R (act_of g v (event_of r)) (act_of h w (event_of r))
  pub advanced : (v w : State) → R v w → R (advance_of g v) (advance_of h w)

module _ (g h : Settings) (R : State → State → Type 0) (c : Alongside g h R) (s : List ℕ) where
  acts_beside : (n k : ℕ) (v w : State) → R v w → R (act_to g s n k v) (act_to h s n k w)
  unfolding act_to
  acts_beside n zero v w e = e
  acts_beside n (suc k) v w e = go (eqb (position_at s k) n) (acts_beside n k v w e)
    where
      go : (b : Bool) → R (act_to g s n k v) (act_to h s n k w)
          → R (cond b (act_of g (act_to g s n k v) (event_of (record_at s k))) (act_to g s n k v)) (cond b (act_of h (act_to h s n k w) (event_of (record_at s k))) (act_to h s n k w))
      go true r = c.acted (act_to g s n k v) (act_to h s n k w) (record_at s k) r
      go false r = r

  pub begun_beside : (n : ℕ) (v w : State) → R v w → R (begun g s n v) (begun h s n w)
  unfolding begun
  begun_beside n v w e = go (reduces_at s n)
    where
      go : (b : Bool) → R (act_to g s n (count_of s) (cond b (reduced_of v) v)) (act_to h s n (count_of s) (cond b (reduced_of w) w))
      go true = acts_beside n (count_of s) (reduced_of v) (reduced_of w) (c.reduced v w e)
      go false = acts_beside n (count_of s) v w e

  pub state_beside : (n : ℕ) (v w : State) → R v w → (k : ℕ) → R (state_from g s n v k) (state_from h s n w k)
  unfolding state_from
  state_beside n v w e k = run_beside (after_sample g s) (after_sample h s) n n v w (λ i. R) e k (λ i l r. c.advanced _ _ (begun_beside (n + i) _ _ r))
