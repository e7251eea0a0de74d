-- The records at n act, one after the other: a turn of the loop, and its end. Assumes nothing.
use mathlib.Core.Path.{◌≡◌, refl}
use mathlib.Core.Bool.{true, false}
use mathlib.Core.List.{List}
use Prim.Native.Nat.{ℕ, zero, suc, ◌+◌, ◌-◌, ◌<◌}
use native.Mathlib.Numerals.{add-one}
use native.Mathlib.Omega.{arith}
use borrow.Author.Tests.{ltb-true}
use lib.Dec.{ltb, eqb}
use Rattle.score.specs.Record.{count_of, position_at, record_at}
use Rattle.score.proofs.Codec.{both}
use Rattle.state.specs.declared.Settings.{Settings}
use Rattle.state.specs.declared.State.{State}
use Rattle.state.specs.State.{reduced_of, event_of, act_of}
use Rattle.spans.specs.declared.Place.{Place}
use Rattle.spans.specs.Walk.{place_of, is_due_at, act_from, begins_at, begun_from}

pub act_stop : (g : Settings) (s : List ℕ) (n k : ℕ) (p : Place) → is_due_at s p.next n ≡ false → act_from g s n k p ≡ p
unfolding act_from
act_stop g s n zero p f = refl
act_stop g s n (suc k) p f = rw f refl

-- a record that is at n exists
pub is-there : (s : List ℕ) (n i : ℕ) → is_due_at s i n ≡ true → i < count_of s
is-there s n i t = ltb-true _ _ (both (ltb i (count_of s)) (eqb (position_at s i) n) t).0

module _ (g : Settings) (s : List ℕ) (n i : ℕ) (v : State) where
  pub act_on : (p : Place) → is_due_at s i n ≡ true → p ≡ place_of (act_of g v (event_of (record_at s i))) (i + 1) → act_from g s n (count_of s - i) (place_of v i) ≡ act_from g s n (count_of s - p.next) p
  unfolding act_from
  act_on p t e = let h = is-there s n i t in let d : count_of s - i ≡ suc (count_of s - (i + 1)) = omega arith in rw (e, d, t, add-one i) refl

  -- a sample is begun with the phases reduced, where a span begins, or as they are
  pub begun_on : begins_at s i n ≡ true → act_from g s n (count_of s - i) (place_of (reduced_of v) i) ≡ begun_from g s n (place_of v i)
  unfolding begun_from
  begun_on t = rw t refl

  pub begun_off : begins_at s i n ≡ false → act_from g s n (count_of s - i) (place_of v i) ≡ begun_from g s n (place_of v i)
  unfolding begun_from
  begun_off f = rw f refl
