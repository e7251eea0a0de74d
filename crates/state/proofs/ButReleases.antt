-- A note-on with velocity 0 is the release of its key, and how a release is written is not heard: scores that are the
-- same but for that have the same positions and events, so from one state they make the same states, samples and
-- entries. No record strikes a key with velocity 0. Assumes nothing.
use mathlib.Core.Path.{◌≡◌, refl, sym, ap, subst, ◌∙◌}
use mathlib.Core.Logic.{⊎_elim}
use mathlib.Core.Bool.{Bool, true, false, cond}
use mathlib.Core.List.{List}
use Prim.Native.Nat.{ℕ, zero, suc, ◌+◌, ◌*◌, ◌≤◌, ◌<◌}
use native.Mathlib.Omega.{arith}
use lib.Dec.{eqb}
use borrow.Author.Tests.{ne_eqb, eqb-false}
use Rattle.score.specs.declared.Record.{Record}
use Rattle.score.specs.declared.Kind.{Kind}
use Rattle.score.specs.declared.Kind.TheVariants.{On, Off, Reset}
use Rattle.score.specs.Record.{count_of, record_at}
use Rattle.score.specs.Below.{below, count_below}
use Rattle.state.specs.declared.Settings.{Settings}
use Rattle.state.specs.declared.State.{State}
use Rattle.state.specs.declared.Event.{Event}
use Rattle.state.specs.declared.Event.TheVariants as event
use Rattle.state.specs.State.{event_for, event_of}
use Rattle.state.specs.Heart.{state_from, samples_from, entries_from}
use Rattle.state.specs.ButReleases.{IsNought, IsRelease, SameRelease, SameButReleases}
use Rattle.state.proofs.Depends.{ActAlike, equal_alike, Shared, state_shared, samples_shared, entries_shared}

-- ---- one record
pub off-lifts : (r : Record) → r.kind ≡ Off → event_of r ≡ event.Lift r.note
off-lifts r e = rw e refl

pub nought_lifts : (r : Record) → IsNought r → event_of r ≡ event.Lift r.note
nought_lifts r e = rw (e.0, e.1) refl

pub release_lifts : (r : Record) → IsRelease r → event_of r ≡ event.Lift r.note
release_lifts r h = ⊎_elim (off-lifts r) (nought_lifts r) h

-- an on with any other velocity strikes
pub other-strikes : (r : Record) → r.kind ≡ On → 1 ≤ r.velocity → event_of r ≡ event.Strike r.note r.velocity
other-strikes r e h = rw (e, ne_eqb r.velocity 0 (λ z. omega arith)) refl

-- a reset resets, whatever its velocity, which is 0 in an accepted score
pub reset-resets : (r : Record) → r.kind ≡ Reset → event_of r ≡ event.Reset
reset-resets r e = rw e refl

-- no record strikes with velocity 0
abbrev From1 : Event → Type 0
From1 (event.Strike note velocity) = 1 ≤ velocity
From1 (event.Lift note) = Unit
From1 event.Reset = Unit

from_1 : (k : Kind) (note velocity : ℕ) → From1 (event_for k note velocity)
from_1 On note velocity = go (eqb velocity 0) refl
  where
    go : (t : Bool) → eqb velocity 0 ≡ t → From1 (cond t (event.Lift note) (event.Strike note velocity))
    go true e = tt
    go false e = omega (arith, eqb-false velocity 0 e)
from_1 Off note velocity = tt
from_1 Reset note velocity = tt

pub strike-from_1 : (r : Record) (note velocity : ℕ) → event_of r ≡ event.Strike note velocity → 1 ≤ velocity
strike-from_1 r note velocity e = subst From1 e (from_1 r.kind r.note r.velocity)

-- ---- two scores
same_release_alike : (r p : Record) → SameRelease r p → ActAlike r p
same_release_alike r p h =
    record {
      position = h.position;
      event = release_lifts r h.releases.0 ∙ ap event.Lift h.note ∙ sym (release_lifts p h.releases.1);
    }

module _ (s t : List ℕ) (h : SameButReleases s t) where
  records_alike : (i : ℕ) → i < count_of s → ActAlike (record_at s i) (record_at t i)
  records_alike i l = ⊎_elim (equal_alike (record_at s i) (record_at t i)) (same_release_alike (record_at s i) (record_at t i)) (h.each i l)

  -- up to any position
  all_shared : (q : ℕ) → Shared s t q (count_of s)
  all_shared q =
      let c : count_of s ≡ count_of t = h.count in
      record { in_s = omega arith; in_t = omega arith; same = records_alike; high_s = λ i l u. omega arith; high_t = λ i l u. omega arith }

  pub state-releases : (g : Settings) (n : ℕ) (v : State) (k : ℕ) → state_from g s n v k ≡ state_from g t n v k
  state-releases g n v k = state_shared s t (n + k) (count_of s) (all_shared (n + k)) g n v k (omega arith)

  pub samples-releases : (g : Settings) (n : ℕ) (v : State) (k : ℕ) → samples_from g s n v k ≡ samples_from g t n v k
  samples-releases g n v k = samples_shared s t (n + k) (count_of s) (all_shared (n + k)) g n v k (omega arith)

  pub entries-releases : (g : Settings) (m : ℕ) (v : State) (k : ℕ) → entries_from g s m v k ≡ entries_from g t m v k
  entries-releases g m v k = entries_shared s t ((m + k) * 4096) (count_of s) (all_shared ((m + k) * 4096)) g m v k (λ i l. omega arith)

  -- they have as many records below any position
  below-to : (p k : ℕ) → k ≤ count_of s → below s p k ≡ below t p k
  unfolding below
  below-to p zero l = refl
  below-to p (suc k) l = rw ((records_alike k l).position, below-to p k (omega arith)) refl

  pub below-releases : (p : ℕ) → count_below s p ≡ count_below t p
  below-releases p = below-to p (count_of s) (omega arith) ∙ ap (below t p) h.count
