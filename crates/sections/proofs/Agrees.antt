-- In a score whose positions never fall, from the first record that is not below a section's first sample, the sections
-- are what the definitions of `state` make: samples, states, entries, the stop; and at the stop the next record is the
-- first that is not below it. Assumes nothing.
use mathlib.Core.Path.{◌≡◌, refl, ap}
use mathlib.Core.Bool.{Bool, true, ◌&&◌}
use mathlib.Core.List.{List}
use Prim.Native.Nat.{ℕ, suc, ◌+◌, ◌-◌, ◌*◌, min, ◌≤◌}
use native.Mathlib.Omega.{arith}
use lib.Dec.{leb}
use Rattle.runs.proofs.Listed.{listed_same}
use Rattle.runs.proofs.First.{first-same}
use Rattle.score.specs.Below.{Sorted, Cut}
use Rattle.state.specs.declared.Settings.{Settings}
use Rattle.state.specs.declared.State.{State}
use Rattle.state.specs.Heart.{state_from, samples_from, entries_from}
use Rattle.shelf.specs.Shelf.{section_size, entries_for, shelf_of, entry_at, meets}
use Rattle.spans.specs.Walk.{place_of}
use Rattle.spans.proofs.Agrees.{kept, samples_agree}
use Rattle.sections.specs.Outcome.{Buffers, samples_in, room_in, Outcome}
use Rattle.sections.specs.declared.End.{End}
use Rattle.sections.specs.Sections.{made_between, stop_where, may_stop, stop_for, kept_from, play_on_of}

module _ (g : Settings) (s : List ℕ) (o : Sorted s) (m i : ℕ) (v : State) (c : Cut s (m * section_size) i) where
  entries_agree : (k : ℕ) → kept_from g s m (place_of v i) k ≡ shelf_of (entries_from g s m v k)
  unfolding kept_from entries_from
  entries_agree k = ap shelf_of (listed_same _ _ k (λ j l. (kept g s o (m * section_size) i v c (j * section_size)).state-is))

  -- the test of a stop
  abbrev pub quiet_at : ℕ → List ℕ → ℕ → Bool
  quiet_at quiet shelf k = leb quiet k && meets (entry_at shelf k) (state_from g s (m * section_size) v ((k - m) * section_size))

  stop_agrees : (quiet : ℕ) (b : Buffers) → stop_for g s m (place_of v i) quiet b ≡ stop_where (quiet_at quiet b.stored) m (samples_in b)
  unfolding stop_for
  stop_agrees quiet b =
      ap (λ (k : ℕ). min (k * section_size) (samples_in b))
      (first-same (may_stop g s m (place_of v i) quiet b.stored) (quiet_at quiet b.stored) (entries_for (samples_in b) - suc m) (suc m)
      (λ k l u. ap (λ (w : State). leb quiet k && meets (entry_at b.stored k) w) (kept g s o (m * section_size) i v c ((k - m) * section_size)).state-is))

  -- what the call leaves if the sizes fit
  pub record Made (quiet : ℕ) (b : Buffers) (r : Outcome End) : Type 0 where
    pub stop_is : r.result.sample ≡ stop_where (quiet_at quiet b.stored) m (samples_in b)
    pub state-is : r.result.place.state ≡ state_from g s (m * section_size) v (r.result.sample - m * section_size)
    pub next-is : m * section_size ≤ r.result.sample → Cut s r.result.sample r.result.place.next
    pub left_is : r.left ≡ made_between m r.result.sample (samples_from g s (m * section_size) v (r.result.sample - m * section_size)) (shelf_of (entries_from g s m v (entries_for r.result.sample - m))) b

  pub made : (quiet : ℕ) (b : Buffers) → room_in b ≡ true → Made quiet b (play_on_of g s m (place_of v i) quiet b)
  unfolding play_on_of
  made quiet b f =
      let stop = stop_for g s m (place_of v i) quiet b in
      let k = stop - m * section_size in
      let at = kept g s o (m * section_size) i v c k in
      rw f
      (record {
        stop_is = stop_agrees quiet b;
        state-is = at.state-is;
        next-is = λ l. (let e : m * section_size + k ≡ stop = omega arith in rw e at at.cut);
        left_is = rw (samples_agree g s o (m * section_size) i v c k, entries_agree (entries_for stop - m)) refl;
      })
