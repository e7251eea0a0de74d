-- The walk of `without` over the held pairs: of the pairs that it has visited, those that are kept come first, and the
-- pairs that it has not visited are where they were. A law for each of the two turns, one for the start and one for the
-- end. Assumes nothing.
use mathlib.Core.Path.{◌≡◌, refl, ap, sym, ◌∙◌}
use Prim.Native.Nat.{ℕ, ◌+◌, ◌≤◌, ◌<◌}
use native.Mathlib.Numerals.{add-one}
use native.Mathlib.Omega.{arith}
use lib.ListN.{length, take, get_or, set, length-set, length-take}
use lib.Seq.{get_or-take, get_or-set_other, take_all}
use Rattle.voice.specs.Keys.{note_of, pairs, held_of, others}
use Rattle.voice.specs.declared.keys.Keys.{Keys}
use Rattle.voice.proofs.Pairs.{unused, pairs-most, pairs-at}
use Rattle.voice.proofs.Removal.{others_drops, others_keeps}
use Rattle.voice.proofs.Held.{held-few, first-pushed}

-- of the first i pairs that were held before, those kept are now the first k pairs, and from i on both arrays are as
-- they were before
pub record Walks (n : ℕ) (before now : Keys) (k i : ℕ) : Type 0 where
  pub behind : k ≤ i
  pub active : now.active ≡ before.active
  pub gate : now.gate ≡ before.gate
  pub notes_long : length now.notes ≡ 16
  pub velocities_long : length now.velocities ≡ 16
  pub kept : pairs (take k now.notes) (take k now.velocities) ≡ others n (take i (held_of before))
  pub notes_ahead : (j : ℕ) → i ≤ j → get_or now.notes j 0 ≡ get_or before.notes j 0
  pub velocities_ahead : (j : ℕ) → i ≤ j → get_or now.velocities j 0 ≡ get_or before.velocities j 0

-- before the first turn no pair is visited
pub walk_starts : (n : ℕ) (keys : Keys) → length keys.notes ≡ 16 → length keys.velocities ≡ 16 → Walks n keys keys 0 0
unfolding pairs others
walk_starts n keys hn hv =
    record { behind = omega arith; active = refl; gate = refl; notes_long = hn; velocities_long = hv; kept = refl; notes_ahead = λ j l. refl; velocities_ahead = λ j l. refl }

module _ (n : ℕ) (before now : Keys) (k i : ℕ) (w : Walks n before now k i) where
  -- the pair that was held at i is the one at i now
  here : i < length (held_of before) → get_or (held_of before) i unused ≡ record { note = get_or now.notes i 0; velocity = get_or now.velocities i 0 }
  here h =
      let c = before.count in
      let l : i < c = omega (arith, pairs-most (take c before.notes) (take c before.velocities), length-take c before.notes) in
      rw (pairs-at i (take c before.notes) (take c before.velocities) h, get_or-take c before.notes i 0 l, get_or-take c before.velocities i 0 l, w.notes_ahead i (omega arith), w.velocities_ahead i (omega arith)) refl

  -- a pair of n is left behind
  pub walk_drops : i < length (held_of before) → get_or now.notes i 0 ≡ n → Walks n before now k (i + 1)
  walk_drops h e =
      record {
        behind = omega (arith, w.behind);
        active = w.active;
        gate = w.gate;
        notes_long = w.notes_long;
        velocities_long = w.velocities_long;
        kept = rw (add-one i) (w.kept ∙ sym (others_drops n i (held_of before) h (ap note_of (here h) ∙ e)));
        notes_ahead = λ j l. w.notes_ahead j (omega arith);
        velocities_ahead = λ j l. w.velocities_ahead j (omega arith);
      }

  -- a pair of another note moves down to the place k
  pub walk_keeps : length before.notes ≡ 16 → i < length (held_of before) → (get_or now.notes i 0 ≡ n → ⊥)
      → Walks n before (record now { notes = set now.notes k (get_or now.notes i 0); velocities = set now.velocities k (get_or now.velocities i 0) }) (k + 1) (i + 1)
  walk_keeps hn h e =
      let low : k < 16 = omega (arith, w.behind, held-few before hn) in
      let more = others_keeps n i (held_of before) h (λ (q : note_of (get_or (held_of before) i unused) ≡ n). e (sym (ap note_of (here h)) ∙ q)) in
      record {
        behind = omega (arith, w.behind);
        active = w.active;
        gate = w.gate;
        notes_long = length-set now.notes k (get_or now.notes i 0) ∙ w.notes_long;
        velocities_long = length-set now.velocities k (get_or now.velocities i 0) ∙ w.velocities_long;
        kept = rw (add-one i, more, here h, ← w.kept) (first-pushed now.notes now.velocities w.notes_long w.velocities_long k (get_or now.notes i 0) (get_or now.velocities i 0) low);
        notes_ahead = λ j l. get_or-set_other now.notes k j (get_or now.notes i 0) 0 (λ q. omega (arith, w.behind)) ∙ w.notes_ahead j (omega arith);
        velocities_ahead = λ j l. get_or-set_other now.velocities k j (get_or now.velocities i 0) 0 (λ q. omega (arith, w.behind)) ∙ w.velocities_ahead j (omega arith);
      }

  -- at the end the first k pairs are those kept of all that were held
  pub walk_ends : length (held_of before) ≤ i → pairs (take k now.notes) (take k now.velocities) ≡ others n (held_of before)
  walk_ends h = w.kept ∙ ap (others n) (take_all i (held_of before) h)
