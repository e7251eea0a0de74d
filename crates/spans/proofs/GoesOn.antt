-- Cut anywhere: a walk of j samples, and then one of k from the place reached, are a walk of j + k. Assumes nothing.
use mathlib.Core.Path.{◌≡◌}
use mathlib.Core.List.{List, ◌++◌}
use Prim.Native.Nat.{ℕ, ◌+◌}
use lib.ListN.{length}
use Rattle.runs.proofs.Listed.{listed-length}
use Rattle.runs.proofs.Laws.{run_on, seen_on}
use Rattle.state.specs.declared.Settings.{Settings}
use Rattle.spans.specs.declared.Place.{Place}
use Rattle.spans.specs.Walk.{played_at, after_played, place_from, played_from}

module _ (g : Settings) (s : List ℕ) (n : ℕ) (p : Place) where
  -- k samples
  pub played-length : (k : ℕ) → length (played_from g s n p k) ≡ k
  unfolding played_from
  played-length = listed-length _

  pub place_on : (j k : ℕ) → place_from g s n p (j + k) ≡ place_from g s (n + j) (place_from g s n p j) k
  unfolding place_from
  place_on = run_on (after_played g s) n p

  pub played_on : (j k : ℕ) → played_from g s n p (j + k) ≡ played_from g s n p j ++ played_from g s (n + j) (place_from g s n p j) k
  unfolding place_from played_from
  played_on = seen_on (after_played g s) n p (played_at g s)
