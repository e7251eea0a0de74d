-- Consecutive samples: i and then j of them are i + j, and the level of sample i is that of the envelope after it.
-- Assumes nothing.
use Rattle.std.proofs.Common.{◌≡◌, refl, subst, ap, ◌∙◌, List, [], ◌∷◌, ◌++◌, ℕ, suc, ◌+◌, ◌<◌, ◌≤◌, length, get_or, set, take, add-one}
use native.Mathlib.Nat.{add-suc}
use lib.Seq.{take-suc-set, take_all}
use lib.Ieee.{Float, nan}
use Rattle.runs.specs.Runs.{run, listed}
use Rattle.runs.proofs.Listed.{listed-length, listed_at, listed_on, listed_same}
use Rattle.runs.proofs.Laws.{repeated_on}
use Rattle.envelope.specs.Stages.{step_of}
use Rattle.envelope.specs.Running.{envelope_from, levels_from, Filled}
use Rattle.envelope.specs.declared.Adsr.{Adsr}
use Rattle.envelope.specs.declared.Envelope.{Envelope}

module _ (k : Adsr) (t : Float) (e : Envelope) where
  pub envelope_runs_on : (i j : ℕ) → envelope_from k t e (i + j) ≡ envelope_from k t (envelope_from k t e i) j
  unfolding envelope_from
  envelope_runs_on = repeated_on (step_of k t) e

  pub levels-run_on : (i j : ℕ) → levels_from k t e (i + j) ≡ levels_from k t e i ++ levels_from k t (envelope_from k t e i) j
  unfolding levels_from
  levels-run_on i j = listed_on _ i j ∙ ap (◌++◌ (levels_from k t e i)) (listed_same _ _ j (λ n l. rw (← add-suc i n, envelope_runs_on i (suc n)) refl))

  pub levels-length : (n : ℕ) → length (levels_from k t e n) ≡ n
  unfolding levels_from
  levels-length = listed-length _

  pub level-at : (i n : ℕ) → i < n → get_or (levels_from k t e n) i nan ≡ (envelope_from k t e (suc i)).level
  unfolding levels_from
  level-at i n = listed_at _ n i nan

  -- ---- a slice that is filled from its start
  pub filled-none : (ys : List Float) → Filled k t e 0 (take 0 ys) e
  unfolding envelope_from levels_from run listed
  filled-none ys = record { levels = refl; last = refl }

  pub filled_more : (ys : List Float) (c d : Envelope) (i : ℕ) → i < length ys → d ≡ step_of k t c → Filled k t e i (take i ys) c → Filled k t e (i + 1) (take (i + 1) (set ys i d.level)) d
  unfolding envelope_from levels_from run listed
  filled_more ys c d i h q f =
      let next : d ≡ envelope_from k t e (suc i) = q ∙ ap (step_of k t) f.last in
      record { levels = rw (add-one i, take-suc-set ys i d.level h, f.levels) (ap (λ (x : Envelope). levels_from k t e i ++ (x.level ∷ [])) next); last = rw (add-one i) next }

  pub filled_all : (ys : List Float) (c : Envelope) (i n : ℕ) → length ys ≤ i → i ≡ n → Filled k t e i (take i ys) c → Filled k t e n ys c
  filled_all ys c i n h q f = subst (λ (m : ℕ). Filled k t e m ys c) q (subst (λ (l : List Float). Filled k t e i l c) (take_all i ys h) f)
