-- The refusals case by case, and what is true of a call that has none of them. Assumes nothing.
use Rattle.std.specs.Prelude.{Err, Ok}
use mathlib.Core.Path.{◌≡◌, refl, subst}
use mathlib.Core.Bool.{Bool, true, false, ◌&&◌}
use mathlib.Core.List.{List, [], ◌∷◌, ◌++◌, map}
use Prim.Native.Nat.{ℕ}
use lib.Dec.{leb, eqb}
use borrow.Author.Tests.{le-leb, leb-true, eq-eqb, eqb-true}
use Rattle.answers.specs.Order.{unless}
use Rattle.answers.specs.declared.Refusal.{Refusal}
use Rattle.answers.specs.declared.Refusal.TheVariants.{Score, NewScore, Setting, Size}
use Rattle.answers.specs.declared.ScoreFault.{ScoreFault}
use Rattle.answers.proofs.Order.{passed, none_both, none-map, Leads, map_leads}
use Rattle.score.specs.Record.{count_of}
use Rattle.score.specs.Score.{faults_of, verdict_of}
use Rattle.score.specs.Below.{Sorted}
use Rattle.score.proofs.Codec.{both}
use Rattle.score.proofs.Cuts.{accepted-sorted}
use Rattle.score.proofs.Verdicts.{accepted_faults, none-accepted, faulty_faults}
use Rattle.shelf.specs.Shelf.{entries_for, words_for}
use Rattle.state.specs.declared.Settings.{Settings}
use Rattle.state.specs.Settings.{settings_ok}
use Rattle.judging.specs.Judging.{refusals_of, Passed, new_refusals_of, most_samples, sizes_fit, Roomy}

-- ---- no refusal
pub all_passed : (g : Settings) (room : Bool) (s : List ℕ) → refusals_of g room s ≡ [] → Passed g room s
unfolding refusals_of
all_passed g room s e =
    let b = none_both (unless (settings_ok g) Setting ++ unless room Size) (map Score (faults_of s)) e in
    let a = none_both (unless (settings_ok g) Setting) (unless room Size) b.0 in
    record { settings = passed _ _ a.0; sized = passed _ _ a.1; accepted = none-accepted s (none-map Score (faults_of s) b.1) }

pub none-refused : (g : Settings) (room : Bool) (s : List ℕ) (n : ℕ) → settings_ok g ≡ true → room ≡ true → verdict_of s ≡ Ok n → refusals_of g room s ≡ []
unfolding refusals_of
none-refused g room s n e f h = rw (e, f, accepted_faults s n h) refl

pub new-passed : (s : List ℕ) → new_refusals_of s ≡ [] → verdict_of s ≡ Ok (count_of s)
unfolding new_refusals_of
new-passed s e = none-accepted s (none-map NewScore (faults_of s) e)

pub none_newly : (s : List ℕ) (n : ℕ) → verdict_of s ≡ Ok n → new_refusals_of s ≡ []
unfolding new_refusals_of
none_newly s n h = rw (accepted_faults s n h) refl

pub passed-sorted : (g : Settings) (room : Bool) (s : List ℕ) → refusals_of g room s ≡ [] → Sorted s
passed-sorted g room s e = accepted-sorted s (count_of s) (all_passed g room s e).accepted

-- ---- the first refusal, in both directions
module _ (g : Settings) (room : Bool) (s : List ℕ) where
  -- P holds of the first refusal where P holds of each refusal under the condition that makes it the first
  pub judged-first : (P : Refusal → Type 0) → (settings_ok g ≡ false → P Setting) → (settings_ok g ≡ true → room ≡ false → P Size) → (settings_ok g ≡ true → room ≡ true → (fault : ScoreFault) → verdict_of s ≡ Err fault → P (Score fault))
      → (why : Refusal) → Leads why (refusals_of g room s) → P why
  unfolding refusals_of verdict_of
  judged-first P six seven score why h = go (settings_ok g) refl room refl (faults_of s) refl h
    where
      go : (a : Bool) → settings_ok g ≡ a → (b : Bool) → room ≡ b → (fs : List ScoreFault) → faults_of s ≡ fs → Leads why (unless a Setting ++ unless b Size ++ map Score fs) → P why
      go false e b f fs q h = subst P h (six e)
      go true e false f fs q h = subst P h (seven e f)
      go true e true f [] q h = absurd h
      go true e true f (x ∷ fs) q h = subst P h (score e f x (rw q refl))

  pub six_first : settings_ok g ≡ false → Leads Setting (refusals_of g room s)
  unfolding refusals_of
  six_first e = rw e refl

  pub seven_first : settings_ok g ≡ true → room ≡ false → Leads Size (refusals_of g room s)
  unfolding refusals_of
  seven_first e f = rw (e, f) refl

  pub score-first : settings_ok g ≡ true → room ≡ true → (fault : ScoreFault) → verdict_of s ≡ Err fault → Leads (Score fault) (refusals_of g room s)
  unfolding refusals_of
  score-first e f fault h = rw (e, f) (map_leads Score fault (faults_of s) (faulty_faults s fault h))

module _ (s : List ℕ) where
  pub newly_first : (P : Refusal → Type 0) → ((fault : ScoreFault) → verdict_of s ≡ Err fault → P (NewScore fault)) → (why : Refusal) → Leads why (new_refusals_of s) → P why
  unfolding new_refusals_of verdict_of
  newly_first P score why h = go (faults_of s) refl h
    where
      go : (fs : List ScoreFault) → faults_of s ≡ fs → Leads why (map NewScore fs) → P why
      go [] q h = absurd h
      go (x ∷ fs) q h = subst P h (score x (rw q refl))

  pub new-first : (fault : ScoreFault) → verdict_of s ≡ Err fault → Leads (NewScore fault) (new_refusals_of s)
  unfolding new_refusals_of
  new-first fault h = map_leads NewScore fault (faults_of s) (faulty_faults s fault h)

-- ---- sizes
pub roomy : (n words magnitudes numbers : ℕ) → sizes_fit n words magnitudes numbers ≡ true → Roomy n words magnitudes numbers
roomy n words magnitudes numbers h =
    let a = both (leb n most_samples && eqb words (words_for n) && eqb magnitudes (entries_for n)) (eqb numbers (entries_for n)) h in
    let b = both (leb n most_samples && eqb words (words_for n)) (eqb magnitudes (entries_for n)) a.0 in
    let c = both (leb n most_samples) (eqb words (words_for n)) b.0 in
    record { short = leb-true n most_samples c.0; fits = eqb-true words (words_for n) c.1; magnitudes-fit = eqb-true magnitudes (entries_for n) b.1; numbers_fit = eqb-true numbers (entries_for n) a.1 }

pub fits-roomy : (n words magnitudes numbers : ℕ) → Roomy n words magnitudes numbers → sizes_fit n words magnitudes numbers ≡ true
fits-roomy n words magnitudes numbers r =
    rw (le-leb n most_samples r.short, eq-eqb words (words_for n) r.fits, eq-eqb magnitudes (entries_for n) r.magnitudes-fit, eq-eqb numbers (entries_for n) r.numbers_fit) refl
