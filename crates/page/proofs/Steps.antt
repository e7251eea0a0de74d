-- The edits, one after the other: what a step says, and one turn of the loop. Assumes nothing.
use Rattle.std.specs.Prelude.{Err, Ok, Result}
use mathlib.Core.Path.{◌≡◌, refl, sym, ap, ◌∙◌}
use mathlib.Core.Bool.{true, false}
use mathlib.Core.List.{List, [], ◌∷◌, ◌++◌, map}
use Prim.Native.Nat.{ℕ, suc, ◌+◌, ◌-◌, ◌<◌}
use native.Mathlib.Numerals.{add-one}
use native.Mathlib.Omega.{arith}
use lib.Dec.{ltb}
use Rattle.answers.specs.Order.{unless, first_of}
use Rattle.answers.specs.declared.Refusal.{Refusal}
use Rattle.answers.specs.declared.Refusal.TheVariants.{EditFrame, NotThere, Full, Edit}
use Rattle.answers.proofs.Order.{Leads, leads_first, leads_append}
use Rattle.score.specs.Record.{count_of}
use Rattle.score.specs.Apart.{first_equal}
use Rattle.page.specs.Page.{edits_in, frame_right, is_insert, record_of, inserted_of, removed_of, edited_by, score_after, new_score_of, record_faults, held_refusals, edit_refusals, refusals_from}
use Rattle.page.specs.Inner.{IsAccepted, Steps}
use Rattle.page.proofs.Taken.{edit-accepted}

-- ---- what a step says
pub stopped_leads : (xs : List Refusal) (why : Refusal) → first_of {R = Result (Unit {0}) Refusal} xs Err (Ok tt) ≡ Err why → Leads why xs
stopped_leads [] why e = cc
stopped_leads (x ∷ xs) why e = cc

pub taken-none : (xs : List Refusal) (u : Unit {0}) → first_of {R = Result (Unit {0}) Refusal} xs Err (Ok tt) ≡ Ok u → xs ≡ []
taken-none [] u e = refl
taken-none (x ∷ xs) u e = cc

module _ (xs : List Refusal) (new : List ℕ) (r : Result (Unit {0}) Refusal) (score : List ℕ) (s : Steps xs new r score) where
  pub step_stopped : (why : Refusal) → r ≡ Err why → Leads why xs
  step_stopped why e = stopped_leads xs why (sym s.told ∙ e)

  pub step-none : (u : Unit {0}) → r ≡ Ok u → xs ≡ []
  step-none u e = taken-none xs u (sym s.told ∙ e)

  pub step-made : (u : Unit {0}) → r ≡ Ok u → score ≡ new
  step-made u e = s.made (step-none u e)

-- refusals of which `why` is the first
stops : (xs : List Refusal) (new : List ℕ) (why : Refusal) (score : List ℕ) → Leads why xs → Steps xs new (Err why) score
stops xs new why score leads = record { told = sym (leads_first why xs Err (Ok tt) leads); made = λ none. absurd (led xs leads none) }
  where
    led : (xs : List Refusal) → Leads why xs → xs ≡ [] → ⊥
    led [] l e = l
    led (x ∷ xs) l e = cc

-- ---- one edit: judged, and then put in or taken out
module _ (s es : List ℕ) (i : ℕ) (score : List ℕ) where
  abbrev judged : List Refusal
  judged = unless (frame_right es i) (EditFrame i) ++ map Edit (record_faults (record_of es i) i)

  pub edit_stopped : (why : Refusal) → first_of {R = Result (Unit {0}) Refusal} judged Err (Ok tt) ≡ Err why → Steps (edit_refusals s es i) (edited_by s es i) (Err why) score
  unfolding edit_refusals
  edit_stopped why e =
      let leads = leads_append why judged (held_refusals s es i) (stopped_leads judged why e) in
      stops (judged ++ held_refusals s es i) (edited_by s es i) why score leads

  module _ (u : Unit {0}) (none : first_of {R = Result (Unit {0}) Refusal} judged Err (Ok tt) ≡ Ok u) (r : Result (Unit {0}) Refusal) where
    pub edit_inserts : is_insert es i ≡ true → Steps (unless (ltb (count_of s) 4096) (Full i)) (inserted_of s (record_of es i)) r score → Steps (edit_refusals s es i) (edited_by s es i) r score
    unfolding edit_refusals held_refusals
    edit_inserts e x = rw (taken-none judged u none, e) x

    pub edit_removes : is_insert es i ≡ false → Steps (unless (ltb (first_equal s (record_of es i)) (count_of s)) (NotThere i)) (removed_of s (first_equal s (record_of es i))) r score
        → Steps (edit_refusals s es i) (edited_by s es i) r score
    unfolding edit_refusals held_refusals
    edit_removes e x = rw (taken-none judged u none, e) x

-- ---- the loop, before edit i of n: the score is that after the first i edits, and what is left decides
pub record Applying (old es : List ℕ) (score : List ℕ) (i : ℕ) : Type 0 where
  pub score-is : score ≡ score_after old es i
  pub accepted : IsAccepted score
  pub rest : refusals_from old es (edits_in es) 0 ≡ refusals_from old es (edits_in es - i) i

-- before the first edit it is the old score
pub applying_begins : (old es : List ℕ) → IsAccepted old → Applying old es old 0
unfolding score_after
applying_begins old es accepted =
    let all : edits_in es ≡ edits_in es - 0 = omega arith in
    record { score-is = refl; accepted = accepted; rest = ap (λ (k : ℕ). refusals_from old es k 0) all }

module _ (old es : List ℕ) (score : List ℕ) (i : ℕ) (a : Applying old es score i) where
  -- after the last edit nothing is left to refuse
  pub applying_ends : i ≡ edits_in es → Steps (refusals_from old es (edits_in es) 0) (new_score_of old es) (Ok tt) score
  unfolding refusals_from
  applying_ends end =
      let over : edits_in es - i ≡ 0 = omega arith in
      let none : refusals_from old es (edits_in es) 0 ≡ [] = a.rest ∙ ap (λ (k : ℕ). refusals_from old es k i) over in
      record { told = rw none refl; made = λ e. a.score-is ∙ ap (score_after old es) end }

  -- the refusals of edit i, then those after it
  module _ (h : i < edits_in es) where
    left_is : refusals_from old es (edits_in es) 0 ≡ edit_refusals score es i ++ refusals_from old es (edits_in es - (i + 1)) (i + 1)
    unfolding refusals_from
    left_is = let e : edits_in es - i ≡ suc (edits_in es - (i + 1)) = omega arith in a.rest ∙ rw (e, add-one i, a.score-is) refl

    module _ (r : Result (Unit {0}) Refusal) (after : List ℕ) (s : Steps (edit_refusals score es i) (edited_by score es i) r after) where
      pub applying_stops : (why : Refusal) → r ≡ Err why → (new : List ℕ) → Steps (refusals_from old es (edits_in es) 0) new (Err why) after
      applying_stops why e new =
          stops (refusals_from old es (edits_in es) 0) new why after
          (rw left_is (leads_append why (edit_refusals score es i) (refusals_from old es (edits_in es - (i + 1)) (i + 1)) (step_stopped _ _ r after s why e)))

      pub applying_on : (u : Unit {0}) → r ≡ Ok u → Applying old es after (i + 1)
      unfolding score_after
      applying_on u e =
          let none = step-none _ _ r after s u e in
          let made = step-made _ _ r after s u e in
          record {
            score-is = made ∙ rw (add-one i, a.score-is) refl;
            accepted = rw made (edit-accepted score es i h a.accepted none);
            rest = left_is ∙ rw none refl;
          }
