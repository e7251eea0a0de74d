-- The call, refusal by refusal: 6, 7, the old score's faults and 36, then the edits, then 8; and what one re-render
-- leaves, with the new score written or not. Assumes nothing.
use Rattle.std.specs.Prelude.{Err, None, Ok, Option, Result, Some}
use mathlib.Core.Path.{◌≡◌, refl, sym, ap, ◌∙◌}
use mathlib.Core.Bool.{true}
use mathlib.Core.List.{List, [], ◌∷◌, ◌++◌}
use Prim.Native.Nat.{ℕ, ◌%◌, ◌≤◌}
use native.Mathlib.Omega.{arith}
use lib.Dec.{eqb}
use lib.ListN.{length, drop}
use borrow.Author.Tests.{eqb-true}
use Rattle.answers.specs.Order.{unless, first_of}
use Rattle.answers.specs.Answer.{Answer}
use Rattle.answers.specs.declared.Refusal.{Refusal}
use Rattle.answers.specs.declared.Refusal.TheVariants.{Page}
use Rattle.answers.proofs.Order.{first_append, leads_first, leads_append, done_none, refused_leads, none_both, Leads, passed, Decided, decided}
use Rattle.score.proofs.Codec.{both}
use Rattle.score.proofs.Parted.{clash}
use Rattle.state.specs.declared.Settings.{Settings}
use Rattle.sections.specs.declared.Buffers as lent
use Rattle.sections.specs.Lending.{held, leaves_in, left_in}
use Rattle.sections.proofs.Lending.{left_filled}
use Rattle.sections.specs.Outcome.{Buffers, samples_in, room_in, Outcome, leaves}
use Rattle.judging.specs.Judging.{refusals_of, Passed}
use Rattle.judging.proofs.Refusals.{all_passed, none-refused, none_newly}
use Rattle.rerender.specs.Rerender.{plan_of, start_refusals, outcome_of, count_for, rerender_of}
use Rattle.rerender.specs.Rerender as rerendering
use Rattle.rerender.proofs.Cases.{checks_pass}
use Rattle.page.specs.declared.Paged.{Paged}
use Rattle.page.specs.Page.{edits_in, new_score_of, refusals_from, Rewritten, rewrites, rewrites_in, rewritten_in, paged, page_fits, first_refusals, page_refusals, kept_of, turned_over, edit_of}
use Rattle.page.specs.Inner.{IsAccepted, Steps, turn_of, edit_in}
use Rattle.page.proofs.Taken.{after-accepted, accepted-bytes, none_made}
use Rattle.page.proofs.Steps.{stopped_leads, taken-none, step_stopped, step-none, step-made}

-- ---- the re-render
-- where nothing before 8 refuses, 8 alone does
pub turn_is : (g : Settings) (old new : List ℕ) (b : Buffers) → Passed g (room_in b) old → IsAccepted new
    → rerender_of g old new b ≡ first_of (start_refusals new (plan_of old new (samples_in b)) b.stored) (rerendering.kept_of b) (outcome_of g old new (plan_of old new (samples_in b)) b)
turn_is g old new b p a = checks_pass g old new b (rw (none-refused g (room_in b) old _ p.settings p.sized p.accepted, none_newly new _ a) refl)

-- a plan's outcome is done
pub outcome_done : (g : Settings) (old new : List ℕ) (b : Buffers) (q : Option ℕ) → (outcome_of g old new q b).result ≡ Ok (count_for g old new q b)
outcome_done g old new b None = refl
outcome_done g old new b (Some m) = refl

-- a call with these refusals, done in n otherwise, answered a and left c; a page that follows it
module _ (made : Outcome Answer) (n : ℕ) (done : made.result ≡ Ok n) (b : Buffers) (new space : List ℕ) where
  abbrev follows : List Refusal → Rewritten Paged
  follows xs = first_of xs (kept_of b space) (turned_over made new space)

  after-refused : (xs : List Refusal) (a : Answer) (c : Buffers) → leaves a c ≡ first_of xs (rerendering.kept_of b) made → (why : Refusal) → a ≡ Err why → rewrites (paged (Err why) 0) c space ≡ follows xs
  after-refused [] a c e why r = absurd (clash (cc))
  after-refused (x ∷ xs) a c e why r =
      let same : a ≡ Err x = ap (λ (o : Outcome Answer). o.result) e in
      let first : why ≡ x = cc in
      rw (first, ap (λ (o : Outcome Answer). o.left) e) refl

  after-done : (xs : List Refusal) (a : Answer) (c : Buffers) → leaves a c ≡ first_of xs (rerendering.kept_of b) made → (k : ℕ) → a ≡ Ok k
      → (ys : List ℕ) → ys ≡ new ++ drop (length new) space → rewrites (paged a (length new)) c ys ≡ follows xs
  after-done [] a c e k r ys w = rw (w, ap (λ (o : Outcome Answer). o.result) e, ap (λ (o : Outcome Answer). o.left) e) refl
  after-done (x ∷ xs) a c e k r ys w = let same : a ≡ Err x = ap (λ (o : Outcome Answer). o.result) e in absurd (clash (cc))

-- a call that goes on from what another left in the slices that both were lent
pub rewritten_on : {R S : Type 0} (b c : lent.Buffers) (r : R) (o : Outcome R) → leaves_in r c ≡ left_in b o → (t : S) (space : List ℕ) (q : Rewritten S) → rewrites t (held c) space ≡ q → rewrites_in t c space ≡ rewritten_in b q
rewritten_on b c r o e t space q f = sym (ap (λ x. rewrites_in t x space) (left_filled b c r o e)) ∙ ap (rewritten_in b) f

module _ (g : Settings) (old new : List ℕ) (b : Buffers) (space : List ℕ) (p : Passed g (room_in b) old) (accepted : IsAccepted new) (a : Answer) (c : Buffers) (e : leaves a c ≡ rerender_of g old new b) where
  abbrev plan : Option ℕ
  plan = plan_of old new (samples_in b)

  pub turn_refused : (why : Refusal) → a ≡ Err why → rewrites (paged (Err why) 0) c space ≡ turn_of g old new b space
  unfolding turn_of
  turn_refused = after-refused (outcome_of g old new plan b) _ (outcome_done g old new b plan) b new space (start_refusals new plan b.stored) a c (e ∙ turn_is g old new b p accepted)

  pub turn_done : (k : ℕ) → a ≡ Ok k → (ys : List ℕ) → ys ≡ new ++ drop (length new) space → rewrites (paged a (length new)) c ys ≡ turn_of g old new b space
  unfolding turn_of
  turn_done k r ys w =
      after-done (outcome_of g old new plan b) _ (outcome_done g old new b plan) b new space (start_refusals new plan b.stored) a c (e ∙ turn_is g old new b p accepted) k r ys w

-- ---- the edits made, and then that
module _ (old es : List ℕ) (accepted : IsAccepted old) (a : Result (Unit {0}) Refusal) (score : List ℕ) (s : Steps (refusals_from old es (edits_in es) 0) (new_score_of old es) a score) where
  module _ (u : Unit {0}) (e : a ≡ Ok u) where
    score-is : score ≡ new_score_of old es
    score-is = step-made _ _ a score s u e

    pub made-accepted : IsAccepted score
    made-accepted =
        rw score-is
        (after-accepted old es accepted (edits_in es) (omega arith) (λ i l. none_made old es (edits_in es) 0 (step-none _ _ a score s u e) i (omega arith) (omega arith)))

    pub made-fits : (space : List ℕ) → page_fits es space ≡ true → length score ≤ length space
    made-fits space f =
        let whole : length space ≡ 40960 = eqb-true _ _ (both (eqb (length es % 14) 0) (eqb (length space) 40960) f).1 in
        omega (arith, accepted-bytes score made-accepted)

  module _ (g : Settings) (b : Buffers) (space : List ℕ) where
    pub edit_in-stops : (why : Refusal) → a ≡ Err why → rewrites (paged (Err why) 0) b space ≡ edit_in g old es b space
    edit_in-stops why e = sym (leads_first why (refusals_from old es (edits_in es) 0) (kept_of b space) (turn_of g old (new_score_of old es) b space) (step_stopped _ _ a score s why e))

    pub edit_in_turns : (u : Unit {0}) → a ≡ Ok u → turn_of g old score b space ≡ edit_in g old es b space
    edit_in_turns u e = rw (step-none _ _ a score s u e, score-is u e) refl

-- ---- the refusals before the edits
module _ (g : Settings) (old es : List ℕ) (b : Buffers) (space : List ℕ) where
  abbrev new : List ℕ
  new = new_score_of old es

  -- 6, 7 and the old score's faults; then 36
  pub none_before : (k : ℕ) → first_of {R = Answer} (refusals_of g (room_in b) old) Err (Ok 0) ≡ Ok k → (u : Unit {0}) → first_of {R = Result (Unit {0}) Refusal} (unless (page_fits es space) Page) Err (Ok tt) ≡ Ok u → first_refusals g old es b space ≡ []
  unfolding first_refusals
  none_before k e u f = rw (done_none (refusals_of g (room_in b) old) 0 k e, taken-none (unless (page_fits es space) Page) u f) refl

  pub begun : first_refusals g old es b space ≡ [] → Passed g (room_in b) old × (page_fits es space ≡ true)
  unfolding first_refusals
  begun e = let x = none_both (refusals_of g (room_in b) old) (unless (page_fits es space) Page) e in (all_passed g (room_in b) old x.0, passed (page_fits es space) Page x.1)

  pub begins : Passed g (room_in b) old → page_fits es space ≡ true → first_refusals g old es b space ≡ []
  unfolding first_refusals
  begins p f = rw (none-refused g (room_in b) old _ p.settings p.sized p.accepted, f) refl

  -- the call, in the order of its refusals
  edit_in_turn : edit_of g old es b space ≡ first_of (first_refusals g old es b space) (kept_of b space) (edit_in g old es b space)
  unfolding edit_of turn_of
  edit_in_turn =
      let start = start_refusals new (plan_of old new (samples_in b)) b.stored in
      let made = turned_over (outcome_of g old new (plan_of old new (samples_in b)) b) new space in
      first_append (first_refusals g old es b space ++ refusals_from old es (edits_in es) 0) start (kept_of b space) made
      ∙ first_append (first_refusals g old es b space) (refusals_from old es (edits_in es) 0) (kept_of b space) (first_of start (kept_of b space) made)

  first_refused : (why : Refusal) → Leads why (first_refusals g old es b space) → rewrites (paged (Err why) 0) b space ≡ edit_of g old es b space
  first_refused why leads = sym (edit_in_turn ∙ leads_first why (first_refusals g old es b space) (kept_of b space) (edit_in g old es b space) leads)

  pub call_refused : (why : Refusal) → first_of {R = Answer} (refusals_of g (room_in b) old) Err (Ok 0) ≡ Err why → rewrites (paged (Err why) 0) b space ≡ edit_of g old es b space
  unfolding first_refusals
  call_refused why e = first_refused why (leads_append why (refusals_of g (room_in b) old) (unless (page_fits es space) Page) (refused_leads (refusals_of g (room_in b) old) 0 why e))

  pub page_refused : (k : ℕ) → first_of {R = Answer} (refusals_of g (room_in b) old) Err (Ok 0) ≡ Ok k → (why : Refusal) → first_of {R = Result (Unit {0}) Refusal} (unless (page_fits es space) Page) Err (Ok tt) ≡ Err why
      → rewrites (paged (Err why) 0) b space ≡ edit_of g old es b space
  unfolding first_refusals
  page_refused k e why f = first_refused why (rw (done_none (refusals_of g (room_in b) old) 0 k e) (stopped_leads (unless (page_fits es space) Page) why f))

  pub edit-goes_on : first_refusals g old es b space ≡ [] → edit_of g old es b space ≡ edit_in g old es b space
  edit-goes_on none = edit_in_turn ∙ rw none refl

  -- all edits made
  pub edit_turns : first_refusals g old es b space ≡ [] → refusals_from old es (edits_in es) 0 ≡ [] → edit_of g old es b space ≡ turn_of g old new b space
  edit_turns none made = edit-goes_on none ∙ rw made refl

  -- the list of refusals decides the answer, and the answer what is left
  pub edit-decided : Decided (λ (o : Rewritten Paged). o.result.answer) (page_refusals g old es b space) (kept_of b space) (turned_over (outcome_of g old new (plan_of old new (samples_in b)) b) new space) (count_for g old new (plan_of old new (samples_in b)) b) (edit_of g old es b space)
  unfolding edit_of
  edit-decided =
      decided (λ (o : Rewritten Paged). o.result.answer) (page_refusals g old es b space) (kept_of b space) (turned_over (outcome_of g old new (plan_of old new (samples_in b)) b) new space) (count_for g old new (plan_of old new (samples_in b)) b)
      (λ why. refl) (outcome_done g old new b (plan_of old new (samples_in b)))

-- ---- the call, once the refusals before the edits are not given
module _ (g : Settings) (old es : List ℕ) (b : Buffers) (space : List ℕ) (none : first_refusals g old es b space ≡ []) where
  passes : Passed g (room_in b) old × (page_fits es space ≡ true)
  passes = begun g old es b space none

  pub old-accepted : IsAccepted old
  old-accepted = passes.0.accepted

  -- the edits: r, and the score `made` where they are made
  module _ (r : Result (Unit {0}) Refusal) (made : List ℕ) (s : Steps (refusals_from old es (edits_in es) 0) (new_score_of old es) r made) where
    pub list_refused : (why : Refusal) → r ≡ Err why → rewrites (paged (Err why) 0) b space ≡ edit_of g old es b space
    list_refused why e = edit_in-stops old es old-accepted r made s g b space why e ∙ sym (edit-goes_on g old es b space none)

    module _ (u : Unit {0}) (e : r ≡ Ok u) (new : List ℕ) (is : new ≡ made) where
      new-accepted : IsAccepted new
      new-accepted = rw is (made-accepted old es old-accepted r made s u e)

      pub new-fits : length new ≤ length space
      new-fits = rw is (made-fits old es old-accepted r made s u e space passes.1)

      turns : turn_of g old new b space ≡ edit_of g old es b space
      turns = rw is (edit_in_turns old es old-accepted r made s g b space u e) ∙ sym (edit-goes_on g old es b space none)

      -- the re-render: a, and the buffers c
      module _ (a : Answer) (c : Buffers) (f : leaves a c ≡ rerender_of g old new b) where
        pub run_refused : (why : Refusal) → a ≡ Err why → rewrites (paged (Err why) 0) c space ≡ edit_of g old es b space
        run_refused why q = turn_refused g old new b space passes.0 new-accepted a c f why q ∙ turns

        pub run_done : (n : ℕ) → a ≡ Ok n → rewrites (paged (Ok n) (length new)) c (new ++ drop (length new) space) ≡ edit_of g old es b space
        run_done n q = rw (← q) (turn_done g old new b space passes.0 new-accepted a c f n q _ refl ∙ turns)
