-- Demand 1: each refusal of render, continuing call and re-render is given exactly when its row holds and no earlier
-- row does, and leaves all as it came. Assumes nothing.
use Rattle.std.specs.Prelude.{None, Ok, Option, Some}
use mathlib.Core.Path.{◌≡◌, refl, subst}
use mathlib.Core.Bool.{Bool, true, false}
use mathlib.Core.List.{List, [], ◌++◌}
use mathlib.Core.Logic.{⊎_elim}
use Prim.Native.Nat.{ℕ}
use lib.ListN.{length}
use lib.Ieee.{Float}
use Rattle.answers.specs.Order.{unless}
use Rattle.answers.specs.declared.Refusal.{Refusal}
use Rattle.answers.specs.declared.Refusal.TheVariants.{Score, NewScore, Setting, Size, StartEntry, GivenState, Argument, Edit, EditFrame, Full, NotThere, Page}
use Rattle.answers.proofs.Order.{passed, none_both, Leads, leads_append, leads_after, leads_parts, leads_unless}
use Rattle.sections.specs.Outcome.{Buffers, samples_in, room_in}
use Rattle.judging.specs.Judging.{refusals_of, Passed, new_refusals_of, part_fits}
use Rattle.judging.proofs.Refusals.{all_passed, none-refused, new-passed, none_newly, judged-first, six_first, seven_first, score-first, newly_first, new-first}
use Rattle.render.specs.Calls.{is_given}
use Rattle.render.proofs.Outcomes.{render-decided, continue_decided}
use Rattle.rerender.specs.Rerender.{plan_of, is_start, start_refusals, rerender_refusals}
use Rattle.rerender.proofs.Cases.{checks, rerender-decided}
use Rattle.score.specs.Record.{count_of}
use Rattle.score.specs.Score.{verdict_of}
use Rattle.state.specs.declared.Settings.{Settings}
use Rattle.state.specs.declared.State.{State}
use Rattle.demands.specs.Demand1.{RenderWhen, ContinueWhen, RerenderWhen, RenderExactly, ContinueExactly, RerenderExactly}

-- ---- 6, 7 and the faults of the old or only score
module _ (g : Settings) (room : Bool) (s : List ℕ) where
  pub render-none : Passed g room s → refusals_of g room s ≡ []
  render-none p = none-refused g room s (count_of s) p.settings p.sized p.accepted

  pub render-first : (why : Refusal) → RenderWhen g room s why → Leads why (refusals_of g room s)
  render-first Setting h = six_first g room s h
  render-first Size h = seven_first g room s h.0 h.1
  render-first (Score fault) h = score-first g room s h.0 h.1 fault h.2
  render-first (NewScore _) h = elim h [ ]
  render-first StartEntry h = elim h [ ]
  render-first Argument h = elim h [ ]
  render-first GivenState h = elim h [ ]
  render-first (EditFrame _) h = elim h [ ]
  render-first (NotThere _) h = elim h [ ]
  render-first (Full _) h = elim h [ ]
  render-first Page h = elim h [ ]
  render-first (Edit _) h = elim h [ ]

pub render_exactly : (g : Settings) (s : List ℕ) (b : Buffers) → RenderExactly g s b
render_exactly g s b =
    let c = render-decided g s b in
    let room = room_in b in
    record {
      refused = λ why. record {
        only_when = λ e. judged-first g room s (RenderWhen g room s) (λ a. a) (λ a b. (a, b)) (λ a b fault v. (a, b, v)) why (c.refused why e);
        whenever = λ h. c.is-refused why (render-first g room s why h);
      };
      done = record { only_when = λ e. all_passed g room s (c.done (samples_in b) e); whenever = λ h. c.is-done (render-none g room s h) };
      as_it_came = c.keeps;
    }

-- ---- then 10
module _ (g : Settings) (room : Bool) (s : List ℕ) (given : Bool) where
  abbrev judged : List Refusal
  judged = refusals_of g room s

  abbrev tenth : List Refusal
  tenth = unless given GivenState

  continue_only : (why : Refusal) → Leads why (judged ++ tenth) → ContinueWhen g room s given why
  continue_only why h =
      ⊎_elim (λ l. judged-first g room s (ContinueWhen g room s given) (λ a. a) (λ a b. (a, b)) (λ a b fault v. (a, b, v)) why l)
      (λ l. let u = leads_unless why given GivenState l.1 in subst (ContinueWhen g room s given) u.1 (all_passed g room s l.0, u.0))
      (leads_parts why judged tenth h)

  continue_first : (why : Refusal) → ContinueWhen g room s given why → Leads why (judged ++ tenth)
  continue_first GivenState h = leads_after GivenState judged tenth (render-none g room s h.0) (rw h.1 refl)
  continue_first Setting h = leads_append Setting judged tenth (render-first g room s Setting h)
  continue_first Size h = leads_append Size judged tenth (render-first g room s Size h)
  continue_first (Score fault) h = leads_append (Score fault) judged tenth (render-first g room s (Score fault) h)
  continue_first (NewScore _) h = elim h [ ]
  continue_first StartEntry h = elim h [ ]
  continue_first Argument h = elim h [ ]
  continue_first (EditFrame _) h = elim h [ ]
  continue_first (NotThere _) h = elim h [ ]
  continue_first (Full _) h = elim h [ ]
  continue_first Page h = elim h [ ]
  continue_first (Edit _) h = elim h [ ]

pub continue_exactly : (g : Settings) (s : List ℕ) (v : State) (p : ℕ) (part : List Float) → ContinueExactly g s v p part
continue_exactly g s v p part =
    let c = continue_decided g s v p part in
    let room = part_fits p (length part) in
    let given = is_given s p v in
    record {
      refused = λ why. record { only_when = λ e. continue_only g room s given why (c.refused why e); whenever = λ h. c.is-refused why (continue_first g room s given why h) };
      done = record {
        only_when = λ e. (let b = none_both (refusals_of g room s) (unless given GivenState) (c.done (length part) e) in (all_passed g room s b.0, passed given GivenState b.1));
        whenever = λ h. c.is-done (rw (render-none g room s h.0, h.1) refl);
      };
      as_it_came = c.keeps;
    }

-- ---- then the new score's faults, and 8
module _ (g : Settings) (old new : List ℕ) (b : Buffers) where
  abbrev pub n : ℕ
  n = samples_in b

  abbrev pub shelf : List ℕ
  shelf = b.stored

  abbrev room : Bool
  room = room_in b

  abbrev pub plan : Option ℕ
  plan = plan_of old new n

  abbrev When : Refusal → Type 0
  When = RerenderWhen g room old new n shelf

  abbrev tests : List Refusal
  tests = checks g old new (room_in b)

  abbrev pub eighth : List Refusal
  eighth = start_refusals new plan shelf

  -- P holds of 8 where an entry is read and a re-render cannot start from it
  pub start_only : (P : Refusal → Type 0) → ((m : ℕ) → plan_of old new n ≡ Some m → is_start new m shelf ≡ false → P StartEntry) → (why : Refusal) → Leads why eighth → P why
  start_only P eight why h = go plan refl h
    where
      go : (q : Option ℕ) → plan_of old new n ≡ q → Leads why (start_refusals new q shelf) → P why
      go None e h = absurd h
      go (Some m) e h = let u = leads_unless why (is_start new m shelf) StartEntry h in subst P u.1 (eight m e u.0)

  rerender_only : (why : Refusal) → Leads why (rerender_refusals g old new b) → When why
  rerender_only why h =
      ⊎_elim
      (λ l. ⊎_elim (λ l. judged-first g room old When (λ a. a) (λ a b. (a, b)) (λ a b fault v. (a, b, v)) why l)
      (λ l. newly_first new When (λ fault v. (all_passed g room old l.0, v)) why l.1) (leads_parts why (refusals_of g room old) (new_refusals_of new) l))
      (λ l. let b = none_both (refusals_of g room old) (new_refusals_of new) l.0 in start_only When (λ m e f. (all_passed g room old b.0, new-passed new b.1, (m, e, f))) why l.1)
      (leads_parts why tests eighth h)

  none_tested : Passed g room old → verdict_of new ≡ Ok (count_of new) → tests ≡ []
  none_tested p a = rw (render-none g room old p, none_newly new (count_of new) a) refl

  early : (why : Refusal) → RenderWhen g room old why → Leads why (rerender_refusals g old new b)
  early why h = leads_append why tests eighth (leads_append why (refusals_of g room old) (new_refusals_of new) (render-first g room old why h))

  rerender-first : (why : Refusal) → When why → Leads why (rerender_refusals g old new b)
  rerender-first (NewScore fault) h = leads_append (NewScore fault) tests eighth (leads_after (NewScore fault) (refusals_of g room old) (new_refusals_of new) (render-none g room old h.0) (new-first new fault h.1))
  rerender-first StartEntry h = leads_after StartEntry tests eighth (none_tested h.0 h.1) (rw (h.2.1, h.2.2) refl)
  rerender-first Setting h = early Setting h
  rerender-first Size h = early Size h
  rerender-first (Score fault) h = early (Score fault) h
  rerender-first Argument h = elim h [ ]
  rerender-first GivenState h = elim h [ ]
  rerender-first (EditFrame _) h = elim h [ ]
  rerender-first (NotThere _) h = elim h [ ]
  rerender-first (Full _) h = elim h [ ]
  rerender-first Page h = elim h [ ]
  rerender-first (Edit _) h = elim h [ ]

  -- no entry is read, or a re-render can start from it
  pub starts : eighth ≡ [] → (m : ℕ) → plan_of old new n ≡ Some m → is_start new m shelf ≡ true
  starts e m q = let none : unless (is_start new m shelf) StartEntry ≡ [] = rw q at e in passed (is_start new m shelf) StartEntry none

  pub none-eighth : ((m : ℕ) → plan_of old new n ≡ Some m → is_start new m shelf ≡ true) → eighth ≡ []
  none-eighth f = go plan refl
    where
      go : (q : Option ℕ) → plan_of old new n ≡ q → start_refusals new q shelf ≡ []
      go None e = refl
      go (Some m) e = rw (f m e) refl

pub rerender_exactly : (g : Settings) (old new : List ℕ) (b : Buffers) → RerenderExactly g old new b
rerender_exactly g old new b =
    let c = rerender-decided g old new b in
    let at = room_in b in
    record {
      refused = λ why. record { only_when = λ e. rerender_only g old new b why (c.refused why e); whenever = λ h. c.is-refused why (rerender-first g old new b why h) };
      done = record {
        only_when = λ e. (
            let d = none_both (checks g old new (room_in b)) (start_refusals new (plan_of old new (samples_in b)) b.stored) (c.done _ e) in
            let a = none_both (refusals_of g at old) (new_refusals_of new) d.0 in
            (all_passed g at old a.0, new-passed new a.1, starts g old new b d.1));
        whenever = λ h. c.is-done (rw (none_tested g old new b h.0 h.1, none-eighth g old new b h.2) refl);
      };
      as_it_came = c.keeps;
    }
