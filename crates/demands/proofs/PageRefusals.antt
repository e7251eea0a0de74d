-- Demand 1 for a page of edits: each refusal is given exactly when its row holds and no earlier row does, and leaves
-- all as it came. Assumes nothing.
use mathlib.Core.Path.{◌≡◌, refl, sym, ap, subst, ◌∙◌}
use mathlib.Core.Bool.{Bool, true, false, cond, ◌&&◌, ◌||◌, true≢false}
use mathlib.Core.List.{List, [], ◌++◌, map}
use mathlib.Core.Logic.{◌⊎◌, inl, inr, ⊎_elim}
use Prim.Native.Nat.{ℕ, ◌+◌, ◌%◌, ◌≤◌, ◌<◌}
use native.Mathlib.Nat.{zero-add}
use native.Mathlib.Omega.{arith}
use lib.Dec.{ltb, eqb}
use lib.ListN.{length}
use borrow.Author.Tests.{le-ltb, ltb-false, eq-eqb, eqb-true}
use Rattle.answers.specs.Order.{unless}
use Rattle.answers.specs.declared.Refusal.{Refusal}
use Rattle.answers.specs.declared.Refusal.TheVariants.{Score, Setting, Size, StartEntry, EditFrame, NotThere, Full, Page, Edit, Argument, GivenState, NewScore}
use Rattle.answers.specs.declared.ScoreFault.{ScoreFault}
use Rattle.answers.specs.declared.ScoreFault.TheVariants.{Mark, Kind, Field, Length, Order}
use Rattle.answers.proofs.Order.{passed, none_both, none-map, Leads, leads_append, leads_after, leads_parts, leads_unless, leads_map, map_leads}
use Rattle.sections.specs.Outcome.{Buffers, samples_in, room_in}
use Rattle.judging.specs.Judging.{refusals_of}
use Rattle.judging.proofs.Refusals.{all_passed, judged-first}
use Rattle.page.specs.Page.{edits_in, edit_byte, frame_right, is_insert, record_of, score_after, new_score_of, record_faults, held_refusals, edit_refusals, refusals_from, page_fits, AllMade, first_refusals, page_refusals}
use Rattle.page.proofs.Taken.{faults_right, right_faults, after-accepted, none_made, made_none}
use Rattle.page.proofs.Calls.{edit-decided}
use Rattle.rerender.specs.Rerender.{plan_of, start_refusals}
use Rattle.score.specs.Apart.{bytes_at, first_equal}
use Rattle.score.specs.Record.{count_of}
use Rattle.score.specs.Score.{mark_right, kind_right, fields_right, all_right}
use Rattle.score.proofs.Codec.{both, either, or_right}
use Rattle.score.proofs.Cuts.{lt_or_ge, accepted-few}
use Rattle.score.proofs.Sought.{sought}
use Rattle.state.specs.declared.Settings.{Settings}
use Rattle.demands.specs.Demand1.{RenderWhen, PageSized, PageBegun, Framed, ReachesEdit, Judged, EditFaultWhen, PageWhen, PageExactly}
use Rattle.demands.proofs.Faults.{from_first, from_leads}
use Rattle.demands.proofs.Demand1.{render-none, render-first, start_only, starts, none-eighth}

-- ---- the tests, and what they ask
-- a test that does not pass
fails : (t : Bool) → (t ≡ true → ⊥) → t ≡ false
fails true h = absurd (h refl)
fails false h = refl

-- mark, code and filler
module _ (es : List ℕ) (i : ℕ) where
  abbrev coded : Bool
  coded = eqb (edit_byte es i 2) 1 || eqb (edit_byte es i 2) 2

  right-framed : frame_right es i ≡ true → Framed es i
  unfolding frame_right
  right-framed e =
      let a = both (eqb (edit_byte es i 0) 0x45 && eqb (edit_byte es i 1) 0x44 && coded) (eqb (edit_byte es i 3) 0) e in
      let b = both (eqb (edit_byte es i 0) 0x45 && eqb (edit_byte es i 1) 0x44) coded a.0 in
      let c = both (eqb (edit_byte es i 0) 0x45) (eqb (edit_byte es i 1) 0x44) b.0 in
      record {
        mark_one = eqb-true _ _ c.0;
        mark_two = eqb-true _ _ c.1;
        code = ⊎_elim (λ e. inl (eqb-true _ _ e)) (λ e. inr (eqb-true _ _ e)) (either (eqb (edit_byte es i 2) 1) (eqb (edit_byte es i 2) 2) b.1);
        filler = eqb-true _ _ a.1;
      }

  framed-right : Framed es i → frame_right es i ≡ true
  unfolding frame_right
  framed-right f = rw (eq-eqb (edit_byte es i 0) 0x45 f.mark_one, eq-eqb (edit_byte es i 1) 0x44 f.mark_two, known f.code, eq-eqb (edit_byte es i 3) 0 f.filler) refl
    where
      known : (edit_byte es i 2 ≡ 1) ⊎ (edit_byte es i 2 ≡ 2) → coded ≡ true
      known c = ⊎_elim (λ e. rw (eq-eqb (edit_byte es i 2) 1 e) refl) (λ e. or_right (eqb (edit_byte es i 2) 1) (eqb (edit_byte es i 2) 2) (eq-eqb _ _ e)) c

  not-framed : (Framed es i → ⊥) → frame_right es i ≡ false
  not-framed h = fails (frame_right es i) (λ e. h (right-framed e))

  -- an edit that is framed and does not insert has code 2
  removes : Framed es i → is_insert es i ≡ false → edit_byte es i 2 ≡ 2
  removes f e = ⊎_elim (λ one. absurd (true≢false (sym (eq-eqb _ _ one) ∙ e))) (λ two. two) f.code

  two : edit_byte es i 2 ≡ 2 → is_insert es i ≡ false
  two e = ap (λ (b : ℕ). eqb b 1) e

-- whole edits, and a buffer of the right length
module _ (es space : List ℕ) where
  fits-sized : page_fits es space ≡ true → PageSized es space
  fits-sized e = let a = both (eqb (length es % 14) 0) (eqb (length space) 40960) e in record { whole_edits = eqb-true _ _ a.0; bytes = eqb-true _ _ a.1 }

  sized-fits : PageSized es space → page_fits es space ≡ true
  sized-fits s = rw (eq-eqb (length es % 14) 0 s.whole_edits, eq-eqb (length space) 40960 s.bytes) refl

  not-sized : (PageSized es space → ⊥) → page_fits es space ≡ false
  not-sized h = fails (page_fits es space) (λ e. h (fits-sized e))

-- ---- edit i on a score s
module _ (s es : List ℕ) (i : ℕ) where
  abbrev frame : List Refusal
  frame = unless (frame_right es i) (EditFrame i)

  abbrev faults : List Refusal
  faults = map Edit (record_faults (record_of es i) i)

  abbrev kept : List Refusal
  kept = held_refusals s es i

  frame_first : frame_right es i ≡ false → Leads (EditFrame i) (edit_refusals s es i)
  unfolding edit_refusals
  frame_first e = rw e refl

  fault_first : frame_right es i ≡ true → (f : ScoreFault) → Leads f (record_faults (record_of es i) i) → Leads (Edit f) (edit_refusals s es i)
  unfolding edit_refusals
  fault_first e f h = rw e (leads_append (Edit f) faults kept (map_leads Edit f (record_faults (record_of es i) i) h))

  held_first : frame_right es i ≡ true → all_right (record_of es i) 0 ≡ true → (why : Refusal) → Leads why kept → Leads why (edit_refusals s es i)
  unfolding edit_refusals
  held_first e a why h = rw (e, right_faults (record_of es i) i a) h

  full-first : is_insert es i ≡ true → count_of s ≡ 4096 → Leads (Full i) kept
  unfolding held_refusals
  full-first e full = rw (e, le-ltb (count_of s) 4096 (omega arith)) refl

  -- no record before the end has the bytes, so none is found
  absent_first : is_insert es i ≡ false → ((j : ℕ) → j < count_of s → bytes_at s j ≡ record_of es i → ⊥) → Leads (NotThere i) kept
  unfolding held_refusals
  absent_first e none =
      let past : count_of s ≤ first_equal s (record_of es i) = ⊎_elim (λ l. absurd (none _ l ((sought s (record_of es i)).found l))) (λ g. g) (lt_or_ge (first_equal s (record_of es i)) (count_of s)) in
      rw (e, le-ltb (first_equal s (record_of es i)) (count_of s) past) refl

-- ---- edit i of a page, which is reached
module _ (g : Settings) (room : Bool) (old es space : List ℕ) (n : ℕ) (shelf : List ℕ) where
  abbrev When : Refusal → Type 0
  When = PageWhen g room old es space n shelf

  module _ (begun : PageBegun g room old es space) (i : ℕ) (reached : ReachesEdit old es i) where
    abbrev s : List ℕ
    s = score_after old es i

    abbrev r : List ℕ
    r = record_of es i

    fault_only : frame_right es i ≡ true → (f : ScoreFault) → Leads f (record_faults r i) → EditFaultWhen old es f
    unfolding record_faults
    fault_only framed f h = go (mark_right r 0) refl (kind_right r 0) refl (fields_right r 0) refl h
      where
        go : (a : Bool) → mark_right r 0 ≡ a → (b : Bool) → kind_right r 0 ≡ b → (c : Bool) → fields_right r 0 ≡ c → Leads f (unless a (Mark i) ++ unless b (Kind i) ++ unless c (Field i)) → EditFaultWhen old es f
        go false e b p c q h = subst (EditFaultWhen old es) h (reached, right-framed es i framed, e)
        go true e false p c q h = subst (EditFaultWhen old es) h (reached, right-framed es i framed, e, p)
        go true e true p false q h = subst (EditFaultWhen old es) h (reached, right-framed es i framed, e, p, q)
        go true e true p true q h = absurd h

    -- the score is accepted, so it has no more than 4,096 records
    few : count_of s ≤ 4096
    few = let there = reached.there in accepted-few s (count_of s) (after-accepted old es begun.passed.accepted i (omega (arith, there)) reached.before)

    held_only : Judged old es i → (why : Refusal) → Leads why (held_refusals s es i) → When why
    unfolding held_refusals
    held_only judged why h = go (is_insert es i) refl h
      where
        go : (t : Bool) → is_insert es i ≡ t → Leads why (cond t (unless (ltb (count_of s) 4096) (Full i)) (unless (ltb (first_equal s r) (count_of s)) (NotThere i))) → When why
        go true e h =
            let u = leads_unless why (ltb (count_of s) 4096) (Full i) h in
            let high : 4096 ≤ count_of s = ltb-false (count_of s) 4096 u.0 in
            subst When u.1 (begun, judged, eqb-true _ _ e, omega (arith, few))
        go false e h =
            let u = leads_unless why (ltb (first_equal s r) (count_of s)) (NotThere i) h in
            let past : count_of s ≤ first_equal s r = ltb-false (first_equal s r) (count_of s) u.0 in
            subst When u.1 (begun, judged, removes es i judged.framed e, λ j l. (sought s r).none_before j (omega arith))

    edit_only : (why : Refusal) → Leads why (edit_refusals s es i) → When why
    unfolding edit_refusals
    edit_only why h =
        ⊎_elim
        (λ l. ⊎_elim
        (λ l. let u = leads_unless why (frame_right es i) (EditFrame i) l in subst When u.1 (begun, reached, λ f. true≢false (sym (framed-right es i f) ∙ u.0)))
        (λ l. let u = leads_map Edit why (record_faults r i) l.1 in subst When u.2 (begun, fault_only (passed (frame_right es i) (EditFrame i) l.0) u.0 u.1))
        (leads_parts why (frame s es i) (faults s es i) l))
        (λ l. let a = none_both (frame s es i) (faults s es i) l.0 in
        held_only (record { reached = reached; framed = right-framed es i (passed (frame_right es i) (EditFrame i) a.0); right = faults_right r i (none-map Edit (record_faults r i) a.1) }) why l.1)
        (leads_parts why (frame s es i ++ faults s es i) (kept s es i) h)

-- ---- the page
module _ (g : Settings) (old es : List ℕ) (b : Buffers) (space : List ℕ) where
  abbrev room : Bool
  room = room_in b

  abbrev new : List ℕ
  new = new_score_of old es

  abbrev PageGives : Refusal → Type 0
  PageGives = PageWhen g (room_in b) old es space (samples_in b) b.stored

  abbrev sized : List Refusal
  sized = unless (page_fits es space) Page

  abbrev first : List Refusal
  first = first_refusals g old es b space

  abbrev edits : List Refusal
  edits = refusals_from old es (edits_in es) 0

  abbrev eighth : List Refusal
  eighth = start_refusals new (plan_of old new (samples_in b)) b.stored

  -- 6, 7, the old score's faults and 36
  none-begun : first ≡ [] → PageBegun g room old es space
  unfolding first_refusals
  none-begun e = let a = none_both (refusals_of g room old) sized e in record { passed = all_passed g room old a.0; sized = fits-sized es space (passed (page_fits es space) Page a.1) }

  begun-none : PageBegun g room old es space → first ≡ []
  unfolding first_refusals
  begun-none p = rw (render-none g room old p.passed, sized-fits es space p.sized) refl

  first_only : (why : Refusal) → Leads why first → PageGives why
  unfolding first_refusals
  first_only why h =
      ⊎_elim (λ l. judged-first g room old PageGives (λ a. a) (λ a b. (a, b)) (λ a b fault v. (a, b, v)) why l)
      (λ l. let u = leads_unless why (page_fits es space) Page l.1 in subst PageGives u.1 (all_passed g room old l.0, λ s. true≢false (sym (sized-fits es space s) ∙ u.0)))
      (leads_parts why (refusals_of g room old) sized h)

  -- those of the edits
  edits_only : PageBegun g room old es space → (why : Refusal) → Leads why edits → PageGives why
  unfolding refusals_from
  edits_only begun =
      from_first (λ i. edit_refusals (score_after old es i) es i) (refusals_from old es) (λ i. refl) (λ k i. refl) PageGives (edits_in es) 0
      (λ i a l c. edit_only g room old es space (samples_in b) b.stored begun i (record { there = omega arith; before = λ j m. c j (omega arith) m }))

  reached-first : PageBegun g room old es space → (i : ℕ) → ReachesEdit old es i → (why : Refusal) → Leads why (edit_refusals (score_after old es i) es i) → Leads why (page_refusals g old es b space)
  unfolding refusals_from
  reached-first begun i reached why h =
      let here : Leads why (edit_refusals (score_after old es (0 + i)) es (0 + i)) = rw (zero-add i) h in
      leads_append why (first ++ edits) eighth (leads_after why first edits (begun-none begun)
      (from_leads (λ i. edit_refusals (score_after old es i) es i) (refusals_from old es) (λ i. refl) (λ k i. refl) why i (edits_in es) 0 reached.there (λ j a l. reached.before j (omega arith)) here))

  all_made : edits ≡ [] → AllMade old es
  all_made e i h = none_made old es (edits_in es) 0 e i (omega arith) (omega arith)

  none_before-eighth : PageBegun g room old es space → AllMade old es → first ++ edits ≡ []
  none_before-eighth begun f = rw (begun-none begun, made_none old es (edits_in es) 0 (λ j a l. f j (omega arith))) refl

  -- the page's first refusal, in both directions
  page_only : (why : Refusal) → Leads why (page_refusals g old es b space) → PageGives why
  page_only why h =
      ⊎_elim
      (λ l. ⊎_elim (first_only why) (λ l. edits_only (none-begun l.0) why l.1) (leads_parts why first edits l))
      (λ l. let a = none_both first edits l.0 in start_only g old new b PageGives (λ m e f. (none-begun a.0, all_made a.1, (m, e, f))) why l.1)
      (leads_parts why (first ++ edits) eighth h)

  early : (why : Refusal) → Leads why first → Leads why (page_refusals g old es b space)
  early why h = leads_append why (first ++ edits) eighth (leads_append why first edits h)

  judged_early : (why : Refusal) → RenderWhen g room old why → Leads why (page_refusals g old es b space)
  unfolding first_refusals
  judged_early why h = early why (leads_append why (refusals_of g room old) sized (render-first g room old why h))

  held_early : PageBegun g room old es space → (i : ℕ) → Judged old es i → (why : Refusal) → Leads why (held_refusals (score_after old es i) es i) → Leads why (page_refusals g old es b space)
  held_early begun i j why h = reached-first begun i j.reached why (held_first (score_after old es i) es i (framed-right es i j.framed) j.right why h)

  fault_early : PageBegun g room old es space → (f : ScoreFault) → EditFaultWhen old es f → Leads (Edit f) (page_refusals g old es b space)
  unfolding record_faults
  fault_early begun (Mark i) h = reached-first begun i h.0 (Edit (Mark i)) (fault_first (score_after old es i) es i (framed-right es i h.1) (Mark i) (rw h.2 refl))
  fault_early begun (Kind i) h = reached-first begun i h.0 (Edit (Kind i)) (fault_first (score_after old es i) es i (framed-right es i h.1) (Kind i) (rw (h.2, h.3) refl))
  fault_early begun (Field i) h = reached-first begun i h.0 (Edit (Field i)) (fault_first (score_after old es i) es i (framed-right es i h.1) (Field i) (rw (h.2, h.3, h.4) refl))
  fault_early begun Length h = elim h [ ]
  fault_early begun (Order _) h = elim h [ ]

  page_first : (why : Refusal) → PageGives why → Leads why (page_refusals g old es b space)
  unfolding first_refusals
  page_first Setting h = judged_early Setting h
  page_first Size h = judged_early Size h
  page_first (Score fault) h = judged_early (Score fault) h
  page_first Page h = early Page (leads_after Page (refusals_of g room old) sized (render-none g room old h.0) (rw (not-sized es space h.1) refl))
  page_first (EditFrame i) h = reached-first h.0 i h.1 (EditFrame i) (frame_first (score_after old es i) es i (not-framed es i h.2))
  page_first (Edit fault) h = fault_early h.0 fault h.1
  page_first (NotThere i) h = held_early h.0 i h.1 (NotThere i) (absent_first (score_after old es i) es i (two es i h.2) h.3)
  page_first (Full i) h = held_early h.0 i h.1 (Full i) (full-first (score_after old es i) es i (eq-eqb _ _ h.2) h.3)
  page_first StartEntry h = leads_after StartEntry (first ++ edits) eighth (none_before-eighth h.0 h.1) (rw (h.2.1, h.2.2) refl)
  page_first (NewScore _) h = elim h [ ]
  page_first Argument h = elim h [ ]
  page_first GivenState h = elim h [ ]

  pub page_exactly : PageExactly g old es b space
  page_exactly =
      let c = edit-decided g old es b space in
      record {
        refused = λ why. record { only_when = λ e. page_only why (c.refused why e); whenever = λ h. c.is-refused why (page_first why h) };
        done = record {
          only_when = λ e. (
              let d = none_both (first ++ edits) eighth (c.done _ e) in
              let a = none_both first edits d.0 in
              (none-begun a.0, all_made a.1, starts g old new b d.1));
          whenever = λ h. c.is-done (rw (none_before-eighth h.0 h.1, none-eighth g old new b h.2) refl);
        };
        as_it_came = c.keeps;
      }
