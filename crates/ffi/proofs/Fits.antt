-- Every answer that the desk packs fits its word: its number is below 2^8, its place below 2^24, its count below 2^32.
-- Of a page of 2^24 edits or more only an answer that is done does. Assumes nothing.
use Rattle.std.specs.Prelude.{Err, None, Ok, Option, Some, Result}
use mathlib.Core.Path.{◌≡◌, sym, subst}
use mathlib.Core.Bool.{Bool, true, false, cond, ◌&&◌}
use mathlib.Core.List.{List, [], ◌++◌, map}
use mathlib.Core.Logic.{⊎_elim}
use Prim.Native.Nat.{ℕ, zero, suc, ◌+◌, ◌%◌, ◌≤◌, ◌<◌}
use native.Mathlib.Omega.{arith}
use lib.Dec.{ltb, leb, eqb}
use lib.ListN.{length}
use lib.Ieee.{Float}
use borrow.Author.Tests.{leb-true}
use Rattle.sections.specs.Outcome.{Buffers, samples_in, room_in, Outcome}
use Rattle.sections.proofs.Room.{in_room}
use Rattle.answers.specs.Answer.{Answer}
use Rattle.answers.specs.declared.Refusal.{Refusal}
use Rattle.answers.specs.declared.Refusal.TheVariants.{Score, NewScore, Setting, Size, StartEntry, Argument, GivenState, EditFrame, NotThere, Full, Page, Edit}
use Rattle.answers.specs.declared.ScoreFault.{ScoreFault}
use Rattle.answers.specs.declared.ScoreFault.TheVariants.{Length, Mark, Kind, Field, Order}
use Rattle.answers.specs.declared.Numbers.{Numbers}
use Rattle.answers.specs.Numbers.{fault_number, fault_place, refusal_number, refusal_place, numbers_of}
use Rattle.answers.specs.Order.{unless, first_of}
use Rattle.answers.specs.Value.{value_or}
use Rattle.answers.proofs.Order.{passed, none_both, Leads, first_holds, leads_parts, leads_unless, leads_map}
use Rattle.judging.specs.Judging.{refusals_of, Passed, new_refusals_of, most_samples, part_fits}
use Rattle.judging.proofs.Refusals.{all_passed}
use Rattle.domain.specs.Domain.{is_phase}
use Rattle.page.specs.declared.Paged.{Paged}
use Rattle.page.specs.Page as page
use Rattle.page.specs.Page.{edits_in, frame_right, is_insert, record_of, score_after, new_score_of, record_faults, held_refusals, edit_refusals, refusals_from, Rewritten, page_fits, first_refusals, page_refusals, turned_over, edit_of}
use Rattle.page.proofs.Taken.{accepted-bytes, after-accepted, none_made}
use Rattle.page.proofs.Calls.{outcome_done, begun, edit-decided}
use Rattle.render.specs.declared.Rendered.{Rendered}
use Rattle.render.specs.Calls.{made_of, render_of, continue_refusals}
use Rattle.rerender.specs.Rerender.{plan_of, is_start, stop_of, outcome_of, start_refusals, rerender_refusals, kept_of, rerender_of, count_for}
use Rattle.rerender.proofs.Cases.{checks, all_checked}
use Rattle.score.specs.Record.{count_of}
use Rattle.score.specs.Apart.{first_equal}
use Rattle.score.specs.Score.{mark_right, kind_right, fields_right, in_order, faults_at, faults_from, faults_of, answer_of}
use Rattle.score.proofs.Codec.{both}
use Rattle.state.specs.declared.Settings.{Settings}
use Rattle.state.specs.Settings.{settings_ok}
use Rattle.waveform.specs.Waveform.{is_waveform, value_of}
use Rattle.ffi.specs.Packed.{paged_numbers}
use Rattle.ffi.specs.Ffi.{shape_of, single_for, answer_in, single_of, is_given_in}
use Rattle.waveform.specs.declared.Waveform.{Waveform}

pub record Fitting (n : Numbers) : Type 0 where
  pub number_fits : n.number < 256
  pub place-fits : n.place < 16777216
  pub count_fits : n.count < 4294967296

abbrev pub Fits : Answer → Type 0
Fits a = Fitting (numbers_of a)

-- ---- numbers and places
abbrev pub Between : ℕ → ℕ → Type 0
Between n top = (1 ≤ n) × (n ≤ top)

fault_number_lem : (f : ScoreFault) → Between (fault_number f) 5
fault_number_lem Length = (omega arith, omega arith)
fault_number_lem (Mark i) = (omega arith, omega arith)
fault_number_lem (Kind i) = (omega arith, omega arith)
fault_number_lem (Field i) = (omega arith, omega arith)
fault_number_lem (Order i) = (omega arith, omega arith)

pub refusal_number_lem : (r : Refusal) → Between (refusal_number r) 53
refusal_number_lem (Score f) = let b = fault_number_lem f in (b.0, omega (arith, b.1))
refusal_number_lem (NewScore f) = let b = fault_number_lem f in (omega arith, omega (arith, b.1))
refusal_number_lem Setting = (omega arith, omega arith)
refusal_number_lem Size = (omega arith, omega arith)
refusal_number_lem StartEntry = (omega arith, omega arith)
refusal_number_lem Argument = (omega arith, omega arith)
refusal_number_lem GivenState = (omega arith, omega arith)
refusal_number_lem (EditFrame i) = (omega arith, omega arith)
refusal_number_lem (NotThere i) = (omega arith, omega arith)
refusal_number_lem (Full i) = (omega arith, omega arith)
refusal_number_lem Page = (omega arith, omega arith)
refusal_number_lem (Edit f) = let b = fault_number_lem f in (omega arith, omega (arith, b.1))

pub done-fits : (n : ℕ) → n < 4294967296 → Fits (Ok n)
done-fits n h = record { number_fits = omega arith; place-fits = omega arith; count_fits = h }

pub refused-fits : (r : Refusal) → refusal_place r ≤ 16777215 → Fits (Err r)
refused-fits r h = record { number_fits = omega (arith, (refusal_number_lem r).1); place-fits = omega arith; count_fits = omega arith }

-- ---- the places in a list of faults or of refusals: that of the first one, which is given, is at most n
abbrev Low : {A : Type 0} → (A → ℕ) → ℕ → List A → Type 0
Low {A} place n xs = (why : A) → Leads why xs → place why ≤ n

module _ {A : Type 0} (place : A → ℕ) {n : ℕ} where
  unless-low : (t : Bool) (x : A) → place x ≤ n → Low place n (unless t x)
  unless-low t x l why h = subst (λ (y : A). place y ≤ n) (leads_unless why t x h).1 l

  append_low : (xs ys : List A) → Low place n xs → Low place n ys → Low place n (xs ++ ys)
  append_low xs ys a b why h = ⊎_elim (λ l. a why l) (λ l. b why l.1) (leads_parts why xs ys h)

  map-low : {B : Type 0} (f : B → A) (xs : List B) → Low (λ x. place (f x)) n xs → Low place n (map f xs)
  map-low f xs low why h = let x = leads_map f why xs h in subst (λ (y : A). place y ≤ n) x.2 (low x.0 x.1)

  wider : {m : ℕ} (xs : List A) → m ≤ n → Low place m xs → Low place n xs
  wider xs l low why h = omega (arith, low why h)

-- ---- the place of a score's fault is at most 4,096
-- the faults of a record alone, whichever of them it has
alone_low : (mark kind fields : Bool) (i : ℕ) → Low fault_place i (unless mark (Mark i) ++ unless kind (Kind i) ++ unless fields (Field i))
alone_low mark kind fields i =
    append_low fault_place (unless mark (Mark i) ++ unless kind (Kind i)) (unless fields (Field i))
    (append_low fault_place (unless mark (Mark i)) (unless kind (Kind i)) (unless-low fault_place mark (Mark i) (omega arith)) (unless-low fault_place kind (Kind i) (omega arith)))
    (unless-low fault_place fields (Field i) (omega arith))

record_low : (s : List ℕ) (i : ℕ) → Low fault_place i (faults_at s i)
unfolding faults_at
record_low s i =
    append_low fault_place (unless (mark_right s i) (Mark i) ++ unless (kind_right s i) (Kind i) ++ unless (fields_right s i) (Field i)) (unless (in_order s i) (Order i))
    (alone_low (mark_right s i) (kind_right s i) (fields_right s i) i) (unless-low fault_place (in_order s i) (Order i) (omega arith))

from_low : (s : List ℕ) (k i : ℕ) → Low fault_place (i + k) (faults_from s k i)
unfolding faults_from
from_low s zero i = λ f h. absurd h
from_low s (suc k) i =
    let later = faults_from s k (suc i) in
    append_low fault_place (faults_at s i) later (wider fault_place (faults_at s i) (omega arith) (record_low s i)) (wider fault_place later (omega arith) (from_low s k (suc i)))

fault_low : (s : List ℕ) → Low fault_place 4096 (faults_of s)
unfolding faults_of
fault_low s f h =
    let sized = eqb (length s % 10) 0 && leb (count_of s) 4096 in
    ⊎_elim (λ h. unless-low fault_place sized Length (omega arith) f h)
    (λ h. let few : count_of s ≤ 4096 = leb-true _ _ (both (eqb (length s % 10) 0) (leb (count_of s) 4096) (passed sized Length h.0)).1 in omega (arith, from_low s (count_of s) 0 f h.1))
    (leads_parts f (unless sized Length) (faults_from s (count_of s) 0) h)

-- ---- the place of a call's refusal fits its bits
abbrev Placed : List Refusal → Type 0
Placed xs = Low refusal_place 16777215 xs

score-low : (s : List ℕ) → Placed (map Score (faults_of s))
score-low s = map-low refusal_place Score (faults_of s) (wider fault_place (faults_of s) (omega arith) (fault_low s))

new-low : (s : List ℕ) → Placed (new_refusals_of s)
unfolding new_refusals_of
new-low s = map-low refusal_place NewScore (faults_of s) (wider fault_place (faults_of s) (omega arith) (fault_low s))

judged-low : (g : Settings) (room : Bool) (s : List ℕ) → Placed (refusals_of g room s)
unfolding refusals_of
judged-low g room s =
    append_low refusal_place (unless (settings_ok g) Setting ++ unless room Size) (map Score (faults_of s))
    (append_low refusal_place (unless (settings_ok g) Setting) (unless room Size) (unless-low refusal_place (settings_ok g) Setting (omega arith)) (unless-low refusal_place room Size (omega arith)))
    (score-low s)

-- ---- the calls
-- an answer that is the first of such refusals, or done with a count below 2^32
first_fits : (xs : List Refusal) → Placed xs → (n : ℕ) → (xs ≡ [] → n < 4294967296) → Fits (first_of xs Err (Ok n))
first_fits xs low n h = first_holds Fits xs Err (Ok n) (λ why l. refused-fits why (low why l)) (λ none. done-fits n (h none))

value-fits : (xs : List Refusal) → Placed xs → (x : Float) → Fits (answer_in (value_or xs x))
value-fits xs low x = first_holds (λ (v : Result Float Refusal). Fits (answer_in v)) xs _ _ (λ why l. refused-fits why (low why l)) (λ none. done-fits 0 (omega arith))

pub check-fits : (s : List ℕ) → Fits (answer_of s)
unfolding answer_of
check-fits s = first_fits (map Score (faults_of s)) (score-low s) 0 (λ none. omega arith)

pub single-fits : (code : ℕ) (phase dt duty : Float) → Fits (answer_in (single_of code phase dt duty))
single-fits code phase dt duty = go (shape_of code duty)
  where
    go : (x : Option Waveform) → Fits (answer_in (single_for x phase dt))
    go (Some w) =
        value-fits (unless (is_waveform w) Setting ++ unless (is_phase phase dt) Argument)
        (append_low refusal_place (unless (is_waveform w) Setting) (unless (is_phase phase dt) Argument) (unless-low refusal_place (is_waveform w) Setting (omega arith)) (unless-low refusal_place (is_phase phase dt) Argument (omega arith))) (value_of w phase dt)
    go None = refused-fits Setting (omega arith)

pub render-fits : (g : Settings) (s : List ℕ) (b : Buffers) → Fits (render_of g s b).result.answer
unfolding render_of
render-fits g s b =
    first_holds (λ (o : Outcome Rendered). Fits o.result.answer) (refusals_of g (room_in b) s) _ (made_of g s (samples_in b)) (λ why l. refused-fits why (judged-low g (room_in b) s why l))
    (λ none. done-fits (samples_in b) (omega (arith, (in_room b (all_passed g (room_in b) s none).sized).short)))

-- a re-render, alone or after the edits of a page
start_low : (new stored : List ℕ) (q : Option ℕ) → Placed (start_refusals new q stored)
start_low new stored None = λ why h. absurd h
start_low new stored (Some m) = unless-low refusal_place (is_start new m stored) StartEntry (omega arith)

module _ (g : Settings) (old new : List ℕ) (b : Buffers) where
  run-count : (q : Option ℕ) → room_in b ≡ true → count_for g old new q b < 4294967296
  unfolding stop_of
  run-count None h = omega arith
  run-count (Some m) h = omega (arith, (in_room b h).short)

  pub rerender-fits : Fits (rerender_of g old new b).result
  unfolding rerender_of
  rerender-fits =
      let plan = plan_of old new (samples_in b) in
      let tests = checks g old new (room_in b) in
      let starts = start_refusals new plan b.stored in
      first_holds (λ (o : Outcome Answer). Fits o.result) (rerender_refusals g old new b) (kept_of b) (outcome_of g old new plan b)
      (λ why l. refused-fits why (append_low refusal_place tests starts (append_low refusal_place (refusals_of g (room_in b) old) (new_refusals_of new) (judged-low g (room_in b) old) (new-low new)) (start_low new b.stored plan) why l))
      (λ none. rw (outcome_done g old new b plan) (done-fits (count_for g old new plan b) (run-count plan (all_checked g old new (room_in b) (none_both tests starts none).0).fits)))

-- ---- a page: the place of a refused edit is its index
held_low : (s es : List ℕ) (i : ℕ) → Low refusal_place i (held_refusals s es i)
unfolding held_refusals
held_low s es i = go (is_insert es i)
  where
    go : (t : Bool) → Low refusal_place i (cond t (unless (ltb (count_of s) 4096) (Full i)) (unless (ltb (first_equal s (record_of es i)) (count_of s)) (NotThere i)))
    go true = unless-low refusal_place (ltb (count_of s) 4096) (Full i) (omega arith)
    go false = unless-low refusal_place (ltb (first_equal s (record_of es i)) (count_of s)) (NotThere i) (omega arith)

edit-low : (s es : List ℕ) (i : ℕ) → Low refusal_place i (edit_refusals s es i)
unfolding edit_refusals record_faults
edit-low s es i =
    let r = record_of es i in
    let faults = record_faults r i in
    append_low refusal_place (unless (frame_right es i) (EditFrame i) ++ map Edit faults) (held_refusals s es i)
    (append_low refusal_place (unless (frame_right es i) (EditFrame i)) (map Edit faults) (unless-low refusal_place (frame_right es i) (EditFrame i) (omega arith)) (map-low refusal_place Edit faults (alone_low (mark_right r 0) (kind_right r 0) (fields_right r 0) i)))
    (held_low s es i)

edits_low : (old es : List ℕ) (k i : ℕ) → Low refusal_place (i + k) (refusals_from old es k i)
unfolding refusals_from
edits_low old es zero i = λ why h. absurd h
edits_low old es (suc k) i =
    let now = edit_refusals (score_after old es i) es i in
    let later = refusals_from old es k (suc i) in
    append_low refusal_place now later (wider refusal_place now (omega arith) (edit-low (score_after old es i) es i)) (wider refusal_place later (omega arith) (edits_low old es k (suc i)))

module _ (g : Settings) (old es : List ℕ) (b : Buffers) (space : List ℕ) where
  abbrev new : List ℕ
  new = new_score_of old es

  abbrev plan : Option ℕ
  plan = plan_of old new (samples_in b)

  abbrev first : List Refusal
  first = first_refusals g old es b space

  abbrev edits : List Refusal
  edits = refusals_from old es (edits_in es) 0

  abbrev starts : List Refusal
  starts = start_refusals new plan b.stored

  first-low : Placed first
  unfolding first_refusals
  first-low = append_low refusal_place (refusals_of g (room_in b) old) (unless (page_fits es space) Page) (judged-low g (room_in b) old) (unless-low refusal_place (page_fits es space) Page (omega arith))

  page_low : edits_in es < 16777216 → Placed (page_refusals g old es b space)
  page_low h = append_low refusal_place (first ++ edits) starts (append_low refusal_place first edits first-low (wider refusal_place edits (omega arith) (edits_low old es (edits_in es) 0))) (start_low new b.stored plan)

  -- without a refusal the old score is accepted, and so is the new one, which has at most 40,960 bytes
  module _ (none : page_refusals g old es b space ≡ []) where
    before : (first ≡ []) × (edits ≡ [])
    before = none_both first edits (none_both (first ++ edits) starts none).0

    passes : Passed g (room_in b) old
    passes = (begun g old es b space before.0).0

    new-bytes : length new ≤ 40960
    new-bytes =
        let taken = none_made old es (edits_in es) 0 before.1 in
        accepted-bytes new (after-accepted old es passes.accepted (edits_in es) (omega arith) (λ i l. taken i (omega arith) (omega arith)))

  abbrev said : Rewritten Paged → Numbers
  said o = paged_numbers o.result.answer o.result.bytes

  abbrev made : Rewritten Paged
  made = turned_over (outcome_of g old new plan b) new space

  made-fits : page_refusals g old es b space ≡ [] → Fitting (said made)
  made-fits none = rw (outcome_done g old new b plan) (record { number_fits = omega arith; place-fits = omega (arith, new-bytes none); count_fits = run-count g old new b plan (passes none).sized })

  pub edit-fits : edits_in es < 16777216 → Fitting (said (edit_of g old es b space))
  unfolding edit_of
  edit-fits h = first_holds (λ (o : Rewritten Paged). Fitting (said o)) (page_refusals g old es b space) (page.kept_of b space) made (λ why l. refused-fits why (page_low h why l)) made-fits

  -- however many edits there are
  pub edit-done-fits : (n : ℕ) → (edit_of g old es b space).result.answer ≡ Ok n → Fitting (said (edit_of g old es b space))
  edit-done-fits n e = let c = edit-decided g old es b space in subst (λ (o : Rewritten Paged). Fitting (said o)) (sym (c.makes n e)) (made-fits (c.done n e))

-- what a continuing call in words answers
abbrev pub continue_says : Option Settings → List ℕ → List ℕ → ℕ → ℕ → Answer
continue_says (Some g) s ws p n = first_of (continue_refusals g s (is_given_in s p ws) p n) Err (Ok n)
continue_says None s ws p n = Err Setting

pub continue_fits : (c : Option Settings) (s ws : List ℕ) (p n : ℕ) → Fits (continue_says c s ws p n)
continue_fits (Some g) s ws p n =
    let judged = refusals_of g (part_fits p n) s in
    let given = unless (is_given_in s p ws) GivenState in
    first_fits (judged ++ given) (append_low refusal_place judged given (judged-low g (part_fits p n) s) (unless-low refusal_place (is_given_in s p ws) GivenState (omega arith))) n
    (λ none. let short : p + n ≤ most_samples = leb-true (p + n) most_samples (all_passed g (part_fits p n) s (none_both judged given none).0).sized in omega arith)
continue_fits None s ws p n = refused-fits Setting (omega arith)
