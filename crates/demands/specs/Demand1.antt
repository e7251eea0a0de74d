-- Demand 1 for a score's check, render, continuing call, re-render and page of edits: each number exactly when its row
-- holds and no earlier row does, and a refusal leaves all as it came.
-- 01, "What a call says": the table "No. | Given exactly when"; "Order: 6, 7, the old or only score, the new score
-- (same numbers plus 16), then 8 or 10 .. In a score 1 first, then each record 2, 3, 4, 5. Place is the record's
-- index"; "A refusal .. hands back state by value as it came, and writes nowhere". 02, R-3: "7 also when the summary
-- has not one entry a section". 02, R-6: the order of a page's refusals, which specs/Page.antt of `page` quotes.
-- For each call a table says when each of its refusals is given; a refusal that the call never gives has the condition
-- ⊥. The number and place of each refusal stand in specs/Numbers.antt of `answers`. Definitions only.
use Rattle.std.specs.Prelude.{◌≡◌, Bool, true, false, ◌&&◌, List, [], ◌⊎◌, ℕ, ◌%◌, ◌<◌, leb, eqb, length, Float, Err, Ok, Some}
use Rattle.answers.specs.declared.Refusal.{Refusal}
use Rattle.answers.specs.declared.Refusal.TheVariants.{Score, NewScore, Setting, Size, StartEntry, Argument, GivenState, EditFrame, NotThere, Full, Page, Edit}
use Rattle.answers.specs.declared.ScoreFault.{ScoreFault}
use Rattle.answers.specs.declared.ScoreFault.TheVariants.{Length, Mark, Kind, Field, Order}
use Rattle.judging.specs.Judging.{Passed, part_fits}
use Rattle.page.specs.Page.{edits_in, edit_byte, record_of, score_after, new_score_of, edit_refusals, AllMade, rewrites, paged, edit_of}
use Rattle.render.specs.Calls.{says, render_of, leaves_part, is_given, continue_of}
use Rattle.rerender.specs.Rerender.{plan_of, is_start, count_for, rerender_of}
use Rattle.score.specs.Apart.{bytes_at}
use Rattle.score.specs.Record.{count_of}
use Rattle.score.specs.Score.{mark_right, kind_right, fields_right, all_right, in_order, verdict_of}
use Rattle.sections.specs.Outcome.{Buffers, samples_in, room_in, leaves}
use Rattle.state.specs.declared.Settings.{Settings}
use Rattle.state.specs.declared.State.{State}
use Rattle.state.specs.Settings.{settings_ok}
use Rattle.state.specs.State.{fresh_of}

-- A holds exactly when B does
pub record Exactly (A B : Type 0) : Type 0 where
  pub only_when : A → B
  pub whenever : B → A

-- ---- a score's faults
-- a multiple of 10 bytes, and at most 4,096 records
abbrev pub is_sized : List ℕ → Bool
is_sized s = eqb (length s % 10) 0 && leb (count_of s) 4096

-- record i exists, the score's length is right, and so is every record before record i
pub record Reaches (s : List ℕ) (i : ℕ) : Type 0 where
  pub sized : is_sized s ≡ true
  pub there : i < count_of s
  pub before : (j : ℕ) → j < i → (all_right s j ≡ true) × (in_order s j ≡ true)

-- when each fault is the first of the score
abbrev pub FaultWhen : List ℕ → ScoreFault → Type 0
FaultWhen s Length = is_sized s ≡ false
FaultWhen s (Mark i) = Reaches s i × (mark_right s i ≡ false)
FaultWhen s (Kind i) = Reaches s i × (mark_right s i ≡ true) × (kind_right s i ≡ false)
FaultWhen s (Field i) = Reaches s i × (mark_right s i ≡ true) × (kind_right s i ≡ true) × (fields_right s i ≡ false)
FaultWhen s (Order i) = Reaches s i × (all_right s i ≡ true) × (in_order s i ≡ false)

pub record FaultsExactly (s : List ℕ) : Type 0 where
  pub faulty : (fault : ScoreFault) → Exactly (verdict_of s ≡ Err fault) (FaultWhen s fault)

-- ---- the calls
-- when a render gives each refusal
abbrev pub RenderWhen : Settings → Bool → List ℕ → Refusal → Type 0
RenderWhen g room s Setting = settings_ok g ≡ false
RenderWhen g room s Size = (settings_ok g ≡ true) × (room ≡ false)
RenderWhen g room s (Score fault) = (settings_ok g ≡ true) × (room ≡ true) × (verdict_of s ≡ Err fault)
RenderWhen g room s (NewScore fault) = ⊥
RenderWhen g room s StartEntry = ⊥
RenderWhen g room s Argument = ⊥
RenderWhen g room s GivenState = ⊥
RenderWhen g room s (EditFrame i) = ⊥
RenderWhen g room s (NotThere i) = ⊥
RenderWhen g room s (Full i) = ⊥
RenderWhen g room s Page = ⊥
RenderWhen g room s (Edit fault) = ⊥

-- when a continuing call gives each refusal: 10 after a render's
abbrev pub ContinueWhen : Settings → Bool → List ℕ → Bool → Refusal → Type 0
ContinueWhen g room s given Setting = RenderWhen g room s Setting
ContinueWhen g room s given Size = RenderWhen g room s Size
ContinueWhen g room s given (Score fault) = RenderWhen g room s (Score fault)
ContinueWhen g room s given (NewScore fault) = ⊥
ContinueWhen g room s given StartEntry = ⊥
ContinueWhen g room s given Argument = ⊥
ContinueWhen g room s given GivenState = Passed g room s × (given ≡ false)
ContinueWhen g room s given (EditFrame i) = ⊥
ContinueWhen g room s given (NotThere i) = ⊥
ContinueWhen g room s given (Full i) = ⊥
ContinueWhen g room s given Page = ⊥
ContinueWhen g room s given (Edit fault) = ⊥

-- when a re-render gives each refusal: the new score's after those of a render of the old score, then 8 where an entry
-- is read
abbrev pub RerenderWhen : Settings → Bool → List ℕ → List ℕ → ℕ → List ℕ → Refusal → Type 0
RerenderWhen g room old new n shelf Setting = RenderWhen g room old Setting
RerenderWhen g room old new n shelf Size = RenderWhen g room old Size
RerenderWhen g room old new n shelf (Score fault) = RenderWhen g room old (Score fault)
RerenderWhen g room old new n shelf (NewScore fault) = Passed g room old × (verdict_of new ≡ Err fault)
RerenderWhen g room old new n shelf StartEntry = Passed g room old × (verdict_of new ≡ Ok (count_of new)) × ((m : ℕ) × (plan_of old new n ≡ Some m) × (is_start new m shelf ≡ false))
RerenderWhen g room old new n shelf Argument = ⊥
RerenderWhen g room old new n shelf GivenState = ⊥
RerenderWhen g room old new n shelf (EditFrame i) = ⊥
RerenderWhen g room old new n shelf (NotThere i) = ⊥
RerenderWhen g room old new n shelf (Full i) = ⊥
RerenderWhen g room old new n shelf Page = ⊥
RerenderWhen g room old new n shelf (Edit fault) = ⊥

-- ---- a page of edits
-- the list has whole edits, and the buffer is right
pub record PageSized (es space : List ℕ) : Type 0 where
  pub whole_edits : length es % 14 ≡ 0
  pub bytes : length space ≡ 40960

-- and so is all that a render of the old score is judged by
pub record PageBegun (g : Settings) (room : Bool) (old es space : List ℕ) : Type 0 where
  pub passed : Passed g room old
  pub sized : PageSized es space

-- mark 45 44, code 1 or 2, filler 0
pub record Framed (es : List ℕ) (i : ℕ) : Type 0 where
  pub mark_one : edit_byte es i 0 ≡ 0x45
  pub mark_two : edit_byte es i 1 ≡ 0x44
  pub code : (edit_byte es i 2 ≡ 1) ⊎ (edit_byte es i 2 ≡ 2)
  pub filler : edit_byte es i 3 ≡ 0

-- edit i exists, and every edit before it is made
pub record ReachesEdit (old es : List ℕ) (i : ℕ) : Type 0 where
  pub there : i < edits_in es
  pub before : (j : ℕ) → j < i → edit_refusals (score_after old es j) es j ≡ []

-- edit i is reached, and neither its frame nor its record is at fault
pub record Judged (old es : List ℕ) (i : ℕ) : Type 0 where
  pub reached : ReachesEdit old es i
  pub framed : Framed es i
  pub right : all_right (record_of es i) 0 ≡ true

-- when a fault of a record is the first of the page: no length, no order
abbrev pub EditFaultWhen : List ℕ → List ℕ → ScoreFault → Type 0
EditFaultWhen old es Length = ⊥
EditFaultWhen old es (Mark i) = ReachesEdit old es i × Framed es i × (mark_right (record_of es i) 0 ≡ false)
EditFaultWhen old es (Kind i) = ReachesEdit old es i × Framed es i × (mark_right (record_of es i) 0 ≡ true) × (kind_right (record_of es i) 0 ≡ false)
EditFaultWhen old es (Field i) = ReachesEdit old es i × Framed es i × (mark_right (record_of es i) 0 ≡ true) × (kind_right (record_of es i) 0 ≡ true) × (fields_right (record_of es i) 0 ≡ false)
EditFaultWhen old es (Order i) = ⊥

-- when a page gives each refusal; 34: no record of the score has the bytes; 35: the score has 4,096 records; 8 where an
-- entry is read
abbrev pub PageWhen : Settings → Bool → List ℕ → List ℕ → List ℕ → ℕ → List ℕ → Refusal → Type 0
PageWhen g room old es space n shelf Setting = RenderWhen g room old Setting
PageWhen g room old es space n shelf Size = RenderWhen g room old Size
PageWhen g room old es space n shelf (Score fault) = RenderWhen g room old (Score fault)
PageWhen g room old es space n shelf Page = Passed g room old × (PageSized es space → ⊥)
PageWhen g room old es space n shelf (EditFrame i) = PageBegun g room old es space × ReachesEdit old es i × (Framed es i → ⊥)
PageWhen g room old es space n shelf (Edit fault) = PageBegun g room old es space × EditFaultWhen old es fault
PageWhen g room old es space n shelf (NotThere i) =
    PageBegun g room old es space × Judged old es i × (edit_byte es i 2 ≡ 2)
    × ((j : ℕ) → j < count_of (score_after old es i) → bytes_at (score_after old es i) j ≡ record_of es i → ⊥)
PageWhen g room old es space n shelf (Full i) = PageBegun g room old es space × Judged old es i × (edit_byte es i 2 ≡ 1) × (count_of (score_after old es i) ≡ 4096)
PageWhen g room old es space n shelf StartEntry =
    PageBegun g room old es space × AllMade old es
    × ((m : ℕ) × (plan_of old (new_score_of old es) n ≡ Some m) × (is_start (new_score_of old es) m shelf ≡ false))
PageWhen g room old es space n shelf (NewScore fault) = ⊥
PageWhen g room old es space n shelf Argument = ⊥
PageWhen g room old es space n shelf GivenState = ⊥

-- ---- what is claimed of each call
pub record RenderExactly (g : Settings) (s : List ℕ) (b : Buffers) : Type 0 where
  pub refused : (why : Refusal) → Exactly ((render_of g s b).result.answer ≡ Err why) (RenderWhen g (room_in b) s why)
  pub done : Exactly ((render_of g s b).result.answer ≡ Ok (samples_in b)) (Passed g (room_in b) s)
  pub as_it_came : (why : Refusal) → (render_of g s b).result.answer ≡ Err why → render_of g s b ≡ leaves (says (Err why) (fresh_of 0)) b

pub record ContinueExactly (g : Settings) (s : List ℕ) (v : State) (p : ℕ) (part : List Float) : Type 0 where
  pub refused : (why : Refusal) → Exactly ((continue_of g s v p part).result.answer ≡ Err why) (ContinueWhen g (part_fits p (length part)) s (is_given s p v) why)
  pub done : Exactly ((continue_of g s v p part).result.answer ≡ Ok (length part)) (Passed g (part_fits p (length part)) s × (is_given s p v ≡ true))
  pub as_it_came : (why : Refusal) → (continue_of g s v p part).result.answer ≡ Err why → continue_of g s v p part ≡ leaves_part (says (Err why) v) part

pub record RerenderExactly (g : Settings) (old new : List ℕ) (b : Buffers) : Type 0 where
  pub refused : (why : Refusal) → Exactly ((rerender_of g old new b).result ≡ Err why) (RerenderWhen g (room_in b) old new (samples_in b) b.stored why)
  pub done : Exactly
      ((rerender_of g old new b).result ≡ Ok (count_for g old new (plan_of old new (samples_in b)) b))
      (Passed g (room_in b) old × (verdict_of new ≡ Ok (count_of new)) × ((m : ℕ) → plan_of old new (samples_in b) ≡ Some m → is_start new m b.stored ≡ true))
  pub as_it_came : (why : Refusal) → (rerender_of g old new b).result ≡ Err why → rerender_of g old new b ≡ leaves (Err why) b

pub record PageExactly (g : Settings) (old es : List ℕ) (b : Buffers) (space : List ℕ) : Type 0 where
  pub refused : (why : Refusal) → Exactly ((edit_of g old es b space).result.answer ≡ Err why) (PageWhen g (room_in b) old es space (samples_in b) b.stored why)
  pub done : Exactly
      ((edit_of g old es b space).result.answer ≡ Ok (count_for g old (new_score_of old es) (plan_of old (new_score_of old es) (samples_in b)) b))
      (PageBegun g (room_in b) old es space × AllMade old es
      × ((m : ℕ) → plan_of old (new_score_of old es) (samples_in b) ≡ Some m → is_start (new_score_of old es) m b.stored ≡ true))
  pub as_it_came : (why : Refusal) → (edit_of g old es b space).result.answer ≡ Err why → edit_of g old es b space ≡ rewrites (paged (Err why) 0) b space
