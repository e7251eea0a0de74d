-- A page of edits, made at once.
-- 02, R-6: "Take a list of edits, each a two-byte mark 45 44 (hex), one byte (1 insert, 2 remove), a zero byte and a
-- score record. Insert puts the record after all those at its position or lower; remove takes the first equal record.
-- The new score goes to the front of a lent buffer, the rest of which stays, its length is returned, and one re-render
-- follows"; "Refusals, in this order: 01's 6, 7 and the old score's; 36 when the list is no multiple of 14 bytes or the
-- lent buffer is not 40,960 bytes; per edit in list order, with its index as place, 33 bad mark, code or filler, the
-- record's own 2, 3, 4 plus 48, 34 when nothing equal is there at a remove, 35 when 4,096 are held at an insert; then
-- 8. The whole list is refused."
-- Each edit is judged and made on the score that the edits before it leave, so a refusal of edit i counts only where
-- all edits before it are made: the list of refusals below has them in that order, and its first one decides.
-- Wider than 02: mark, code and filler can be read at any index, where a byte past the end of the list is 0; a record
-- there has fewer bytes. No call reads past its list: one that has a part of an edit is refused with 36.
-- Definitions only.
use Rattle.std.specs.Prelude.{◌≡◌, Bool, cond, ◌&&◌, ◌||◌, List, [], ◌++◌, map, ℕ, zero, suc, ◌+◌, ◌*◌, ◌/◌, ◌%◌, ◌<◌, ltb, eqb, length, get_or, take, drop, Err}
use Rattle.answers.specs.Order.{unless, first_of}
use Rattle.answers.specs.Answer.{Answer}
use Rattle.answers.specs.declared.Refusal.{Refusal}
use Rattle.answers.specs.declared.Refusal.TheVariants.{EditFrame, NotThere, Full, Page, Edit}
use Rattle.answers.specs.declared.ScoreFault.{ScoreFault}
use Rattle.answers.specs.declared.ScoreFault.TheVariants.{Mark, Kind, Field}
use Rattle.score.specs.Record.{count_of, position_at}
use Rattle.score.specs.Score.{mark_right, kind_right, fields_right}
use Rattle.score.specs.Below.{count_below}
use Rattle.score.specs.Apart.{first_equal}
use Rattle.state.specs.declared.Settings.{Settings}
use Rattle.sections.specs.declared.Buffers as lent
use Rattle.sections.specs.Lending.{filled}
use Rattle.sections.specs.Outcome.{Buffers, samples_in, room_in, Outcome}
use Rattle.judging.specs.Judging.{refusals_of}
use Rattle.rerender.specs.Rerender.{plan_of, start_refusals, outcome_of}
use Rattle.page.specs.declared.Paged.{Paged}

-- ---- an edit: fourteen bytes of a list
-- the number of whole edits
abbrev pub edits_in : List ℕ → ℕ
edits_in es = length es / 14

-- byte j of edit i, 0 past the end
abbrev pub edit_byte : List ℕ → ℕ → ℕ → ℕ
edit_byte es i j = get_or es (i * 14 + j) 0

-- mark, code and filler
unfoldable pub frame_right : List ℕ → ℕ → Bool
frame_right es i = eqb (edit_byte es i 0) 0x45 && eqb (edit_byte es i 1) 0x44 && (eqb (edit_byte es i 2) 1 || eqb (edit_byte es i 2) 2) && eqb (edit_byte es i 3) 0

-- an edit whose frame is right inserts or removes
abbrev pub is_insert : List ℕ → ℕ → Bool
is_insert es i = eqb (edit_byte es i 2) 1

-- the ten bytes of its record
abbrev pub record_of : List ℕ → ℕ → List ℕ
record_of es i = take 10 (drop (i * 14 + 4) es)

-- ---- an edit made
-- after all records of an accepted score at the position of the record r or lower
unfoldable pub inserted_of : List ℕ → List ℕ → List ℕ
inserted_of s r = let k = count_below s (position_at r 0 + 1) * 10 in take k s ++ r ++ drop k s

-- record k left out
unfoldable pub removed_of : List ℕ → ℕ → List ℕ
removed_of s k = take (k * 10) s ++ drop (k * 10 + 10) s

-- the score s after edit i
abbrev pub edited_by : List ℕ → List ℕ → ℕ → List ℕ
edited_by s es i = cond (is_insert es i) (inserted_of s (record_of es i)) (removed_of s (first_equal s (record_of es i)))

-- the score after the first i edits; of use only where none of them is refused
unfoldable pub score_after : List ℕ → List ℕ → ℕ → List ℕ
score_after old es zero = old
score_after old es (suc i) = edited_by (score_after old es i) es i

-- the score after all edits
abbrev pub new_score_of : List ℕ → List ℕ → List ℕ
new_score_of old es = score_after old es (edits_in es)

-- ---- what an edit is refused for
-- the faults 2, 3 and 4 of a record alone, with the index of its edit as place
unfoldable pub record_faults : List ℕ → ℕ → List ScoreFault
record_faults r i = unless (mark_right r 0) (Mark i) ++ unless (kind_right r 0) (Kind i) ++ unless (fields_right r 0) (Field i)

-- 35 at an insert into 4,096 records, 34 at a remove of a record that is not there
unfoldable pub held_refusals : List ℕ → List ℕ → ℕ → List Refusal
held_refusals s es i = cond (is_insert es i) (unless (ltb (count_of s) 4096) (Full i)) (unless (ltb (first_equal s (record_of es i)) (count_of s)) (NotThere i))

-- 33, then 50 to 52, then 34 or 35: edit i, on the score s
unfoldable pub edit_refusals : List ℕ → List ℕ → ℕ → List Refusal
edit_refusals s es i = unless (frame_right es i) (EditFrame i) ++ map Edit (record_faults (record_of es i) i) ++ held_refusals s es i

-- those of k edits from edit i on, each on the score that the edits before it leave
unfoldable pub refusals_from : List ℕ → List ℕ → ℕ → ℕ → List Refusal
refusals_from old es zero i = []
refusals_from old es (suc k) i = edit_refusals (score_after old es i) es i ++ refusals_from old es k (suc i)

-- every edit of the list can be made: none is refused on the score that the edits before it leave; theorems cite it, no
-- contract does
abbrev pub AllMade : List ℕ → List ℕ → Type 0
AllMade old es = (i : ℕ) → i < edits_in es → edit_refusals (score_after old es i) es i ≡ []

-- ---- the call
-- what it leaves: its result, the output, shelf and summary, and the buffer lent for the new score
pub record Rewritten (R : Type 0) : Type 0 where
  pub result : R
  pub left : Buffers
  pub space : List ℕ

abbrev pub rewrites : {R : Type 0} → R → Buffers → List ℕ → Rewritten R
rewrites r b space = record { result = r; left = b; space = space }

-- the same, with output, shelf and summary in the slices that were lent as one
pub record RewrittenIn (R : Type 0) : Type 0 where
  pub result : R
  pub left : lent.Buffers
  pub space : List ℕ

abbrev pub rewrites_in : {R : Type 0} → R → lent.Buffers → List ℕ → RewrittenIn R
rewrites_in r b space = record { result = r; left = b; space = space }

abbrev pub rewritten_in : {R : Type 0} → lent.Buffers → Rewritten R → RewrittenIn R
rewritten_in b o = rewrites_in o.result (filled b o.left) o.space

abbrev pub paged : Answer → ℕ → Paged
paged answer bytes = record { answer = answer; bytes = bytes }

-- the list has whole edits, and the lent buffer the bytes of 4,096 records
abbrev pub page_fits : List ℕ → List ℕ → Bool
page_fits es space = eqb (length es % 14) 0 && eqb (length space) 40960

-- 6, 7, the old score's faults, 36
unfoldable pub first_refusals : Settings → List ℕ → List ℕ → Buffers → List ℕ → List Refusal
first_refusals g old es b space = refusals_of g (room_in b) old ++ unless (page_fits es space) Page

-- then those of the edits, then 8
abbrev pub page_refusals : Settings → List ℕ → List ℕ → Buffers → List ℕ → List Refusal
page_refusals g old es b space =
    let new = new_score_of old es in
    first_refusals g old es b space ++ refusals_from old es (edits_in es) 0 ++ start_refusals new (plan_of old new (samples_in b)) b.stored

-- a refusal leaves all as it came, and says 0 bytes
abbrev pub kept_of : Buffers → List ℕ → Refusal → Rewritten Paged
kept_of b space why = rewrites (paged (Err why) 0) b space

-- what one re-render of the old score into the new one leaves, with the new score at the front of the lent buffer
abbrev pub turned_over : Outcome Answer → List ℕ → List ℕ → Rewritten Paged
turned_over o new space = rewrites (paged o.result (length new)) o.left (new ++ drop (length new) space)

unfoldable pub edit_of : Settings → List ℕ → List ℕ → Buffers → List ℕ → Rewritten Paged
edit_of g old es b space =
    let new = new_score_of old es in
    first_of (page_refusals g old es b space) (kept_of b space) (turned_over (outcome_of g old new (plan_of old new (samples_in b)) b) new space)
