-- The number, the place and the count of each answer. 01, "What a call says": the table of numbers; "the new score
-- (same numbers plus 16)"; "Place is the record's index, else 0"; "A refusal returns number, place, count 0". 02, R-6:
-- "36 when the list is no multiple of 14 bytes or the lent buffer is not 40,960 bytes; per edit in list order, with its
-- index as place, 33 bad mark, code or filler, the record's own 2, 3, 4 plus 48, 34 when nothing equal is there at a
-- remove, 35 when 4,096 are held at an insert".
--
-- Every contract of a call that can refuse speaks of an `Answer`, and only this file gives the cases of `Answer` their
-- numbers. A later request adds a number as a case of `Refusal`, with a row in each definition here. Definitions only.
use Rattle.std.specs.Prelude.{ℕ, ◌+◌, Err, Ok}
use Rattle.answers.specs.Answer.{Answer}
use Rattle.answers.specs.declared.Refusal.{Refusal}
use Rattle.answers.specs.declared.Refusal.TheVariants.{Score, NewScore, Setting, Size, StartEntry, Argument, GivenState, EditFrame, NotThere, Full, Page, Edit}
use Rattle.answers.specs.declared.ScoreFault.{ScoreFault}
use Rattle.answers.specs.declared.ScoreFault.TheVariants.{Length, Mark, Kind, Field, Order}
use Rattle.answers.specs.declared.Numbers.{Numbers}

-- length; mark; kind; a field out of range or a last byte that is not 0; a position below that of the record before
abbrev pub fault_number : ScoreFault → ℕ
fault_number Length = 1
fault_number (Mark i) = 2
fault_number (Kind i) = 3
fault_number (Field i) = 4
fault_number (Order i) = 5

-- the index of the record at fault, else 0
abbrev pub fault_place : ScoreFault → ℕ
fault_place Length = 0
fault_place (Mark i) = i
fault_place (Kind i) = i
fault_place (Field i) = i
fault_place (Order i) = i

-- the old or only score has the numbers of its fault, the new score these numbers plus 16, the record of an edit plus
-- 48
abbrev pub refusal_number : Refusal → ℕ
refusal_number (Score fault) = fault_number fault
refusal_number (NewScore fault) = fault_number fault + 16
refusal_number Setting = 6
refusal_number Size = 7
refusal_number StartEntry = 8
refusal_number Argument = 9
refusal_number GivenState = 10
refusal_number (EditFrame i) = 33
refusal_number (NotThere i) = 34
refusal_number (Full i) = 35
refusal_number Page = 36
refusal_number (Edit fault) = fault_number fault + 48

-- of a page of edits, the index of the edit; the fault of an edit's record carries it
abbrev pub refusal_place : Refusal → ℕ
refusal_place (Score fault) = fault_place fault
refusal_place (NewScore fault) = fault_place fault
refusal_place Setting = 0
refusal_place Size = 0
refusal_place StartEntry = 0
refusal_place Argument = 0
refusal_place GivenState = 0
refusal_place (EditFrame i) = i
refusal_place (NotThere i) = i
refusal_place (Full i) = i
refusal_place Page = 0
refusal_place (Edit fault) = fault_place fault

-- a refusal writes no sample
abbrev pub refusal_count : Refusal → ℕ
refusal_count r = 0

-- done has number 0, place 0, and as its count the samples written; what C sees of a page of edits that is done has the
-- bytes of its score there (specs/Packed.antt of `ffi`)
abbrev pub numbers_of : Answer → Numbers
numbers_of (Ok n) = record { number = 0; place = 0; count = n }
numbers_of (Err r) = record { number = refusal_number r; place = refusal_place r; count = refusal_count r }
