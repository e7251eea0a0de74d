-- Demand 3, as a claim.
-- The demand: "A re-render of an accepted old score into an accepted new one starts at the last shelf mark at or before
-- the first changed record. If that mark's entry is what a render of the old score left, with the same settings and
-- length, every sample and entry from the mark on equals a render of the new score from sample zero. Those before it
-- stay as they came, even if they hold rubbish. The count is the samples from the mark to the end. Where the scores are
-- equal, or the first change lies at or past the end, nothing is written and the count is nought." 01, "What a call
-- says": "Where count is 0 for equal scores or a late P, no entry is read and 8 is not given".
-- 02, R-3: "A re-render brings the summary up to date and touches only sections from its start entry on"; "Demand 3 now
-- covers summary as well". So what is said below of samples and entries is said of the summary too: `onward` and
-- `before` of `sections`' specs/Outcome.antt are all three of them.
-- 02, R-12: "The re-render may stop at a later entry, if the state there equals the stored one apart from records
-- acted, and the two scores' records from that position on are the same. It stops at the first such entry past the
-- start"; "This needs all of buffer and shelf from the start on as the old render left them. The count is the samples
-- from start to stop, or to the end where no entry stops it. Demand 3's equality with a fresh render stands; its count
-- clause becomes this one." So `re_rendered` asks for all from the start section on as the old render left it, and says
-- where the re-render stops in the words of two renders from sample zero (`StopsAt`). `entries_alone` and
-- `start_alone` say what holds where less came so. "An entry compared but not a state is simply unequal": `meets` is
-- false of it, and `nothing_stops` says so of a call.
-- The demand's mark is the first sample of a section: sample 4096 m for section m, whose entry is entry m.
-- The argument is in proofs/Demand3.antt, that of `parted` and `first_change` in proofs/First.antt. Definitions only.
use Rattle.std.specs.Prelude.{◌≡◌, true, false, List, ℕ, suc, ◌+◌, ◌-◌, ◌*◌, ◌/◌, ◌%◌, min, ◌≤◌, ◌<◌, T, length, take, Err, Ok, Some}
use Rattle.std.specs.Float.{binary64}
use Rattle.std.specs.Float.Ieee.{fits}
use Rattle.sections.specs.Outcome.{Buffers, samples_in, Lent, before, onward, Outcome, leaves}
use Rattle.answers.specs.Answer.{Answer}
use Rattle.answers.specs.declared.Refusal.TheVariants.{StartEntry}
use Rattle.score.specs.Score.{verdict_of}
use Rattle.score.specs.Below.{count_below}
use Rattle.score.specs.Apart.{difference_of, records_from}
use Rattle.shelf.specs.Shelf.{section_size, entry_words, entries_for, word, is_entry, entry_at, meets}
use Rattle.state.specs.declared.Settings.{Settings}
use Rattle.state.specs.declared.State.{State}
use Rattle.state.specs.Settings.{settings_ok}
use Rattle.state.specs.State.{fresh_of}
use Rattle.state.specs.Heart.{state_from}
use Rattle.state.specs.ButActed.{SameButActed}
use Rattle.render.specs.declared.Rendered.{Rendered}
use Rattle.render.specs.Calls.{render_of}
use Rattle.rerender.specs.Rerender.{plan_of, start_of, rerender_of}

-- ---- what is asked
-- an accepted score
pub record Taken (s : List ℕ) : Type 0 where
  pub records : ℕ
  pub accepted : verdict_of s ≡ Ok records

-- two accepted scores, under settings in their domain; the sustain is a value of an f64, as every f64 of the code is
pub record Edit (g : Settings) (old new : List ℕ) : Type 0 where
  pub settings : settings_ok g ≡ true
  pub sustain_fits : T (fits binary64 g.adsr.sustain)
  pub old_taken : Taken old
  pub new-taken : Taken new

-- any output of n samples, with a shelf and a summary that fit it, lent to a render, whatever they hold
pub record BuffersOf (n : ℕ) : Type 0 where
  pub buffers : Buffers
  pub lent : Lent buffers
  pub long : samples_in buffers ≡ n

-- what a render of s from sample zero leaves in such buffers
abbrev pub left_in : {n : ℕ} → Settings → List ℕ → BuffersOf n → Outcome Rendered
left_in g s r = render_of g s r.buffers

-- the bytes of the records of an accepted score that lie below position q
abbrev pub records_below : List ℕ → ℕ → List ℕ
records_below s q = take (count_below s q * 10) s

-- the first changed record is at p: below p the scores have the same records, up to and including p they do not
pub record FirstChange (old new : List ℕ) (p : ℕ) : Type 0 where
  pub same-below : records_below old p ≡ records_below new p
  pub apart-at : records_below old (suc p) ≡ records_below new (suc p) → ⊥

-- ---- where a re-render stops
-- the state before the first sample of section k, in a render of s from sample zero
abbrev pub at_section : Settings → List ℕ → ℕ → State
at_section g s k = state_from g s 0 (fresh_of 0) (k * section_size)

-- from section k on nothing more can change: both scores have the same records from its first sample on, and renders of
-- both from sample zero have one state before that sample, but for the number of records acted
pub record Settled (g : Settings) (old new : List ℕ) (k : ℕ) : Type 0 where
  pub records : records_from old (k * section_size) ≡ records_from new (k * section_size)
  pub states : SameButActed (at_section g old k) (at_section g new k)

-- k is the first such section after section m in n samples; where there is none, k is the number of sections
pub record StopsAt (g : Settings) (old new : List ℕ) (m n k : ℕ) : Type 0 where
  pub past : m < k
  pub within : k ≤ entries_for n
  pub settled : k < entries_for n → Settled g old new k
  pub first : (j : ℕ) → m < j → j < k → Settled g old new j → ⊥

-- the same for words that need not be a render's: the entry that came for section k is a state, and that is the state
-- before its first sample in a walk over the new score from the state v at section m, but for the number of records
-- acted
pub record SettledOver (g : Settings) (old new : List ℕ) (m : ℕ) (v : State) (b : Buffers) (k : ℕ) : Type 0 where
  pub records : records_from old (k * section_size) ≡ records_from new (k * section_size)
  pub entry : meets (entry_at b.stored k) (state_from g new (m * section_size) v ((k - m) * section_size)) ≡ true

pub record StopsOver (g : Settings) (old new : List ℕ) (m : ℕ) (v : State) (b : Buffers) (k : ℕ) : Type 0 where
  pub past : m < k
  pub within : k ≤ entries_for (samples_in b)
  pub settled : k < entries_for (samples_in b) → SettledOver g old new m v b k
  pub first : (j : ℕ) → m < j → j < k → SettledOver g old new m v b j → ⊥

-- ---- what is promised
-- `left` is left in place of `came`: from section m on, samples, entries and summary are what the render leaves in any
-- buffers of the same size; before section m they are what came
pub record FromSection {R : Type 0} (came : Buffers) (render : BuffersOf (samples_in came) → Outcome R) (m : ℕ) (left : Buffers) : Type 0 where
  pub are_rendered : (r : BuffersOf (samples_in came)) → onward m left ≡ onward m (render r).left
  pub stay : before m left ≡ before m came

-- from section k on `left` is `came`, but for the number of records acted in each entry: that is the number of the new
-- score's records below the entry's position. Word 5 has that number above its low 16 bits, which stay
pub record Recounted (new : List ℕ) (k : ℕ) (came left : Buffers) : Type 0 where
  pub heard : (onward k left).heard ≡ (onward k came).heard
  pub summary : (onward k left).summary ≡ (onward k came).summary
  pub as_many : length left.stored ≡ length came.stored
  pub words : (j i : ℕ) → k ≤ j → j < entries_for (samples_in came) → i < entry_words → (i ≡ 5 → ⊥) → word (entry_at left.stored j) i ≡ word (entry_at came.stored j) i
  pub low_bits : (j : ℕ) → k ≤ j → j < entries_for (samples_in came) → word (entry_at left.stored j) 5 % 65536 ≡ word (entry_at came.stored j) 5 % 65536
  pub numbers : (j : ℕ) → k ≤ j → j < entries_for (samples_in came) → word (entry_at left.stored j) 5 / 65536 ≡ count_below new (j * section_size)

-- a call that started at section m and stopped at section k, or at the end where k is the number of sections: it is
-- done, with the count of the samples from start to stop, and so not 8. What lies between is the new render's. What
-- lies before section m stays as it came, and what lies from section k on but for the numbers of records acted
pub record RemadeTo (g : Settings) (new : List ℕ) (m k : ℕ) (b : Buffers) (o : Outcome Answer) : Type 0 where
  pub counted : o.result ≡ Ok (min (k * section_size) (samples_in b) - m * section_size)
  pub never_8 : o.result ≡ Err StartEntry → ⊥
  pub are_rendered : (r : BuffersOf (samples_in b)) → onward m (before k o.left) ≡ onward m (before k (left_in g new r).left)
  pub stay : before m o.left ≡ before m b
  pub recounted : Recounted new k b o.left

-- where all from section m on came as the old render left it
pub record Remade (g : Settings) (old new : List ℕ) (m : ℕ) (b : Buffers) (o : Outcome Answer) : Type 0 where
  pub stop_section : ℕ
  pub stops : StopsAt g old new m (samples_in b) stop_section
  pub to_the_stop : RemadeTo g new m stop_section b o
  pub left : FromSection b (left_in g new) m o.left

-- where the entries from section m on came so, whatever samples and summary hold: the entries are the new render's, and
-- so are samples from section m on if they came as the old render left them, and the summary if it did
pub record EntriesRemade (g : Settings) (old new : List ℕ) (m : ℕ) (b : Buffers) (o : Outcome Answer) : Type 0 where
  pub stop_section : ℕ
  pub stops : StopsAt g old new m (samples_in b) stop_section
  pub to_the_stop : RemadeTo g new m stop_section b o
  pub entries : (r : BuffersOf (samples_in b)) → (onward m o.left).stored ≡ (onward m (left_in g new r).left).stored
  pub samples : (q r : BuffersOf (samples_in b)) → (onward m b).heard ≡ (onward m (left_in g old q).left).heard → (onward m o.left).heard ≡ (onward m (left_in g new r).left).heard
  pub summary : (q r : BuffersOf (samples_in b)) → (onward m b).summary ≡ (onward m (left_in g old q).left).summary → (onward m o.left).summary ≡ (onward m (left_in g new r).left).summary

-- where the entry of section m came so, whatever all else holds: the other entries decide where the call stops, and
-- where none stops it all from section m on is the new render's
pub record StartRemade (g : Settings) (old new : List ℕ) (m : ℕ) (b : Buffers) (o : Outcome Answer) : Type 0 where
  pub stop_section : ℕ
  pub stops : StopsOver g old new m (at_section g new m) b stop_section
  pub to_the_stop : RemadeTo g new m stop_section b o
  pub to_the_end : stop_section ≡ entries_for (samples_in b) → FromSection b (left_in g new) m o.left

-- where nothing stopped the call
pub record MadeToTheEnd (g : Settings) (new : List ℕ) (m : ℕ) (b : Buffers) (o : Outcome Answer) : Type 0 where
  pub counted : o.result ≡ Ok (samples_in b - m * section_size)
  pub left : FromSection b (left_in g new) m o.left

-- ---- the claim
pub record Demand3 : Type 0 where
  -- the first changed record is at p, before the end, and all from the section that holds p on is what a render of the
  -- old score left there
  pub re_rendered : (g : Settings) (old new : List ℕ) → Edit g old new → (b : Buffers) → Lent b → (p : ℕ) → difference_of old new ≡ Some p → p < samples_in b
      → (r : BuffersOf (samples_in b)) → onward (p / section_size) b ≡ onward (p / section_size) (left_in g old r).left → Remade g old new (p / section_size) b (rerender_of g old new b)
  -- the entries from that section on are
  pub entries_alone : (g : Settings) (old new : List ℕ) → Edit g old new → (b : Buffers) → Lent b → (p : ℕ) → difference_of old new ≡ Some p → p < samples_in b
      → (r : BuffersOf (samples_in b)) → (onward (p / section_size) b).stored ≡ (onward (p / section_size) (left_in g old r).left).stored → EntriesRemade g old new (p / section_size) b (rerender_of g old new b)
  -- the entry of that section is
  pub start_alone : (g : Settings) (old new : List ℕ) → Edit g old new → (b : Buffers) → Lent b → (p : ℕ) → difference_of old new ≡ Some p → p < samples_in b
      → (r : BuffersOf (samples_in b)) → entry_at b.stored (p / section_size) ≡ entry_at (left_in g old r).left.stored (p / section_size) → StartRemade g old new (p / section_size) b (rerender_of g old new b)
  -- what is no state stops nothing: if no later entry is one, the start entry is enough
  pub nothing_stops : (g : Settings) (old new : List ℕ) → Edit g old new → (b : Buffers) → Lent b → (p : ℕ) → difference_of old new ≡ Some p → p < samples_in b
      → (r : BuffersOf (samples_in b)) → entry_at b.stored (p / section_size) ≡ entry_at (left_in g old r).left.stored (p / section_size)
      → ((j : ℕ) → p / section_size < j → j < entries_for (samples_in b) → is_entry (entry_at b.stored j) ≡ false) → MadeToTheEnd g new (p / section_size) b (rerender_of g old new b)
  -- after a call over such entries, stopped or not, an edit of the new score that starts at that section or later is
  -- not refused with 8
  pub never_8_after : (g : Settings) (old new next : List ℕ) → Edit g old new → Taken next → (b : Buffers) → Lent b → (p : ℕ) → difference_of old new ≡ Some p → p < samples_in b
      → (r : BuffersOf (samples_in b)) → (onward (p / section_size) b).stored ≡ (onward (p / section_size) (left_in g old r).left).stored
      → (q : ℕ) → difference_of new next ≡ Some q → q < samples_in b → p / section_size ≤ q / section_size → (rerender_of g new next (rerender_of g old new b).left).result ≡ Err StartEntry → ⊥
  -- whatever the start entry is: a call that is done with count c stopped where the entries say
  pub stops_first : (g : Settings) (old new : List ℕ) (b : Buffers) (m : ℕ) → plan_of old new (samples_in b) ≡ Some m → (c : ℕ) → (rerender_of g old new b).result ≡ Ok c
      → StopsOver g old new m (start_of b.stored m) b (entries_for (m * section_size + c))
  -- there is one stop
  pub one_stop : (g : Settings) (old new : List ℕ) (m n j k : ℕ) → StopsAt g old new m n j → StopsAt g old new m n k → j ≡ k
  -- the scores are equal, whatever shelf and summary hold
  pub equal : (g : Settings) (s : List ℕ) → Edit g s s → (b : Buffers) → Lent b → rerender_of g s s b ≡ leaves (Ok 0) b
  -- the first change lies at or past the end, whatever shelf and summary hold
  pub late : (g : Settings) (old new : List ℕ) → Edit g old new → (b : Buffers) → Lent b → (p : ℕ) → difference_of old new ≡ Some p → samples_in b ≤ p → rerender_of g old new b ≡ leaves (Ok 0) b
  -- no other case exists: accepted scores that are not equal differ at a position, which is that of the first changed
  -- record
  pub parted : (old new : List ℕ) → Taken old → Taken new → (old ≡ new → ⊥) → (p : ℕ) × (difference_of old new ≡ Some p)
  pub first_change : (old new : List ℕ) → Taken old → Taken new → (p : ℕ) → difference_of old new ≡ Some p → FirstChange old new p
