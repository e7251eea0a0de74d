-- What C sees.
-- 01, "What a call says": "The arranger's desk is a C program: score check and single waveform samples are exported to
-- it, on numbers and byte slices. Sine to Pulse are codes 0 to 4 there, in the Rust's order. A single sample takes
-- code, normalised phase, dt and a duty that is read and judged for Pulse only; for Sine u is the phase"; number 6: "at
-- the desk also a waveform code above 4", which 02, R-11, amends: "6 accepts the new choice, which is code 6 at the
-- desk; 5, the Rust's Noise, stays refused." 02, R-7: "Settings gain an LFO"; "6 covers the new settings", and so a
-- code of the LFO's waveform that is none. 02, R-9: "A setting chooses joined or struck"; 0 is struck, 1 joined, and
-- any other number is refused with 6. 02, R-3: "7 also when the summary has not one entry a section", which is lent in
-- two slices.
-- Beyond 01: render, re-render, continuing call, fresh state and listing, on slices of f64 and u64 too. 02, R-6: a page
-- of edits, which is lent a buffer for the new score too.
-- Each outcome is that of the call of the crate below, with its answer packed into one word, and what is left in every
-- lent buffer. Definitions only.
use Rattle.std.specs.Prelude.{Bool, cond, ◌&&◌, List, ◌++◌, ℕ, leb, eqb, length, drop, Float, Err, None, Ok, Option, Some, Result}
use Rattle.sections.specs.Outcome.{Buffers, Outcome, leaves}
use Rattle.render.specs.declared.Rendered.{Rendered}
use Rattle.answers.specs.Answer.{Answer}
use Rattle.answers.specs.declared.Refusal.{Refusal}
use Rattle.answers.specs.declared.Refusal.TheVariants.{Setting, Size, Argument}
use Rattle.answers.specs.Order.{unless, first_of}
use Rattle.floats.specs.Double.{zero64}
use Rattle.listing.specs.Listing.{listing_of}
use Rattle.page.specs.declared.Paged.{Paged}
use Rattle.page.specs.Page.{Rewritten, rewrites, edit_of}
use Rattle.render.specs.Calls.{render_of, continue_refusals}
use Rattle.rerender.specs.Rerender.{rerender_of}
use Rattle.score.specs.Below.{count_below}
use Rattle.score.specs.Score.{answer_of}
use Rattle.shelf.specs.Shelf.{entry_words, entry_of, state_of, is_entry}
use Rattle.state.specs.declared.Keying.{Keying}
use Rattle.state.specs.declared.Keying.TheVariants.{Struck, Joined}
use Rattle.state.specs.declared.Settings.{Settings}
use Rattle.state.specs.State.{fresh_of}
use Rattle.state.specs.Heart.{state_from, samples_from}
use Rattle.waveform.specs.declared.Waveform.{Waveform}
use Rattle.waveform.specs.declared.Waveform.TheVariants.{Sine, Square, Sawtooth, Triangle, Pulse, RoundedTriangle}
use Rattle.waveform.specs.Waveform.{sample_of}
use Rattle.ffi.specs.declared.Asked.{Asked}
use Rattle.ffi.specs.Packed.{packed_of, packed_page}

-- ---- what a call leaves: the word that it answers, and the buffers that it was lent
-- a call that is lent words or bytes alone
pub record Filled : Type 0 where
  pub result : ℕ
  pub left : List ℕ

abbrev pub fills : ℕ → List ℕ → Filled
fills result left = record { result = result; left = left }

-- a call that is lent a part of the output and the words of a state
pub record Continued (R : Type 0) : Type 0 where
  pub result : R
  pub heard : List Float
  pub words : List ℕ

abbrev pub continues : {R : Type 0} → R → List Float → List ℕ → Continued R
continues result part ws = record { result = result; heard = part; words = ws }

-- ---- the settings
-- what a host asks for, in its own numbers
abbrev pub asks : ℕ → ℕ → Float → Float → Float → Float → Float → ℕ → Float → Float → Float → ℕ → Asked
asks rate code duty attack decay sustain release lfo_code lfo_duty lfo_frequency lfo_depth joined =
    record {
      rate = rate;
      code = code;
      duty = duty;
      attack = attack;
      decay = decay;
      sustain = sustain;
      release = release;
      lfo_code = lfo_code;
      lfo_duty = lfo_duty;
      lfo_frequency = lfo_frequency;
      lfo_depth = lfo_depth;
      joined = joined;
    }

-- the table of codes: 0 to 4 in the Rust's order, and 6; every other code is unknown; only Pulse reads the duty
unfoldable pub shape_of : ℕ → Float → Option Waveform
shape_of code duty =
    cond (eqb code 0) (Some Sine)
    (cond (eqb code 1) (Some Square)
    (cond (eqb code 2) (Some Sawtooth)
    (cond (eqb code 3) (Some Triangle)
    (cond (eqb code 4) (Some (Pulse duty))
    (cond (eqb code 6) (Some RoundedTriangle) None)))))

-- 0 is struck, 1 joined, every other number is unknown
unfoldable pub manner_of : ℕ → Option Keying
manner_of joined = cond (eqb joined 0) (Some Struck) (cond (eqb joined 1) (Some Joined) None)

-- the settings that a host asks for, with what its two codes and its choice of struck or joined stand for
abbrev pub settings_of : Asked → Waveform → Waveform → Keying → Settings
settings_of a w l k =
    record {
      rate = a.rate;
      waveform = w;
      adsr = record { attack = a.attack; decay = a.decay; sustain = a.sustain; release = a.release };
      lfo = record { waveform = l; frequency = a.lfo_frequency; depth = a.lfo_depth };
      keying = k;
    }

abbrev pub choice_for : Option Waveform → Option Waveform → Option Keying → Asked → Option Settings
choice_for (Some w) (Some l) (Some k) a = Some (settings_of a w l k)
choice_for (Some w) (Some l) None a = None
choice_for (Some w) None m a = None
choice_for None l m a = None

unfoldable pub choice_of : Asked → Option Settings
choice_of a = choice_for (shape_of a.code a.duty) (shape_of a.lfo_code a.lfo_duty) (manner_of a.joined) a

-- ---- the score's check
abbrev pub check_of : List ℕ → ℕ
check_of s = packed_of (answer_of s)

-- ---- a single sample; an unknown code is refused with 6
abbrev pub single_for : Option Waveform → Float → Float → Result Float Refusal
single_for (Some w) phase dt = sample_of w phase dt
single_for None phase dt = Err Setting

abbrev pub single_of : ℕ → Float → Float → Float → Result Float Refusal
single_of code phase dt duty = single_for (shape_of code duty) phase dt

-- the number that C sees: +0 where the sample is refused
abbrev pub number_in : Result Float Refusal → Float
number_in (Ok x) = x
number_in (Err why) = zero64

-- the answer that C sees beside it: no samples are written, so the count is 0
abbrev pub answer_in : Result Float Refusal → Answer
answer_in (Ok x) = Ok 0
answer_in (Err why) = Err why

-- ---- render: unknown settings are refused with 6, before anything else is judged
abbrev pub rendered : Outcome Rendered → Outcome ℕ
rendered o = leaves (packed_of o.result.answer) o.left

-- a refusal leaves output, shelf and summary as they came
abbrev pub kept_of : Buffers → Refusal → Outcome ℕ
kept_of b why = leaves (packed_of (Err why)) b

abbrev pub render_for : Option Settings → List ℕ → Buffers → Outcome ℕ
render_for (Some g) s b = rendered (render_of g s b)
render_for None s b = kept_of b Setting

-- ---- re-render
abbrev pub rerendered : Outcome Answer → Outcome ℕ
rerendered o = leaves (packed_of o.result) o.left

abbrev pub rerender_for : Option Settings → List ℕ → List ℕ → Buffers → Outcome ℕ
rerender_for (Some g) old new b = rerendered (rerender_of g old new b)
rerender_for None old new b = kept_of b Setting

-- ---- a page of edits: unknown settings are refused with 6, before anything else is judged
abbrev pub edited : Rewritten Paged → Rewritten ℕ
edited o = rewrites (packed_page o.result) o.left o.space

abbrev pub edit_for : Option Settings → List ℕ → List ℕ → Buffers → List ℕ → Rewritten ℕ
edit_for (Some g) old es b space = edited (edit_of g old es b space)
edit_for None old es b space = rewrites (packed_of (Err Setting)) b space

-- ---- continue: the state comes in thirteen words, and the state after the part is left in them
-- the words are an entry, with as many records acted as the score has below p; thirteen words that are no state, and
-- any other number of words, are 10, in the order's place of 10
abbrev pub is_given_in : List ℕ → ℕ → List ℕ → Bool
is_given_in s p ws = is_entry ws && eqb (state_of ws).acted (count_below s p)

-- n samples, and the words of the state after them
abbrev pub made_in : Settings → List ℕ → List ℕ → ℕ → ℕ → Continued ℕ
made_in g s ws p n = continues (packed_of (Ok n)) (samples_from g s p (state_of ws) n) (entry_of (state_from g s p (state_of ws) n))

-- a refusal leaves part and words as they came
abbrev pub kept_in : List Float → List ℕ → Refusal → Continued ℕ
kept_in part ws why = continues (packed_of (Err why)) part ws

-- the outcome under known settings g
unfoldable pub continue_in : Settings → List ℕ → List ℕ → ℕ → List Float → Continued ℕ
continue_in g s ws p part = first_of (continue_refusals g s (is_given_in s p ws) p (length part)) (kept_in part ws) (made_in g s ws p (length part))

abbrev pub continue_for : Option Settings → List ℕ → List ℕ → ℕ → List Float → Continued ℕ
continue_for (Some g) s ws p part = continue_in g s ws p part
continue_for None s ws p part = kept_in part ws Setting

-- ---- the fresh state in thirteen words; any other number of words is 9
abbrev pub fresh_for : List ℕ → Filled
fresh_for ws = first_of (unless (eqb (length ws) entry_words) Argument) (λ (why : Refusal). fills (packed_of (Err why)) ws) (fills (packed_of (Ok 0)) (entry_of (fresh_of 0)))

-- ---- the listing, with its number of bytes as the count; a buffer below 102,413 bytes, which every listing fits, is 7
abbrev pub list_room : ℕ
list_room = 102413

abbrev pub list_for : List ℕ → List ℕ → Filled
list_for s text =
    first_of (unless (leb list_room (length text)) Size) (λ (why : Refusal). fills (packed_of (Err why)) text)
    (fills (packed_of (Ok (length (listing_of s)))) (listing_of s ++ drop (length (listing_of s)) text))
