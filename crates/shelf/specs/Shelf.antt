-- An entry of the shelf. 01, "The shelf": "Entry k holds the state before sample 4096k is begun, for every 4096k below
-- N, the output's length. Twelve u64 words: phase bits; stage 0 to 4 in the order of `EnvelopeStage`; bits of level,
-- stage_time, release_level; active note (255 for none) + 256*gate + 512*held count + 65,536*records acted; frequency
-- bits; velocity bits, both as f64 read as they stand; four words of 16 pairs (note, velocity), oldest first, low byte
-- first, unused pairs 0. An entry is a state if phase is at least 0 and below 1,000, stage_time 0 to 11, levels and
-- velocity 0 to 1, frequency above 0 and at most 12,544, active note 0 to 127 or 255, gate 1 exactly when it is not
-- 255, held count at most 16, pairs in range, and the rest of these words zero." 02, R-7: the LFO's phase is "kept as a
-- thirteenth word in each shelf entry, under the limits of the first"; "7 asks for 13 words an entry".
-- Here thirteen words are read as a state, and the state is tested by `is_state`. proofs/Sentence.antt says the test
-- word by word, as 01 and 02 do, and proves that it is the same; `decode-encode` of proofs/Back.antt proves that no bit
-- of an entry is ignored. Definitions only.
use Rattle.std.specs.Prelude.{Bool, true, false, cond, ◌&&◌, List, [], ◌∷◌, ◌++◌, ℕ, ◌+◌, ◌-◌, ◌*◌, ◌/◌, ◌%◌, eqb, leb, length, get_or, set, take, drop, Float, Option, Some, None}
use Rattle.std.specs.Bool.{then_some}
use Rattle.std.specs.Int.{to_le_bytes, w64}
use Rattle.std.specs.Float.{binary64}
use Rattle.std.specs.Float.Ieee.{of_bits, to_bits}
use Rattle.envelope.specs.declared.Envelope.{Envelope}
use Rattle.envelope.specs.declared.EnvelopeStage.{EnvelopeStage}
use Rattle.envelope.specs.declared.EnvelopeStage.TheVariants.{Idle, Attack, Decay, Sustain, Release}
use Rattle.voice.specs.declared.keys.Keys.{Keys}
use Rattle.words.specs.Words.{same}
use Rattle.waveform.specs.Waveform.{radians}
use Rattle.state.specs.declared.State.{State}
use Rattle.state.specs.Limits.{is_state}

-- ---- sizes
-- the words of an entry
abbrev pub entry_words : ℕ
entry_words = 13

-- the samples of a section, from one entry to the next
abbrev pub section_size : ℕ
section_size = 4096

-- how many numbers 4096 k lie below n
abbrev pub entries_for : ℕ → ℕ
entries_for n = (n + (section_size - 1)) / section_size

-- the words of a shelf for n samples
abbrev pub words_for : ℕ → ℕ
words_for n = entries_for n * entry_words

-- ---- a state as words: every state has them
-- a NaN has the bits 7ff8000000000000
abbrev pub bits : Float → ℕ
bits x = to_bits binary64 x

-- 0 to 4, in the order of `EnvelopeStage`
abbrev pub stage_word : EnvelopeStage → ℕ
stage_word Idle = 0
stage_word Attack = 1
stage_word Decay = 2
stage_word Sustain = 3
stage_word Release = 4

-- the note, or 255 for none
abbrev pub active_byte : Option ℕ → ℕ
active_byte None = 255
active_byte (Some n) = n

-- 1 if the gate is up
abbrev pub gate_bit : Bool → ℕ
gate_bit false = 0
gate_bit true = 1

-- 01's sum. The held count is cut to its 7 bits and the number of records acted to its 48 (281474976710656 is 2^48), so
-- that neither changes bits of another field. In a state within the limits nothing is cut
unfoldable pub packed_word : Keys → ℕ → ℕ
packed_word keys acted = active_byte keys.active + 256 * gate_bit keys.gate + 512 * (keys.count % 128) + 65536 * (acted % 281474976710656)

-- pair i: the byte of the note, then the byte of the velocity
abbrev pub pair_at : Keys → ℕ → ℕ
pair_at keys i = get_or keys.notes i 0 + 256 * get_or keys.velocities i 0

-- four pairs from pair i on, the oldest in the lowest bits
unfoldable pub four_pairs : Keys → ℕ → ℕ
four_pairs keys i = pair_at keys i + 65536 * (pair_at keys (i + 1) + 65536 * (pair_at keys (i + 2) + 65536 * pair_at keys (i + 3)))

-- the thirteen words
unfoldable pub entry_of : State → List ℕ
entry_of v =
    bits v.phase.0
    ∷ stage_word v.envelope.stage
    ∷ bits v.envelope.level
    ∷ bits v.envelope.stage_time
    ∷ bits v.envelope.release_level
    ∷ packed_word v.keys v.acted
    ∷ bits v.frequency
    ∷ bits v.velocity
    ∷ four_pairs v.keys 0
    ∷ four_pairs v.keys 4
    ∷ four_pairs v.keys 8
    ∷ four_pairs v.keys 12
    ∷ bits v.lfo.0
    ∷ []

-- the words after a state is kept in ws: the state's if ws are thirteen, else ws
abbrev pub stored_in : List ℕ → State → List ℕ
stored_in ws v = cond (eqb (length ws) entry_words) (entry_of v) ws

-- ---- words as a state: any words can be read
-- word i, or 0 past the end
abbrev pub word : List ℕ → ℕ → ℕ
word ws i = get_or ws i 0

-- the float whose bits are word i
abbrev pub float : List ℕ → ℕ → Float
float ws i = of_bits binary64 (word ws i)

-- the stage of 0 to 4; a larger number reads as Release, and the test refuses it
abbrev pub stage_of : ℕ → EnvelopeStage
stage_of w = cond (eqb w 0) Idle (cond (eqb w 1) Attack (cond (eqb w 2) Decay (cond (eqb w 3) Sustain Release)))

-- 255 is none, any other byte a note
abbrev pub active_of : ℕ → Option ℕ
active_of b = cond (eqb b 255) None (Some b)

-- byte `from` of pair k in words of pairs, four in a word: 0 is the note's, 1 the velocity's
abbrev pub pair_byte : List ℕ → ℕ → ℕ → ℕ
pair_byte ws from k = get_or (to_le_bytes w64 (get_or ws (k / 4) 0)) (2 * (k % 4) + from) 0

-- the notes of the four pairs in word w, then l
abbrev pub notes_then : ℕ → List ℕ → List ℕ
notes_then w l = w % 256 ∷ w / 65536 % 256 ∷ w / 4294967296 % 256 ∷ w / 281474976710656 % 256 ∷ l

-- the velocities of the four pairs in word w, then l
abbrev pub velocities_then : ℕ → List ℕ → List ℕ
velocities_then w l = w / 256 % 256 ∷ w / 16777216 % 256 ∷ w / 1099511627776 % 256 ∷ w / 72057594037927936 % 256 ∷ l

-- the notes in four words of pairs
abbrev pub notes_of : ℕ → ℕ → ℕ → ℕ → List ℕ
notes_of a b c d = notes_then a (notes_then b (notes_then c (notes_then d [])))

-- the velocities in four words of pairs
abbrev pub velocities_of : ℕ → ℕ → ℕ → ℕ → List ℕ
velocities_of a b c d = velocities_then a (velocities_then b (velocities_then c (velocities_then d [])))

-- the keys in the packed word p and in the words a to d of pairs
abbrev pub keys_in : ℕ → ℕ → ℕ → ℕ → ℕ → Keys
keys_in p a b c d = record { active = active_of (p % 256); gate = eqb (p / 256 % 2) 1; notes = notes_of a b c d; velocities = velocities_of a b c d; count = p / 512 % 128 }

-- the envelope in words 1 to 4
abbrev pub envelope_in : List ℕ → Envelope
envelope_in ws = record { stage = stage_of (word ws 1); level = float ws 2; stage_time = float ws 3; release_level = float ws 4 }

-- the state that words are read as
unfoldable pub state_of : List ℕ → State
state_of ws =
    record {
      phase = radians (float ws 0);
      envelope = envelope_in ws;
      frequency = float ws 6;
      velocity = float ws 7;
      keys = keys_in (word ws 5) (word ws 8) (word ws 9) (word ws 10) (word ws 11);
      acted = word ws 5 / 65536;
      lfo = radians (float ws 12);
    }

-- thirteen words, a stage up to 4, and a state within the limits. An active byte from 128 to 254 reads as a note, and a
-- NaN's bits as a NaN: both are outside the limits
unfoldable pub is_entry : List ℕ → Bool
is_entry ws = eqb (length ws) entry_words && leb (word ws 1) 4 && is_state (state_of ws)

-- the state of an entry, or None if the words are no entry
abbrev pub decoded_of : List ℕ → Option State
decoded_of ws = then_some (is_entry ws) (state_of ws)

-- ---- a whole shelf: the words of its entries, one after the other
unfoldable pub shelf_of : List State → List ℕ
shelf_of [] = []
shelf_of (v ∷ vs) = entry_of v ++ shelf_of vs

-- the thirteen words of entry k
abbrev pub entry_at : List ℕ → ℕ → List ℕ
entry_at shelf k = take entry_words (drop (k * entry_words) shelf)

-- ---- the number of records acted. 02, R-12: "if the state there equals the stored one apart from records acted";
-- "Entries from the stop on get as records-acted number the new score's records below their position"; "An entry
-- compared but not a state is simply unequal"
-- the words with n as the number of records acted, which is bits 16 to 63 of word 5; also words that are no entry.
-- Fewer than six words stay as they are
abbrev pub with_count : List ℕ → ℕ → List ℕ
with_count ws n = set ws 5 (word ws 5 % 65536 + 65536 * (n % 281474976710656))

-- the words are an entry, and, but for the number of records acted, those of the state v: floats by their bits
unfoldable pub meets : List ℕ → State → Bool
meets ws v = is_entry ws && same (with_count ws 0) (with_count (entry_of v) 0)
