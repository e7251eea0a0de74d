-- An entry is read as a state within the limits, and that state has the same words. So no bit of an entry is ignored:
-- words with a stray bit, a NaN's bits or a stage above 4 are no entry. Assumes that the words are below 2^64, as every
-- u64 is, and nothing else.
use Rattle.std.specs.Prelude.{Some, None}
use mathlib.Core.Path.{◌≡◌, refl, sym, subst}
use mathlib.Core.Bool.{Bool, true, false, not, cond, ◌&&◌}
use mathlib.Core.List.{List}
use Prim.Native.Nat.{ℕ, zero, suc, ◌/◌, ◌%◌, ◌≤◌, ◌<◌}
use native.Mathlib.Omega.{arith}
use borrow.Author.Tests.{eqb-true}
use lib.Dec.{T, eqb, leb, leb→le, eqb→eq}
use lib.ListN.{length}
use lib.Ieee.{binary64, of_bits, is_nan}
use lib.Ieee.Fits.{and_l, and_r}
use lib.Ieee.Bits.{is_true, of_bits-fits, to_bits-of_bits}
use Rattle.state.specs.Limits.{is_state}
use Rattle.shelf.specs.Shelf.{entry_words, bits, stage_word, active_byte, gate_bit, packed_word, four_pairs, entry_of, word, stage_of, active_of, keys_in, state_of, is_entry}
use Rattle.shelf.proofs.Digits.{beyond, packed_again, eight_again, thirteen}
use Rattle.shelf.proofs.Parts.{all_numbers}
use Rattle.shelf.proofs.There.{Fitting}

-- ---- the parts of the test
module _ (ws : List ℕ) (h : is_entry ws ≡ true) where
  abbrev long : Bool
  long = eqb (length ws) entry_words

  abbrev staged : Bool
  staged = leb (word ws 1) 4

  passed : T (long && staged && is_state (state_of ws))
  unfolding is_entry
  passed = subst T (sym h) tt

  pub entry-is-long : length ws ≡ entry_words
  entry-is-long = eqb→eq (length ws) entry_words (and_l long staged (and_l (long && staged) (is_state (state_of ws)) passed))

  pub entry_has_stage : word ws 1 ≤ 4
  entry_has_stage = leb→le (word ws 1) 4 (and_r long staged (and_l (long && staged) (is_state (state_of ws)) passed))

  pub entry-is_state : is_state (state_of ws) ≡ true
  entry-is_state = is_true (is_state (state_of ws)) (and_r (long && staged) (is_state (state_of ws)) passed)

-- the state that is read has values of its types
pub read_fits : (ws : List ℕ) → Fitting (state_of ws)
unfolding state_of
read_fits ws =
    record {
      phase-fits = of_bits-fits binary64 (word ws 0);
      envelope-fits = record { level-fits = of_bits-fits binary64 (word ws 2); release_fits = of_bits-fits binary64 (word ws 4); time_fits = of_bits-fits binary64 (word ws 3) };
      frequency-fits = of_bits-fits binary64 (word ws 6);
      velocity-fits = of_bits-fits binary64 (word ws 7);
      notes_long = refl;
      velocities_long = refl;
      lfo-fits = of_bits-fits binary64 (word ws 12);
    }

-- ---- word by word
stage_same : (w : ℕ) → w ≤ 4 → stage_word (stage_of w) ≡ w
stage_same zero h = refl
stage_same (suc zero) h = refl
stage_same (suc (suc zero)) h = refl
stage_same (suc (suc (suc zero))) h = refl
stage_same (suc (suc (suc (suc zero)))) h = refl
stage_same (suc (suc (suc (suc (suc w))))) h = absurd (omega arith)

active-same : (b : ℕ) → active_byte (active_of b) ≡ b
active-same b = go (eqb b 255) refl
  where
    go : (t : Bool) → eqb b 255 ≡ t → active_byte (cond t None (Some b)) ≡ b
    go true e = sym (eqb-true b 255 e)
    go false e = refl

gate_same : (x : ℕ) → x < 2 → gate_bit (eqb x 1) ≡ x
gate_same zero h = refl
gate_same (suc zero) h = refl
gate_same (suc (suc x)) h = absurd (omega arith)

packed-same : (p a b c d : ℕ) → p < beyond → packed_word (keys_in p a b c d) (p / 65536) ≡ p
unfolding packed_word
packed-same p a b c d h = rw (active-same (p % 256), gate_same (p / 256 % 2) (omega arith)) (packed_again p h)

float_same : (w : ℕ) → w < beyond → T (not (is_nan (of_bits binary64 w))) → bits (of_bits binary64 w) ≡ w
float_same w h n = to_bits-of_bits binary64 w h n

module _ (p a b c d : ℕ) where
  first-same : a < beyond → four_pairs (keys_in p a b c d) 0 ≡ a
  unfolding four_pairs
  first-same h = eight_again a h

  second-same : b < beyond → four_pairs (keys_in p a b c d) 4 ≡ b
  unfolding four_pairs
  second-same h = eight_again b h

  third-same : c < beyond → four_pairs (keys_in p a b c d) 8 ≡ c
  unfolding four_pairs
  third-same h = eight_again c h

  last-same : d < beyond → four_pairs (keys_in p a b c d) 12 ≡ d
  unfolding four_pairs
  last-same h = eight_again d h

pub decode-encode : (ws : List ℕ) → ((i : ℕ) → word ws i < beyond) → is_entry ws ≡ true → entry_of (state_of ws) ≡ ws
unfolding entry_of state_of
decode-encode ws l h =
    let n = all_numbers (state_of ws) (entry-is_state ws h) in
    let p = word ws 5 in
    let a = word ws 8 in
    let b = word ws 9 in
    let c = word ws 10 in
    let d = word ws 11 in
    rw (
      float_same (word ws 0) (l 0) n.phase_number,
      stage_same (word ws 1) (entry_has_stage ws h),
      float_same (word ws 2) (l 2) n.level_number,
      float_same (word ws 3) (l 3) n.time_number,
      float_same (word ws 4) (l 4) n.release_number,
      packed-same p a b c d (l 5),
      float_same (word ws 6) (l 6) n.frequency_number,
      float_same (word ws 7) (l 7) n.velocity_number,
      first-same p a b c d (l 8),
      second-same p a b c d (l 9),
      third-same p a b c d (l 10),
      last-same p a b c d (l 11),
      float_same (word ws 12) (l 12) n.lfo_number,
    ) (thirteen ws (entry-is-long ws h))
