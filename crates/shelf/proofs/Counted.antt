-- The number of records acted in an entry (02, R-12). The words of a state with another number are the words of the
-- state with that number; and words meet a state exactly where they are an entry whose state is the same but for that
-- number. Assumes of words that they are below 2^64, as every u64 is, and of a state that it is within its limits and
-- has values of its types, where a law says so, and nothing else.
use mathlib.Core.Path.{◌≡◌, refl, sym, subst, ap, ◌∙◌}
use mathlib.Core.Bool.{Bool, true, false, ◌&&◌, and-true}
use mathlib.Core.List.{List, [], ◌∷◌}
use Prim.Native.Nat.{ℕ, ◌+◌, ◌*◌, ◌/◌, ◌%◌, ◌<◌}
use native.Mathlib.Omega.{arith}
use borrow.Author.Tests.{le-leb}
use lib.Dec.{T, lit<}
use lib.ListN.{length, length-set}
use lib.Seq.{set-get_or, get_or-set_same, get_or-set_other}
use lib.Ieee.Fits.{and_l, and_r}
use lib.Ieee.Bits.{is_true}
use Rattle.words.specs.Words.{same}
use Rattle.words.proofs.Same.{same-equal, equal-same}
use Rattle.voice.specs.declared.keys.Keys.{Keys}
use Rattle.voice.specs.Keys.{is_keys}
use Rattle.voice.proofs.Limits.{keys_sound}
use Rattle.state.specs.declared.State.{State}
use Rattle.state.specs.Limits.{in_limits, is_state}
use Rattle.state.specs.ButActed.{with_acted, SameButActed}
use Rattle.state.proofs.ButActed.{same_at_lem}
use Rattle.state.proofs.Limits.{in_kept, state_in, in_state}
use Rattle.shelf.specs.Shelf.{active_byte, gate_bit, packed_word, entry_of, word, state_of, is_entry, with_count, meets}
use Rattle.shelf.proofs.Digits.{beyond}
use Rattle.shelf.proofs.There.{Fitting, active-low, gate-low, encode-decode, decoded-there}
use Rattle.shelf.proofs.Back.{entry-is-long, entry_has_stage, entry-is_state, read_fits, decode-encode}

-- ---- the packed word with m as its number
module _ (p m : ℕ) where
  abbrev renewed : ℕ
  renewed = p % 65536 + 65536 * m

  low_again : renewed % 65536 ≡ p % 65536
  low_again = omega arith

  byte_again : renewed % 256 ≡ p % 256
  byte_again = omega arith

  bit_again : renewed / 256 % 2 ≡ p / 256 % 2
  bit_again =
      let q : renewed / 256 ≡ p % 65536 / 256 + 256 * m = omega arith in
      let r : p / 256 ≡ p % 65536 / 256 + 256 * (p / 65536) = omega arith in
      rw (q, r) (omega arith)

  held_again : renewed / 512 % 128 ≡ p / 512 % 128
  held_again =
      let q : renewed / 512 ≡ p % 65536 / 512 + 128 * m = omega arith in
      let r : p / 512 ≡ p % 65536 / 512 + 128 * (p / 65536) = omega arith in
      rw (q, r) (omega arith)

  number_in : renewed / 65536 ≡ m
  number_in = omega arith

-- its own number
own_again : (p : ℕ) → p < beyond → p % 65536 + 65536 * (p / 65536 % 281474976710656) ≡ p
own_again p h =
    let q : p / 65536 % 281474976710656 ≡ p / 65536 = omega arith in
    rw q (omega arith)

-- ---- words with another number
pub recount-length : (ws : List ℕ) (n : ℕ) → length (with_count ws n) ≡ length ws
recount-length ws n = length-set ws 5 _

-- word by word: the other words stay, and so do the low 16 bits of word 5, above which the number stands
module _ (ws : List ℕ) (n : ℕ) where
  pub with_other : (i : ℕ) → (i ≡ 5 → ⊥) → word (with_count ws n) i ≡ word ws i
  with_other i h = get_or-set_other ws 5 i (word ws 5 % 65536 + 65536 * (n % 281474976710656)) 0 h

  module _ (long : 5 < length ws) where
    fifth : word (with_count ws n) 5 ≡ word ws 5 % 65536 + 65536 * (n % 281474976710656)
    fifth = get_or-set_same ws 5 (word ws 5 % 65536 + 65536 * (n % 281474976710656)) 0 long

    pub with_low : word (with_count ws n) 5 % 65536 ≡ word ws 5 % 65536
    with_low = ap (λ (w : ℕ). w % 65536) fifth ∙ low (word ws 5) (n % 281474976710656)
      where
        low : (w c : ℕ) → (w % 65536 + 65536 * c) % 65536 ≡ w % 65536
        low w c = omega arith

    pub with_number : n < 281474976710656 → word (with_count ws n) 5 / 65536 ≡ n
    with_number h = ap (λ (w : ℕ). w / 65536) fifth ∙ high (word ws 5) n h
      where
        high : (w c : ℕ) → c < 281474976710656 → (w % 65536 + 65536 * (c % 281474976710656)) / 65536 ≡ c
        high w c h = omega arith

-- the last number stays
pub with_with : (ws : List ℕ) (a b : ℕ) → with_count (with_count ws a) b ≡ with_count ws b
with_with [] a b = refl
with_with (x ∷ []) a b = refl
with_with (x ∷ y ∷ []) a b = refl
with_with (x ∷ y ∷ z ∷ []) a b = refl
with_with (x ∷ y ∷ z ∷ u ∷ []) a b = refl
with_with (x ∷ y ∷ z ∷ u ∷ v ∷ []) a b = refl
with_with (x ∷ y ∷ z ∷ u ∷ v ∷ p ∷ ws) a b = rw (low_again p (a % 281474976710656)) refl

-- words with their own number are as they were
pub with_own : (ws : List ℕ) → word ws 5 < beyond → with_count ws (word ws 5 / 65536) ≡ ws
with_own ws h = rw (own_again (word ws 5) h) (set-get_or ws 5 0)

-- they are read as the same state with that number
pub state_with : (ws : List ℕ) → 5 < length ws → (n : ℕ) → state_of (with_count ws n) ≡ with_acted (state_of ws) (n % 281474976710656)
unfolding state_of
state_with [] h n = absurd (omega arith)
state_with (x ∷ []) h n = absurd (omega arith)
state_with (x ∷ y ∷ []) h n = absurd (omega arith)
state_with (x ∷ y ∷ z ∷ []) h n = absurd (omega arith)
state_with (x ∷ y ∷ z ∷ u ∷ []) h n = absurd (omega arith)
state_with (x ∷ y ∷ z ∷ u ∷ v ∷ []) h n = absurd (omega arith)
state_with (x ∷ y ∷ z ∷ u ∷ v ∷ p ∷ ws) h n =
    let m = n % 281474976710656 in
    rw (byte_again p m, bit_again p m, held_again p m, number_in p m) refl

pub count_back : (ws : List ℕ) → 5 < length ws → (n : ℕ) → n < 281474976710656 → (state_of (with_count ws n)).acted ≡ n
count_back ws h n l = ap (λ (v : State). v.acted) (state_with ws h n) ∙ omega arith

-- ---- the words of a state with another number
packed_with : (k : Keys) → T (is_keys k) → (m n : ℕ) → packed_word k m % 65536 + 65536 * (n % 281474976710656) ≡ packed_word k n
unfolding packed_word
packed_with k t m n =
    low_part (active_byte k.active) (gate_bit k.gate) (k.count % 128) (m % 281474976710656) (n % 281474976710656) (active-low k.active k.gate (keys_sound k t)) (gate-low k.gate) (omega arith)
  where
    low_part : (a g c m n : ℕ) → a < 256 → g < 2 → c < 128 → (a + 256 * g + 512 * c + 65536 * m) % 65536 + 65536 * n ≡ a + 256 * g + 512 * c + 65536 * n
    low_part a g c m n ha hg hc =
        let e : (a + 256 * g + 512 * c + 65536 * m) % 65536 ≡ a + 256 * g + 512 * c = omega arith in
        rw e refl

pub entry_with : (v : State) → is_state v ≡ true → (n : ℕ) → with_count (entry_of v) n ≡ entry_of (with_acted v n)
unfolding entry_of
entry_with v i n = rw (packed_with v.keys (in_kept v (state_in v i)).keys_in v.acted n) refl

-- two states that are the same but for the number have the same words but for it
pub entry-same : (v w : State) → is_state v ≡ true → is_state w ≡ true → SameButActed v w → with_count (entry_of v) w.acted ≡ entry_of w
entry-same v w i j e = entry_with v i w.acted ∙ ap entry_of (same_at_lem v w w.acted e)

-- ---- an entry stays one
with_is_state : (v : State) → is_state v ≡ true → (n : ℕ) → n < 281474976710656 → is_state (with_acted v n) ≡ true
unfolding in_limits
with_is_state v h n l = in_state (with_acted v n) (state_in v h) (omega arith)

with_fits : (v : State) → Fitting v → (n : ℕ) → Fitting (with_acted v n)
with_fits v f n = record { phase-fits = f.phase-fits; envelope-fits = f.envelope-fits; frequency-fits = f.frequency-fits; velocity-fits = f.velocity-fits; notes_long = f.notes_long; velocities_long = f.velocities_long; lfo-fits = f.lfo-fits }

pub entry-recounted : (ws : List ℕ) → is_entry ws ≡ true → (n : ℕ) → is_entry (with_count ws n) ≡ true
unfolding is_entry
entry-recounted ws h n =
    let l = entry-is-long ws h in
    rw (recount-length ws n, l, get_or-set_other ws 5 1 _ 0 (λ e. omega arith), le-leb _ 4 (entry_has_stage ws h), state_with ws (omega arith) n)
    (with_is_state (state_of ws) (entry-is_state ws h) (n % 281474976710656) (omega arith))

pub recounted-entry : (ws : List ℕ) → word ws 5 < beyond → (n : ℕ) → is_entry (with_count ws n) ≡ true → is_entry ws ≡ true
recounted-entry ws l n h = rw (with_with ws n (word ws 5 / 65536), with_own ws l) at (entry-recounted (with_count ws n) h (word ws 5 / 65536))

-- ---- what meets
module _ (ws : List ℕ) (v : State) where
  abbrev alike : Bool
  alike = same (with_count ws 0) (with_count (entry_of v) 0)

  pub words_meet : alike ≡ true → meets ws v ≡ is_entry ws
  unfolding meets
  words_meet e = rw e (and-true (is_entry ws))

  -- 02: "An entry compared but not a state is simply unequal"
  pub no_entry-meets : is_entry ws ≡ false → meets ws v ≡ false
  unfolding meets
  no_entry-meets e = rw e refl

  met : meets ws v ≡ true → T (is_entry ws && alike)
  unfolding meets
  met m = subst T (sym m) tt

  pub meets-entry : meets ws v ≡ true → is_entry ws ≡ true
  meets-entry m = is_true (is_entry ws) (and_l (is_entry ws) alike (met m))

  pub meets-words : meets ws v ≡ true → with_count ws 0 ≡ with_count (entry_of v) 0
  meets-words m = same-equal _ _ (is_true alike (and_r (is_entry ws) alike (met m)))

-- the entry of v meets w exactly where v and w are the same but for the number
module _ (v w : State) (i : is_state v ≡ true) (j : is_state w ≡ true) where
  pub meets-same : Fitting v → Fitting w → meets (entry_of v) w ≡ true → SameButActed v w
  meets-same f g m =
      let e : entry_of (with_acted v 0) ≡ entry_of (with_acted w 0) = sym (entry_with v i 0) ∙ meets-words (entry_of v) w m ∙ entry_with w j 0 in
      let read : (u : State) → Fitting u → is_state u ≡ true → state_of (entry_of u) ≡ u = λ u h k. (decoded-there (entry_of u) u (encode-decode u h k)).1 in
      sym (read (with_acted v 0) (with_fits v f 0) (with_is_state v i 0 (lit< tt))) ∙ ap state_of e ∙ read (with_acted w 0) (with_fits w g 0) (with_is_state w j 0 (lit< tt))

  pub same_meets : Fitting v → SameButActed v w → meets (entry_of v) w ≡ true
  same_meets f e =
      words_meet (entry_of v) w (equal-same _ _ (entry_with v i 0 ∙ ap entry_of e ∙ sym (entry_with w j 0)))
      ∙ (decoded-there (entry_of v) v (encode-decode v f i)).0

-- words meet a state exactly where they are an entry and read as a state that is the same but for the number
module _ (ws : List ℕ) (l : (i : ℕ) → word ws i < beyond) (v : State) (i : is_state v ≡ true) where
  pub meets_means : Fitting v → meets ws v ≡ true → SameButActed (state_of ws) v
  meets_means f m =
      let h = meets-entry ws v m in
      meets-same (state_of ws) v (entry-is_state ws h) i (read_fits ws) f (rw (decode-encode ws l h) m)

  pub means_meets : is_entry ws ≡ true → SameButActed (state_of ws) v → meets ws v ≡ true
  means_meets h e = rw (decode-encode ws l h) at (same_meets (state_of ws) v (entry-is_state ws h) i (read_fits ws) e)

-- for a state the words alone decide: words that are the state's but for the number are an entry
pub words_decide : (ws : List ℕ) → word ws 5 < beyond → (v : State) → Fitting v → is_state v ≡ true → same (with_count ws 0) (with_count (entry_of v) 0) ≡ true → is_entry ws ≡ true
words_decide ws l v f i e =
    let h : is_entry (entry_of v) ≡ true = (decoded-there (entry_of v) v (encode-decode v f i)).0 in
    recounted-entry ws l 0 (rw (same-equal _ _ e) (entry-recounted (entry_of v) h 0))
