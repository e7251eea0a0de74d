-- The tests of a record that read several bytes as one number: that the record is valid, and that two records are the
-- same. Assumes nothing.
use mathlib.Core.Path.{◌≡◌, refl, sym, ◌∙◌}
use mathlib.Core.Bool.{Bool, true, false, ◌&&◌, ◌||◌}
use mathlib.Core.List.{List}
use mathlib.Core.Logic.{⊎_elim}
use Prim.Native.Nat.{ℕ, ◌+◌, ◌*◌, ◌/◌, ◌%◌, ◌≤◌, ◌<◌}
use native.Mathlib.Omega.{arith}
use lib.Bits.{bit_and, and_block, and_mask, and_high}
use lib.Dec.{leb, eqb, lit<}
use borrow.Author.Tests.{leb-true, eq-eqb, ne_eqb, eqb-true}
use Rattle.words.specs.Words.{word_of}
use Rattle.score.specs.Record.{byte_at, word_at}
use Rattle.score.specs.Inner.{mark_at, body_at}
use Rattle.score.specs.Score.{field_limit, all_right}
use Rattle.score.specs.Apart.{same_to, same_record}
use Rattle.score.proofs.Parted.{same_bytes}
use Rattle.score.proofs.Codec.{both, either, Right, right_mark, right_kind, right_fields}

-- ---- the mask 0xFF8080FF keeps the first and the last byte of four, and of the two between them the highest bit
mask_bytes : (a b r s : ℕ) → r < 256 → s < 256 → bit_and (a * 256 + r) (b * 256 + s) ≡ bit_and a b * 256 + bit_and r s
mask_bytes a b r s h k = and_block 8 a b r s h k

mask_whole : (x : ℕ) → x < 256 → bit_and x 255 ≡ x
mask_whole x h = let e : x % 256 ≡ x = omega arith in and_mask x 8 ∙ e

mask_highest : (x : ℕ) → bit_and x 128 ≡ x / 128 % 2 * 128
mask_highest x = and_high x 1 7

highest_none : (x : ℕ) → x < 256 → x / 128 % 2 ≡ 0 → x ≤ 127
highest_none x h e = omega arith

module _ (k n v l : ℕ) (hk : k < 256) (hn : n < 256) (hv : v < 256) (hl : l < 256) where
  masked : bit_and (word_of k n v l) 0xFF8080FF ≡ k + n / 128 % 2 * 32768 + v / 128 % 2 * 8388608 + l * 16777216
  masked =
      let e : word_of k n v l ≡ ((l * 256 + v) * 256 + n) * 256 + k = omega arith in
      let a = mask_bytes ((l * 256 + v) * 256 + n) 0xFF8080 k 255 hk (lit< tt) in
      let b = mask_bytes (l * 256 + v) 0xFF80 n 128 hn (lit< tt) in
      let c = mask_bytes l 0xFF v 128 hv (lit< tt) in
      rw (e, a, b, c, mask_whole k hk, mask_whole l hl, mask_highest n, mask_highest v) (omega arith)

  abbrev kept : ℕ
  kept = bit_and (word_of k n v l) 0xFF8080FF

  abbrev RestRight : Type 0
  RestRight = (1 ≤ k) × (k ≤ 3) × (n ≤ field_limit k) × (v ≤ field_limit k) × (l ≡ 0)

  reset-right : word_of k n v l ≡ 3 → RestRight
  reset-right e =
      let reset : k ≡ 3 = omega arith in
      rw (eq-eqb k 3 reset) (omega arith, omega arith, omega arith, omega arith, omega arith)

  note-right : 1 ≤ kept → kept ≤ 2 → RestRight
  note-right a b =
      let m : kept ≡ k + n / 128 % 2 * 32768 + v / 128 % 2 * 8388608 + l * 16777216 = masked in
      let low : k < 3 = omega arith in
      rw (ne_eqb k 3 (λ e. omega arith)) (omega arith, omega arith, highest_none n hn (omega arith), highest_none v hv (omega arith), omega arith)

  rest_right : eqb (word_of k n v l) 3 || (leb 1 kept && leb kept 2) ≡ true → RestRight
  rest_right h =
      ⊎_elim (λ e. reset-right (eqb-true _ _ e))
      (λ e. let b = both (leb 1 kept) (leb kept 2) e in note-right (leb-true _ _ b.0) (leb-true _ _ b.1))
      (either (eqb (word_of k n v l) 3) (leb 1 kept && leb kept 2) h)

-- ---- a record's bytes
module _ (s : List ℕ) (i : ℕ) (small : (j : ℕ) → byte_at s i j < 256) where
  -- a record that passes the test of the mark and the test of bytes 6 to 9 is valid
  pub surely_right : eqb (mark_at s i) 0x4E56 && (eqb (word_at s i 6) 3 || (leb 1 (bit_and (word_at s i 6) 0xFF8080FF) && leb (bit_and (word_at s i 6) 0xFF8080FF) 2)) ≡ true → all_right s i ≡ true
  surely_right h =
      let word = word_at s i 6 in
      let t = both (eqb (mark_at s i) 0x4E56) (eqb word 3 || (leb 1 (bit_and word 0xFF8080FF) && leb (bit_and word 0xFF8080FF) 2)) h in
      let mark : mark_at s i ≡ 0x4E56 = eqb-true _ _ t.0 in
      let q = rest_right (byte_at s i 6) (byte_at s i 7) (byte_at s i 8) (byte_at s i 9) (small 6) (small 7) (small 8) (small 9) t.1 in
      let r : Right s i = record {
        mark_one = omega (arith, small 0, small 1);
        mark_two = omega (arith, small 0, small 1);
        kind_low = q.0;
        kind_high = q.1;
        note-right = q.2;
        velocity-right = q.3;
        last = q.4;
      } in
      rw (right_mark s i r, right_kind s i r, right_fields s i r)

-- two numbers made of bytes are the same exactly where each byte is
module _ (a b c d e f g h : ℕ) (ha : a < 256) (hb : b < 256) (hc : c < 256) (hd : d < 256) (he : e < 256) (hf : f < 256) (hg : g < 256) (hh : h < 256) where
  word_bytes : word_of a b c d ≡ word_of e f g h → (a ≡ e) × (b ≡ f) × (c ≡ g) × (d ≡ h)
  word_bytes q = (omega arith, omega arith, omega arith, omega arith)

word_small : (a b c d : ℕ) → a < 256 → b < 256 → c < 256 → d < 256 → word_of a b c d < 4294967296
word_small a b c d ha hb hc hd = omega arith

two-words : (a b c d : ℕ) → a < 4294967296 → c < 4294967296 → a + b * 4294967296 ≡ c + d * 4294967296 → (a ≡ c) × (b ≡ d)
two-words a b c d h k q = (omega arith, omega arith)

-- record i of s and record j of t are the same exactly where their marks and the eight bytes after them are
module _ (s : List ℕ) (i : ℕ) (t : List ℕ) (j : ℕ) (x : (k : ℕ) → byte_at s i k < 256) (y : (k : ℕ) → byte_at t j k < 256) where
  abbrev Same : ℕ → Type 0
  Same k = byte_at s i k ≡ byte_at t j k

  four_same : (k : ℕ) → word_at s i k ≡ word_at t j k → Same k × Same (k + 1) × Same (k + 2) × Same (k + 3)
  four_same k = word_bytes _ _ _ _ _ _ _ _ (x k) (x (k + 1)) (x (k + 2)) (x (k + 3)) (y k) (y (k + 1)) (y (k + 2)) (y (k + 3))

  words_same : mark_at s i ≡ mark_at t j → body_at s i ≡ body_at t j → same_record s i t j ≡ true
  unfolding same_to
  words_same m r =
      let a = word_bytes (byte_at s i 0) (byte_at s i 1) 0 0 (byte_at t j 0) (byte_at t j 1) 0 0 (x 0) (x 1) (lit< tt) (lit< tt) (y 0) (y 1) (lit< tt) (lit< tt) m in
      let two = two-words (word_at s i 2) (word_at s i 6) (word_at t j 2) (word_at t j 6) (word_small _ _ _ _ (x 2) (x 3) (x 4) (x 5)) (word_small _ _ _ _ (y 2) (y 3) (y 4) (y 5)) r in
      let b = four_same 2 two.0 in
      let c = four_same 6 two.1 in
      simp (eq-eqb _ _ a.0, eq-eqb _ _ a.1, eq-eqb _ _ b.0, eq-eqb _ _ b.1, eq-eqb _ _ b.2, eq-eqb _ _ b.3, eq-eqb _ _ c.0, eq-eqb _ _ c.1, eq-eqb _ _ c.2, eq-eqb _ _ c.3)

  same-words : same_record s i t j ≡ true → (mark_at s i ≡ mark_at t j) × (body_at s i ≡ body_at t j)
  same-words h =
      let f : (k : ℕ) → k < 10 → byte_at s i k ≡ byte_at t j k = same_bytes s i t j 10 h in
      (rw (f 0 (lit< tt), f 1 (lit< tt)), rw (f 2 (lit< tt), f 3 (lit< tt), f 4 (lit< tt), f 5 (lit< tt), f 6 (lit< tt), f 7 (lit< tt), f 8 (lit< tt), f 9 (lit< tt)))

  pub same_by_words : eqb (mark_at s i) (mark_at t j) && eqb (body_at s i) (body_at t j) ≡ same_record s i t j
  same_by_words = go (eqb (mark_at s i) (mark_at t j)) refl (eqb (body_at s i) (body_at t j)) refl (same_record s i t j) refl
    where
      go : (a : Bool) → eqb (mark_at s i) (mark_at t j) ≡ a → (b : Bool) → eqb (body_at s i) (body_at t j) ≡ b → (r : Bool) → same_record s i t j ≡ r → a && b ≡ r
      go a f b g true q = let e = same-words q in rw (← f, ← g, eq-eqb _ _ e.0, eq-eqb _ _ e.1)
      go true f true g false q = sym (words_same (eqb-true _ _ f) (eqb-true _ _ g)) ∙ q
      go true f false g false q = refl
      go false f b g false q = refl
