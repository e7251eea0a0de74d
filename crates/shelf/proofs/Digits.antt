-- Fields in a word: packed and unpacked they are the same, and so is a word that is unpacked and packed. Assumes
-- nothing.
use mathlib.Core.Path.{◌≡◌, sym, ap, ◌∙◌}
use mathlib.Core.List.{List, [], ◌∷◌}
use Prim.Native.Nat.{ℕ, suc, ◌+◌, ◌*◌, ◌/◌, ◌%◌, ◌≤◌, ◌<◌}
use native.Mathlib.Omega.{arith}
use lib.ListN.{length, get_or, drop, drop_of_length-le}
use lib.Seq.{drop-cons}

-- 2^64, the first number that is no u64
abbrev pub beyond : ℕ
beyond = 18446744073709551616

-- ---- the packed word: a byte, a bit, 7 bits and the rest
module _ (a g c d : ℕ) (ha : a < 256) (hg : g < 2) (hc : c < 128) where
  abbrev joined : ℕ
  joined = a + 256 * g + 512 * c + 65536 * d

  pub byte_in : joined % 256 ≡ a
  byte_in = omega arith

  pub bit_in : joined / 256 % 2 ≡ g
  bit_in =
      let q : joined / 256 ≡ g + 2 * (c + 128 * d) = omega arith in
      rw q (omega arith)

  pub count_in : joined / 512 % 128 ≡ c
  count_in =
      let q : joined / 512 ≡ c + 128 * d = omega arith in
      rw q (omega arith)

  pub rest_in : joined / 65536 ≡ d
  rest_in = omega arith

pub packed_again : (w : ℕ) → w < beyond → w % 256 + 256 * (w / 256 % 2) + 512 * (w / 512 % 128 % 128) + 65536 * (w / 65536 % 281474976710656) ≡ w
packed_again w h =
    let q1 : w / 256 ≡ w / 256 % 2 + 2 * (w / 512) = omega arith in
    let q2 : w / 512 ≡ w / 512 % 128 + 128 * (w / 65536) = omega arith in
    let q3 : w / 512 % 128 % 128 ≡ w / 512 % 128 = omega arith in
    let q4 : w / 65536 % 281474976710656 ≡ w / 65536 = omega arith in
    rw (q3, q4) (sums w (w % 256) (w / 256 % 2) (w / 512 % 128) (w / 256) (w / 512) (w / 65536) (omega arith) q1 q2)
  where
    sums : (w a g c p q r : ℕ) → w ≡ a + 256 * p → p ≡ g + 2 * q → q ≡ c + 128 * r → a + 256 * g + 512 * c + 65536 * r ≡ w
    sums w a g c p q r e1 e2 e3 = omega arith

-- ---- eight bytes
-- low byte first, as four pairs
abbrev pub eight : ℕ → ℕ → ℕ → ℕ → ℕ → ℕ → ℕ → ℕ → ℕ
eight a b c d e f g h = (a + 256 * b) + 65536 * ((c + 256 * d) + 65536 * ((e + 256 * f) + 65536 * (g + 256 * h)))

pub record Bytes (w a b c d e f g h : ℕ) : Type 0 where
  pub b0 : w % 256 ≡ a
  pub b1 : w / 256 % 256 ≡ b
  pub b2 : w / 65536 % 256 ≡ c
  pub b3 : w / 16777216 % 256 ≡ d
  pub b4 : w / 4294967296 % 256 ≡ e
  pub b5 : w / 1099511627776 % 256 ≡ f
  pub b6 : w / 281474976710656 % 256 ≡ g
  pub b7 : w / 72057594037927936 % 256 ≡ h

pub bytes_in : (a b c d e f g h : ℕ) → a < 256 → b < 256 → c < 256 → d < 256 → e < 256 → f < 256 → g < 256 → h < 256 → Bytes (eight a b c d e f g h) a b c d e f g h
bytes_in a b c d e f g h ha hb hc hd he hf hg hh =
    let w = eight a b c d e f g h in
    let q1 : w / 256 ≡ b + 256 * (c + 256 * (d + 256 * (e + 256 * (f + 256 * (g + 256 * h))))) = omega arith in
    let q2 : w / 65536 ≡ c + 256 * (d + 256 * (e + 256 * (f + 256 * (g + 256 * h)))) = omega arith in
    let q3 : w / 16777216 ≡ d + 256 * (e + 256 * (f + 256 * (g + 256 * h))) = omega arith in
    let q4 : w / 4294967296 ≡ e + 256 * (f + 256 * (g + 256 * h)) = omega arith in
    let q5 : w / 1099511627776 ≡ f + 256 * (g + 256 * h) = omega arith in
    let q6 : w / 281474976710656 ≡ g + 256 * h = omega arith in
    let q7 : w / 72057594037927936 ≡ h = omega arith in
    record {
      b0 = omega arith;
      b1 = rw q1 (omega arith);
      b2 = rw q2 (omega arith);
      b3 = rw q3 (omega arith);
      b4 = rw q4 (omega arith);
      b5 = rw q5 (omega arith);
      b6 = rw q6 (omega arith);
      b7 = rw q7 (omega arith);
    }

pub eight_again : (w : ℕ) → w < beyond
    → eight (w % 256) (w / 256 % 256) (w / 65536 % 256) (w / 16777216 % 256) (w / 4294967296 % 256) (w / 1099511627776 % 256) (w / 281474976710656 % 256) (w / 72057594037927936 % 256) ≡ w
eight_again w h =
    let q1 : w / 256 ≡ w / 256 % 256 + 256 * (w / 65536) = omega arith in
    let q2 : w / 65536 ≡ w / 65536 % 256 + 256 * (w / 16777216) = omega arith in
    let q3 : w / 16777216 ≡ w / 16777216 % 256 + 256 * (w / 4294967296) = omega arith in
    let q4 : w / 4294967296 ≡ w / 4294967296 % 256 + 256 * (w / 1099511627776) = omega arith in
    let q5 : w / 1099511627776 ≡ w / 1099511627776 % 256 + 256 * (w / 281474976710656) = omega arith in
    let q6 : w / 281474976710656 ≡ w / 281474976710656 % 256 + 256 * (w / 72057594037927936) = omega arith in
    let q7 : w / 72057594037927936 % 256 ≡ w / 72057594037927936 = omega arith in
    rw q7
    (sums w (w % 256) (w / 256 % 256) (w / 65536 % 256) (w / 16777216 % 256) (w / 4294967296 % 256) (w / 1099511627776 % 256) (w / 281474976710656 % 256)
    (w / 256) (w / 65536) (w / 16777216) (w / 4294967296) (w / 1099511627776) (w / 281474976710656) (w / 72057594037927936) (omega arith) q1 q2 q3 q4 q5 q6)
  where
    sums : (w a b c d e f g q1 q2 q3 q4 q5 q6 q7 : ℕ)
        → w ≡ a + 256 * q1 → q1 ≡ b + 256 * q2 → q2 ≡ c + 256 * q3 → q3 ≡ d + 256 * q4 → q4 ≡ e + 256 * q5 → q5 ≡ f + 256 * q6 → q6 ≡ g + 256 * q7
        → eight a b c d e f g q7 ≡ w
    sums w a b c d e f g q1 q2 q3 q4 q5 q6 q7 e0 e1 e2 e3 e4 e5 e6 = omega arith

-- ---- four elements of a list and those after them; all of 13, and of 16
four : (l : List ℕ) (j : ℕ) → j + 4 ≤ length l → drop j l ≡ get_or l j 0 ∷ get_or l (j + 1) 0 ∷ get_or l (j + 2) 0 ∷ get_or l (j + 3) 0 ∷ drop (j + 4) l
four l j h =
    let e1 : suc j ≡ j + 1 = omega arith in
    let e2 : suc (j + 1) ≡ j + 2 = omega arith in
    let e3 : suc (j + 2) ≡ j + 3 = omega arith in
    let e4 : suc (j + 3) ≡ j + 4 = omega arith in
    rw (drop-cons l j 0 (omega arith), e1, drop-cons l (j + 1) 0 (omega arith), e2, drop-cons l (j + 2) 0 (omega arith), e3, drop-cons l (j + 3) 0 (omega arith), e4)

pub thirteen : (l : List ℕ) → length l ≡ 13
    → get_or l 0 0 ∷ get_or l 1 0 ∷ get_or l 2 0 ∷ get_or l 3 0 ∷ get_or l 4 0 ∷ get_or l 5 0 ∷ get_or l 6 0 ∷ get_or l 7 0 ∷ get_or l 8 0 ∷ get_or l 9 0 ∷ get_or l 10 0 ∷ get_or l 11 0 ∷ get_or l 12 0 ∷ [] ≡ l
thirteen l h =
    sym
    (four l 0 (omega arith)
    ∙ ap (λ (x : List ℕ). get_or l 0 0 ∷ get_or l 1 0 ∷ get_or l 2 0 ∷ get_or l 3 0 ∷ x) (four l 4 (omega arith)
    ∙ ap (λ (x : List ℕ). get_or l 4 0 ∷ get_or l 5 0 ∷ get_or l 6 0 ∷ get_or l 7 0 ∷ x) (four l 8 (omega arith)
    ∙ ap (λ (x : List ℕ). get_or l 8 0 ∷ get_or l 9 0 ∷ get_or l 10 0 ∷ get_or l 11 0 ∷ x) (drop-cons l 12 0 (omega arith)
    ∙ ap (λ (x : List ℕ). get_or l 12 0 ∷ x) (drop_of_length-le l {i = 13} (omega arith))))))

pub sixteen : (l : List ℕ) → length l ≡ 16
    → get_or l 0 0 ∷ get_or l 1 0 ∷ get_or l 2 0 ∷ get_or l 3 0 ∷ get_or l 4 0 ∷ get_or l 5 0 ∷ get_or l 6 0 ∷ get_or l 7 0
    ∷ get_or l 8 0 ∷ get_or l 9 0 ∷ get_or l 10 0 ∷ get_or l 11 0 ∷ get_or l 12 0 ∷ get_or l 13 0 ∷ get_or l 14 0 ∷ get_or l 15 0 ∷ [] ≡ l
sixteen l h =
    sym
    (four l 0 (omega arith)
    ∙ ap (λ (x : List ℕ). get_or l 0 0 ∷ get_or l 1 0 ∷ get_or l 2 0 ∷ get_or l 3 0 ∷ x) (four l 4 (omega arith)
    ∙ ap (λ (x : List ℕ). get_or l 4 0 ∷ get_or l 5 0 ∷ get_or l 6 0 ∷ get_or l 7 0 ∷ x) (four l 8 (omega arith)
    ∙ ap (λ (x : List ℕ). get_or l 8 0 ∷ get_or l 9 0 ∷ get_or l 10 0 ∷ get_or l 11 0 ∷ x) (four l 12 (omega arith)
    ∙ ap (λ (x : List ℕ). get_or l 12 0 ∷ get_or l 13 0 ∷ get_or l 14 0 ∷ get_or l 15 0 ∷ x) (drop_of_length-le l {i = 16} (omega arith))))))

-- a list of 16 with these elements
pub sixteen_are : (f : ℕ → ℕ) (l : List ℕ) → length l ≡ 16 → ((k : ℕ) → k < 16 → get_or l k 0 ≡ f k)
    → l ≡ f 0 ∷ f 1 ∷ f 2 ∷ f 3 ∷ f 4 ∷ f 5 ∷ f 6 ∷ f 7 ∷ f 8 ∷ f 9 ∷ f 10 ∷ f 11 ∷ f 12 ∷ f 13 ∷ f 14 ∷ f 15 ∷ []
sixteen_are f l h e =
    rw (
      ← e 0 (omega arith),
      ← e 1 (omega arith),
      ← e 2 (omega arith),
      ← e 3 (omega arith),
      ← e 4 (omega arith),
      ← e 5 (omega arith),
      ← e 6 (omega arith),
      ← e 7 (omega arith),
      ← e 8 (omega arith),
      ← e 9 (omega arith),
      ← e 10 (omega arith),
      ← e 11 (omega arith),
      ← e 12 (omega arith),
      ← e 13 (omega arith),
      ← e 14 (omega arith),
      ← e 15 (omega arith),
    ) (sym (sixteen l h))
