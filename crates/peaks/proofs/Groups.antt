-- A part of the samples: where no one of it is above the peak so far in size, the peak after it is the peak before it;
-- else it is found from the part alone. Assumes nothing.
use mathlib.Core.Path.{◌≡◌, refl, sym, ap, ◌∙◌}
use mathlib.Core.Bool.{true}
use mathlib.Core.List.{List, []}
use Prim.Native.Nat.{ℕ, zero, suc, ◌+◌, ◌*◌, ◌/◌, ◌<◌}
use native.Mathlib.Nat.{add-zero, add-suc, zero-mul, suc-mul}
use native.Mathlib.Omega.{arith}
use lib.ListN.{length, get_or, take, drop}
use lib.Ieee.{Float, nan, le}
use Rattle.std.proofs.lemmas.Bool.{and_parts}
use Rattle.std.proofs.lemmas.Float.{T_from_true}
use Rattle.std.proofs.lemmas.List.{get_or-take, get_or-drop, drop-drop, length-take, length-drop}
use Rattle.std.specs.Simd.{first_chunks}
use Rattle.peaks.specs.Peaks.{sample_at, peak_to, peak_of}
use Rattle.peaks.specs.Inner.{group_size, size_of, is_quiet, peak_after}
use Rattle.peaks.proofs.Magnitudes.{passed_over}
use Rattle.peaks.proofs.Bounds.{least-to}

-- ---- parts
-- the first k of ys are the samples of xs from i on
abbrev pub Part : List Float → ℕ → List Float → ℕ → Type 0
Part xs i ys k = (j : ℕ) → j < k → sample_at ys j ≡ sample_at xs (i + j)

part_less : (xs ys : List Float) (i k : ℕ) → Part xs i ys (suc k) → Part xs i ys k
part_less xs ys i k e j h = e j (omega arith)

part_dropped : (xs : List Float) (i k : ℕ) → Part xs i (drop i xs) k
part_dropped xs i k j h = get_or-drop i xs j nan

-- the group n of the first c groups of m samples
group_is : (m c : ℕ) (xs : List Float) (n : ℕ) → n < c → get_or (first_chunks m c xs) n [] ≡ take m (drop (n * m) xs)
group_is m zero xs n h = absurd (omega arith)
group_is m (suc c) xs zero h = rw (zero-mul m) refl
group_is m (suc c) xs (suc n) h = group_is m c (drop m xs) n (omega arith) ∙ ap (take m) (drop-drop (n * m) m xs ∙ ap (λ (k : ℕ). drop k xs) (rw (suc-mul n m) (omega arith)))

-- ---- the peak after a part
peak_part : (xs ys : List Float) (i k : ℕ) → Part xs i ys k → peak_after (peak_to xs i) ys i k ≡ peak_to xs (i + k)
unfolding peak_to peak_after
peak_part xs ys i zero e = rw (add-zero i) refl
peak_part xs ys i (suc k) e = rw (add-suc i k, peak_part xs ys i k (part_less xs ys i k e), e k (omega arith)) refl

pub quiet_same : (xs ys : List Float) (i k : ℕ) → Part xs i ys k → is_quiet ys (peak_to xs i).magnitude k ≡ true → peak_to xs (i + k) ≡ peak_to xs i
unfolding peak_to is_quiet
quiet_same xs ys i zero e q = rw (add-zero i) refl
quiet_same xs ys i (suc k) e q =
    let a = (peak_to xs i).magnitude in
    let x = sample_at ys k in
    let yes = and_parts (is_quiet ys a k) (le (size_of x) a) q in
    rw (add-suc i k, quiet_same xs ys i k (part_less xs ys i k e) yes.0, ← e k (omega arith), passed_over a x (least-to xs i) (T_from_true (le (size_of x) a) yes.1)) refl

-- ---- the groups of a section and what is left after them
module _ (xs : List Float) (gs : List (List Float)) (front : gs ≡ first_chunks group_size (length xs / group_size) xs) (long : length gs ≡ length xs / group_size) where
  group_part : (n : ℕ) → n < length gs → Part xs (n * group_size) (get_or gs n []) group_size
  group_part n h j l =
      rw (front, group_is group_size (length xs / group_size) xs n (omega arith))
      (get_or-take group_size (drop (n * group_size) xs) j nan l ∙ get_or-drop (n * group_size) xs j nan)

  group_long : (n : ℕ) → n < length gs → length (get_or gs n []) ≡ group_size
  group_long n h = rw (front, group_is group_size (length xs / group_size) xs n (omega arith)) (simp (length-take, length-drop) (omega arith))

  next_is : (n : ℕ) → n * group_size + group_size ≡ (n + 1) * group_size
  next_is n = omega arith

  pub group_passed : (n : ℕ) → n < length gs → is_quiet (get_or gs n []) (peak_to xs (n * group_size)).magnitude group_size ≡ true → peak_to xs (n * group_size) ≡ peak_to xs ((n + 1) * group_size)
  group_passed n h q = sym (quiet_same xs (get_or gs n []) (n * group_size) group_size (group_part n h) q) ∙ ap (peak_to xs) (next_is n)

  pub group_after : (n : ℕ) → n < length gs → peak_after (peak_to xs (n * group_size)) (get_or gs n []) (n * group_size) (length (get_or gs n [])) ≡ peak_to xs ((n + 1) * group_size)
  group_after n h = rw (group_long n h) (peak_part xs (get_or gs n []) (n * group_size) group_size (group_part n h) ∙ ap (peak_to xs) (next_is n))

  pub rest_after : (ys : List Float) → ys ≡ drop (length xs / group_size * group_size) xs → peak_after (peak_to xs (length gs * group_size)) ys (length gs * group_size) (length ys) ≡ peak_of xs
  rest_after ys e =
      let i = length xs / group_size * group_size in
      rw (long, e) (peak_part xs (drop i xs) i (length (drop i xs)) (part_dropped xs i (length (drop i xs))) ∙ ap (peak_to xs) (simp length-drop (omega arith)))
