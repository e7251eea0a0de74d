-- A list in parts, and a list with items in place of those from an index up to another: what lies around them, one part
-- more, one item more, and its length. Assumes nothing.
use mathlib.Core.Path.{◌≡◌, refl, sym, ap, ◌∙◌}
use mathlib.Core.List.{List, [], ◌∷◌, ◌++◌, append_assoc, append-nil}
use mathlib.Core.Logic.{◌⊎◌, inl, inr, ⊎_elim}
use Prim.Native.Nat.{ℕ, suc, ◌+◌, ◌≤◌, ◌<◌}
use native.Mathlib.Omega.{arith}
use lib.ListN.{length, take, drop, set, take-append-drop, length-append, length-drop, drop_of_length-le}
use lib.Seq.{take_at, drop_at, take-add, take-nil, drop-drop, drop-cons, set_at, length-take-le}
use Rattle.score.proofs.Cuts.{lt_or_ge}
use borrow.Rule.Slice.PartMut.{put_mid}
use Rattle.sections.specs.Sections.{between}

module _ {A : Type 0} where
  -- nothing in place of nothing
  pub between_none : (a : ℕ) (xs : List A) → between a a xs [] ≡ xs
  between_none a xs = take-append-drop a xs

  -- where all from index a on is replaced, nothing is kept after it
  pub between_end : (a b : ℕ) (xs ys : List A) → length xs ≤ b → between a b xs ys ≡ take a xs ++ ys
  between_end a b xs ys h = rw (drop_of_length-le xs {i = b} h, append-nil ys) refl

  -- k items from index a on
  pub drop-take : (a k : ℕ) (xs : List A) → drop a (take (a + k) xs) ≡ take k (drop a xs)
  drop-take a k xs =
      ⊎_elim (λ l. ap (drop a) (take-add a k xs) ∙ drop_at (take a xs) (take k (drop a xs)) a (length-take-le a xs l))
      (λ l. drop_of_length-le (take (a + k) xs) {i = a} (omega (arith, length-take-le_of xs (a + k))) ∙ sym (ap (take k) (drop_of_length-le xs {i = a} (omega arith)) ∙ take-nil k))
      (le-or-gt a (length xs))
    where
      le-or-gt : (a b : ℕ) → (a ≤ b) ⊎ (b < a)
      le-or-gt a b = ⊎_elim (λ l. inr l) (λ l. inl l) (lt_or_ge b a)

      length-take-le_of : (xs : List A) (n : ℕ) → length (take n xs) ≤ length xs
      length-take-le_of xs n = omega (arith, length-append (take n xs) (drop n xs), ap length (take-append-drop n xs))

  -- what lies from index a on, in two parts
  pub in_parts : (a k : ℕ) (xs : List A) → drop a xs ≡ drop a (take (a + k) xs) ++ drop (a + k) xs
  in_parts a k xs = rw (drop-take a k xs, ← drop-drop k a xs) (sym (take-append-drop k (drop a xs)))

  module _ (a b : ℕ) (xs ys : List A) (h : a ≤ length xs) (e : a + length ys ≡ b) where
    in_two : between a b xs ys ≡ (take a xs ++ ys) ++ drop b xs
    in_two = sym (append_assoc (take a xs) ys (drop b xs))

    front_long : length (take a xs ++ ys) ≡ b
    front_long = length-append (take a xs) ys ∙ rw (length-take-le a xs h) e

    -- up to b, and from b on
    pub between-front : take b (between a b xs ys) ≡ take a xs ++ ys
    between-front = ap (take b) in_two ∙ take_at (take a xs ++ ys) (drop b xs) b front_long

    pub between-after : drop b (between a b xs ys) ≡ drop b xs
    between-after = ap (drop b) in_two ∙ drop_at (take a xs ++ ys) (drop b xs) b front_long

    -- before a
    pub between-before : take a (between a b xs ys) ≡ take a xs
    between-before = take_at (take a xs) (ys ++ drop b xs) a (length-take-le a xs h)

    pub between-length : b ≤ length xs → length (between a b xs ys) ≡ length xs
    between-length l = ap length in_two ∙ length-append (take a xs ++ ys) (drop b xs) ∙ rw (front_long, length-drop b xs) (omega arith)

    -- k items more
    pub between_put : (k : ℕ) (zs : List A) → put_mid b k (between a b xs ys) zs ≡ between a (b + k) xs (ys ++ zs)
    between_put k zs =
        rw (between-front, between-after, drop-drop k b xs)
        (append_assoc (take a xs) ys (zs ++ drop (b + k) xs) ∙ ap (λ (l : List A). take a xs ++ l) (sym (append_assoc ys zs (drop (b + k) xs))))

    -- one item more
    pub between-set : (z : A) → b < length xs → set (between a b xs ys) b z ≡ between a (b + 1) xs (ys ++ (z ∷ []))
    between-set z l =
        let n : b + 1 ≡ suc b = omega arith in
        ap (λ (zs : List A). set zs b z) (in_two ∙ ap (λ (zs : List A). (take a xs ++ ys) ++ zs) (drop-cons xs b z l))
        ∙ set_at (take a xs ++ ys) _ (drop (suc b) xs) z b front_long
        ∙ rw n (append_assoc (take a xs) ys (z ∷ drop (suc b) xs) ∙ ap (λ (l : List A). take a xs ++ l) (sym (append_assoc ys (z ∷ []) (drop (suc b) xs))))
