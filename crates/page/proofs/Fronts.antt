-- The score in a room after an edit: with a record more, or with one less. And where the edit is refused: the room has
-- no space for a record more, or no record of the score has the given bytes. Assumes nothing.
use Rattle.std.specs.Prelude.{Err, Ok}
use mathlib.Core.Path.{◌≡◌, refl, sym, ap, ◌∙◌}
use mathlib.Core.List.{List, [], ◌∷◌, ◌++◌, append_assoc}
use mathlib.Core.Logic.{◌≢◌}
use Prim.Native.Nat.{ℕ, ◌+◌, ◌-◌, ◌*◌, ◌≤◌}
use native.Mathlib.Omega.{arith}
use lib.Dec.{ltb}
use lib.ListN.{length, take, drop, length-append, length-drop}
use lib.Seq.{paste, drop-drop, take-take, take-append_seam, take-append-le, drop_at, length-take-le}
use borrow.Author.Tests.{lt-ltb, le-ltb}
use Rattle.answers.specs.Order.{unless}
use Rattle.answers.specs.declared.Refusal.{Refusal}
use Rattle.answers.specs.declared.Refusal.TheVariants.{NotThere, Full}
use Rattle.score.specs.Record.{count_of, position_at}
use Rattle.score.specs.Below.{count_below, next_not_below, Sorted, Cut}
use Rattle.score.specs.Apart.{first_equal}
use Rattle.score.proofs.Cuts.{accepted-length, accepted-sorted}
use Rattle.score.proofs.Ends.{next-cut, next-count}
use Rattle.score.proofs.Sought.{sought}
use Rattle.sections.proofs.Between.{drop-take}
use Rattle.page.specs.Page.{inserted_of, removed_of}
use Rattle.page.specs.Inner.{IsAccepted, Steps}

-- ---- an edit that is made, and one that is refused
pub step-done : (why : List Refusal) (new : List ℕ) (n : ℕ) (came room : List ℕ) → why ≡ [] → length new ≡ n → room ≡ new ++ drop n came → Steps why new (Ok tt) (take n room)
step-done why new n came room none long is =
    record {
      told = rw none refl;
      made = λ e. rw (is, ← long) (take-append_seam new (drop (length new) came));
    }

pub step_stopped : (x : Refusal) (why : List Refusal) (new score : List ℕ) → why ≡ x ∷ [] → Steps why new (Err x) score
step_stopped x why new score one = record { told = rw one refl; made = λ e. absurd (cc) }

-- ---- the bytes
-- those from index k on of the first n
rest_of : (b : List ℕ) (k n : ℕ) → k ≤ n → drop k (take n b) ≡ take (n - k) (drop k b)
rest_of b k n h = let e : n ≡ k + (n - k) = omega arith in ap (λ (j : ℕ). drop k (take j b)) e ∙ drop-take k (n - k) b

module _ (b : List ℕ) (k n : ℕ) where
  -- the bytes from index k on ten further, and the ten left out at k: those behind them ten sooner
  abbrev pub opened : List ℕ
  opened = paste b (k + 10) (drop k b) (n - k)

  abbrev pub closed : List ℕ
  closed = paste b k (drop (k + 10) b) (n - (k + 10))

  -- ten bytes put where room was opened for them
  opened_put : (xs : List ℕ) → k ≤ n → n + 10 ≤ length b → take k opened ++ xs ++ drop (k + 10) opened ≡ take k (take n b) ++ xs ++ drop k (take n b) ++ drop (n + 10) b
  opened_put xs h fits =
      let x : List ℕ = take (k + 10) b in
      let y : List ℕ = take (n - k) (drop k b) in
      let z : List ℕ = drop (n + 10) b in
      let end : k + 10 + (n - k) ≡ n + 10 = omega arith in
      let long : length x ≡ k + 10 = length-take-le (k + 10) b (omega arith) in
      let is : opened ≡ x ++ (y ++ z) = rw end (append_assoc x y z) in
      let low : take k opened ≡ take k (take n b) =
      ap (take k) is ∙ take-append-le k x (y ++ z) (omega arith) ∙ take-take k (k + 10) b (omega arith) ∙ sym (take-take k n b h) in
      let high : drop (k + 10) opened ≡ drop k (take n b) ++ z =
      ap (drop (k + 10)) is ∙ drop_at x (y ++ z) (k + 10) long ∙ ap (λ (r : List ℕ). r ++ z) (sym (rest_of b k n h)) in
      ap (λ (r : List ℕ). r ++ xs ++ drop (k + 10) opened) low
      ∙ ap (λ (r : List ℕ). take k (take n b) ++ xs ++ r) high
      ∙ sym (append_assoc (take k (take n b) ++ xs) (drop k (take n b)) z)

  -- ten bytes left out
  closed_is : k + 10 ≤ n → closed ≡ take k (take n b) ++ drop (k + 10) (take n b) ++ drop (n - 10) b
  closed_is h =
      let end : k + (n - (k + 10)) ≡ n - 10 = omega arith in
      rw (end, take-take k n b (omega arith), rest_of b (k + 10) n h) refl

-- ten bytes in the place of those from index k on
pub put_in : (b : List ℕ) (k d : ℕ) (xs : List ℕ) → d ≡ 10 → take k b ++ (xs ++ drop d (drop k b)) ≡ take k b ++ xs ++ drop (k + 10) b
put_in b k d xs e = rw (e, drop-drop 10 k b) (sym (append_assoc (take k b) xs (drop (k + 10) b)))

-- ---- the score s, the first n bytes of a room
pub record Holds (room : List ℕ) (n : ℕ) (s : List ℕ) : Type 0 where
  pub whole : length room ≡ 40960
  pub inside : n ≤ 40960
  pub front : take n room ≡ s
  pub accepted : IsAccepted s

module _ (room : List ℕ) (n : ℕ) (s : List ℕ) (h : Holds room n s) where
  front_length : n ≡ length s
  front_length = sym (ap length (sym h.front) ∙ length-take-le n room (omega (arith, h.inside, h.whole)))

  front-records : n ≡ count_of s * 10
  front-records = front_length ∙ accepted-length s (count_of s) h.accepted

  sorted : Sorted s
  sorted = accepted-sorted s (count_of s) h.accepted

  -- no record is below position 0
  cut-first : Cut s 0 0
  cut-first = record { inside = omega arith; lows = λ i l. absurd (omega arith); highs = λ i g l. omega arith }

  -- a room that is not full has space for a record more
  pub space : n ≢ 40960 → n + 10 ≤ length room
  space other = omega (arith, front-records, h.inside, h.whole)

  -- ---- a record more
  pub next-inside : (k p : ℕ) → k ≡ next_not_below (take n room) 0 p → k * 10 ≤ n
  next-inside k p is = let a : next_not_below s 0 p ≤ count_of s = (next-cut s sorted 0 0 p cut-first (omega arith)).inside in
      let e : k ≡ next_not_below s 0 p = rw h.front at is in omega (arith, front-records)

  module _ (xs : List ℕ) (i : ℕ) where
    pub insert-stops : n ≡ 40960 → Steps (unless (ltb (count_of s) 4096) (Full i)) (inserted_of s xs) (Err (Full i)) s
    insert-stops e = step_stopped (Full i) _ (inserted_of s xs) s (rw (le-ltb (count_of s) 4096 (omega (arith, front-records))) refl)

    pub inserts : (p k : ℕ) (left : List ℕ) → length xs ≡ 10 → n ≢ 40960 → p ≡ position_at xs 0 → k ≡ next_not_below (take n room) 0 (p + 1) → left ≡ take (k * 10) (opened room (k * 10) n) ++ xs ++ drop (k * 10 + 10) (opened room (k * 10) n)
        → Steps (unless (ltb (count_of s) 4096) (Full i)) (inserted_of s xs) (Ok tt) (take (n + 10) left)
    unfolding inserted_of
    inserts p k left ten other at is left_is =
        let low : k * 10 ≤ n = next-inside k (p + 1) is in
        let below : k ≡ count_below s (position_at xs 0 + 1) = rw h.front at is ∙ next-count s sorted 0 0 (p + 1) cut-first (omega arith) ∙ ap (λ (q : ℕ). count_below s (q + 1)) at in
        let new : List ℕ = take (k * 10) s ++ xs ++ drop (k * 10) s in
        let same : new ≡ inserted_of s xs = ap (λ (j : ℕ). take (j * 10) s ++ xs ++ drop (j * 10) s) below in
        let long : length new ≡ n + 10 =
        rw (length-append (take (k * 10) s ++ xs) (drop (k * 10) s), length-append (take (k * 10) s) xs, length-take-le (k * 10) s (omega (arith, front_length)), length-drop (k * 10) s, ten) (omega (arith, front_length)) in
        step-done _ (inserted_of s xs) (n + 10) room left
        (rw (lt-ltb (count_of s) 4096 (omega (arith, front-records, space other, h.whole))) refl)
        (ap length (sym same) ∙ long)
        (left_is ∙ opened_put room (k * 10) n xs low (space other) ∙ ap (λ (t : List ℕ). take (k * 10) t ++ xs ++ drop (k * 10) t ++ drop (n + 10) room) h.front ∙ ap (λ (r : List ℕ). r ++ drop (n + 10) room) same)

  -- ---- a record less
  module _ (xs : List ℕ) (i k : ℕ) (found : k ≡ first_equal (take n room) xs) where
    is : k ≡ first_equal s xs
    is = rw h.front at found

    pub found_inside : k * 10 ≤ n
    found_inside = omega (arith, front-records, is, (sought s xs).inside)

    pub remove-stops : k * 10 ≡ n → Steps (unless (ltb (first_equal s xs) (count_of s)) (NotThere i)) (removed_of s (first_equal s xs)) (Err (NotThere i)) s
    remove-stops e = step_stopped (NotThere i) _ (removed_of s (first_equal s xs)) s (rw (le-ltb (first_equal s xs) (count_of s) (omega (arith, front-records, is))) refl)

    pub record_inside : k * 10 ≢ n → k * 10 + 10 ≤ n
    record_inside other = omega (arith, front-records, found_inside)

    pub removes : (left : List ℕ) → k * 10 ≢ n → left ≡ closed room (k * 10) n → Steps (unless (ltb (first_equal s xs) (count_of s)) (NotThere i)) (removed_of s (first_equal s xs)) (Ok tt) (take (n - 10) left)
    unfolding removed_of
    removes left other left_is =
        let fits : k * 10 + 10 ≤ n = record_inside other in
        let new : List ℕ = take (k * 10) s ++ drop (k * 10 + 10) s in
        let same : new ≡ removed_of s (first_equal s xs) = ap (λ (j : ℕ). take (j * 10) s ++ drop (j * 10 + 10) s) is in
        let long : length new ≡ n - 10 =
        rw (length-append (take (k * 10) s) (drop (k * 10 + 10) s), length-take-le (k * 10) s (omega (arith, front_length)), length-drop (k * 10 + 10) s) (omega (arith, front_length)) in
        step-done _ (removed_of s (first_equal s xs)) (n - 10) room left
        (rw (lt-ltb (first_equal s xs) (count_of s) (omega (arith, front-records, is))) refl)
        (ap length (sym same) ∙ long)
        (left_is ∙ closed_is room (k * 10) n fits ∙ ap (λ (t : List ℕ). take (k * 10) t ++ drop (k * 10 + 10) t ++ drop (n - 10) room) h.front ∙ ap (λ (r : List ℕ). r ++ drop (n - 10) room) same)
