-- An accepted score with a right record inserted, or a record removed, is accepted; so is the score after any number of
-- edits that are not refused, and it fits the room. No list need hold bytes. Assumes nothing.
use Rattle.std.specs.Prelude.{Ok}
use mathlib.Core.Path.{◌≡◌, refl, sym, ap, subst, ◌∙◌}
use mathlib.Core.Bool.{Bool, true, false, cond, ◌&&◌}
use mathlib.Core.List.{List, [], ◌++◌, map}
use mathlib.Core.Logic.{⊎_elim}
use Prim.Native.Nat.{ℕ, zero, suc, ◌+◌, ◌*◌, ◌-◌, ◌≤◌, ◌<◌}
use native.Mathlib.Nat.{eq-or-lt_of_le}
use native.Mathlib.Omega.{arith}
use lib.Dec.{ltb}
use lib.ListN.{length, get_or, take, drop, length-append, length-drop, get_or-append}
use lib.Seq.{get_or-take, get_or-drop, get_or-append-add, length-take-le}
use borrow.Author.Tests.{ltb-true, le-leb}
use Rattle.answers.specs.Order.{unless}
use Rattle.answers.specs.declared.Refusal.TheVariants.{EditFrame, NotThere, Full, Edit}
use Rattle.answers.specs.declared.ScoreFault.TheVariants.{Mark, Kind, Field}
use Rattle.answers.proofs.Order.{passed, none_both, none-map}
use Rattle.score.specs.Record.{count_of, byte_at, position_at}
use Rattle.score.specs.Score.{mark_right, kind_right, fields_right, all_right, in_order, verdict_of}
use Rattle.score.specs.Below.{count_below, Sorted, Cut}
use Rattle.score.specs.Apart.{first_equal}
use Rattle.score.proofs.Codec.{both, Right, tests_right}
use Rattle.score.proofs.Verdicts.{accepted_all, all_accepted}
use Rattle.score.proofs.Cuts.{lt_or_ge, accepted-count, accepted-few, accepted-length, accepted-sorted, sorted-le, count_cut}
use Rattle.page.specs.Page.{edits_in, frame_right, is_insert, record_of, inserted_of, removed_of, edited_by, score_after, record_faults, held_refusals, edit_refusals, refusals_from}
use Rattle.page.specs.Inner.{IsAccepted}

-- ---- one record of each list: record i of t has the bytes of record j of s
abbrev Alike : List ℕ → ℕ → List ℕ → ℕ → Type 0
Alike t i s j = (k : ℕ) → k < 10 → byte_at t i k ≡ byte_at s j k

module _ (t : List ℕ) (i : ℕ) (s : List ℕ) (j : ℕ) (a : Alike t i s j) where
  alike_right : Right s j → Right t i
  alike_right r =
      record {
        mark_one = rw (a 0 (omega arith)) r.mark_one;
        mark_two = rw (a 1 (omega arith)) r.mark_two;
        kind_low = rw (a 6 (omega arith)) r.kind_low;
        kind_high = rw (a 6 (omega arith)) r.kind_high;
        note-right = rw (a 7 (omega arith), a 6 (omega arith)) r.note-right;
        velocity-right = rw (a 8 (omega arith), a 6 (omega arith)) r.velocity-right;
        last = rw (a 9 (omega arith)) r.last;
      }

  alike_position : position_at t i ≡ position_at s j
  unfolding position_at
  alike_position = rw (a 2 (omega arith), a 3 (omega arith), a 4 (omega arith), a 5 (omega arith))

-- ---- n right records at positions that never fall
record Risen (t : List ℕ) (n : ℕ) : Type 0 where
  size : length t ≡ n * 10
  few : n ≤ 4096
  right : (i : ℕ) → i < n → Right t i
  rising : (i : ℕ) → suc i < n → position_at t i ≤ position_at t (suc i)

risen_accepted : (t : List ℕ) (n : ℕ) → Risen t n → IsAccepted t
unfolding in_order
risen_accepted t n r = subst (λ (m : ℕ). verdict_of t ≡ Ok m) (accepted-count t n all) all
  where
    ordered : (i : ℕ) → i < n → in_order t i ≡ true
    ordered zero h = refl
    ordered (suc i) h = le-leb (position_at t i) (position_at t (suc i)) (r.rising i h)

    all : verdict_of t ≡ Ok n
    all = all_accepted t n (record { size = r.size; few = r.few; fine = λ i h. record { right = r.right i h; ordered = ordered i h } })

accepted-right : (s : List ℕ) → IsAccepted s → (i : ℕ) → i < count_of s → Right s i
accepted-right s h i l = ((accepted_all s (count_of s) h).fine i l).right

-- its bytes fit the room
pub accepted-bytes : (s : List ℕ) → IsAccepted s → length s ≤ 40960
accepted-bytes s h = let size = accepted-length s (count_of s) h in let few = accepted-few s (count_of s) h in omega (arith, size, few)

-- the bytes of the first c records
front-size : (s : List ℕ) (c : ℕ) → length s ≡ count_of s * 10 → c ≤ count_of s → length (take (c * 10) s) ≡ c * 10
front-size s c whole inside = length-take-le (c * 10) s (omega arith)

-- ---- a record inserted behind the first c of s
module _ (s r : List ℕ) (ten : length r ≡ 10) (c : ℕ) (whole : length s ≡ count_of s * 10) (inside : c ≤ count_of s) where
  abbrev opened : List ℕ
  opened = take (c * 10) s ++ r ++ drop (c * 10) s

  opened_front : length (take (c * 10) s) ≡ c * 10
  opened_front = front-size s c whole inside

  head_size : length (take (c * 10) s ++ r) ≡ c * 10 + 10
  head_size = length-append (take (c * 10) s) r ∙ omega (arith, opened_front)

  opened_size : length opened ≡ suc (count_of s) * 10
  opened_size = length-append (take (c * 10) s ++ r) (drop (c * 10) s) ∙ omega (arith, head_size, length-drop (c * 10) s)

  opened_before : (i : ℕ) → i < c → Alike opened i s i
  opened_before i h k l =
      let m : i * 10 + k < c * 10 = omega arith in
      get_or-append (take (c * 10) s ++ r) (drop (c * 10) s) 0 (i * 10 + k) (omega (arith, head_size))
      ∙ get_or-append (take (c * 10) s) r 0 (i * 10 + k) (omega (arith, opened_front)) ∙ get_or-take (c * 10) s (i * 10 + k) 0 m

  opened_there : Alike opened c r 0
  opened_there k l =
      let e : c * 10 + k ≡ length (take (c * 10) s) + k = ap (λ (n : ℕ). n + k) (sym opened_front) in
      let z : k ≡ 0 * 10 + k = omega arith in
      get_or-append (take (c * 10) s ++ r) (drop (c * 10) s) 0 (c * 10 + k) (omega (arith, head_size))
      ∙ ap (λ (n : ℕ). get_or (take (c * 10) s ++ r) n 0) e ∙ get_or-append-add (take (c * 10) s) r k 0 ∙ ap (λ (n : ℕ). get_or r n 0) z

  opened_behind : (i : ℕ) → c ≤ i → Alike opened (suc i) s i
  opened_behind i h k l =
      let j = i * 10 + k - c * 10 in
      let e : suc i * 10 + k ≡ length (take (c * 10) s ++ r) + j = omega (arith, head_size) in
      let z : c * 10 + j ≡ i * 10 + k = omega arith in
      ap (λ (n : ℕ). get_or opened n 0) e ∙ get_or-append-add (take (c * 10) s ++ r) (drop (c * 10) s) j 0 ∙ get_or-drop (c * 10) s j 0 ∙ ap (λ (n : ℕ). get_or s n 0) z

-- ---- record c of s removed
module _ (s : List ℕ) (c : ℕ) (whole : length s ≡ count_of s * 10) (inside : c < count_of s) where
  abbrev closed : List ℕ
  closed = take (c * 10) s ++ drop (c * 10 + 10) s

  closed_front : length (take (c * 10) s) ≡ c * 10
  closed_front = front-size s c whole (omega arith)

  closed_size : length closed ≡ (count_of s - 1) * 10
  closed_size = length-append (take (c * 10) s) (drop (c * 10 + 10) s) ∙ omega (arith, closed_front, length-drop (c * 10 + 10) s)

  closed_before : (i : ℕ) → i < c → Alike closed i s i
  closed_before i h k l =
      let m : i * 10 + k < c * 10 = omega arith in
      get_or-append (take (c * 10) s) (drop (c * 10 + 10) s) 0 (i * 10 + k) (omega (arith, closed_front)) ∙ get_or-take (c * 10) s (i * 10 + k) 0 m

  closed_behind : (i : ℕ) → c ≤ i → Alike closed i s (suc i)
  closed_behind i h k l =
      let j = i * 10 + k - c * 10 in
      let e : i * 10 + k ≡ length (take (c * 10) s) + j = omega (arith, closed_front) in
      let z : c * 10 + 10 + j ≡ suc i * 10 + k = omega arith in
      ap (λ (n : ℕ). get_or closed n 0) e ∙ get_or-append-add (take (c * 10) s) (drop (c * 10 + 10) s) j 0 ∙ get_or-drop (c * 10 + 10) s j 0 ∙ ap (λ (n : ℕ). get_or s n 0) z

-- ---- an edit made
record_right : (r : List ℕ) → all_right r 0 ≡ true → Right r 0
record_right r h =
    let a = both (mark_right r 0 && kind_right r 0) (fields_right r 0) h in
    let b = both (mark_right r 0) (kind_right r 0) a.0 in
    tests_right r 0 b.0 b.1 a.1

-- each record before the place is at the position of r or lower, each from there on is higher
module _ (s r : List ℕ) (h : IsAccepted s) (ten : length r ≡ 10) (good : all_right r 0 ≡ true) where
  abbrev place : ℕ
  place = count_below s (position_at r 0 + 1)

  whole : length s ≡ count_of s * 10
  whole = accepted-length s (count_of s) h

  cut : Cut s (position_at r 0 + 1) place
  cut = count_cut s (accepted-sorted s (count_of s) h) (position_at r 0 + 1)

  before : (i : ℕ) → i < place → Alike (opened s r ten place whole cut.inside) i s i
  before = opened_before s r ten place whole cut.inside

  there : Alike (opened s r ten place whole cut.inside) place r 0
  there = opened_there s r ten place whole cut.inside

  behind : (i : ℕ) → place ≤ i → Alike (opened s r ten place whole cut.inside) (suc i) s i
  behind = opened_behind s r ten place whole cut.inside

  inserted_right : (i : ℕ) → i < suc (count_of s) → Right (inserted_of s r) i
  unfolding inserted_of
  inserted_right i l =
      ⊎_elim
      (λ b. alike_right (inserted_of s r) i s i (before i b) (accepted-right s h i (omega (arith, cut.inside))))
      (λ g. ⊎_elim
      (λ e. rw (← e) (alike_right (inserted_of s r) place r 0 there (record_right r good)))
      (λ b. let e : i ≡ suc (i - 1) = omega arith in
      rw e (alike_right (inserted_of s r) (suc (i - 1)) s (i - 1) (behind (i - 1) (omega arith)) (accepted-right s h (i - 1) (omega arith))))
      (eq-or-lt_of_le g))
      (lt_or_ge i place)

  inserted_rising : (i : ℕ) → suc i < suc (count_of s) → position_at (inserted_of s r) i ≤ position_at (inserted_of s r) (suc i)
  unfolding inserted_of
  inserted_rising i l =
      let t = inserted_of s r in
      ⊎_elim
      (λ b. let own : position_at t i ≡ position_at s i = alike_position t i s i (before i b) in
      ⊎_elim
      (λ e. let next : position_at t (suc i) ≡ position_at r 0 = rw e (alike_position t place r 0 there) in
      let low : position_at s i < position_at r 0 + 1 = cut.lows i b in omega arith)
      (λ n. let next : position_at t (suc i) ≡ position_at s (suc i) = alike_position t (suc i) s (suc i) (before (suc i) n) in
      let low : position_at s i ≤ position_at s (suc i) = (accepted-sorted s (count_of s) h).adjacent i (omega (arith, cut.inside)) in omega arith)
      (eq-or-lt_of_le b))
      (λ g. let next : position_at t (suc i) ≡ position_at s i = alike_position t (suc i) s i (behind i g) in
      ⊎_elim
      (λ e. let own : position_at t i ≡ position_at r 0 = rw (← e) (alike_position t place r 0 there) in
      let high : position_at r 0 + 1 ≤ position_at s i = cut.highs i g (omega arith) in omega arith)
      (λ n. let e : suc (i - 1) ≡ i = omega arith in
      let own : position_at t i ≡ position_at s (i - 1) = subst (λ (j : ℕ). position_at t j ≡ position_at s (i - 1)) e (alike_position t (suc (i - 1)) s (i - 1) (behind (i - 1) (omega arith))) in
      let low : position_at s (i - 1) ≤ position_at s i = sorted-le s (accepted-sorted s (count_of s) h) (i - 1) i (omega arith) (omega arith) in omega arith)
      (eq-or-lt_of_le g))
      (lt_or_ge i place)

  pub inserted_accepted : count_of s < 4096 → IsAccepted (inserted_of s r)
  unfolding inserted_of
  inserted_accepted room = risen_accepted (inserted_of s r) (suc (count_of s)) (record { size = opened_size s r ten place whole cut.inside; few = room; right = inserted_right; rising = inserted_rising })

module _ (s : List ℕ) (c : ℕ) (h : IsAccepted s) (inside : c < count_of s) where
  kept_whole : length s ≡ count_of s * 10
  kept_whole = accepted-length s (count_of s) h

  kept-sorted : Sorted s
  kept-sorted = accepted-sorted s (count_of s) h

  removed_right : (i : ℕ) → i < count_of s - 1 → Right (removed_of s c) i
  unfolding removed_of
  removed_right i l =
      ⊎_elim
      (λ b. alike_right (removed_of s c) i s i (closed_before s c kept_whole inside i b) (accepted-right s h i (omega arith)))
      (λ g. alike_right (removed_of s c) i s (suc i) (closed_behind s c kept_whole inside i g) (accepted-right s h (suc i) (omega arith)))
      (lt_or_ge i c)

  removed_rising : (i : ℕ) → suc i < count_of s - 1 → position_at (removed_of s c) i ≤ position_at (removed_of s c) (suc i)
  unfolding removed_of
  removed_rising i l =
      let t = removed_of s c in
      ⊎_elim
      (λ n. let own : position_at t i ≡ position_at s i = alike_position t i s i (closed_before s c kept_whole inside i (omega arith)) in
      let next : position_at t (suc i) ≡ position_at s (suc i) = alike_position t (suc i) s (suc i) (closed_before s c kept_whole inside (suc i) n) in
      let low : position_at s i ≤ position_at s (suc i) = kept-sorted.adjacent i (omega arith) in omega arith)
      (λ g. let next : position_at t (suc i) ≡ position_at s (suc (suc i)) = alike_position t (suc i) s (suc (suc i)) (closed_behind s c kept_whole inside (suc i) g) in
      ⊎_elim
      (λ b. let own : position_at t i ≡ position_at s i = alike_position t i s i (closed_before s c kept_whole inside i b) in
      let low : position_at s i ≤ position_at s (suc (suc i)) = sorted-le s kept-sorted i (suc (suc i)) (omega arith) (omega arith) in omega arith)
      (λ n. let own : position_at t i ≡ position_at s (suc i) = alike_position t i s (suc i) (closed_behind s c kept_whole inside i n) in
      let low : position_at s (suc i) ≤ position_at s (suc (suc i)) = kept-sorted.adjacent (suc i) (omega arith) in omega arith)
      (lt_or_ge i c))
      (lt_or_ge (suc i) c)

  pub removed_accepted : IsAccepted (removed_of s c)
  unfolding removed_of
  removed_accepted = risen_accepted (removed_of s c) (count_of s - 1) (record { size = closed_size s c kept_whole inside; few = omega (arith, accepted-few s (count_of s) h); right = removed_right; rising = removed_rising })

-- ---- the edits of a list
-- a record has no fault of its own exactly where it passes its tests
pub faults_right : (r : List ℕ) (i : ℕ) → record_faults r i ≡ [] → all_right r 0 ≡ true
unfolding record_faults
faults_right r i h =
    let b = none_both (unless (mark_right r 0) (Mark i) ++ unless (kind_right r 0) (Kind i)) (unless (fields_right r 0) (Field i)) h in
    let a = none_both (unless (mark_right r 0) (Mark i)) (unless (kind_right r 0) (Kind i)) b.0 in
    rw (passed (mark_right r 0) _ a.0, passed (kind_right r 0) _ a.1, passed (fields_right r 0) _ b.1) refl

pub right_faults : (r : List ℕ) (i : ℕ) → all_right r 0 ≡ true → record_faults r i ≡ []
unfolding record_faults
right_faults r i h =
    let a = both (mark_right r 0 && kind_right r 0) (fields_right r 0) h in
    let b = both (mark_right r 0) (kind_right r 0) a.0 in
    rw (b.0, b.1, a.1) refl

-- what is known of edit i where it is not refused
record Free (s es : List ℕ) (i : ℕ) : Type 0 where
  good : all_right (record_of es i) 0 ≡ true
  held : held_refusals s es i ≡ []

none_free : (s es : List ℕ) (i : ℕ) → edit_refusals s es i ≡ [] → Free s es i
unfolding edit_refusals
none_free s es i none =
    let faults = record_faults (record_of es i) i in
    let a = none_both (unless (frame_right es i) (EditFrame i) ++ map Edit faults) (held_refusals s es i) none in
    let b = none_both (unless (frame_right es i) (EditFrame i)) (map Edit faults) a.0 in
    record { good = faults_right (record_of es i) i (none-map Edit faults b.1); held = a.1 }

pub edit-accepted : (s es : List ℕ) (i : ℕ) → i < edits_in es → IsAccepted s → edit_refusals s es i ≡ [] → IsAccepted (edited_by s es i)
unfolding held_refusals
edit-accepted s es i l h none = go (is_insert es i) free.held
  where
    free : Free s es i
    free = none_free s es i none

    ten : length (record_of es i) ≡ 10
    ten = length-take-le 10 (drop (i * 14 + 4) es) (rw (length-drop (i * 14 + 4) es) (omega arith))

    go : (b : Bool) → cond b (unless (ltb (count_of s) 4096) (Full i)) (unless (ltb (first_equal s (record_of es i)) (count_of s)) (NotThere i)) ≡ []
        → IsAccepted (cond b (inserted_of s (record_of es i)) (removed_of s (first_equal s (record_of es i))))
    go true e = inserted_accepted s (record_of es i) h ten free.good (ltb-true (count_of s) 4096 (passed _ _ e))
    go false e = removed_accepted s (first_equal s (record_of es i)) h (ltb-true (first_equal s (record_of es i)) (count_of s) (passed _ _ e))

-- the first k edits, where none of them is refused
pub after-accepted : (old es : List ℕ) → IsAccepted old → (k : ℕ) → k ≤ edits_in es → ((i : ℕ) → i < k → edit_refusals (score_after old es i) es i ≡ []) → IsAccepted (score_after old es k)
unfolding score_after
after-accepted old es h zero l f = h
after-accepted old es h (suc k) l f = edit-accepted (score_after old es k) es k l (after-accepted old es h k (omega arith) (λ i m. f i (omega arith))) (f k (omega arith))

-- k edits from edit i on have no refusal exactly where none of them has
pub none_made : (old es : List ℕ) (k i : ℕ) → refusals_from old es k i ≡ [] → (j : ℕ) → i ≤ j → j < i + k → edit_refusals (score_after old es j) es j ≡ []
unfolding refusals_from
none_made old es zero i h j a b = absurd (none i j a b)
  where
    none : (i j : ℕ) → i ≤ j → j < i + 0 → ⊥
    none i j a b = omega arith
none_made old es (suc k) i h j a b =
    let n = none_both (edit_refusals (score_after old es i) es i) (refusals_from old es k (suc i)) h in
    ⊎_elim (λ e. rw (← e) n.0) (λ l. none_made old es k (suc i) n.1 j l (omega arith)) (eq-or-lt_of_le a)

pub made_none : (old es : List ℕ) (k i : ℕ) → ((j : ℕ) → i ≤ j → j < i + k → edit_refusals (score_after old es j) es j ≡ []) → refusals_from old es k i ≡ []
unfolding refusals_from
made_none old es zero i f = refl
made_none old es (suc k) i f = rw (f i (omega arith) (omega arith)) (made_none old es k (suc i) (λ j a b. f j (omega arith) (omega arith)))
