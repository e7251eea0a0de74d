-- A turn of the loop over the spans: from a place, a span gives what the walk gives up to the end of the span. Assumes
-- nothing.
use mathlib.Core.Path.{◌≡◌, refl, sym, ap, ◌∙◌}
use mathlib.Core.Bool.{false}
use mathlib.Core.List.{List, ◌++◌, append_assoc}
use Prim.Native.Nat.{ℕ, zero, suc, ◌+◌, ◌-◌, ◌%◌, ◌<◌, ◌≤◌}
use native.Mathlib.Nat.{add-zero, add-suc}
use native.Mathlib.Omega.{arith}
use lib.ListN.{length, take, drop, length-append}
use lib.Seq.{take_at, length-take-le}
use borrow.Rule.Slice.PartMut.{put_mid, mid_of, mid_len, same_len_mid}
use lib.Dec.{eqb}
use lib.Ieee.{Float}
use Rattle.runs.specs.Runs.{run}
use Rattle.runs.proofs.Listed.{listed-length, listed_on, listed_same}
use Rattle.score.specs.Record.{count_of}
use Rattle.state.specs.declared.Settings.{Settings}
use Rattle.state.specs.declared.State.{State}
use Rattle.state.specs.State.{sample_of}
use Rattle.spans.specs.declared.Place.{Place}
use Rattle.spans.specs.Walk.{place_of, begins_at, is_due_at, begun_from, place_from, played_from}
use Rattle.spans.specs.Inner.{span_state, span_samples, SpanPlayed, FirstAfter}
use Rattle.spans.proofs.Acting.{act_stop}
use Rattle.spans.proofs.Offsets.{neither}

-- writing ys over the middle of a list gives the list up to the end of ys
pub take_mid : {A : Type 0} (a k : ℕ) (xs ys : List A) → a ≤ length xs → length ys ≡ k → take (a + k) (put_mid a k xs ys) ≡ take a xs ++ ys
take_mid a k xs ys h e =
    let l : length (take a xs ++ ys) ≡ a + k = length-append (take a xs) ys ∙ omega (arith, length-take-le a xs h) in
    rw (← append_assoc (take a xs) ys (drop k (drop a xs))) (take_at (take a xs ++ ys) (drop k (drop a xs)) (a + k) l)

-- a span of k samples has k samples
plain_length : (g : Settings) (v : State) (k : ℕ) → length (span_samples g v k) ≡ k
unfolding span_samples
plain_length g v = listed-length _

-- where no span begins, beginning a sample changes nothing
pub quiet : (g : Settings) (s : List ℕ) (n : ℕ) (p : Place) → begins_at s p.next n ≡ false → begun_from g s n p ≡ p
unfolding begun_from
quiet g s n p f = rw f (act_stop g s n (count_of s - p.next) p (neither (eqb (n % 64) 0) (is_due_at s p.next n) f).1)

module _ (g : Settings) (s : List ℕ) (n : ℕ) (p : Place) (i : ℕ) where
  -- the place at which the span is begun
  abbrev pub begun : Place
  begun = begun_from g s (n + i) (place_from g s n p i)

  -- no span begins at the next k samples
  abbrev Unbroken : ℕ → Type 0
  Unbroken k = (m : ℕ) → i < m → m < i + suc k → begins_at s begun.next (n + m) ≡ false

  span_begun : (k : ℕ) → Unbroken k → begun_from g s (n + (i + k)) (place_from g s n p (i + k)) ≡ place_of (span_state g begun.state k) begun.next
  unfolding place_from span_state run
  span_begun zero f = rw (add-zero i) refl
  span_begun (suc k) f =
      rw (add-suc i k, span_begun k (λ m x y. f m x (omega arith)))
      (quiet g s (n + suc (i + k)) (place_of (span_state g begun.state (suc k)) begun.next) (rw (add-suc i k) at (f (i + suc k) (omega arith) (omega arith))))

  pub span_place : (k : ℕ) → Unbroken k → place_from g s n p (i + suc k) ≡ place_of (span_state g begun.state (suc k)) begun.next
  unfolding place_from span_state run
  span_place k f = rw (add-suc i k, span_begun k f) refl

  pub span_samples_lem : (k : ℕ) → Unbroken k → played_from g s n p (i + suc k) ≡ played_from g s n p i ++ span_samples g begun.state (suc k)
  unfolding place_from played_from span_samples
  span_samples_lem k f = listed_on _ i (suc k) ∙ ap (◌++◌ (played_from g s n p i)) (listed_same _ _ (suc k) (λ j l. ap (λ (q : Place). sample_of g q.state) (span_begun j (λ m x y. f m x (omega arith)))))

  -- up to the end e of the span
  module _ (l e : ℕ) (z : FirstAfter (λ (m : ℕ). begins_at s begun.next (n + m)) i l e) where
    whole : i + suc (e - i - 1) ≡ e
    whole = omega (arith, z.after)

    unbroken : Unbroken (e - i - 1)
    unbroken m x y = z.apart m x (omega (arith, whole))

    pub turn_place : place_from g s n p e ≡ place_of (span_state g begun.state (e - i)) begun.next
    turn_place =
        let d : suc (e - i - 1) ≡ e - i = omega (arith, z.after) in
        ap (place_from g s n p) (sym whole) ∙ span_place (e - i - 1) unbroken ∙ ap (λ (k : ℕ). place_of (span_state g begun.state k) begun.next) d

    pub turn_samples : played_from g s n p e ≡ played_from g s n p i ++ span_samples g begun.state (e - i)
    turn_samples =
        let d : suc (e - i - 1) ≡ e - i = omega (arith, z.after) in
        ap (played_from g s n p) (sym whole) ∙ span_samples_lem (e - i - 1) unbroken ∙ ap (λ (k : ℕ). played_from g s n p i ++ span_samples g begun.state k) d

    -- a turn: the span is lent, and its samples are ys, with the state u after them
    module _ (part ys : List Float) (u : State) (long : length part ≡ l) (heard : take i part ≡ played_from g s n p i) (x : SpanPlayed g begun.state (mid_of i (e - i) part) ys u) where
      within : e ≤ length part
      within = omega (arith, z.within)

      many : length (mid_of i (e - i) part) ≡ e - i
      many = mid_len i e part within

      full : length ys ≡ e - i
      full = ap length x.samples ∙ plain_length g begun.state (length (mid_of i (e - i) part)) ∙ many

      pub turn_length : length (put_mid i (e - i) part ys) ≡ length part
      turn_length = same_len_mid i (e - i) part ys (full ∙ sym many)

      pub turn_stands : place_of u begun.next ≡ place_from g s n p e
      turn_stands = ap (λ (v : State). place_of v begun.next) (x.state ∙ ap (span_state g begun.state) many) ∙ sym turn_place

      pub turn_heard : take e (put_mid i (e - i) part ys) ≡ played_from g s n p e
      turn_heard =
          let d : i + (e - i) ≡ e = omega (arith, z.after) in
          ap (λ (k : ℕ). take k (put_mid i (e - i) part ys)) (sym d) ∙ take_mid i (e - i) part ys (omega (arith, z.after)) full
          ∙ rw (heard, x.samples, many) (sym turn_samples)
