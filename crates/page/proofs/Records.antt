-- What a list of one edit does to a score, said of records: an insert puts its record behind those at its position or
-- lower, a remove takes out the first record that is the same. Assumes nothing.
use Rattle.std.specs.Prelude.{Ok}
use mathlib.Core.Path.{◌≡◌, refl, sym, ap, ◌∙◌}
use mathlib.Core.List.{List, [], ◌∷◌, ◌++◌, append_assoc}
use mathlib.Core.Logic.{⊎_elim}
use Prim.Native.Nat.{ℕ, zero, suc, ◌+◌, ◌*◌, ◌-◌, ◌≤◌, ◌<◌}
use native.Mathlib.Omega.{arith}
use lib.ListN.{length, get_or, take, length-append, get_or-append}
use lib.Seq.{take_at, drop_at, drop-append-add, get_or-append-add, get_or_at}
use borrow.Author.Tests.{lt-ltb}
use Rattle.score.specs.declared.Record.{Record}
use Rattle.score.specs.Record.{count_of, position_at, decode_of, encode_of, Valid, blank, encode_all}
use Rattle.score.specs.Score.{faults_of, verdict_of, IsScore}
use Rattle.score.specs.Below.{count_below, Sorted, Cut}
use Rattle.score.specs.Apart.{bytes_at, first_equal}
use Rattle.score.proofs.Codec.{decode-encode}
use Rattle.score.proofs.Verdicts.{accepted-none}
use Rattle.score.proofs.Accepted.{encode_append, length-encode, position-there, encoding_accepted}
use Rattle.score.proofs.Cuts.{lt_or_ge, accepted-count, accepted-sorted, cut-count}
use Rattle.score.proofs.Sought.{sought}
use Rattle.page.specs.Page.{edits_in, frame_right, inserted_of, removed_of, score_after, new_score_of, record_faults, held_refusals, edit_refusals}
use Rattle.page.proofs.Judging.{faults_placed}

-- ---- one valid record
-- its bytes are a score of one record, so it has no fault
module _ (r : Record) (v : Valid r) where
  alone : IsScore (encode_of r) (r ∷ [])
  alone = record { few = omega arith; valid = λ i h. one i h; rising = λ i h. absurd (omega arith); encoded = refl }
    where
      one : (i : ℕ) → i < 1 → Valid (get_or (r ∷ []) i blank)
      one zero h = v
      one (suc i) h = absurd (none i h)
        where
          none : (i : ℕ) → suc i < 1 → ⊥
          none i h = omega arith

  none_wrong : (i : ℕ) → record_faults (encode_of r) i ≡ []
  unfolding verdict_of
  none_wrong i = rw (faults_placed (encode_of r) i refl, (accepted-none (faults_of (encode_of r)) _ _ (encoding_accepted (encode_of r) (r ∷ []) alone)).0) refl

  its_position : position_at (encode_of r) 0 ≡ r.position
  its_position = ap (λ (x : Record). x.position) (decode-encode r v.position-fits)

-- the bytes of valid records decide them
same_bytes : (q r : Record) → Valid q → Valid r → encode_of q ≡ encode_of r → q ≡ r
same_bytes q r v w e = sym (decode-encode q v.position-fits) ∙ ap decode_of e ∙ decode-encode r w.position-fits

-- ---- record i of a score
encoded-at : (rs : List Record) (i : ℕ) → i < length rs → bytes_at (encode_all rs) i ≡ encode_of (get_or rs i blank)
encoded-at [] i h = absurd (none i h)
  where
    none : (i : ℕ) → i < 0 → ⊥
    none i h = omega arith
encoded-at (r ∷ rs) zero h = refl
encoded-at (r ∷ rs) (suc i) h =
    let e : suc i * 10 ≡ 10 + i * 10 = omega arith in
    rw e (ap (take 10) (drop-append-add (encode_of r) (encode_all rs) (i * 10)) ∙ encoded-at rs i (omega arith))

-- the records of two lists, one after the other
in_front : (front back : List Record) (i : ℕ) → i < length front → get_or (front ++ back) i blank ≡ get_or front i blank
in_front front back i h = get_or-append front back blank i h

in_back : (front back : List Record) (i : ℕ) → length front ≤ i → get_or (front ++ back) i blank ≡ get_or back (i - length front) blank
in_back front back i h = let e : i ≡ length front + (i - length front) = omega arith in ap (λ (k : ℕ). get_or (front ++ back) k blank) e ∙ get_or-append-add front back (i - length front) blank

module _ (old : List ℕ) (rs : List Record) (g : IsScore old rs) where
  taken : verdict_of old ≡ Ok (length rs)
  taken = encoding_accepted old rs g

  as_many : count_of old ≡ length rs
  as_many = sym (accepted-count old (length rs) taken)

  sorted : Sorted old
  sorted = accepted-sorted old (length rs) taken

-- ---- an insert
module _ (old : List ℕ) (front back : List Record) (r : Record) (g : IsScore old (front ++ back)) (few : length (front ++ back) < 4096) (v : Valid r)
    (low : (i : ℕ) → i < length front → (get_or front i blank).position ≤ r.position) (high : (i : ℕ) → i < length back → r.position < (get_or back i blank).position) where
  abbrev inserting : List ℕ
  inserting = 0x45 ∷ 0x44 ∷ 1 ∷ 0 ∷ encode_of r

  abbrev rs : List Record
  rs = front ++ back

  long : length rs ≡ length front + length back
  long = length-append front back

  cut : Cut old (r.position + 1) (length front)
  cut =
      let many : count_of old ≡ length rs = as_many old rs g in
      record {
        inside = omega (arith, many, long);
        lows = λ i h. (
            let a : position_at old i ≡ (get_or rs i blank).position = position-there old rs g i (omega (arith, long)) in
            let b : (get_or rs i blank).position ≡ (get_or front i blank).position = ap (λ (x : Record). x.position) (in_front front back i h) in
            omega (arith, a, b, low i h));
        highs = λ i h l. (
            let a : position_at old i ≡ (get_or rs i blank).position = position-there old rs g i (omega (arith, many)) in
            let b : (get_or rs i blank).position ≡ (get_or back (i - length front) blank).position = ap (λ (x : Record). x.position) (in_back front back i h) in
            omega (arith, a, b, high (i - length front) (omega (arith, many, long))));
      }

  place : count_below old (position_at (encode_of r) 0 + 1) ≡ length front
  place = rw (its_position r v) (sym (cut-count old (sorted old rs g) (r.position + 1) (length front) cut))

  inserted_is : inserted_of old (encode_of r) ≡ encode_all (front ++ (r ∷ back))
  unfolding inserted_of
  inserted_is =
      let e : old ≡ encode_all front ++ encode_all back = sym g.encoded ∙ encode_append front back in
      rw (place, e, take_at (encode_all front) (encode_all back) (length front * 10) (length-encode front), drop_at (encode_all front) (encode_all back) (length front * 10) (length-encode front))
      (append_assoc (encode_all front) (encode_of r) (encode_all back) ∙ sym (encode_append front (r ∷ back)))

  pub insert-made : (i : ℕ) → i < edits_in inserting → edit_refusals (score_after old inserting i) inserting i ≡ []
  unfolding edit_refusals score_after frame_right held_refusals
  insert-made zero h = rw (none_wrong r v 0, lt-ltb (count_of old) 4096 (omega (arith, as_many old rs g))) refl
  insert-made (suc i) h = absurd (none i h)
    where
      none : (i : ℕ) → suc i < 1 → ⊥
      none i h = omega arith

  pub insert-is : new_score_of old inserting ≡ encode_all (front ++ (r ∷ back))
  unfolding score_after
  insert-is = inserted_is

-- ---- a remove
module _ (old : List ℕ) (front back : List Record) (r : Record) (g : IsScore old (front ++ (r ∷ back))) (first : (i : ℕ) → i < length front → get_or front i blank ≡ r → ⊥) where
  abbrev removing : List ℕ
  removing = 0x45 ∷ 0x44 ∷ 2 ∷ 0 ∷ encode_of r

  abbrev all : List Record
  all = front ++ (r ∷ back)

  in_all : length all ≡ length front + suc (length back)
  in_all = length-append front (r ∷ back)

  there : length front < length all
  there = omega (arith, in_all)

  here : get_or all (length front) blank ≡ r
  here = get_or_at front r back blank (length front) refl

  bytes : (i : ℕ) → i < length all → bytes_at old i ≡ encode_of (get_or all i blank)
  bytes i h = ap (λ (s : List ℕ). bytes_at s i) (sym g.encoded) ∙ encoded-at all i h

  right : Valid r
  right = rw here at (g.valid (length front) there)

  found_at : first_equal old (encode_of r) ≡ length front
  found_at =
      let k = first_equal old (encode_of r) in
      let f = sought old (encode_of r) in
      let many : count_of old ≡ length all = as_many old all g in
      ⊎_elim
      (λ l. absurd (first k l (sym (in_front front (r ∷ back) k l)
      ∙ same_bytes (get_or all k blank) r (g.valid k (omega (arith, there))) right (sym (bytes k (omega (arith, there))) ∙ f.found (omega (arith, many, there))))))
      (λ h. ⊎_elim (λ l. absurd (f.none_before (length front) l (bytes (length front) there ∙ ap encode_of here))) (λ e. omega arith) (lt_or_ge (length front) k))
      (lt_or_ge k (length front))

  removed_is : removed_of old (length front) ≡ encode_all (front ++ back)
  unfolding removed_of
  removed_is =
      let e : old ≡ encode_all front ++ (encode_of r ++ encode_all back) = sym g.encoded ∙ encode_append front (r ∷ back) in
      let long : length (encode_all front) ≡ length front * 10 = length-encode front in
      let at : length front * 10 + 10 ≡ length (encode_all front) + 10 = omega (arith, long) in
      rw (e, take_at (encode_all front) (encode_of r ++ encode_all back) (length front * 10) long, at, drop-append-add (encode_all front) (encode_of r ++ encode_all back) 10) (sym (encode_append front back))

  pub remove-made : (i : ℕ) → i < edits_in removing → edit_refusals (score_after old removing i) removing i ≡ []
  unfolding edit_refusals score_after frame_right held_refusals
  remove-made zero h = rw (none_wrong r right 0, found_at, lt-ltb (length front) (count_of old) (omega (arith, as_many old all g, there))) refl
  remove-made (suc i) h = absurd (none i h)
    where
      none : (i : ℕ) → suc i < 1 → ⊥
      none i h = omega arith

  pub remove-is : new_score_of old removing ≡ encode_all (front ++ back)
  unfolding score_after
  remove-is = ap (removed_of old) found_at ∙ removed_is
