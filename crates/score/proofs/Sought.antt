-- The first record of a score that has ten given bytes: its bytes are those, and no record before it has them; where it
-- is the number of records, none has. Assumes nothing.
use mathlib.Core.Path.{◌≡◌, refl, sym, ap, ◌∙◌}
use mathlib.Core.Bool.{Bool, true, false, true≢false}
use mathlib.Core.List.{List}
use mathlib.Core.Logic.{⊎_elim}
use Prim.Native.Nat.{ℕ, ◌+◌, ◌*◌, ◌≤◌, ◌<◌}
use native.Mathlib.Omega.{arith}
use lib.ListN.{length, get_or, drop, length-drop}
use lib.Seq.{ext_get_or, get_or-take, get_or-drop, length-take-le}
use Rattle.runs.specs.Runs.{first_passing}
use Rattle.runs.proofs.First.{first_passing_lem, first-same}
use Rattle.words.specs.Words.{same}
use Rattle.words.proofs.Same.{same-equal, equal-same, unlike-same}
use Rattle.score.specs.Record.{count_of, byte_at}
use Rattle.score.specs.Apart.{same_record, bytes_at, first_equal}
use Rattle.score.proofs.Cuts.{lt_or_ge}
use Rattle.score.proofs.Parted.{same_bytes, bytes_same}

-- byte k of record i, in the record's own ten bytes
pub byte_in : (s : List ℕ) (i k : ℕ) → k < 10 → get_or (bytes_at s i) k 0 ≡ byte_at s i k
byte_in s i k h = get_or-take 10 (drop (i * 10) s) k 0 h ∙ get_or-drop (i * 10) s k 0

pub bytes-length : (s : List ℕ) (i : ℕ) → i < count_of s → length (bytes_at s i) ≡ 10
bytes-length s i h = length-take-le 10 (drop (i * 10) s) (rw (length-drop (i * 10) s) (omega arith))

-- ---- what is found
pub record Sought (s r : List ℕ) (k : ℕ) : Type 0 where
  pub inside : k ≤ count_of s
  pub found : k < count_of s → bytes_at s k ≡ r
  pub none_before : (i : ℕ) → i < k → bytes_at s i ≡ r → ⊥

pub sought : (s r : List ℕ) → Sought s r (first_equal s r)
unfolding first_equal
sought s r =
    let f = first_passing_lem (λ (i : ℕ). same (bytes_at s i) r) (count_of s) 0 in
    record {
      inside = omega (arith, f.high);
      found = λ h. same-equal (bytes_at s (first_equal s r)) r (f.here (omega arith));
      none_before = λ i h e. true≢false (sym (equal-same (bytes_at s i) r e) ∙ f.none i (omega arith) h);
    }

-- ---- the search
module _ (s r : List ℕ) (ten : length r ≡ 10) (i : ℕ) (h : i < count_of s) where
  -- record i of s and record 0 of r have the same bytes exactly where the bytes of record i are r
  same_as : same_record s i r 0 ≡ same (bytes_at s i) r
  same_as = go (same_record s i r 0) refl
    where
      front : (k : ℕ) → byte_at r 0 k ≡ get_or r k 0
      front k = let e : 0 * 10 + k ≡ k = omega arith in ap (λ (j : ℕ). get_or r j 0) e

      go : (b : Bool) → same_record s i r 0 ≡ b → b ≡ same (bytes_at s i) r
      go true e =
          sym (equal-same (bytes_at s i) r (ext_get_or 0 (bytes_at s i) r (bytes-length s i h ∙ sym ten)
          (λ k l. let m : k < 10 = omega (arith, bytes-length s i h) in byte_in s i k m ∙ same_bytes s i r 0 10 e k m ∙ front k)))
      go false e =
          sym (unlike-same (bytes_at s i) r
          (λ q. true≢false (sym (bytes_same s i r 0 10 (λ k l. sym (byte_in s i k l) ∙ ap (λ (x : List ℕ). get_or x k 0) q ∙ sym (front k))) ∙ e)))

-- the search compares each record with record 0 of r
pub sought_by : (s r : List ℕ) → length r ≡ 10 → first_passing (λ (i : ℕ). same_record s i r 0) (count_of s) 0 ≡ first_equal s r
unfolding first_equal
sought_by s r ten = first-same _ _ (count_of s) 0 (λ j a h. same_as s r ten j (omega arith))

-- bytes that are not ten are those of no record
pub not-ten : (s r : List ℕ) → (length r ≡ 10 → ⊥) → first_equal s r ≡ count_of s
not-ten s r h =
    let f = sought s r in
    ⊎_elim (λ l. absurd (h (sym (ap length (f.found l)) ∙ bytes-length s (first_equal s r) l))) (λ g. omega (arith, f.inside)) (lt_or_ge (first_equal s r) (count_of s))
