-- A score is accepted exactly when it is the encoding of at most 4,096 valid records whose positions never fall.
-- Assumes nothing.
use Rattle.std.specs.Prelude.{Ok}
use mathlib.Core.Path.{◌≡◌, refl, ap, ◌∙◌}
use mathlib.Core.Bool.{true}
use mathlib.Core.List.{List, [], ◌∷◌, ◌++◌, append_assoc}
use Prim.Native.Nat.{ℕ, zero, suc, ◌+◌, ◌*◌, ◌≤◌, ◌<◌}
use native.Mathlib.Omega.{arith}
use lib.ListN.{length, get_or, take, get_or-append}
use lib.Seq.{take_all, take-add, get_or-append-add}
use lib.Dec.{lit<}
use borrow.Author.Tests.{le-leb, leb-true}
use Rattle.score.specs.declared.Kind.{Kind}
use Rattle.score.specs.declared.Kind.TheVariants.{On, Off, Reset}
use Rattle.score.specs.declared.Record.{Record}
use Rattle.score.specs.Record.{byte_at, position_at, kind_byte, record_at, encode_of, blank, encode_all, Bytes}
use Rattle.score.specs.Score.{in_order, verdict_of, IsScore}
use Rattle.score.proofs.UpTo.{up_to, length-up_to, get_d_up_to}
use Rattle.score.proofs.Codec.{Right, join_bytes, most_of_byte, encode_record, valid_record}
use Rattle.score.proofs.Verdicts.{AllFine, accepted_all, all_accepted}

-- ---- the encoding of a list of records
pub encode_append : (rs qs : List Record) → encode_all (rs ++ qs) ≡ encode_all rs ++ encode_all qs
encode_append [] qs = refl
encode_append (r ∷ rs) qs = rw (encode_append rs qs, append_assoc (encode_of r) (encode_all rs) (encode_all qs)) refl

pub length-encode : (rs : List Record) → length (encode_all rs) ≡ length rs * 10
length-encode [] = refl
length-encode (r ∷ rs) = let h : length (encode_all rs) ≡ length rs * 10 = length-encode rs in omega arith

-- byte j of record i of the encoding is byte j of that record's own encoding
byte-encode : (rs : List Record) (i j : ℕ) → i < length rs → j < 10 → byte_at (encode_all rs) i j ≡ get_or (encode_of (get_or rs i blank)) j 0
byte-encode [] i j h k = absurd (none i h)
  where
    none : (i : ℕ) → i < 0 → ⊥
    none i h = omega arith
byte-encode (r ∷ rs) zero j h k = let e : 0 * 10 + j ≡ j = omega arith in rw e (get_or-append (encode_of r) (encode_all rs) 0 j k)
byte-encode (r ∷ rs) (suc i) j h k =
    let e : suc i * 10 + j ≡ 10 + (i * 10 + j) = omega arith in
    rw e (get_or-append-add (encode_of r) (encode_all rs) (i * 10 + j) 0 ∙ byte-encode rs i j (omega arith) k)

-- ---- encodings are accepted
module _ (s : List ℕ) (rs : List Record) (g : IsScore s rs) where
  -- byte j of record i of s
  there : (i j : ℕ) → i < length rs → j < 10 → byte_at s i j ≡ get_or (encode_of (get_or rs i blank)) j 0
  there i j h k = rw (← g.encoded) (byte-encode rs i j h k)

  pub position-there : (i : ℕ) → i < length rs → position_at s i ≡ (get_or rs i blank).position
  unfolding position_at
  position-there i h =
      rw (there i 2 h (lit< tt), there i 3 h (lit< tt), there i 4 h (lit< tt), there i 5 h (lit< tt))
      (join_bytes (get_or rs i blank).position (g.valid i h).position-fits)

  kind_in : (k : Kind) → (1 ≤ kind_byte k) × (kind_byte k ≤ 3)
  kind_in On = (omega arith, omega arith)
  kind_in Off = (omega arith, omega arith)
  kind_in Reset = (omega arith, omega arith)

  right_there : (i : ℕ) → i < length rs → Right s i
  right_there i h =
      let r = get_or rs i blank in
      let kind : byte_at s i 6 ≡ kind_byte r.kind = there i 6 h (lit< tt) in
      record {
        mark_one = there i 0 h (lit< tt);
        mark_two = there i 1 h (lit< tt);
        kind_low = rw kind (kind_in r.kind).0;
        kind_high = rw kind (kind_in r.kind).1;
        note-right = rw (kind, there i 7 h (lit< tt), most_of_byte r.kind) (g.valid i h).note-most;
        velocity-right = rw (kind, there i 8 h (lit< tt), most_of_byte r.kind) (g.valid i h).velocity-most;
        last = there i 9 h (lit< tt);
      }

  order-there : (i : ℕ) → i < length rs → in_order s i ≡ true
  unfolding in_order
  order-there zero h = refl
  order-there (suc i) h =
      let before : i < length rs = omega arith in
      rw (position-there i before, position-there (suc i) h) (le-leb _ _ (g.rising i h))

  pub encoding_accepted : verdict_of s ≡ Ok (length rs)
  encoding_accepted =
      all_accepted s (length rs)
      (record {
        size = rw (← g.encoded) (length-encode rs);
        few = g.few;
        fine = λ i h. record { right = right_there i h; ordered = order-there i h };
      })

-- ---- what is accepted is an encoding
module _ (s : List ℕ) (n : ℕ) (bytes : Bytes s) (f : AllFine s n) where
  -- the first k records, encoded again, are the first 10 k bytes of s
  encode-front : (k : ℕ) → k ≤ n → encode_all (up_to (record_at s) k) ≡ take (k * 10) s
  unfolding up_to
  encode-front zero h = refl
  encode-front (suc k) h =
      let size : length s ≡ n * 10 = f.size in
      let room : k * 10 + 10 ≤ length s = omega arith in
      let e : suc k * 10 ≡ k * 10 + 10 = omega arith in
      rw (encode_append (up_to (record_at s) k) (record_at s k ∷ []), e, take-add (k * 10) 10 s, encode-front k (omega arith), encode_record s k bytes (f.fine k h).right room) refl

  record_here : (i : ℕ) → i < n → get_or (up_to (record_at s) n) i blank ≡ record_at s i
  record_here i h = get_d_up_to (record_at s) n i blank h

  accepted_encoding : IsScore s (up_to (record_at s) n)
  unfolding in_order
  accepted_encoding =
      let size : length s ≡ n * 10 = f.size in
      let count : length (up_to (record_at s) n) ≡ n = length-up_to (record_at s) n in
      record {
        few = rw count f.few;
        valid = λ i h. (let l : i < n = rw count at h in rw (record_here i l) (valid_record s i bytes (f.fine i l).right));
        rising = λ i h. (let l : suc i < n = rw count at h in rw (record_here i (omega arith), record_here (suc i) l) (leb-true _ _ (f.fine (suc i) l).ordered));
        encoded = encode-front n (omega arith) ∙ take_all (n * 10) s (omega arith);
      }

-- ---- the theorem
pub record AcceptedExactly (s : List ℕ) (n : ℕ) : Type 0 where
  pub is_encoding : verdict_of s ≡ Ok n → ((rs : List Record) × (length rs ≡ n) × IsScore s rs)
  pub is-accepted : (rs : List Record) → length rs ≡ n → IsScore s rs → verdict_of s ≡ Ok n

pub accepted_exactly : (s : List ℕ) (n : ℕ) → Bytes s → AcceptedExactly s n
accepted_exactly s n bytes =
    record {
      is_encoding = λ h. (up_to (record_at s) n, length-up_to (record_at s) n, accepted_encoding s n bytes (accepted_all s n h));
      is-accepted = λ rs e g. encoding_accepted s rs g ∙ ap Ok e;
    }
