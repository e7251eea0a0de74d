-- A record to its ten bytes and back, and ten bytes to a record and back, give what went in. Assumes nothing.
use mathlib.Core.Path.{◌≡◌, refl, sym, ap, ◌∙◌}
use mathlib.Core.Bool.{Bool, true, false, cond, ◌&&◌, ◌||◌}
use mathlib.Core.List.{List}
use mathlib.Core.Logic.{◌⊎◌, inl, inr}
use Prim.Native.Nat.{ℕ, ◌+◌, ◌*◌, ◌/◌, ◌%◌, ◌≤◌, ◌<◌}
use native.Mathlib.Omega.{arith}
use lib.Dec.{leb, eqb}
use lib.ListN.{length, take, drop}
use lib.Seq.{take_all}
use borrow.Author.Tests.{le-leb, leb-true, eqb-true, eqb-false}
use Rattle.score.specs.declared.Kind.{Kind}
use Rattle.score.specs.declared.Kind.TheVariants.{On, Off, Reset}
use Rattle.score.specs.declared.Record.{Record}
use Rattle.score.specs.Record.{byte_at, position_at, kind_byte, kind_of, record_at, decode_of, encode_of, field_limit_of, Valid, Bytes}
use Rattle.score.specs.Score.{mark_right, kind_right, fields_right, field_limit}
use Rattle.score.proofs.UpTo.{up_to, stretch}

-- ---- four bytes, low byte first
-- a number from its three quotients by 256 and the remainders
join_quotients : (p q r d a b c : ℕ) → a + q * 256 ≡ p → b + r * 256 ≡ q → c + d * 256 ≡ r → a + b * 256 + c * 65536 + d * 16777216 ≡ p
join_quotients p q r d a b c f g h = omega arith

-- the four bytes of p make p again
pub join_bytes : (p : ℕ) → p < 4294967296 → p % 256 + p / 256 % 256 * 256 + p / 65536 % 256 * 65536 + p / 16777216 % 256 * 16777216 ≡ p
join_bytes p h =
    let top : p / 16777216 % 256 ≡ p / 16777216 = omega arith in
    let one : p % 256 + p / 256 * 256 ≡ p = omega arith in
    let two : p / 256 % 256 + p / 65536 * 256 ≡ p / 256 = omega arith in
    let three : p / 65536 % 256 + p / 16777216 * 256 ≡ p / 65536 = omega arith in
    rw top (join_quotients p (p / 256) (p / 65536) (p / 16777216) (p % 256) (p / 256 % 256) (p / 65536 % 256) one two three)

module _ (a b c d : ℕ) (ha : a < 256) (hb : b < 256) (hc : c < 256) (hd : d < 256) where
  abbrev joined : ℕ
  joined = a + b * 256 + c * 65536 + d * 16777216

  byte_0 : joined % 256 ≡ a
  byte_0 = omega arith

  byte_1 : joined / 256 % 256 ≡ b
  byte_1 = omega arith

  byte_2 : joined / 65536 % 256 ≡ c
  byte_2 = omega arith

  byte_3 : joined / 16777216 % 256 ≡ d
  byte_3 = omega arith

-- ---- kinds
pub kind_of-byte : (k : Kind) → kind_of (kind_byte k) ≡ k
kind_of-byte On = refl
kind_of-byte Off = refl
kind_of-byte Reset = refl

byte_of_kind : (b : ℕ) → 1 ≤ b → b ≤ 3 → kind_byte (kind_of b) ≡ b
byte_of_kind b low high = go (eqb b 1) refl (eqb b 2) refl
  where
    go : (t : Bool) → eqb b 1 ≡ t → (u : Bool) → eqb b 2 ≡ u → kind_byte (cond t On (cond u Off Reset)) ≡ b
    go true e u f = sym (eqb-true b 1 e)
    go false e true f = sym (eqb-true b 2 f)
    go false e false f = omega (arith, eqb-false b 1 e, eqb-false b 2 f)

-- the largest note and velocity, by the byte of the kind and by the kind
pub most_of_byte : (k : Kind) → field_limit (kind_byte k) ≡ field_limit_of k
most_of_byte On = refl
most_of_byte Off = refl
most_of_byte Reset = refl

pub most_of_kind : (b : ℕ) → 1 ≤ b → b ≤ 3 → field_limit b ≡ field_limit_of (kind_of b)
most_of_kind b low high = ap field_limit (sym (byte_of_kind b low high)) ∙ most_of_byte (kind_of b)

-- ---- the tests as equations
pub both : (a b : Bool) → a && b ≡ true → (a ≡ true) × (b ≡ true)
both true b h = (refl, h)
both false b h = let z : true ≡ false = sym h in (cc, cc)

pub either : (a b : Bool) → a || b ≡ true → (a ≡ true) ⊎ (b ≡ true)
either true b h = inl refl
either false b h = inr h

pub or_right : (a b : Bool) → b ≡ true → a || b ≡ true
or_right true b h = refl
or_right false b h = h

-- the bytes of a record that passes the tests that look at no other record
pub record Right (s : List ℕ) (i : ℕ) : Type 0 where
  pub mark_one : byte_at s i 0 ≡ 0x56
  pub mark_two : byte_at s i 1 ≡ 0x4E
  pub kind_low : 1 ≤ byte_at s i 6
  pub kind_high : byte_at s i 6 ≤ 3
  pub note-right : byte_at s i 7 ≤ field_limit (byte_at s i 6)
  pub velocity-right : byte_at s i 8 ≤ field_limit (byte_at s i 6)
  pub last : byte_at s i 9 ≡ 0

pub tests_right : (s : List ℕ) (i : ℕ) → mark_right s i ≡ true → kind_right s i ≡ true → fields_right s i ≡ true → Right s i
unfolding mark_right kind_right fields_right
tests_right s i m k f =
    let m2 = both (eqb (byte_at s i 0) 0x56) (eqb (byte_at s i 1) 0x4E) m in
    let k2 = both (leb 1 (byte_at s i 6)) (leb (byte_at s i 6) 3) k in
    let note = leb (byte_at s i 7) (field_limit (byte_at s i 6)) in
    let velocity = leb (byte_at s i 8) (field_limit (byte_at s i 6)) in
    let f2 = both (note && velocity) (eqb (byte_at s i 9) 0) f in
    let f3 = both note velocity f2.0 in
    record {
      mark_one = eqb-true _ _ m2.0;
      mark_two = eqb-true _ _ m2.1;
      kind_low = leb-true _ _ k2.0;
      kind_high = leb-true _ _ k2.1;
      note-right = leb-true _ _ f3.0;
      velocity-right = leb-true _ _ f3.1;
      last = eqb-true _ _ f2.1;
    }

-- from the bytes back to the tests
module _ (s : List ℕ) (i : ℕ) (r : Right s i) where
  pub right_mark : mark_right s i ≡ true
  unfolding mark_right
  right_mark = rw (r.mark_one, r.mark_two)

  pub right_kind : kind_right s i ≡ true
  unfolding kind_right
  right_kind = rw (le-leb _ _ r.kind_low, le-leb _ _ r.kind_high)

  pub right_fields : fields_right s i ≡ true
  unfolding fields_right
  right_fields = rw (le-leb _ _ r.note-right, le-leb _ _ r.velocity-right, r.last)

-- ---- the round trip
-- a position is below 2^32
pub position_bound : (s : List ℕ) (i : ℕ) → Bytes s → position_at s i < 4294967296
unfolding position_at
position_bound s i bytes = omega (arith, bytes (i * 10 + 2), bytes (i * 10 + 3), bytes (i * 10 + 4), bytes (i * 10 + 5))

-- a record encoded and read again is the same record
pub decode-encode : (r : Record) → r.position < 4294967296 → decode_of (encode_of r) ≡ r
unfolding position_at
decode-encode r h = rw (join_bytes r.position h, kind_of-byte r.kind) refl

module _ (s : List ℕ) (i : ℕ) (bytes : Bytes s) (r : Right s i) where
  -- record i, read and encoded again, is its ten bytes
  pub encode_record : i * 10 + 10 ≤ length s → encode_of (record_at s i) ≡ take 10 (drop (i * 10) s)
  unfolding position_at up_to
  encode_record h =
      let a = byte_at s i 2 in
      let b = byte_at s i 3 in
      let c = byte_at s i 4 in
      let d = byte_at s i 5 in
      let small : (j : ℕ) → byte_at s i j < 256 = λ j. bytes (i * 10 + j) in
      rw (
        ← stretch s (i * 10) 10 h,
        byte_0 a b c d (small 2) (small 3) (small 4) (small 5),
        byte_1 a b c d (small 2) (small 3) (small 4) (small 5),
        byte_2 a b c d (small 2) (small 3) (small 4) (small 5),
        byte_3 a b c d (small 2) (small 3) (small 4) (small 5),
        byte_of_kind (byte_at s i 6) r.kind_low r.kind_high,
        r.mark_one,
        r.mark_two,
        r.last,
      )
      refl

  -- the record that is read is valid
  pub valid_record : Valid (record_at s i)
  valid_record =
      let most : field_limit (byte_at s i 6) ≡ field_limit_of (kind_of (byte_at s i 6)) = most_of_kind (byte_at s i 6) r.kind_low r.kind_high in
      record {
        position-fits = position_bound s i bytes;
        note-most = rw (← most) r.note-right;
        velocity-most = rw (← most) r.velocity-right;
      }

-- ten bytes that pass the tests, read and encoded again, are the same ten bytes
pub encode-decode : (b : List ℕ) → length b ≡ 10 → Bytes b → mark_right b 0 ≡ true → kind_right b 0 ≡ true → fields_right b 0 ≡ true → encode_of (decode_of b) ≡ b
encode-decode b ten bytes m k f =
    let h : 10 ≤ length b = omega arith in
    let short : length b ≤ 10 = omega arith in
    encode_record b 0 bytes (tests_right b 0 m k f) h ∙ take_all 10 b short
