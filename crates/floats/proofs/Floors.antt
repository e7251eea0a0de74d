-- The floor from a fraction that equals x: x without a fraction, x below 1, and x between. For either format.
-- Assumes nothing.
use mathlib.Core.Path.{◌≡◌, refl, sym, ap, ◌∙◌, subst}
use mathlib.Core.Bool.{Bool, true, false}
use Prim.Native.Nat.{ℕ, zero, suc, ◌+◌, ◌-◌, ◌*◌, ◌^◌, ◌≤◌, ◌<◌}
use native.Mathlib.Nat as nat
use native.Mathlib.Omega.{arith}
use lib.IntN.{pos}
use lib.Dec.{T, lit<}
use lib.Pow.{pow-add, pow_pos, pow_mono}
use lib.Ieee.{Float, nan, inf, fin, Format, prec, emax, low, hid, ones}
use lib.Ieee.{up, down, round, neg, fits, of_int}
use lib.Ieee.Fits.{down_pos, round-fits}
use lib.Ieee.Exact.{HasValue, round_exact}
use lib.Ieee.Back.{whole_unique}
use Rattle.floats.specs.Floor.{floor_of, whole_of}
use Rattle.floats.proofs.Roof.{whole_same, whole-whole, roof-one}
use Rattle.floats.proofs.Pattern.{fields_of, scaled}
use Rattle.floats.proofs.Signed.{neg-round}

-- the floor of x from any fraction a / c that equals x
pub floor_at : (f : Format) (x : Float) (s : Bool) (a c : ℕ) → 0 < c → HasValue x s a c → floor_of f x ≡ round f s (whole_of s a c) 1
unfolding floor_of
floor_at f nan s a c C h = absurd h
floor_at f (inf t) s a c C h = absurd h
floor_at f (fin t m e) s a c C h =
    ap (λ (z : Bool). round f z (whole_of z (m * up e) (down e)) 1) h.0 ∙ ap (λ (n : ℕ). round f s n 1) (whole_same s (m * up e) (down e) a c (down_pos e) C h.1)

-- ---- a number without a fraction is its own floor
pub whole-value : (x : Float) (s : Bool) (w c : ℕ) → 0 < c → HasValue x s (w * c) c → HasValue x s w 1
whole-value nan s w c C h = h
whole-value (inf t) s w c C h = h
whole-value (fin t m e) s w c C h = (h.0, nat.mul-one (m * up e) ∙ nat.eq_of_mul-eq-mul_right c C (m * up e) (w * down e) (h.1 ∙ nat.mul_right_comm w c (down e)))

-- x is the whole number w, which is q * 2 ^ j units with q below 2 ^ prec: x is its own floor
pub own_floor : (f : Format) (x : Float) (s : Bool) (w q j : ℕ) → T (fits f x) → HasValue x s (w * 2 ^ low f) (2 ^ low f) → q < 2 ^ prec f → q * 2 ^ j < 2 ^ (low f + suc (emax f)) → w * 2 ^ low f ≡ q * 2 ^ j → x ≡ floor_of f x
own_floor f x s w q j k h a b e =
    let L : 0 < 2 ^ low f = pow_pos (low f) in
    let v : HasValue (round f s w 1) s w 1 = round_exact f s w 1 q j (lit< tt) a b (e ∙ sym (nat.mul-one (q * 2 ^ j))) in
    whole_unique f x (round f s w 1) s w k (round-fits f s w 1) (whole-value x s w (2 ^ low f) L h) v
    ∙ sym (floor_at f x s (w * 2 ^ low f) (2 ^ low f) L h ∙ ap (λ (n : ℕ). round f s n 1) (whole-whole s w (2 ^ low f) L))

-- ---- by the exponent field and the digits
-- x is +0 or -0: x is its own floor
pub floor_zero : (f : Format) (x : Float) (s : Bool) → T (fits f x) → HasValue x s 0 (2 ^ low f) → x ≡ floor_of f x
floor_zero f x s k h =
    own_floor f x s 0 0 0 k (subst (λ (z : ℕ). HasValue x s z (2 ^ low f)) (sym (nat.zero-mul (2 ^ low f))) h) (pow_pos (prec f)) (pow_pos (low f + suc (emax f))) (nat.zero-mul (2 ^ low f))

-- the exponent field is above low: the last digit counts 1 or more, so x is its own floor
pub floor_large : (f : Format) (x : Float) (s : Bool) (e t : ℕ) → T (fits f x) → HasValue x s (fields_of f e t) (2 ^ low f) → low f < e → e < ones f → t < hid f → x ≡ floor_of f x
floor_large f x s zero t k h l o d = absurd (none (low f) l)
  where
    none : (l : ℕ) → l < 0 → ⊥
    none l h = omega arith
floor_large f x s (suc i) t k h l o d =
    let w = (hid f + t) * 2 ^ (i - low f) in
    let e : w * 2 ^ low f ≡ (hid f + t) * 2 ^ i =
    nat.mul_assoc (hid f + t) (2 ^ (i - low f)) (2 ^ low f) ∙ ap (λ (z : ℕ). (hid f + t) * z) (sym (pow-add 2 (i - low f) (low f)) ∙ ap (λ (z : ℕ). 2 ^ z) (nat.sub-add_cancel (nat.le_of_suc-le-suc l))) in
    own_floor f x s w (hid f + t) i k (subst (λ (z : ℕ). HasValue x s z (2 ^ low f)) (sym e) h) (digits f t d)
    (nat.lt_of_lt_of_le (nat.mul-lt-mul_of_pos_right (digits f t d) (pow_pos i)) (nat.le_trans (nat.le_of_eq (sym (pow-add 2 (prec f) i))) (pow_mono (room f i o)))) e
  where
    digits : (f : Format) (t : ℕ) → t < hid f → hid f + t < 2 ^ prec f
    digits Format.binary32 t d = omega arith
    digits Format.binary64 t d = omega arith

    room : (f : Format) (i : ℕ) → suc i < ones f → prec f + i ≤ low f + suc (emax f)
    room Format.binary32 i o = omega arith
    room Format.binary64 i o = omega arith

-- 0 < |x| < 1: the floor is 0, and -1 where x is negative
pub floor_small : (f : Format) (x : Float) (s : Bool) (a : ℕ) → HasValue x s a (2 ^ low f) → 0 < a → a < 2 ^ low f → floor_of f x ≡ round f s (whole_of s 1 2) 1
floor_small f x s a h A l = floor_at f x s a (2 ^ low f) (pow_pos (low f)) h ∙ ap (λ (n : ℕ). round f s n 1) (part s)
  where
    part : (s : Bool) → whole_of s a (2 ^ low f) ≡ whole_of s 1 2
    part true = roof-one a (2 ^ low f) A l
    part false = nat.div-eq_of_lt l

-- a field from 1 to low: the floor is the whole part of the digits over 2 ^ (low + 1 - field)
pub floor_middle : (f : Format) (x : Float) (s : Bool) (e t : ℕ) → HasValue x s (fields_of f e t) (2 ^ low f) → 0 < e → e ≤ low f → floor_of f x ≡ round f s (whole_of s (hid f + t) (2 ^ (suc (low f) - e))) 1
floor_middle f x s e t h E l =
    floor_at f x s (fields_of f e t) (2 ^ low f) (pow_pos (low f)) h
    ∙ ap (λ (n : ℕ). round f s n 1) (whole_same s (fields_of f e t) (2 ^ low f) (hid f + t) (2 ^ (suc (low f) - e)) (pow_pos (low f)) (pow_pos (suc (low f) - e)) (scaled f e t E l))

-- ---- a whole number made a float, and its negation
pub from-whole : (f : Format) (n : ℕ) → of_int f (pos n) ≡ round f false n 1
unfolding of_int
from-whole f n = refl

pub from-whole-neg : (f : Format) (n : ℕ) → neg (of_int f (pos n)) ≡ round f true n 1
unfolding of_int
from-whole-neg f n = neg-round f false n 1
