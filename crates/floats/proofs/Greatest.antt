-- `floor_of` is the floor: of a finite x, the greatest whole number not above x, with the sign of x (`IsFloor`), and
-- the only such float. A number without a fraction is its own floor. For either format. Assumes nothing.
use mathlib.Core.Path.{◌≡◌, refl, sym, ap, ◌∙◌, subst}
use mathlib.Core.Bool.{Bool, true, false}
use Prim.Native.Nat.{ℕ, suc, ◌+◌, ◌-◌, ◌*◌, ◌/◌, ◌%◌, ◌^◌, ◌≤◌, ◌<◌}
use native.Mathlib.Nat as nat
use native.Mathlib.Omega.{arith}
use lib.IntN.{ℤ, pos, negsuc}
use lib.Dec.{T}
use lib.Pow.{pow_pos}
use lib.Ieee.{Float, nan, inf, fin, Format, up, down, round, le, fits}
use lib.Ieee.Fits.{down_pos, round-fits}
use lib.Ieee.Exact.{HasValue}
use lib.Ieee.Back.{round_whole, whole_unique}
use lib.Ieee.Scale.{finite}
use Rattle.floats.specs.Floor.{floor_of, whole_of, Whole, sign_of, IsFloor}
use Rattle.floats.proofs.Order.{Le2, le→Le, Le→le, zero-first}
use Rattle.floats.proofs.Rounds.{self-value, fits_small}
use Rattle.floats.proofs.Roof.{whole_le, whole-whole, whole_same, roof-le, le-roof}

-- ---- the floor is exactly the whole part of x
whole-over-one : (s : Bool) (a : ℕ) → whole_of s a 1 ≡ a
whole-over-one s a = ap (λ (z : ℕ). whole_of s z 1) (sym (nat.mul-one a)) ∙ whole-whole s a 1 (nat.zero-lt-suc 0)

pub floor_value : (f : Format) (s : Bool) (m : ℕ) (e : ℤ) → T (fits f (fin s m e)) → HasValue (floor_of f (fin s m e)) s (whole_of s (m * up e) (down e)) 1
unfolding floor_of
floor_value f s m (pos k) h = subst (λ (n : ℕ). HasValue (round f s n 1) s n 1) (sym (whole-over-one s (m * 2 ^ k))) (self-value f s m (pos k) h)
floor_value f s m (negsuc k) h =
    round_whole f s (whole_of s (m * 1) (2 ^ suc k))
    (nat.le_trans (whole_le s (m * 1) (2 ^ suc k) (pow_pos (suc k))) (nat.le_trans (nat.le_of_eq (nat.mul-one m)) (nat.le_of_lt (fits_small f s m (negsuc k) h))))

-- ---- whole numbers among the floats
-- r is ±n, n a whole number: r is whole and has that sign; and a whole float is such an r
value-whole : (r : Float) (s : Bool) (n : ℕ) → HasValue r s n 1 → Whole r
value-whole nan s n h = h
value-whole (inf t) s n h = h
value-whole (fin t m e) s n h = ap (λ (z : ℕ). z % down e) (sym (nat.mul-one (m * up e)) ∙ h.1) ∙ nat.mul-mod_left n (down e)

value-sign : (r : Float) (s : Bool) (n : ℕ) → HasValue r s n 1 → sign_of r ≡ s
value-sign nan s n h = absurd h
value-sign (inf t) s n h = absurd h
value-sign (fin t m e) s n h = h.0

pub whole_has : (s : Bool) (m : ℕ) (e : ℤ) → Whole (fin s m e) → HasValue (fin s m e) s (m * up e / down e) 1
whole_has s m e h = (refl, nat.mul-one (m * up e) ∙ sym (exact (m * up e) (down e) h))
  where
    exact : (a c : ℕ) → a % c ≡ 0 → a / c * c ≡ a
    exact a c h = sym (nat.add-zero (a / c * c)) ∙ ap (λ (z : ℕ). a / c * c + z) (sym h) ∙ nat.div-add-mod' a c

-- ---- the order of ±n, a whole number, and ±a / c
-- the whole part is at most ±a / c, and every whole ±q that is at most ±a / c is at most the whole part
floor_below : (s : Bool) (a c : ℕ) → 0 < c → Le2 s (whole_of s a c * c) s a
floor_below false a c C = nat.div-mul-le_self a c
floor_below true a c C = le-roof a c C

floor_greatest : (t s : Bool) (q a c : ℕ) → 0 < c → Le2 t (q * c) s a → Le2 t q s (whole_of s a c)
floor_greatest false false q a c C h = (nat.le-div_iff_mul-le C).1 h
floor_greatest false true q a c C h = (nothing q c C h.0, nat.le_antisymm (roof-le a c 0 C (nat.le_trans (nat.le_of_eq h.1) Prim.Native.Nat.zero-le)) Prim.Native.Nat.zero-le)
  where
    nothing : (q c : ℕ) → 0 < c → q * c ≡ 0 → q ≡ 0
    nothing q c C h = nat.eq_of_mul-eq-mul_right c C q 0 (h ∙ sym (nat.zero-mul c))
floor_greatest true false q a c C h = tt
floor_greatest true true q a c C h = roof-le a c q C h

-- ---- `le` of two values by any fractions that they equal
-- x / u is a / c and y / v is b / d: x / u ≤ y / v where a / c ≤ b / d
le_same : (x u y v a b c d : ℕ) → 0 < c → 0 < d → x * c ≡ a * u → y * d ≡ b * v → a * d ≤ b * c → x * v ≤ y * u
le_same x u y v a b c d C D p q h = nat.le_of_mul-le-mul_right (cross x u y v a b c d p q (nat.mul-le-mul_right (u * v) h)) (nat.mul-pos C D)
  where
    cross : (x u y v a b c d : ℕ) → x * c ≡ a * u → y * d ≡ b * v → a * d * (u * v) ≤ b * c * (u * v) → x * v * (c * d) ≤ y * u * (c * d)
    cross x u y v a b c d p q h = omega (arith, ap (λ (z : ℕ). z * (v * d)) p, ap (λ (z : ℕ). z * (u * c)) q)

zero_same : (x u a c d v : ℕ) → 0 < c → 0 < d → x * c ≡ a * u → a * d ≡ 0 → x * v ≡ 0
zero_same x u a c d v C D p h =
    ap (λ (z : ℕ). z * v) (zero-first x c C (p ∙ ap (λ (z : ℕ). z * u) (zero-first a d D h) ∙ nat.zero-mul u)) ∙ nat.zero-mul v

order_same : (s t : Bool) (x u y v a b c d : ℕ) → 0 < c → 0 < d → x * c ≡ a * u → y * d ≡ b * v → Le2 s (a * d) t (b * c) → Le2 s (x * v) t (y * u)
order_same false false x u y v a b c d C D p q h = le_same x u y v a b c d C D p q h
order_same false true x u y v a b c d C D p q h = (zero_same x u a c d v C D p h.0, zero_same y v b d c u D C q h.1)
order_same true false x u y v a b c d C D p q h = tt
order_same true true x u y v a b c d C D p q h = le_same y v x u b a d c D C q p h

values→le : (x y : Float) (s t : Bool) (a b c d : ℕ) → 0 < c → 0 < d → HasValue x s a c → HasValue y t b d → Le2 s (a * d) t (b * c) → T (le x y)
values→le nan y s t a b c d C D p q h = absurd p
values→le (inf i) y s t a b c d C D p q h = absurd p
values→le (fin i m e) nan s t a b c d C D p q h = absurd q
values→le (fin i m e) (inf j) s t a b c d C D p q h = absurd q
values→le (fin i m e) (fin j n k) s t a b c d C D p q h =
    Le→le (fin i m e) (fin j n k) (rw (p.0, q.0) (order_same s t (m * up e) (down e) (n * up k) (down k) a b c d C D p.1 q.1 h))

le→values : (x y : Float) (s t : Bool) (a b c d : ℕ) → 0 < c → 0 < d → HasValue x s a c → HasValue y t b d → T (le x y) → Le2 s (a * d) t (b * c)
le→values nan y s t a b c d C D p q h = absurd p
le→values (inf i) y s t a b c d C D p q h = absurd p
le→values (fin i m e) nan s t a b c d C D p q h = absurd q
le→values (fin i m e) (inf j) s t a b c d C D p q h = absurd q
le→values (fin i m e) (fin j n k) s t a b c d C D p q h =
    order_same s t a c b d (m * up e) (n * up k) (down e) (down k) (down_pos e) (down_pos k) (sym p.1) (sym q.1) (rw (p.0, q.0) at (le→Le (fin i m e) (fin j n k) h))

-- ---- the floor
one-pos : 0 < 1
one-pos = nat.zero-lt-suc 0

-- every whole number y not above x is not above the floor of x
none_above : (f : Format) (s : Bool) (m : ℕ) (e : ℤ) → T (fits f (fin s m e)) → (y : Float) → Whole y → T (le y (fin s m e)) → T (le y (floor_of f (fin s m e)))
none_above f s m e w nan k g = absurd k
none_above f s m e w (inf t) k g = absurd k
none_above f s m e w (fin t l d) k g =
    let q = l * up d / down d in
    let has : HasValue (fin t l d) t q 1 = whole_has t l d k in
    values→le (fin t l d) (floor_of f (fin s m e)) t s q (whole_of s (m * up e) (down e)) 1 1 one-pos one-pos has (floor_value f s m e w)
    (simp nat.mul-one (floor_greatest t s q (m * up e) (down e) (down_pos e) (simp nat.mul-one at (le→values (fin t l d) (fin s m e) t s q (m * up e) 1 (down e) one-pos (down_pos e) has (refl, refl) g))))

pub floor_is-greatest : (f : Format) (x : Float) → T (fits f x) → T (finite x) → IsFloor x (floor_of f x)
floor_is-greatest f nan w h = absurd h
floor_is-greatest f (inf s) w h = absurd h
floor_is-greatest f (fin s m e) w h =
    let n = whole_of s (m * up e) (down e) in
    let v : HasValue (floor_of f (fin s m e)) s n 1 = floor_value f s m e w in
    record {
      whole = value-whole (floor_of f (fin s m e)) s n v;
      below = values→le (floor_of f (fin s m e)) (fin s m e) s s n (m * up e) 1 (down e) one-pos (down_pos e) v (refl, refl) (simp nat.mul-one (floor_below s (m * up e) (down e) (down_pos e)));
      greatest = none_above f s m e w;
      sign = value-sign (floor_of f (fin s m e)) s n v;
    }

pub floor_fits : (f : Format) (x : Float) → T (fits f x) → T (fits f (floor_of f x))
unfolding floor_of
floor_fits f nan w = w
floor_fits f (inf s) w = w
floor_fits f (fin s m e) w = round-fits f s (whole_of s (m * up e) (down e)) 1

-- a number without a fraction is its own floor
pub whole_is_floor : (f : Format) (x : Float) → T (fits f x) → Whole x → floor_of f x ≡ x
whole_is_floor f nan w h = absurd h
whole_is_floor f (inf s) w h = absurd h
whole_is_floor f (fin s m e) w h =
    let v : HasValue (fin s m e) s (m * up e / down e) 1 = whole_has s m e h in
    whole_unique f (floor_of f (fin s m e)) (fin s m e) s (m * up e / down e) (floor_fits f (fin s m e) w) w
    (subst (λ (n : ℕ). HasValue (floor_of f (fin s m e)) s n 1) (whole_same s (m * up e) (down e) (m * up e / down e) 1 (down_pos e) one-pos v.1 ∙ whole-over-one s (m * up e / down e)) (floor_value f s m e w)) v

-- two floors of one x are the same float
same_size : (s : Bool) (a b : ℕ) → Le2 s (a * 1) s (b * 1) → Le2 s (b * 1) s (a * 1) → a ≡ b
same_size false a b h k = omega arith
same_size true a b h k = omega arith

pub floor_is-one : (f : Format) (x r t : Float) → T (fits f r) → T (fits f t) → IsFloor x r → IsFloor x t → r ≡ t
floor_is-one f x nan t v w p q = absurd p.whole
floor_is-one f x (inf s) t v w p q = absurd p.whole
floor_is-one f x (fin s m e) nan v w p q = absurd q.whole
floor_is-one f x (fin s m e) (inf u) v w p q = absurd q.whole
floor_is-one f x (fin s m e) (fin u n d) v w p q =
    let a = m * up e / down e in
    let b = n * up d / down d in
    let A : HasValue (fin s m e) s a 1 = whole_has s m e p.whole in
    let B : HasValue (fin u n d) s b 1 = subst (λ (z : Bool). HasValue (fin u n d) z b 1) (q.sign ∙ sym p.sign) (whole_has u n d q.whole) in
    let c : a ≡ b = same_size s a b (le→values (fin s m e) (fin u n d) s s a b 1 1 one-pos one-pos A B (q.greatest (fin s m e) p.whole p.below)) (le→values (fin u n d) (fin s m e) s s b a 1 1 one-pos one-pos B A (p.greatest (fin u n d) q.whole q.below)) in
    whole_unique f (fin s m e) (fin u n d) s b v w (subst (λ (z : ℕ). HasValue (fin s m e) s z 1) c A) B
