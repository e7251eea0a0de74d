-- A long expression is finite if it is finite with every leaf at its largest size: one computed test, and one law.
-- `Expr` is an expression of sums, differences and products; a leaf x carries a bound on its size. For either format.
-- Assumes nothing.
use mathlib.Core.Bool.{Bool, ◌&&◌}
use lib.Dec.{T}
use lib.Ieee.{Float, Format, add, sub, mul, le}
use lib.Ieee.Fits.{and_l, and_r}
use lib.Ieee.Scale.{finite}
use Rattle.floats.proofs.Bounded.{Size, size-add, size-sub, size-mul, size_widen}

infixl 60 ◌⊹◌ ◌⊸◌
infixl 70 ◌⊛◌
pub data Expr : Type 0 where
  leaf : Float → Float → Expr
  ◌⊹◌ ◌⊸◌ ◌⊛◌ : Expr → Expr → Expr

module _ (f : Format) where
  -- the value of the expression, each operation rounded once
  abbrev pub value : Expr → Float
  value (leaf a x) = x
  value (d ⊹ e) = add f (value d) (value e)
  value (d ⊸ e) = sub f (value d) (value e)
  value (d ⊛ e) = mul f (value d) (value e)

  -- the expression with every leaf at its bound, and a sum for each difference
  abbrev pub most : Expr → Float
  most (leaf a x) = a
  most (d ⊹ e) = add f (most d) (most e)
  most (d ⊸ e) = add f (most d) (most e)
  most (d ⊛ e) = mul f (most d) (most e)

  -- no bound on the way overflows; this is computed
  abbrev pub bounded : Expr → Bool
  bounded (leaf a x) = finite a
  bounded (d ⊹ e) = bounded d && (bounded e && finite (add f (most d) (most e)))
  bounded (d ⊸ e) = bounded d && (bounded e && finite (add f (most d) (most e)))
  bounded (d ⊛ e) = bounded d && (bounded e && finite (mul f (most d) (most e)))

  -- every leaf is within its bound
  abbrev pub Sized : Expr → Type 0
  Sized (leaf a x) = Size a x
  Sized (d ⊹ e) = Sized d × Sized e
  Sized (d ⊸ e) = Sized d × Sized e
  Sized (d ⊛ e) = Sized d × Sized e

  -- every leaf is within its bound, and no bound overflows: |value| ≤ most
  pub size : (e : Expr) → Sized e → T (bounded e) → Size (most e) (value e)
  size (leaf a x) s h = s
  size (d ⊹ e) s h =
      let r = and_r (bounded d) (bounded e && finite (add f (most d) (most e))) h in
      size-add f (most d) (value d) (most e) (value e) (size d s.0 (and_l (bounded d) (bounded e && finite (add f (most d) (most e))) h)) (size e s.1 (and_l (bounded e) (finite (add f (most d) (most e))) r)) (and_r (bounded e) (finite (add f (most d) (most e))) r)
  size (d ⊸ e) s h =
      let r = and_r (bounded d) (bounded e && finite (add f (most d) (most e))) h in
      size-sub f (most d) (value d) (most e) (value e) (size d s.0 (and_l (bounded d) (bounded e && finite (add f (most d) (most e))) h)) (size e s.1 (and_l (bounded e) (finite (add f (most d) (most e))) r)) (and_r (bounded e) (finite (add f (most d) (most e))) r)
  size (d ⊛ e) s h =
      let r = and_r (bounded d) (bounded e && finite (mul f (most d) (most e))) h in
      size-mul f (most d) (value d) (most e) (value e) (size d s.0 (and_l (bounded d) (bounded e && finite (mul f (most d) (most e))) h)) (size e s.1 (and_l (bounded e) (finite (mul f (most d) (most e))) r)) (and_r (bounded e) (finite (mul f (most d) (most e))) r)

  -- the same for a bound b that `most` does not exceed: |value| ≤ b
  pub size_below : (e : Expr) (b : Float) → Sized e → T (bounded e && (finite b && le (most e) b)) → Size b (value e)
  size_below e b s h =
      let r = and_r (bounded e) (finite b && le (most e) b) h in
      size_widen (most e) b (value e) (and_l (finite b) (le (most e) b) r) (and_r (finite b) (le (most e) b) r) (size e s (and_l (bounded e) (finite b && le (most e) b) h))
