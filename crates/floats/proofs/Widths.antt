-- An f64 holds every f32, and has the same floor. Assumes nothing.
use mathlib.Core.Path.{◌≡◌, refl}
use lib.Dec.{T}
use lib.Ieee.{Float, nan, inf, fin, Format, binary64, fits}
use lib.Ieee.Fits.{fits_widens}
use Rattle.floats.specs.Floor.{floor_of}
use Rattle.floats.proofs.Greatest.{floor_is-greatest, floor_fits, floor_is-one}

held_wide : (f : Format) (x : Float) → T (fits f x) → T (fits binary64 x)
held_wide Format.binary32 x w = fits_widens x w
held_wide Format.binary64 x w = w

pub same_floor : (f : Format) (x : Float) → T (fits f x) → floor_of binary64 x ≡ floor_of f x
unfolding floor_of
same_floor f nan w = refl
same_floor f (inf s) w = refl
same_floor f (fin s m e) w =
    let x = fin s m e in
    let v : T (fits binary64 x) = held_wide f x w in
    floor_is-one binary64 x (floor_of binary64 x) (floor_of f x) (floor_fits binary64 x v) (held_wide f (floor_of f x) (floor_fits f x w)) (floor_is-greatest binary64 x v tt) (floor_is-greatest f x w tt)
