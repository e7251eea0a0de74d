-- Two outcomes that meet a public function's statement are equal. Assumes nothing.
use mathlib.Core.Path.{◌≡◌, sym, ◌∙◌}
use mathlib.Core.Bool.{Bool}
use lib.Dec.{T}
use lib.Ieee.{Float, Format, fits}
use lib.Ieee.Scale.{finite}
use Rattle.floats.specs.Range.{within}
use Rattle.floats.specs.Floor.{floor_of}

pub floor_unique : {A : Type 0} (format : Format) (number : A → Float) (of_number : Float → A) (x r t : A) → r ≡ of_number (floor_of format (number x)) → t ≡ of_number (floor_of format (number x)) → r ≡ t
floor_unique format number of_number x r t p q = p ∙ sym q

pub is_within_unique : (low high x : Float) (r t : Bool) → r ≡ within low high x → t ≡ within low high x → r ≡ t
is_within_unique low high x r t p q = p ∙ sym q

pub is_finite_unique : {A : Type 0} (number : A → Float) (x : A) (r t : Bool) → r ≡ finite (number x) → t ≡ finite (number x) → r ≡ t
is_finite_unique number x r t p q = p ∙ sym q

pub widened_unique : {A : Type 0} (format : Format) (number : A → Float) (x : A) (r t : Float) → (r ≡ number x) × T (fits format r) → (t ≡ number x) × T (fits format t) → r ≡ t
widened_unique format number x r t p q = p.0 ∙ sym q.0

pub floored_unique : {A : Type 0} (format : Format) (number : A → Float) (of_number : Float → A) (x r t : A) → r ≡ of_number (floor_of format (number x)) → t ≡ of_number (floor_of format (number x)) → r ≡ t
floored_unique format number of_number x r t p q = p ∙ sym q
