-- Two outcomes that meet a public function's statement are equal. Assumes nothing.
use Rattle.std.specs.Prelude.{Err, Ok}
use mathlib.Core.Path.{◌≡◌, sym, ◌∙◌}
use mathlib.Core.Bool.{Bool}
use mathlib.Core.List.{List}
use Prim.Native.Nat.{ℕ}
use Rattle.answers.specs.Order.{first_of}
use Rattle.answers.specs.Answer.{Answer}
use Rattle.state.specs.declared.Settings.{Settings}
use Rattle.judging.specs.Judging.{refusals_of, new_refusals_of, sizes_fit, part_fits}

pub judged_unique : (g : Settings) (room : Bool) (s : List ℕ) (rest r t : Answer) → r ≡ first_of (refusals_of g room s) Err rest → t ≡ first_of (refusals_of g room s) Err rest → r ≡ t
judged_unique g room s rest r t p q = p ∙ sym q

pub judged_new_unique : (s : List ℕ) (r t : Answer) → r ≡ first_of (new_refusals_of s) Err (Ok 0) → t ≡ first_of (new_refusals_of s) Err (Ok 0) → r ≡ t
judged_new_unique s r t p q = p ∙ sym q

pub sizes_fit_unique : (n words magnitudes numbers : ℕ) (r t : Bool) → r ≡ sizes_fit n words magnitudes numbers → t ≡ sizes_fit n words magnitudes numbers → r ≡ t
sizes_fit_unique n words magnitudes numbers r t p q = p ∙ sym q

pub part_fits_unique : (p n : ℕ) (r t : Bool) → r ≡ part_fits p n → t ≡ part_fits p n → r ≡ t
part_fits_unique p n r t x y = x ∙ sym y
