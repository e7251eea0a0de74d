-- `filling::reading_at` meets its contract. Assumes nothing.
use borrow.Author.Rules.{rules}
use mathlib.Core.Path.{◌≡◌, sym, ◌∙◌}
use mathlib.Core.List.{List}
use Prim.Native.Nat.{◌+◌, ◌%◌, ◌^◌}
use native.Mathlib.Omega.{arith}
use lib.IntN.{pos}
use lib.Dec.{T}
use lib.ListN.{length}
use lib.Ieee.{Float, binary64, to_bits}
use lib.Ieee.Bits.{is_true}
use Rattle.floats.specs.Range.{within}
use Rattle.floats.specs.Double.{◌⊖◌, ◌⊗◌, zero64, one}
use Rattle.floats.proofs.Order.{finite-not-nan}
use Rattle.sine.specs.Sine.{steps, whole_part, float}
use Rattle.sine.specs.Whole.{whole_line, whole_reading}
use Rattle.sine.proofs.Parts.{whole-at_most}
use Rattle.sine.proofs.Points.{points_in}
use Rattle.sine.proofs.Sums.{large, float-whole, raised-less, raised_digits}
use Rattle.sine.proofs.Whole.{whole-inside, whole-near}
use Rattle.filling.proofs.reading_at.Goals as goal

-- s is the whole part and 2^52: its digits are the point, and what p has above it is left
spot : (W : List Float) (u s : Float) → length W ≡ 4097 → T (within zero64 one u) → s ≡ float (pos (2 ^ 52 + whole_part (u ⊗ steps))) → whole_line W (to_bits binary64 s % 4096) (u ⊗ steps ⊖ (s ⊖ large)) ≡ whole_reading W u
spot W u s l h e =
    let p = u ⊗ steps in
    let inside = points_in u h in
    let few = whole-at_most p inside in
    rw (e, raised_digits (whole_part p) few, raised-less (whole_part p) few) (sym (whole-near W p inside)) ∙ sym (whole-inside W u l (is_true (within zero64 one u) h))

pub raised-sum-requires : goal.raised-sum-requires
raised-sum-requires c = points_in c.args.u c.requires

pub float_to_bits-i : goal.float_to_bits-i
float_to_bits-i c = let a = c.args in let few = whole-at_most (a.u ⊗ steps) (points_in a.u c.requires) in
    rw c.raised-sum.ensures (finite-not-nan _ (float-whole (2 ^ 52 + whole_part (a.u ⊗ steps)) (omega (arith, few))).ends)

pub returns : goal.returns
returns c = c.line.ensures ∙ spot c.args.wave.now c.args.u _ (search rules) c.requires c.raised-sum.ensures
