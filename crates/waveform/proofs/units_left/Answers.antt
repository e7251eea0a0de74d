-- `waveform::units_left` meets its contract. Assumes nothing.
use borrow.Author.Rules.{rules}
use mathlib.Core.Path.{◌≡◌, ap, ◌∙◌}
use Prim.Native.Nat.{ℕ, ◌-◌, ◌*◌, ◌/◌, ◌+◌, ◌%◌, ◌^◌}
use native.Mathlib.Omega.{arith}
use lib.Ieee.{binary64, to_bits}
use Rattle.waveform.proofs.Remainders.{field_least, units_are, doubled_once}
use Rattle.waveform.proofs.units_left.Goals as goal

pub loop-doubled-preserved : goal.loop-doubled-preserved
loop-doubled-preserved c = doubled_once _ c.loop-doubled.doubled c.loop-doubled.left c.loop-doubled.auto.doubled c.loop-doubled.invariant

pub returns : goal.returns
returns c =
    let x = c.args.x in
    let field : ℕ = to_bits binary64 x / 4503599627370496 in
    let digits : ℕ = 4503599627370496 + to_bits binary64 x % 4503599627370496 in
    let least = field_least x (search rules) c.requires.0 c.requires.1 in
    let last = c.loop-doubled.auto.doubled-end least in
    let all : c.loop-doubled.doubled ≡ field = omega arith in (
      digits * 2 ^ (field - 1025),
      units_are x (search rules) c.requires.0 c.requires.1,
      c.loop-doubled.invariant ∙ ap (λ (k : ℕ). digits * 2 ^ (k - 1025) % 0x19_21fb_5444_2d18) all,
    )
