-- `polyblep::rounded_blamp` meets its contract. Assumes nothing.
use mathlib.Core.Path.{refl}
use Rattle.polyblep.specs.Polyblep.{rounded_blamp_of}
use Rattle.polyblep.proofs.rounded_blamp.Goals as goal

pub returns-in-After : goal.returns-in-After
unfolding rounded_blamp_of
returns-in-After c = rw (← c.side_of.ensures, c.in-After.is, c.knee_after.ensures) refl

pub returns-in-Before : goal.returns-in-Before
unfolding rounded_blamp_of
returns-in-Before c = rw (← c.side_of.ensures, c.in-Before.is, c.knee_before.ensures) refl

pub returns-in-Away : goal.returns-in-Away
unfolding rounded_blamp_of
returns-in-Away c = rw (← c.side_of.ensures, c.in-Away.is) refl
