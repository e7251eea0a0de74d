-- `polyblep::blep` meets its contract. Assumes nothing.
use mathlib.Core.Path.{refl}
use Rattle.polyblep.specs.Polyblep.{blep_of}
use Rattle.polyblep.proofs.blep.Goals as goal

pub returns-in-After : goal.returns-in-After
unfolding blep_of
returns-in-After c = rw (← c.side_of.ensures, c.in-After.is) refl

pub returns-in-Before : goal.returns-in-Before
unfolding blep_of
returns-in-Before c = rw (← c.side_of.ensures, c.in-Before.is) refl

pub returns-in-Away : goal.returns-in-Away
unfolding blep_of
returns-in-Away c = rw (← c.side_of.ensures, c.in-Away.is) refl
