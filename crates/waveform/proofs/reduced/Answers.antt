-- `waveform::reduced` meets its contract. Assumes nothing.
use mathlib.Core.Path.{refl, ap}
use Rattle.waveform.specs.declared.Radians.{Radians}
use Rattle.waveform.specs.Waveform.{reduce_of}
use Rattle.waveform.proofs.reduced.Goals as goal

pub returns-then-rest : goal.returns-then-rest
unfolding reduce_of
returns-then-rest c = rw (← ap (λ (p : Radians). p.0) c.remainder-rest.ensures, c.if-rest.true) refl

pub returns : goal.returns
unfolding reduce_of
returns c = rw (← ap (λ (p : Radians). p.0) c.remainder-rest.ensures, c.if-rest.false) refl
