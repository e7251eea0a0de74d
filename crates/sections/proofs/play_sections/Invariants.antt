use Rattle.sections.specs.Outcome.{samples_in}
use Rattle.sections.specs.Lending.{held}
use Rattle.sections.proofs.Lending.{SameSlices}
use Rattle.sections.proofs.Turns.{Walked, reached}
use Rattle.sections.proofs.play_sections.Given as goal

abbrev pub invariant-loop-k : goal.invariant-loop-k
invariant-loop-k l = let b = held l.initial.lent in record {
  same : SameSlices l.initial.lent l.lent;
  walked : Walked l.settings l.score l.section l.initial.place l.quiet b l.lent.heard.now l.lent.stored.now l.lent.magnitudes.now l.lent.numbers.now l.place l.k (reached (samples_in b) l.k);
}
