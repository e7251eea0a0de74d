-- `sine::place` meets its contract. Assumes nothing.
use mathlib.Core.Path.{sym}
use Rattle.sine.proofs.Whole.{whole-near, point-near}
use Rattle.sine.proofs.place.Goals as goal

pub returns-clause-quarter : goal.returns-clause-quarter
returns-clause-quarter c = λ wave. rw c.whole_part-i.ensures.0 (sym (point-near wave c.args.p c.requires))

pub returns-clause-whole : goal.returns-clause-whole
returns-clause-whole c = λ wave. rw c.whole_part-i.ensures.0 (sym (whole-near wave c.args.p c.requires))
