-- `high_notes::is_duty_apart` meets its contract. Assumes nothing.
use mathlib.Core.Path.{sym, subst, ◌∙◌}
use lib.Dec.{T}
use Rattle.floats.specs.Range.{within}
use Rattle.polyblep.proofs.Clear.{both_true}
use Rattle.high_notes.specs.Inner.{least, most}
use Rattle.high_notes.proofs.Edges.{duty_apart}
use Rattle.high_notes.proofs.is_duty_apart.Goals as goal

pub returns : goal.returns
returns c = λ e.
    let a = c.args in let (duty, apart) = both_true c.is_wide.result c.is_apart-apart.result e in
    let inside : T (within least most a.duty) = subst T (sym (sym c.is_wide.ensures ∙ duty)) tt in
    (inside, duty_apart a.duty a.dt c.is_apart-apart.result inside c.is_apart-apart.ensures apart)
