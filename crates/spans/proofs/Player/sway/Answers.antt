-- `spans::Player::sway` meets its contract. Assumes nothing.
use borrow.Author.Rules.{rules}
use mathlib.Core.Path.{◌∙◌, sym}
use lib.Seq.{length-take-le}
use Rattle.spans.proofs.Swaying.{flat_sways, made_sways}
use Rattle.spans.proofs.Player.sway.Goals as goal

pub returns-then-is_flat : goal.returns-then-is_flat
returns-then-is_flat c = flat_sways c.args.self.now.settings c.args.phase.0 _ c.increment-step.ensures _ _ (search rules) (search rules) (sym c.is_flat.ensures ∙ c.if-is_flat.true) c.advance.ensures

pub returns : goal.returns
returns c = let p = c.args.self.now in made_sways p.settings c.args.phase.0 _ c.increment-step.ensures p.wave.now _ _ _ _ _ p.wave_table (length-take-le _ _ c.requires) c.fill_in-end.ensures c.multiply.ensures
