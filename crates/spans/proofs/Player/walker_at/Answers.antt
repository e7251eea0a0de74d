-- `spans::Player::walker_at` meets its contract. Assumes nothing.
use mathlib.Core.Path.{refl}
use Rattle.spans.proofs.Offsets.{passed, ahead}
use Rattle.spans.proofs.Player.walker_at.Goals as goal

pub returns-then-count-next : goal.returns-then-count-next
returns-then-count-next c = let p = c.args.self.now in record { place = refl; sees = passed p.score.now c.args.place.next p.position (rw (c.count.ensures, c.position-p.ensures) at c.if-count-next.true) }

pub returns : goal.returns
returns c = let p = c.args.self.now in record { place = refl; sees = rw c.position-p.ensures (ahead p.score.now c.args.place.next p.position (rw (c.count.ensures, c.position-p.ensures) at c.if-count-next.false)) }
