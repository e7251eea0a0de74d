-- `voice::keys::without` meets its contract: the walk leaves in front what the definition leaves of the list of pairs.
-- Assumes nothing.
use Rattle.std.proofs.Common.{rules, arith, ◌<◌, ◌≤◌, refl, length}
use Rattle.voice.specs.Keys.{held_of, without_of}
use Rattle.voice.proofs.Held.{held-few}
use Rattle.voice.proofs.Walk.{walk_starts, walk_drops, walk_keeps, walk_ends}
use Rattle.voice.proofs.keys.without.Goals as goal
use Rattle.voice.proofs.keys.without.Goals.{then-keys-i, else-keys-i}

pub loop-i-init : goal.loop-i-init
loop-i-init c =
    let k = c.args.keys in
    let few : c.held_count-held.result ≤ 16 = rw c.held_count-held.ensures (held-few k (search rules)) in
    (few, walk_starts c.args.note k (search rules) (search rules))

pub loop-i-preserved : goal.loop-i-preserved
loop-i-preserved c =
    let l = c.loop-i in
    let k = c.args in
    let h : l.i < length (held_of k.keys) = omega (arith, c.held_count-held.ensures) in
    elim c.if-keys-i.branch [
      | then-keys-i w ↦ rw (w.keys-is, w.kept-is) (l.invariant.0, walk_keeps k.note k.keys l.keys l.kept l.i l.invariant.1 (search rules) h w.if-keys-i.true)
      | else-keys-i w ↦ rw (w.keys-is, w.kept-is) (l.invariant.0, walk_drops k.note k.keys l.keys l.kept l.i l.invariant.1 h w.if-keys-i.false)
    ]

pub returns : goal.returns
unfolding without_of
returns c =
    let l = c.loop-i in
    let w = l.invariant.1 in
    let h : length (held_of c.args.keys) ≤ l.i = omega (arith, c.held_count-held.ensures) in
    rw (c.cleared.ensures, w.active, w.gate, walk_ends c.args.note c.args.keys l.keys l.kept l.i w h) refl
