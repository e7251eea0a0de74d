-- `voice::keys::pressed` meets its contract: in both branches the arrays have the pairs of the definition. Assumes
-- nothing.
use Rattle.std.proofs.Common.{rules, arith, ◌≡◌, refl, length}
use Rattle.voice.specs.Keys.{held_of, keys_of, pressed_of}
use Rattle.voice.proofs.Held.{held-few, pushed_grows, pushed-stays}
use Rattle.voice.proofs.keys.pressed.Goals as goal
use Rattle.voice.proofs.keys.pressed.Goals.{then-keys-lt16, else-keys-lt16}

pub cleared-requires : goal.cleared-requires
cleared-requires c =
    elim c.if-keys-lt16.branch [
      | then-keys-lt16 w ↦ rw w.keys-is (omega arith)
      | else-keys-lt16 w ↦ rw (w.keys-is, c.held_count.ensures) (held-few c.args.keys (search rules))
    ]

pub returns : goal.returns
unfolding pressed_of
returns c =
    let a = c.args in
    let k = a.keys in
    let n : length k.notes ≡ 16 = search rules in
    let v : length k.velocities ≡ 16 = search rules in
    let e : c.held_count.result ≡ length (held_of k) = c.held_count.ensures in
    let p = c.if-keys-lt16.keys in
    let stored : keys_of p.active p.gate (held_of p) ≡ pressed_of k a.note a.velocity =
    elim c.if-keys-lt16.branch [
      | then-keys-lt16 w ↦ rw (w.keys-is, e, pushed_grows k.notes k.velocities n v k.count a.note a.velocity (omega arith)) refl
      | else-keys-lt16 w ↦ rw (w.keys-is, e, pushed-stays k.notes k.velocities n v k.count a.note a.velocity (omega arith)) refl
    ] in
    rw c.cleared.ensures stored
