-- `voice::keys::fallen_back` meets its contract: the last held pair is at index held - 1. Assumes nothing.
use Rattle.std.proofs.Common.{rules, arith, ◌≡◌, ◌∙◌, sym, refl, length}
use Rattle.voice.specs.Keys.{held_of}
use Rattle.voice.proofs.Held.{held-few, fall-none, held-last}
use Rattle.voice.proofs.keys.fallen_back.Goals as goal

pub returns-then-held-eq0 : goal.returns-then-held-eq0
returns-then-held-eq0 c = let k = c.args.keys in rw (fall-none k (held_of k) (sym c.held_count-held.ensures ∙ c.if-held-eq0.true)) refl

pub bounds-keys-held : goal.bounds-keys-held
bounds-keys-held c = omega (arith, c.held_count-held.ensures, held-few c.args.keys (search rules))

pub bounds-keys-held-2 : goal.bounds-keys-held-2
bounds-keys-held-2 c = omega (arith, c.held_count-held.ensures, held-few c.args.keys (search rules))

pub returns : goal.returns
returns c = let k = c.args.keys in let e = c.held_count-held.ensures in rw e (sym (held-last k (λ (h : length (held_of k) ≡ 0). c.if-held-eq0.false (e ∙ h))))
