-- `shelf::same_but_count` meets its contract. Assumes nothing.
use mathlib.Core.Path.{sym, ap, ◌∙◌}
use lib.ListN.{length}
use Rattle.shelf.proofs.There.{entry_length}
use Rattle.shelf.proofs.Turns.{other_length, parts_decide}
use Rattle.shelf.proofs.same_but_count.Goals as goal

pub returns-then-stored-ne-ENTRY_WORDS : goal.returns-then-stored-ne-ENTRY_WORDS
returns-then-stored-ne-ENTRY_WORDS c = sym (other_length _ _ (λ e. c.if-stored-ne-ENTRY_WORDS.true (e ∙ entry_length c.args.state)))

pub returns : goal.returns
returns c = rw (c.eq.ensures, c.eq-2.ensures, ← c.encode-entry.ensures) (parts_decide c.args.stored.now c.encode-entry.result c.if-stored-ne-ENTRY_WORDS.false (ap length c.encode-entry.ensures ∙ entry_length c.args.state))
