use Prim.Native.Nat.{◌≤◌, ◌+◌, ◌*◌}
use mathlib.Core.List.{◌++◌}
use Rattle.listing.specs.Inner.{Put}
use Rattle.listing.specs.Listing.{records_word, newline, decimal_of, lines_to}
use Rattle.listing.proofs.Text.put_accepted.Given as goal

abbrev pub invariant-loop-i : goal.invariant-loop-i
invariant-loop-i l =
    Put (records_word ++ decimal_of l.n ++ newline ++ lines_to l.score l.i) l.fn.self l.self
    × (l.self.len ≤ l.fn.self.len + 13 + l.i * 25)
