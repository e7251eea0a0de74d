-- Slices that a caller lends as one, what they hold, and what a call leaves in them. Definitions only.
use Rattle.sections.specs.declared.Buffers as lent
use Rattle.sections.specs.Outcome.{Buffers, lends, Outcome}

-- what the slices hold
abbrev pub held : lent.Buffers → Buffers
held b = lends b.heard.now b.stored.now b.magnitudes.now b.numbers.now

-- the same slices with other contents
abbrev pub filled : lent.Buffers → Buffers → lent.Buffers
filled b k =
    record {
      heard = record b.heard { now = k.heard };
      stored = record b.stored { now = k.stored };
      magnitudes = record b.magnitudes { now = k.summary.magnitudes };
      numbers = record b.numbers { now = k.summary.numbers };
    }

-- a call's result, and the slices at its exit
pub record OutcomeIn (R : Type 0) : Type 0 where
  pub result : R
  pub left : lent.Buffers

abbrev pub leaves_in : {R : Type 0} → R → lent.Buffers → OutcomeIn R
leaves_in r b = record { result = r; left = b }

-- an outcome left in the slices that were lent
abbrev pub left_in : {R : Type 0} → lent.Buffers → Outcome R → OutcomeIn R
left_in b o = leaves_in o.result (filled b o.left)
