-- What a block call leaves: its result, and the lent numbers at its exit. 01, "What each statement must decide": "every
-- byte or word lent, refusals too". Definitions only.
use Rattle.std.specs.Prelude.{List, Float}

pub record Outcome (R : Type 0) : Type 0 where
  pub result : R
  pub lent : List Float

abbrev pub leaves : {R : Type 0} → R → List Float → Outcome R
leaves r xs = record { result = r; lent = xs }
