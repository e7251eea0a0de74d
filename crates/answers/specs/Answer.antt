-- What a call says: done, with the number of samples written, or refused. 01, "What a call says": "0 | done; count ..
-- samples written", and the rows under it. Definitions only.
use Rattle.std.specs.Prelude.{ℕ, Result}
use Rattle.answers.specs.declared.Refusal.{Refusal}

abbrev pub Answer : Type 0
Answer = Result ℕ Refusal
