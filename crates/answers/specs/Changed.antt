-- What a call leaves that changes a state. 01, "What a call says": a refusal "hands back state by value as it came". No
-- samples are written, so the count is 0. Definitions only.
use Rattle.std.specs.Prelude.{List, Err, Ok}
use Rattle.answers.specs.Order.{first_of}
use Rattle.answers.specs.declared.Changed.{Changed}
use Rattle.answers.specs.declared.Refusal.{Refusal}

-- done with the state after, unless the call is refused
abbrev pub changed_or : {S : Type 0} → List Refusal → S → S → Changed S
changed_or refusals before after = first_of refusals (λ (why : Refusal). record { answer = Err why; state = before }) (record { answer = Ok 0; state = after })
