-- A call's single value: the value, or why the call was refused. 01, "What a call says": "A refusal returns number,
-- place, count 0 and any single value as +0": a refused call has no value here, and the number that C sees of one is +0
-- (specs/Ffi.antt of `ffi`). Definitions only.
use Rattle.std.specs.Prelude.{List, Result, Ok, Err}
use Rattle.answers.specs.Order.{first_of}
use Rattle.answers.specs.declared.Refusal.{Refusal}

-- the value x, unless the call is refused
abbrev pub value_or : {A : Type 0} → List Refusal → A → Result A Refusal
value_or refusals x = first_of refusals Err (Ok x)
