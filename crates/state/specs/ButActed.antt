-- States apart from the number of records acted. 01 keeps that number in an entry ("65,536*records acted") and compares
-- it with the score (8 and 10); no sample depends on it ("Making sample n").
-- The laws of proofs/ButActed.antt use these definitions. Definitions only.
use Rattle.std.specs.Prelude.{◌≡◌, ℕ}
use Rattle.state.specs.declared.State.{State}

-- v with another number of records acted
abbrev pub with_acted : State → ℕ → State
with_acted v acted = record { phase = v.phase; envelope = v.envelope; frequency = v.frequency; velocity = v.velocity; keys = v.keys; acted = acted; lfo = v.lfo }

-- equal in every other field
abbrev pub SameButActed : State → State → Type 0
SameButActed v u = with_acted v 0 ≡ with_acted u 0
