-- The order of refusals, one definition for all calls. 01, "What a call says": "Given exactly when"; "Order: 6, 7, the
-- old or only score, the new score (same numbers plus 16), then 8 or 10; 9 after 6. In a score 1 first, then each
-- record 2, 3, 4, 5."
--
-- A call lists its refusals in that order, each one unless its test passes. The first refusal in the list is the call's
-- answer, and decides the whole outcome. Definitions only.
use Rattle.std.specs.Prelude.{Bool, true, false, List, [], ◌∷◌}

-- the list of one refusal, or the empty list where the test passes
abbrev pub unless : {A : Type 0} → Bool → A → List A
unless true why = []
unless false why = why ∷ []

-- the outcome for the first refusal in the list, or `done` where the list is empty
abbrev pub first_of : {A R : Type 0} → List A → (A → R) → R → R
first_of [] refused done = done
first_of (why ∷ later) refused done = refused why
