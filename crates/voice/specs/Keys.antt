-- The held keys. 01, "Steps": "Voice: `note_on` pushes if fewer than 16 are held and becomes active in any case.
-- `note_off` drops every held entry of that note, then, only if it was active, falls back to the last held, or lowers
-- the gate and returns true". "What must change shape": "`StackVec<(u8, u8), 16>` becomes two arrays and a count". "The
-- shelf": "active note 0 to 127 or 255, gate 1 exactly when it is not 255, held count at most 16, pairs in range"; "16
-- pairs (note, velocity), oldest first"; "unused pairs 0".
-- The actions are defined on the list of the held pairs, for any keys: the first `count` pairs are held, all 16 if
-- `count` is above 16. What an action gives has its unused pairs 0, whatever they were before.
-- 02, R-2: lifting a key says what became of the sound, one of three. Definitions only.
use Rattle.std.specs.Prelude.{Bool, true, false, not, cond, ◌&&◌, List, [], ◌∷◌, ◌++◌, map, ℕ, ◌-◌, ltb, leb, eqb, length, take, drop, replicate, Option, Some, None}
use Rattle.std.specs.List.{list_all}
use Rattle.voice.specs.declared.keys.NoteOff.TheVariants.{Released, FellBack, NoChange}
use Rattle.voice.specs.declared.keys.Keys.{Keys}
use Rattle.voice.specs.declared.keys.AfterLift.{AfterLift}

-- a held key
pub record Pair : Type 0 where
  pub note : ℕ
  pub velocity : ℕ

abbrev pub note_of : Pair → ℕ
note_of p = p.note

abbrev pub velocity_in : Pair → ℕ
velocity_in p = p.velocity

-- two lists side by side, as long as the shorter
unfoldable pub pairs : List ℕ → List ℕ → List Pair
pairs [] vs = []
pairs (n ∷ ns) [] = []
pairs (n ∷ ns) (v ∷ vs) = record { note = n; velocity = v } ∷ pairs ns vs

-- the held keys, oldest first
abbrev pub held_of : Keys → List Pair
held_of keys = pairs (take keys.count keys.notes) (take keys.count keys.velocities)

-- xs in an array of 16, the other places 0
abbrev pub padded : List ℕ → List ℕ
padded xs = xs ++ replicate (16 - length xs) 0

-- the keys whose held pairs are ps
abbrev pub keys_of : Option ℕ → Bool → List Pair → Keys
keys_of active gate ps = record { active = active; gate = gate; notes = padded (map note_of ps); velocities = padded (map velocity_in ps); count = length ps }

-- no key is down, and no note sounds
abbrev pub fresh_keys : Keys
fresh_keys = keys_of None false []

-- ---- a key goes down
-- one more pair at the end, if fewer than 16 are held
abbrev pub pushed : List Pair → Pair → List Pair
pushed ps p = cond (ltb (length ps) 16) (ps ++ p ∷ []) ps

unfoldable pub pressed_of : Keys → ℕ → ℕ → Keys
pressed_of keys n v = keys_of (Some n) true (pushed (held_of keys) (record { note = n; velocity = v }))

-- ---- a key goes up
-- the pairs of notes other than n, in their order
unfoldable pub others : ℕ → List Pair → List Pair
others n [] = []
others n (p ∷ ps) = cond (eqb p.note n) (others n ps) (p ∷ others n ps)

-- every held pair of n is dropped
unfoldable pub without_of : Keys → ℕ → Keys
without_of keys n = keys_of keys.active keys.gate (others n (held_of keys))

abbrev pub is_sounding : Option ℕ → ℕ → Bool
is_sounding None n = false
is_sounding (Some m) n = eqb m n

-- the last of the list p ∷ ps
unfoldable pub last_of : Pair → List Pair → Pair
last_of p [] = p
last_of p (q ∷ ps) = last_of q ps

-- the held keys do not change; in `released` no note sounds, in `fell_back_to` the note of the pair p
abbrev pub released : Keys → AfterLift
released keys = record { keys = record { active = None; gate = false; notes = keys.notes; velocities = keys.velocities; count = keys.count }; off = Released }

abbrev pub fell_back_to : Keys → Pair → AfterLift
fell_back_to keys p =
    record {
      keys = record { active = Some p.note; gate = keys.gate; notes = keys.notes; velocities = keys.velocities; count = keys.count };
      off = FellBack p.note p.velocity;
    }

-- the fall back to the last of the held pairs, or to none
abbrev pub fall_back_to : Keys → List Pair → AfterLift
fall_back_to keys [] = released keys
fall_back_to keys (p ∷ ps) = fell_back_to keys (last_of p ps)

abbrev pub fall_back_of : Keys → AfterLift
fall_back_of keys = fall_back_to keys (held_of keys)

-- the sound changes only if n sounded
unfoldable pub lifted_of : Keys → ℕ → AfterLift
lifted_of keys n = cond (is_sounding keys.active n) (fall_back_of (without_of keys n)) (record { keys = without_of keys n; off = NoChange })

-- ---- the limits
abbrev pub is_gate_right : Option ℕ → Bool → Bool
is_gate_right None gate = not gate
is_gate_right (Some n) gate = leb n 127 && gate

unfoldable pub at_most : ℕ → List ℕ → Bool
at_most m xs = list_all (λ x. leb x m) xs

-- the first c are at most 127, the others 0
abbrev pub is_filled : ℕ → List ℕ → Bool
is_filled c xs = at_most 127 (take c xs) && at_most 0 (drop c xs)

unfoldable pub is_keys : Keys → Bool
is_keys keys = is_gate_right keys.active keys.gate && leb keys.count 16 && is_filled keys.count keys.notes && is_filled keys.count keys.velocities
