-- How near a pitch is to equal temperament. 01: "each entry times 1.000001 lies above the equal-tempered pitch and
-- times 0.999999 below it, compared at twelfth powers (440^12 * 2^(note - 69)) over whole numbers".
--
-- A pitch x is num x / den x; both sides are multiplied by 2^69, by 1000000^12 and by den x ^ 12. Definitions only.
use Rattle.std.specs.Prelude.{ℕ, ◌*◌, ◌^◌, ◌<◌, Float}
use Rattle.std.specs.Float.Ieee.Positive.{num, den}

-- the twelfth power of the equal-tempered pitch, times 2^69
abbrev pub tempered : ℕ → ℕ
tempered note = 440 ^ 12 * 2 ^ note

pub record InTune (note : ℕ) (x : Float) : Type 0 where
  pub above : tempered note * (1000000 * den x) ^ 12 < (1000001 * num x) ^ 12 * 2 ^ 69
  pub below : (999999 * num x) ^ 12 * 2 ^ 69 < tempered note * (1000000 * den x) ^ 12
