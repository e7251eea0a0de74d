-- `low_notes::Tone::fill_segment` meets its contract: `fill_one_by_one` goes on where `fill_by_fours` ends. Assumes
-- nothing.
use native.Mathlib.Nat as nat
use Rattle.low_notes.proofs.Tone.fill_segment.Goals as goal

pub returns-then-is_rising : goal.returns-then-is_rising
returns-then-is_rising c = let first = c.fill_by_fours-fours.ensures in let then = c.fill_one_by_one.ensures in (nat.le_trans first.0 then.0, λ value straight p₀ xs u. then.1 value straight p₀ xs (first.1 value straight p₀ xs u))
