-- `score::passes_fast_check` meets its contract. Assumes nothing.
use Prim.Native.Nat.{ℕ, ◌+◌, ◌*◌, ◌<◌}
use native.Mathlib.Omega.{arith}
use Rattle.score.specs.Record.{byte_at}
use Rattle.score.proofs.Words as words
use Rattle.score.proofs.passes_fast_check.Goals as goal

pub returns : goal.returns
returns c h = let a = c.args in let small : (j : ℕ) → byte_at a.score.now a.i j < 256 = λ j. omega (arith, c.type_inv.score (a.i * 10 + j)) in
    words.surely_right a.score.now a.i small (rw (c.mark_at-mark.ensures, c.word_at-last.ensures) at h)
