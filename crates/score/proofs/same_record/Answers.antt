-- `score::same_record` meets its contract. Assumes nothing.
use Prim.Native.Nat.{ℕ, ◌+◌, ◌*◌, ◌<◌}
use native.Mathlib.Omega.{arith}
use Rattle.score.specs.Record.{byte_at}
use Rattle.score.proofs.Words.{same_by_words}
use Rattle.score.proofs.same_record.Goals as goal

pub returns : goal.returns
returns c = let a = c.args in let x : (k : ℕ) → byte_at a.s.now a.i k < 256 = λ k. omega (arith, c.type_inv.s (a.i * 10 + k)) in
    let y : (k : ℕ) → byte_at a.t.now a.j k < 256 = λ k. omega (arith, c.type_inv.t (a.j * 10 + k)) in
    rw (c.mark_at.ensures, c.mark_at-2.ensures, c.body_at.ensures, c.body_at-2.ensures)
    (same_by_words a.s.now a.i a.t.now a.j x y)
