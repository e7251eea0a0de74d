-- `score::first_equal` meets its contract. Assumes nothing.
use Rattle.std.proofs.Common.{ℕ, ◌+◌, ◌*◌, ◌<◌, ◌≡◌, ◌&&◌, eqb, rules, tests, arith, ◌∙◌, sym}
use Rattle.runs.proofs.First.{first_found}
use Rattle.score.specs.Record.{byte_at}
use Rattle.score.specs.Inner.{mark_at, body_at}
use Rattle.score.specs.Apart.{same_record}
use Rattle.score.proofs.Words.{same_by_words}
use Rattle.score.proofs.Sought.{sought_by, not-ten}
use Rattle.score.proofs.first_equal.Goals as goal

pub returns-then-bytes-ne-RECORD_SIZE : goal.returns-then-bytes-ne-RECORD_SIZE
returns-then-bytes-ne-RECORD_SIZE c = c.count-n.ensures ∙ sym (not-ten _ _ c.if-bytes-ne-RECORD_SIZE.true)

pub returns : goal.returns
returns c = let a = c.args in
    let x : (i k : ℕ) → byte_at a.score.now i k < 256 = λ i k. omega (arith, c.type_inv.score (i * 10 + k)) in
    let y : (k : ℕ) → byte_at a.bytes.now 0 k < 256 = λ k. omega (arith, c.type_inv.bytes (0 * 10 + k)) in
    let like : (i : ℕ) → eqb (mark_at a.score.now i) c.mark_at-mark.result && eqb (body_at a.score.now i) c.body_at-body.result
    ≡ same_record a.score.now i a.bytes.now 0 =
    λ i. rw (c.mark_at-mark.ensures, c.body_at-body.ensures) (same_by_words _ i _ 0 (x i) y) in
    c.unwrap_or.ensures ∙ first_found _ _ _ _ _ _ _ c.find.ensures.ran (λ i b q k. (search rules, search (rules, tests) ∙ like i)) (omega arith) (omega arith)
    ∙ sought_by _ _ c.if-bytes-ne-RECORD_SIZE.false
