-- `listing::list` meets its contract. Assumes nothing.
use mathlib.Core.Path.{refl, sym, ◌∙◌}
use borrow.Author.Rules.{rules}
use Rattle.listing.proofs.Puts.{listing_accepted, listing_refused, put-listed, put_nothing}
use Rattle.score.proofs.Verdicts.{accepted_all}
use Rattle.listing.proofs.list.Goals as goal
use Rattle.listing.proofs.list.Goals.{in-Ok, in-Err}

pub returns-then-out-lt-ROOM : goal.returns-then-out-lt-ROOM
returns-then-out-lt-ROOM c = put_nothing _ _ c.if-out-lt-ROOM.true

pub put_accepted-requires-clause-few : goal.put_accepted-requires-clause-few
put_accepted-requires-clause-few c = (accepted_all _ _ (sym c.judge.ensures ∙ c.in-Ok.is)).few

pub returns : goal.returns
returns c =
    elim c.match-judge.branch [
      | in-Ok w ↦ (let e = w.text-is in let p = w.put_accepted.ensures in
          let q = put-listed _ _ _ w.put_accepted.new.self refl c.if-out-lt-ROOM.false (listing_accepted _ _ (sym c.judge.ensures ∙ w.in-Ok.is)) p in
          let m = sym (rw (← e) at p.same_buffer) in
          search (rules, q, m))
      | in-Err w ↦ (let e = w.text-is in let p = w.put_refused.ensures in
          let q = put-listed _ _ _ w.put_refused.new.self refl c.if-out-lt-ROOM.false (listing_refused _ _ (sym c.judge.ensures ∙ w.in-Err.is)) p in
          let m = sym (rw (← e) at p.same_buffer) in
          search (rules, q, m))
    ]
