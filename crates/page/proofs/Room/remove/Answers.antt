-- `page::Room::remove` meets its contract. Assumes nothing.
use native.Mathlib.Omega.{arith}
use Rattle.page.proofs.Fronts.{Holds, found_inside, record_inside, remove-stops, removes}
use Rattle.page.proofs.Room.remove.Goals as goal

pub overflow_mul-at : goal.overflow_mul-at
overflow_mul-at c =
    let h : Holds c.self.inside.bytes c.self.inside.len c.args.self.now = record { whole = omega arith; inside = c.self.invariant; front = c.self.view_is; accepted = c.requires } in
    omega (arith, found_inside _ _ _ h _ c.args.i _ c.first_equal-at.ensures)

pub returns-then-at-len : goal.returns-then-at-len
returns-then-at-len c =
    let h : Holds c.self.inside.bytes c.self.inside.len c.args.self.now = record { whole = omega arith; inside = c.self.invariant; front = c.self.view_is; accepted = c.requires } in
    remove-stops _ _ _ h _ _ _ c.first_equal-at.ensures c.if-at-len.true

pub overflow_add-at : goal.overflow_add-at
overflow_add-at c =
    let h : Holds c.self.inside.bytes c.self.inside.len c.args.self.now = record { whole = omega arith; inside = c.self.invariant; front = c.self.view_is; accepted = c.requires } in
    omega (arith, record_inside _ _ _ h _ c.args.i _ c.first_equal-at.ensures c.if-at-len.false)

pub copy_within-requires-clause-start_le_end : goal.copy_within-requires-clause-start_le_end
copy_within-requires-clause-start_le_end c =
    let h : Holds c.self.inside.bytes c.self.inside.len c.args.self.now = record { whole = omega arith; inside = c.self.invariant; front = c.self.view_is; accepted = c.requires } in
    omega (arith, record_inside _ _ _ h _ c.args.i _ c.first_equal-at.ensures c.if-at-len.false)

pub copy_within-requires-clause-dest_in_bounds : goal.copy_within-requires-clause-dest_in_bounds
copy_within-requires-clause-dest_in_bounds c =
    let h : Holds c.self.inside.bytes c.self.inside.len c.args.self.now = record { whole = omega arith; inside = c.self.invariant; front = c.self.view_is; accepted = c.requires } in
    omega (arith, record_inside _ _ _ h _ c.args.i _ c.first_equal-at.ensures c.if-at-len.false)

pub overflow_sub-self : goal.overflow_sub-self
overflow_sub-self c =
    let h : Holds c.self.inside.bytes c.self.inside.len c.args.self.now = record { whole = omega arith; inside = c.self.invariant; front = c.self.view_is; accepted = c.requires } in
    omega (arith, record_inside _ _ _ h _ c.args.i _ c.first_equal-at.ensures c.if-at-len.false)

pub returns : goal.returns
returns c =
    let h : Holds c.self.inside.bytes c.self.inside.len c.args.self.now = record { whole = omega arith; inside = c.self.invariant; front = c.self.view_is; accepted = c.requires } in
    removes _ _ _ h _ _ _ c.first_equal-at.ensures _ c.if-at-len.false c.copy_within.ensures.after
