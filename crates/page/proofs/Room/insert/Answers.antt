-- `page::Room::insert` meets its contract. Assumes nothing.
use mathlib.Core.Path.{◌≡◌}
use Prim.Native.Nat.{◌+◌, ◌-◌, ◌*◌}
use native.Mathlib.Omega.{arith}
use Rattle.page.proofs.Fronts.{Holds, space, next-inside, insert-stops, put_in, inserts}
use Rattle.page.proofs.Room.insert.Goals as goal

pub returns-then-len-eq-MOST_BYTES : goal.returns-then-len-eq-MOST_BYTES
returns-then-len-eq-MOST_BYTES c =
    let h : Holds c.self.inside.bytes c.self.inside.len c.args.self.now = record { whole = omega arith; inside = c.self.invariant; front = c.self.view_is; accepted = c.requires.accepted } in
    insert-stops _ _ _ h _ _ c.if-len-eq-MOST_BYTES.true

pub overflow_mul-at : goal.overflow_mul-at
overflow_mul-at c =
    let h : Holds c.self.inside.bytes c.self.inside.len c.args.self.now = record { whole = omega arith; inside = c.self.invariant; front = c.self.view_is; accepted = c.requires.accepted } in
    omega (arith, next-inside _ _ _ h _ _ c.next_not_below-at.ensures, space _ _ _ h c.if-len-eq-MOST_BYTES.false)

pub overflow_add-at : goal.overflow_add-at
overflow_add-at c =
    let h : Holds c.self.inside.bytes c.self.inside.len c.args.self.now = record { whole = omega arith; inside = c.self.invariant; front = c.self.view_is; accepted = c.requires.accepted } in
    omega (arith, next-inside _ _ _ h _ _ c.next_not_below-at.ensures, space _ _ _ h c.if-len-eq-MOST_BYTES.false)

pub copy_within-requires-clause-start_le_end : goal.copy_within-requires-clause-start_le_end
copy_within-requires-clause-start_le_end c =
    let h : Holds c.self.inside.bytes c.self.inside.len c.args.self.now = record { whole = omega arith; inside = c.self.invariant; front = c.self.view_is; accepted = c.requires.accepted } in
    omega (arith, next-inside _ _ _ h _ _ c.next_not_below-at.ensures, space _ _ _ h c.if-len-eq-MOST_BYTES.false)

pub copy_within-requires-clause-dest_in_bounds : goal.copy_within-requires-clause-dest_in_bounds
copy_within-requires-clause-dest_in_bounds c =
    let h : Holds c.self.inside.bytes c.self.inside.len c.args.self.now = record { whole = omega arith; inside = c.self.invariant; front = c.self.view_is; accepted = c.requires.accepted } in
    omega (arith, next-inside _ _ _ h _ _ c.next_not_below-at.ensures, space _ _ _ h c.if-len-eq-MOST_BYTES.false)

pub overflow_add-at-2 : goal.overflow_add-at-2
overflow_add-at-2 c =
    let h : Holds c.self.inside.bytes c.self.inside.len c.args.self.now = record { whole = omega arith; inside = c.self.invariant; front = c.self.view_is; accepted = c.requires.accepted } in
    omega (arith, next-inside _ _ _ h _ _ c.next_not_below-at.ensures, space _ _ _ h c.if-len-eq-MOST_BYTES.false)

pub slice_bounds-copy_from_slice-end : goal.slice_bounds-copy_from_slice-end
slice_bounds-copy_from_slice-end c =
    let h : Holds c.self.inside.bytes c.self.inside.len c.args.self.now = record { whole = omega arith; inside = c.self.invariant; front = c.self.view_is; accepted = c.requires.accepted } in
    omega (arith, c.copy_within.ensures.len, next-inside _ _ _ h _ _ c.next_not_below-at.ensures, space _ _ _ h c.if-len-eq-MOST_BYTES.false)

pub returns : goal.returns
returns c =
    let h : Holds c.self.inside.bytes c.self.inside.len c.args.self.now = record { whole = omega arith; inside = c.self.invariant; front = c.self.view_is; accepted = c.requires.accepted } in
    let at = c.next_not_below-at.result * 10 in
    let ten : at + 10 - at ≡ 10 = omega arith in
    inserts _ _ _ h _ c.args.i _ _ _ c.requires.given_len c.if-len-eq-MOST_BYTES.false c.position.ensures c.next_not_below-at.ensures
    (rw (c.copy_from_slice.ensures.after, c.copy_within.ensures.after) (put_in _ at _ _ ten))
