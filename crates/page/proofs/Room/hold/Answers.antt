-- `page::Room::hold` meets its contract. Assumes nothing.
use native.Mathlib.Omega.{arith}
use lib.Seq.{length-take-le}
use Rattle.page.proofs.Taken.{accepted-bytes}
use Rattle.page.proofs.Room.hold.Goals as goal

pub slice_bounds-copy_from_slice-end : goal.slice_bounds-copy_from_slice-end
slice_bounds-copy_from_slice-end c = accepted-bytes _ c.requires

pub copy_from_slice-requires : goal.copy_from_slice-requires
copy_from_slice-requires c = length-take-le _ _ (omega (arith, accepted-bytes _ c.requires))
