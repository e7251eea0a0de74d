pub mod Lanes
pub mod Calls
pub mod LaneByLane
pub mod Single
