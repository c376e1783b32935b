pub mod Rounds
pub mod Diagonals
pub mod Lanes
pub mod Bytes
pub mod Turning
pub mod Parts
