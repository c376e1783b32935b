pub mod Closed
pub mod Closings
