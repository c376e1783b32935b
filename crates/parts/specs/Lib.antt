pub mod Lines
pub mod Parts
pub mod Described
pub mod Shown
pub mod Hex
