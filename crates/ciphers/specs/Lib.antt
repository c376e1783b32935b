pub mod ChaCha20
pub mod Parts
pub mod Examples
pub mod Lanes
