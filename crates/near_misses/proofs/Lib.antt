pub mod Broken
pub mod Leaks
pub mod Quiet
pub mod Safeguards
