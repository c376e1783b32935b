pub mod Weak
pub mod Scripts
pub mod Attacks
pub mod Safeguards
