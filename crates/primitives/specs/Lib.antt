pub mod Group
pub mod Signatures
pub mod Derived
pub mod Seals
