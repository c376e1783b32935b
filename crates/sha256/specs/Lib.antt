pub mod Words
pub mod Sha256
