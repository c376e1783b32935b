pub mod Session
pub mod Encrypted
pub mod Closed
