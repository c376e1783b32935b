pub mod Stages
pub mod Ciphers
pub mod Digits
pub mod Hellos
pub mod Replies
pub mod Malformed
pub mod Words
