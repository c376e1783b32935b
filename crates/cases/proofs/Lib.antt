pub mod Heard
pub mod Keeps
pub mod Rows
