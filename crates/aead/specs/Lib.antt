pub mod Closing
pub mod Behind
