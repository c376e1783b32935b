pub mod Steps
pub mod Reading
pub mod Apart
pub mod Tables
pub mod Rows
