pub mod Sight
pub mod Table
