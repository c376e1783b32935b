pub mod Insert
pub mod Terms
pub mod Public
pub mod More
