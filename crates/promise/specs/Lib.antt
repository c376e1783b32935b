pub mod Run
pub mod Session
pub mod Promise
