pub mod Sessions
pub mod WrittenBack
