pub mod Records
pub mod Settings
pub mod Views
pub mod Laws
