pub mod Text
pub mod Lines
pub mod Playing
pub mod Laws
