pub mod Key
pub mod Term
pub mod Derivable
pub mod Laws
