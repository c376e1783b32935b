mod Choosing
pub mod Listing
