pub mod Reading
pub mod Encoding
pub mod Decoding
pub mod Whole
pub mod Views
pub mod Laws
