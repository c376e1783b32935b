pub mod Hmac
pub mod Streams
pub mod Examples
