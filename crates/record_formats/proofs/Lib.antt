pub mod Packets
pub mod Keys
