pub mod Sealings
