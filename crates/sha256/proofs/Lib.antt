mod BitLaws
pub mod Rounds
pub mod WrittenOut
