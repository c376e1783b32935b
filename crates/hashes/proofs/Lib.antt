mod Blocks
mod Holding
mod Ending
mod Keys
