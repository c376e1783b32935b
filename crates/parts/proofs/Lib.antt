mod Texts
mod Hexes
