mod Cutting
mod Digits
mod Form
mod Wishing
