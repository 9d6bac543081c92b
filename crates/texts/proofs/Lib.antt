pub mod Digits
pub mod Lines
pub mod Fills
pub mod Room
