pub mod Hex
pub mod Frames
pub mod HexLaws
pub mod LoopLaws
pub mod LineLaws
pub mod TextLaws
pub mod Examples
