pub mod Lines
pub mod LineLaws
pub mod Texts
pub mod TextLaws
