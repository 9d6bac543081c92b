pub mod StoredLaws
pub mod PartLaws
pub mod CellLaws
pub mod Tables
pub mod Lent
