pub mod CopyLaws
pub mod RowLaws
pub mod SearchLaws
