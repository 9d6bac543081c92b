pub mod Range
pub mod Names
pub mod Right
pub mod Tests
pub mod RangeStep
