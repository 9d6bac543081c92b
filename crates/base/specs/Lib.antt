pub mod Pick
pub mod Arms
pub mod Searches
pub mod Clears
