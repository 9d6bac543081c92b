pub mod Hooks
pub mod Stage
pub mod Moves
pub mod Onward
pub mod HeapStep
pub mod Kept
