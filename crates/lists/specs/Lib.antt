pub mod Occ
pub mod Chain
pub mod Flat
pub mod Tab
pub mod Each
pub mod Heap
