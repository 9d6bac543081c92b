pub mod Told
pub mod Sets
pub mod Given
