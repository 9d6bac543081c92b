pub mod Chains
pub mod Copies
