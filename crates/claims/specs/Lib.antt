pub mod Claim
pub mod ClaimStep
