pub mod Balance
pub mod CountStep
pub mod Tally
pub mod Total
pub mod Swing
pub mod Used
