pub mod CountLaws
pub mod Bench
