pub mod Replay
pub mod ReplayLaws
pub mod Runner
pub mod RunnerLaws
pub mod BlockLaws
pub mod Told
