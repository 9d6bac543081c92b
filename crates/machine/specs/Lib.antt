pub mod StepLaws
pub mod StartLaws
pub mod Told
