pub mod Effect
pub mod Obey
pub mod Questions
pub mod Keeps
pub mod Touched
pub mod Untouched
pub mod Cases
