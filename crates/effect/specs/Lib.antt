pub mod Effect
pub mod Obey
pub mod Questions
pub mod Sets
pub mod Keeps
pub mod Cases
pub mod Touched
pub mod Beside
