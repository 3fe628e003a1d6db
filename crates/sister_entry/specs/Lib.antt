pub mod Keys
pub mod Rules
pub mod Cases
pub mod Ranges
pub mod Sets
