pub mod Steps
pub mod Log
pub mod Laws
pub mod Turns
pub mod Ranges
pub mod Cuts
pub mod Cases
