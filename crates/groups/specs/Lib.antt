pub mod Groups
pub mod Putting
pub mod Commute
pub mod Pictures
pub mod Laws
pub mod Cases
