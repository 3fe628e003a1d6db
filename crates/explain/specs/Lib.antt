pub mod Changes
pub mod Commands
pub mod Tally
pub mod Values
