pub mod Parts
pub mod Tags
pub mod First
pub mod Complete
pub mod Sound
pub mod Agree
pub mod OneSpelling
pub mod Found
