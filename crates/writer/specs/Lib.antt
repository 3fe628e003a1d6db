pub mod Writing
pub mod Laws
pub mod Cases
pub mod ReadBack
