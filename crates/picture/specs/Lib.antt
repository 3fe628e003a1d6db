pub mod Data
pub mod Reading
pub mod ReadLaws
pub mod Writing
pub mod WriteLaws
pub mod Cases
