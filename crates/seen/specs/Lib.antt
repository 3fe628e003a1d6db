pub mod Line
pub mod LineLaws
pub mod Rows
pub mod Columns
pub mod Laws
pub mod Cases
pub mod Agree
