pub mod Sister
pub mod Agree
pub mod Own
