pub mod Behind
pub mod Pairs
