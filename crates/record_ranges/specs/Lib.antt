pub mod Scan
pub mod Editions
