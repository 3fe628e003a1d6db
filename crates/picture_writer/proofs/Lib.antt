pub mod Stores
pub mod Encoding
