pub mod Small
pub mod Stores
pub mod Orders
pub mod Untouched
