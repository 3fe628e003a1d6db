pub mod Number
pub mod Range
pub mod PowerOn
pub mod With
pub mod Parts
pub mod Laws
pub mod Core
pub mod Fields
