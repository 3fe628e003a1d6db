pub mod Hook
pub mod Laws
