pub mod Stream
pub mod Turns
pub mod Frames
pub mod Demand
