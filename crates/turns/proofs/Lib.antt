pub mod Room
pub mod Calls
pub mod Loop
