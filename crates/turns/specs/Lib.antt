pub mod Taking
pub mod Room
pub mod Calls
pub mod Loop
pub mod Begins
