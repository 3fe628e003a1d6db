pub mod Signs
pub mod Rules
pub mod Choice
pub mod Decides
pub mod Spelt
pub mod Cases
