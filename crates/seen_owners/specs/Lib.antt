pub mod Table
pub mod Tests
pub mod Laws
pub mod Sentences
