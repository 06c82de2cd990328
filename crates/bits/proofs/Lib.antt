pub mod Laws
pub mod Runs
pub mod Turns
pub mod With
pub mod Words
