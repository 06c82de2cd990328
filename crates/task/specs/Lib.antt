pub mod Tasks
pub mod One
pub mod Runs
pub mod Held
