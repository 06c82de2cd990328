pub mod Lines
pub mod Pairs
pub mod Texts
pub mod Written
