pub mod Answers
pub mod Words
pub mod Fields
pub mod Values
pub mod Tables
