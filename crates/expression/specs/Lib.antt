pub mod Numbers
pub mod Compare
pub mod Mid
pub mod Concat
pub mod Build
