pub mod Table
pub mod Widths
pub mod Carried
pub mod Judging
pub mod Tests
