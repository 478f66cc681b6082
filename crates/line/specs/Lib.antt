pub mod Line
pub mod Turn
pub mod Tick
pub mod Course
