pub mod Spelt
pub mod Lines
pub mod Texts
pub mod Shown
