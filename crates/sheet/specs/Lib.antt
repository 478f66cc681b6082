pub mod Capped
pub mod Line
pub mod Print
pub mod Sheet
