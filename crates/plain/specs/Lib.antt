pub mod Arrivals
pub mod Both
pub mod Plain
