pub mod Plan
pub mod Shape
pub mod Join
