pub mod Again
pub mod AmountLaws
pub mod BehindLaws
pub mod DigitLaws
pub mod LineLaws
pub mod Shortest
pub mod ShownLaws
