pub mod ListLaws
pub mod PrintedLaws
pub mod SameLaws
pub mod WalkLaws
