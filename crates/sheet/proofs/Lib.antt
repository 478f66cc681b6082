pub mod LineLaws
pub mod PrintLaws
pub mod SheetLaws
