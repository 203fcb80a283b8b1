pub mod WrittenLines
pub mod Lines
pub mod LineViews
pub mod LineRefusals
pub mod LineCauses
pub mod Progress
pub mod ProgressViews
