pub mod AnswerText
pub mod ModelText
pub mod Pieces
pub mod Printable
pub mod RefusalText
pub mod RefutationText
pub mod StatusText
pub mod SummaryText
