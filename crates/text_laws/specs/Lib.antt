pub mod AskedOptions
pub mod PrintedAnswers
