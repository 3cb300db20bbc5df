pub mod AnswerScan
pub mod AnswerEntries
pub mod AnswerChanges
