pub mod AnswerContracts
