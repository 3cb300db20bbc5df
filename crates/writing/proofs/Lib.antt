pub mod WriteSteps
pub mod Retiring
pub mod Foreseeing
pub mod PassedWrite
