pub mod WriteContracts
