pub mod CallValues
pub mod CallContracts
