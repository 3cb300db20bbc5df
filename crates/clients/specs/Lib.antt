pub mod ClientContracts
