pub mod CheckContracts
