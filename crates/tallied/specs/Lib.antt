pub mod TalliedContracts
