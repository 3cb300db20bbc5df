pub mod ReadContracts
