pub mod TallyContracts
