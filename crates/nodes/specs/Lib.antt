-- The definitions that the contracts over the nodes memory cite. Definitions only.
pub mod NodeContracts
