-- What it is that two halls hold the same, and the carrying of S-8. Definitions only.
pub mod Alike
pub mod Carrying
