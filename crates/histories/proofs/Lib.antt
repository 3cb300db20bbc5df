pub mod Fooled
