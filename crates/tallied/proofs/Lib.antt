pub mod TalliedLaws
