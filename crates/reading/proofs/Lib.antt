pub mod ReadClient
pub mod Looking
pub mod Filing
pub mod Listing
pub mod Foreseeing
pub mod PassedRead
