pub mod Meaning
pub mod ReadAs
