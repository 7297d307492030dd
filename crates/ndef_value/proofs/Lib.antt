pub mod Equality
pub mod Unique
pub mod Canonical
pub mod Bounds
pub mod Ranks
pub mod Shortest
