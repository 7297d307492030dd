pub mod ListLaws
pub mod SliceLaws
pub mod PieceLaws
pub mod TnfLaws
pub mod ProfileLaws
pub mod Message
pub mod Record
