-- Definitions for contracts and proofs about the states of the machines. The definitions beside this folder
-- don't name them.
pub mod BodyLaws
pub mod Demands
pub mod FrontLaws
pub mod Fronts
pub mod HeadLaws
pub mod NameLaws
pub mod NestedLaws
pub mod Nests
pub mod OctetLaws
pub mod Payloads
pub mod Phases
pub mod Reached
pub mod RecordLaws
pub mod RestLaws
pub mod SpanLaws
pub mod Spans
pub mod StatedReasons
pub mod TypedLaws
