-- Definitions for contracts and proofs about the states of the machines. The definitions beside this folder
-- don't name them.
pub mod Kind
pub mod Leaf
pub mod LeafLaws
pub mod TypeName
pub mod Utf16
pub mod Utf16Laws
pub mod Utf8
pub mod Utf8Laws
