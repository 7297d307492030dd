-- Definitions for contracts and proofs about the states of the machines. The definitions beside this folder
-- don't name them.
pub mod Inside
pub mod InsideLaws
pub mod Reading
