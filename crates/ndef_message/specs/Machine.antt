-- Definitions for contracts and proofs about the states of the machines. The definitions beside this folder
-- don't name them.
pub mod Accepted
pub mod Begun
pub mod Checkers
pub mod DecoderState
pub mod Decoders
pub mod Encoding
pub mod Faults
pub mod Format
pub mod Fronts
pub mod Moves
pub mod Open
pub mod Payload
pub mod Points
pub mod Readers
pub mod Seen
pub mod SeenLaws
pub mod Slices
pub mod State
pub mod Stepping
pub mod Streams
pub mod Taken
pub mod Turns
pub mod Writing
