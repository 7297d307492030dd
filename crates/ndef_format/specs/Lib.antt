-- The format, in the order in which it can be read.

-- the messages that are accepted
pub mod Records
pub mod Messages
pub mod Limits
pub mod Kinds
pub mod Octets
pub mod Texts
pub mod Uris
pub mod Handovers
pub mod Nested
pub mod Payloads
pub mod Accepted
-- the bytes that are written
pub mod Canonical
-- where and why other bytes are refused
pub mod Positions
pub mod Reasons
pub mod HeadReasons
pub mod PayloadReasons
pub mod NestedReasons
pub mod Refusals
-- the texts that are printed, and the laws of all this
pub mod Shown
pub mod Sentences
pub mod Laws
