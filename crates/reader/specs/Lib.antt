-- The reader (01, modules 4 and 7): its state and refusal 11, reads, and the calls beside them.
pub mod State
pub mod Read
pub mod Look
pub mod Calls
pub mod Refusals
