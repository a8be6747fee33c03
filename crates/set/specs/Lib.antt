-- Record sets (01, module 6): what a set is, what a set call answers and leaves.
pub mod Set
pub mod Read
pub mod Record
pub mod Views
pub mod Shown
