-- Laws of rising ends, of heads and lines, and of the views' cases.
pub mod Rises
pub mod Heads
pub mod Cases
pub mod TrimmedLemmas
pub mod Joins
pub mod Places
pub mod Meaning
pub mod Within
pub mod Inside
pub mod Unique
