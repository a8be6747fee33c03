-- What the writers answer as numbers, and that each promise of the edge allows one answer.
pub mod Told
pub mod Unique
