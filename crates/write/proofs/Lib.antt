-- Laws of the writers' texts, of their lengths, and of filling the output with them; that a promise allows one answer; and reading back.
pub mod Wrap
pub mod Lengths
pub mod Putting
pub mod Filling
pub mod Unique
pub mod ReadBack
