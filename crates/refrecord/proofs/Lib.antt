-- Each promise of the borrowing record allows one answer.
pub mod Unique
