-- Laws of decimal digits, of putting them, and of the texts; and that a promise allows one answer.
pub mod Digits
pub mod Cursors
pub mod Telling
pub mod Unique
