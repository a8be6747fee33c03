-- Laws of the writers' cases, of wrapped lines and of a record's text; that a promise allows one answer; that a record of an input is written
-- as its meaning has it; and reading back.
pub mod Cases
pub mod Columns
pub mod Records
pub mod Unique
pub mod Meaning
pub mod ReadBack
