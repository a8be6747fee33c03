-- Laws of gathering a set's records, of a set call, of a record by its number; that a promise allows one answer; that
-- a record of an input is shown and written; and calls and views computed.
pub mod Gathering
pub mod Numbers
pub mod Shown
pub mod Unique
pub mod UniqueViews
pub mod Sample
pub mod SampleViews
