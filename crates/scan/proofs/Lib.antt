-- Laws of the leaves: a turn of each loop, and what callers cite.
pub mod LeadLaws
pub mod LineLaws
pub mod MoveLaws
pub mod Paste
pub mod SearchLaws
pub mod Unique
