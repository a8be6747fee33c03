-- Laws of the reader: refusal 11, reads and the calls beside them, what they leave, that no call refuses a state so
-- made, and that every promise allows one answer.
pub mod Sanity
pub mod Rising
pub mod RiseLaws
pub mod ReadLaws
pub mod LookLaws
pub mod FoundLaws
pub mod CallLaws
pub mod Made
pub mod Kept
pub mod LookKept
pub mod NeverState
pub mod Unique
