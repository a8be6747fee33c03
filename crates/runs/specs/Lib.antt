-- Runs of a reader and what is owed of them: demand 3, resuming, progress, what refusals leave, `position` by what was heard; and
-- sample runs.
pub mod Run
pub mod Demand
pub mod Refusals
pub mod Position
pub mod Progress
pub mod Served
pub mod Resume
pub mod Standing
pub mod Sets
pub mod Samples
pub mod Listed
