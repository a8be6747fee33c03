-- Laws of growth and of its chain, and the uniqueness of its answer.
pub mod Laws
pub mod Chain
pub mod Unique
