-- The text of every writer, and what a writer answers and leaves in the output.
pub mod Text
pub mod Output
pub mod Listing
pub mod ReadBack
pub mod Need
pub mod Put
