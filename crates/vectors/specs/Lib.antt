-- Answers of the Rust (tests/vectors) to questions that the definitions of contracts and theorems answer alike, by computation.
pub mod Asked
pub mod Table
