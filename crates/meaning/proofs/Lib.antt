-- Laws of the meaning of an input.
pub mod Lines
pub mod Bytes
pub mod OnePass
pub mod Ends
pub mod Marks
pub mod Due
pub mod Places
