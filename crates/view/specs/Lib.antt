-- What the views of a record answer and show.
pub mod Rising
pub mod Refused
pub mod View
pub mod Steps
pub mod Trimmed
pub mod Full
pub mod Shows
pub mod Current
