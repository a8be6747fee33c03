-- What the writers of a record answer and leave in the output.
pub mod Refused
pub mod Rewrite
pub mod Current
pub mod Wrap
