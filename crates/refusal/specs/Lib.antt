-- What every refusal keeps to.
pub mod Refusal
