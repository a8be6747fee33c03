-- Laws of the window: its tests, and that every step leaves it sound.
pub mod Laws
pub mod Unique
