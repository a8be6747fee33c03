-- What a record that borrows window and line ends is made of.
pub mod Record
