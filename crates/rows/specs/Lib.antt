-- What the functions that write the program's text answer and leave.
pub mod Rows
pub mod Put
