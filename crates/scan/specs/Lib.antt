-- What the leaves answer and leave: where a line ends, bytes moved down, ends moved down, a part copied.
pub mod Scan
pub mod Move
pub mod Search
