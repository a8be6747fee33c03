-- What a whole input means (01): lines, records, and the answers that are due. Definitions alone; their laws stand in proofs/.
pub mod Line
pub mod Input
pub mod Parts
pub mod Due
pub mod Ascii
pub mod OnePass
