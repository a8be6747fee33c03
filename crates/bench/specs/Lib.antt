-- The bench list (01): its eleven P cases as one table over the definitions that contracts and theorems cite.
pub mod Table
