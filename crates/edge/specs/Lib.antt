-- What the functions of the host edge answer (01, module 9).
pub mod Edge
