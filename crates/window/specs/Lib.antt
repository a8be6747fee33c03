-- What a window holds and asks for (01, "The window and its refills"), for a reader of any format.
pub mod Offset
pub mod Fill
