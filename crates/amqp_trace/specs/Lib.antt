-- # What a reader must believe of traced frames, in the order to read it

-- text of printable characters, and octets within it
pub mod Printed
-- the standard's names of composite types and of their fields
pub mod Names
-- values as text
pub mod Values
-- the line of a frame
pub mod Lines
