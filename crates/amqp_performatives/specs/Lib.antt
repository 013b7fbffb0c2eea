-- # What a reader must believe of performatives, in the order to read it

-- what a composite type says of a value: a described list of fields
pub mod Part
-- the table of composite types: the number and the name of each descriptor
pub mod Composite
-- the fields of each composite type, in their order
pub mod Bodies
-- which values fields may hold
pub mod Fair
-- which octets spell a performative
pub mod Spelling
-- what a performative is called, and how many of its fields are written
pub mod Named
-- bodies that have their mandatory fields alone
pub mod Bare
-- which delivery states are outcomes
pub mod Outcome
-- # What only the functions speak of that this product's writers stand on

-- the fields of a composite, borrowed one after the other
pub mod Listed
