-- # What a reader must believe of messages

-- which octets spell a section
pub mod Sections
-- the order of sections, and which octets spell a message
pub mod Messages
-- which octets are written for a message
pub mod Written
-- the fields of header and properties
pub mod Headers
-- source and target
pub mod Termini
-- the types of these fields; the definitions for private functions in it need no belief
pub mod Fields
-- # What only private functions and proofs use: nothing here needs belief

-- a section that is found in the octets without copying it
pub mod InPlace
-- borrowed fields that are to be written
pub mod Lending
