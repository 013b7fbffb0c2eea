-- What a reader must believe, in the order to read it.

-- calls of a stream that never waits
pub mod Moving
-- one system call; for private functions
pub mod Tried
-- reads, and what was read and not fed
pub mod Reading
-- units move from a connection to what is to be written
pub mod Gathering
-- what stays of a connection that is lent
pub mod Lending
-- feeding what was read
pub mod Serving
-- what a fault says of the stream
pub mod Failing
-- octets that answer what was read, and are not written
pub mod Answering
-- what a slot does
pub mod Slotting
-- slots by key
pub mod Seating
