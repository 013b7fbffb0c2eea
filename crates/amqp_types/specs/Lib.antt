-- # What a reader must believe of values, in the order to read it

-- the table of format codes
pub mod Codes
-- a value as plain data, independent of its place in memory
pub mod Datum
-- the plain data that a Value is
pub mod View
-- which octets encode a value
pub mod Grammar
-- the octets before the items of a list, and before a described value
pub mod Heads
-- the canonical encoding: an encoding (`canon_spells`), read back (`read_back`), the shortest (`canon_is_shortest`)
pub mod Canon
-- the values whose canonical encoding is the shortest
pub mod Shortest
-- # What only private functions and proofs speak of: nothing here needs belief

-- reading from left to right, as the readers do; proofs/Laws relates it to the grammar
pub mod Reading
-- the format code that the writer chooses
pub mod Writing
-- the octets between a code and the content, as the writer's private functions measure and write them
pub mod Forms
-- a value grouped by how its type is encoded, as the writer sees it
pub mod Shape
-- how a tag stores its octets
pub mod Tag
-- how Items and Boxed hold their values, for the toolchain
pub mod formers
