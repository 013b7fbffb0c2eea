-- What a reader must believe: one file; all else that the public contracts say is amqp_performatives' (Spelling) and amqp_types' (Grammar).

-- a performative left in a slot: the same as a returned one
pub mod Slots
-- What only private functions and proofs speak of: nothing here needs belief.

-- what the reader of a whole performative promises
pub mod ReadPerformatives
-- one field, and the others after it
pub mod Reading
-- a described list: its descriptor and its items
pub mod Opening
-- all fields of a list, and borrowed parts as what they stand for
pub mod Parts
-- delivery states by their descriptors
pub mod States
-- the bodies that borrowed fields and what wants memory make
pub mod ReadBodies
-- a value that lies in octets
pub mod Borrowed
-- the bodies of open, begin and attach from borrowed fields
pub mod ReadSetup
