-- What a reader must believe: one file; which octets spell a performative is amqp_performatives' (Spelling).

-- the performative in front of octets in two places
pub mod Finding
-- What only private functions and proofs speak of: nothing here needs belief.

-- octets in two places as one list
pub mod Halves
-- what a value's first octets say of it
pub mod Leaves
-- the fields of each composite type, by what they may hold
pub mod Rows
-- whether a value is of a composite type, by that table
pub mod Judging
