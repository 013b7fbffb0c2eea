-- What a reader must believe of frames, in reading order. amqp_performatives (Spelling) defines which octets encode a
-- performative, and amqp_types (Grammar) which encode a value.

-- which octets are a frame, are unfinished or show a fault, and the frames of a stream
pub mod Framing
-- the octets of a written frame, or the refusal
pub mod Written
-- the result of measuring: the size of a frame, or why it is not written
pub mod Measuring
-- the bodies of borrowed parts
pub mod Lent
-- frames that can always be written
pub mod Brief
-- a framer, and what a piece of octets makes of it
pub mod Framer
-- what a framer makes of all frames of a piece
pub mod Stream
-- octets that arrived, lent or shared
pub mod Octets
-- feeding with the frame left in a slot
pub mod Slots
-- a frame behind other octets (`Appended`, at the end; the rest describes the private writer's small buffer)
pub mod Plain
-- the numbers of faults and refusals
pub mod Numbers
-- What only private functions and proofs speak of: nothing here needs belief.

-- fields, lists and their sizes, as the writer goes over them
pub mod Field
-- a header as its numbers
pub mod Header
-- why octets are not a frame's contents
pub mod Contents
-- octets in room of a known size
pub mod Buffer
