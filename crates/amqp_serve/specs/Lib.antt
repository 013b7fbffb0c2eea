-- What a reader must believe, in the order to read it.

-- what an attach is answered with
pub mod Answering
-- what becomes of messages that came
pub mod Receiving
-- what becomes of messages that were sent
pub mod Returning
-- what goes into a transfer
pub mod Parts
-- how a connection is driven
pub mod Driving
