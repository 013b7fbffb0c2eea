-- What a reader must believe, in the order to read it.

-- how much credit a receiver grants
pub mod Credit
-- heartbeats and silence
pub mod Waits
-- what an outcome means
pub mod Outcome
-- which messages of a sender are in doubt
pub mod Sent
-- what the calls on them did, one after another
pub mod SentHistory
-- which messages of a receiver are in doubt
pub mod Received
-- what the calls on them did, one after another
pub mod ReceivedHistory
-- messages in memory, by address
pub mod Queues
-- pauses between attempts to connect
pub mod Backoff
