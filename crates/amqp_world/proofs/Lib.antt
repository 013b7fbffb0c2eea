-- Frames that were sent, by their places in a journal.
pub mod Places
-- Ids of deliveries that were sent and heard, and ranges of them.
pub mod Ranges
pub mod SentIds
pub mod HeardIds
-- Two ends go on as two ends with each entry of one.
pub mod Appending
pub mod Meeting
pub mod Promising
pub mod Sending
pub mod Finding
-- What the octets of an end say to the other.
pub mod Channel
pub mod Said
pub mod Written
pub mod Octets
-- Two ends that hear each other until nothing waits.
pub mod HeardMore
