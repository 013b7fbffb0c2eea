-- # What a reader must believe of flow control, in the order to read it: all of it

-- numbers that wrap, their order and their ranges
pub mod Serial
-- the windows of a session, and what each call leaves of them
pub mod Windows
-- the credit of a link, at either end
pub mod Credit
-- what a flow leaves of the credit at the sender
pub mod Sender
-- what a flow leaves of the credit at the receiver, and which grants are refused
pub mod Receiver
