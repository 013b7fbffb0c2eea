-- What a reader must believe, in the order to read it.

-- words over a journal that is read backwards; what one entry says; frames after our end are dropped
pub mod Past
pub mod Said
pub mod Live
-- one link, over its own past: its attaches, its deliveries, its credit
pub mod Attaches
pub mod Transfers
pub mod Sending
pub mod Receiving
pub mod Brought
-- which entries concern which link; the session and its windows
pub mod Links
pub mod Session
pub mod Windows
-- what the session is after a journal
pub mod At
-- journals of which each reply is the definitions'; what the laws say
pub mod Lawful
pub mod DeliveryLaws
pub mod Written
