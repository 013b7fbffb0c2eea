-- What a reader must believe, in the order to read it.

-- what an entry of a journal says of deliveries; things that began, with the events since
pub mod Event
pub mod Since
-- the unsettled deliveries, and what is named as ended
pub mod Unsettled
pub mod Named
-- what the sender is told
pub mod States
pub mod Told
-- the deliveries of a link
pub mod Joined
-- what is required of events, and what the laws say
pub mod Numbers
pub mod Tags
pub mod Laws
-- the words of a table of unsettled deliveries
pub mod Table
