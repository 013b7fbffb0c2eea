-- What a reader must believe, in the order to read it.

-- what waits on a link, and what becomes of it
pub mod Waiting
-- how a map keeps it
pub mod Kept
-- the deliveries that the attach of the peer tells
pub mod PeerUnsettled
-- the map that an attach of ours tells
pub mod OurUnsettled
