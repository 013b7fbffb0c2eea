-- What a reader must believe, in the order to read it.

-- the settings; what a session, a link and a delivery are to callers
pub mod Limits
pub mod View
-- tables of refusals, and frames that are sent
pub mod Refusing
pub mod Sending
pub mod OnLink
pub mod Telling
-- what a step does to deliveries
pub mod Deliveries
-- operations
pub mod Begin
pub mod Attach
pub mod Start
pub mod Carry
pub mod Abort
pub mod Dispose
pub mod Learn
pub mod Grant
pub mod Offer
pub mod Drained
pub mod Refresh
pub mod Take
pub mod Detach
pub mod Suspend
pub mod Rejoin
pub mod Resume
pub mod End
pub mod Beat
-- frames that are heard
pub mod Opened
pub mod PeerBegin
pub mod PeerAttach
pub mod Flow
pub mod PeerTransfer
pub mod PeerDisposition
pub mod PeerDetach
pub mod PeerEnd
-- all kinds together
pub mod Answer
-- what is shown and told beside
pub mod Status
pub mod RefusalNumbers
pub mod ViolationNumbers
pub mod ViolationAnswer
-- octets that are sent
pub mod Sliced
-- what the laws say
pub mod Sound
pub mod Ranges
pub mod Written
