-- Worlds cut back, and the induction over those where one end has heard all that the other sent.
pub mod Plain
pub mod Lag
-- What an accepted step sends.
pub mod Sends
-- What is known of every world where one end has heard all that the other sent: windows, phases, ids of deliveries, and slots of links.
pub mod Windows
pub mod Opens
pub mod Phases
pub mod Over
pub mod Ids
pub mod Slots
pub mod SlotSteps
pub mod SlotKept
pub mod SlotOf
pub mod Named
pub mod Doing
pub mod SlotActs
pub mod NoneWait
pub mod Credit
-- What each step does to the counts and the credit of a link, and that both its ends agree on them.
pub mod Turns
pub mod TurnOwn
pub mod TurnHeard
pub mod Tallies
pub mod Counts
pub mod CountsKnown
pub mod CountsKept
pub mod CountsPass
pub mod DrainsKnown
pub mod Expected
-- The next frame is taken, kind by kind.
pub mod FrameKinds
pub mod Next
pub mod BeginTaken
pub mod EndTaken
pub mod DispositionTaken
pub mod FlowTaken
pub mod SessionTaken
pub mod AttachTaken
pub mod DetachTaken
pub mod LinkFlowTaken
pub mod TransferMet
pub mod TransferTaken
-- What each end still holds of the deliveries.
pub mod Members
pub mod LinkSteps
pub mod HeldSteps
pub mod Fresh
pub mod Closed
pub mod SendingIds
pub mod Attached
pub mod HeldKnown
pub mod TagFree
pub mod AllTaken
-- What waits to be taken, and what was taken.
pub mod LearnSteps
pub mod ReadySteps
pub mod Unused
pub mod TakenKnown
pub mod TakenPass
-- What was heard of deliveries was said of them.
pub mod SaidKnown
pub mod SettledKnown
pub mod OwnStates
pub mod OnSent
-- What was taken was sent, also on links that are left or gone.
pub mod TakenEver
pub mod SameSource
pub mod TakenFront
-- What was sent and is held is held by both.
pub mod Settles
pub mod MetKnown
-- What was learnt was said.
pub mod LearntSaid
-- Where nothing is on its way.
pub mod Answered
pub mod Unanswered
pub mod HearingEnds
pub mod OnReceived
pub mod Ordered
pub mod Serials
pub mod StatesKnown
pub mod Ended
pub mod Resting
pub mod Granted
pub mod Reopens
pub mod Unsettled
