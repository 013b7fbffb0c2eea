-- What a reader must believe, in the order to read it.

-- two ends
pub mod Sides
-- what calls answer and change
pub mod Calls
-- what holds of every two ends
pub mod Promises
-- what the octets of an end say to the other
pub mod Octets
-- two ends that hear each other until nothing waits
pub mod AtRest
-- what the code keeps beside the journals
pub mod Knowing
