pub mod Cursor
pub mod Onward
pub mod Failures
pub mod Gathering
pub mod Keeping
pub mod Seats
pub mod Turning
pub mod Spans
