-- What a reader must believe.

-- what becomes of a message in doubt once a link is attached again
pub mod Resuming
