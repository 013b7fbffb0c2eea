-- How our containers hold their values, so that a value can contain values through them.
pub mod boxed
pub mod items
