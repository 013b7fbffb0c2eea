pub mod Arguments
pub mod Aside
pub mod Calls
pub mod Numbers
pub mod Reading
pub mod Starting
