pub mod Shown
pub mod Same
