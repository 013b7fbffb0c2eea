pub mod Log
pub mod Units
pub mod Kept
