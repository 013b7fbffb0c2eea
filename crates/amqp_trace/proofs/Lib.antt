pub mod Printed
pub mod Going
pub mod Tables
pub mod Entering
pub mod Digits
pub mod Showing
