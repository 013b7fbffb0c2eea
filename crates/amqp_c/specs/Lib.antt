pub mod Both
pub mod Held
pub mod Lending
pub mod OnHeld
