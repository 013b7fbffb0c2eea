pub mod Cuts
pub mod Decimal
pub mod Entries
pub mod KnownOctets
