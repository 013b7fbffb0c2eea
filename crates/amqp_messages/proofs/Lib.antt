pub mod Described
pub mod Bodies
pub mod OneKind
pub mod Sequences
pub mod Canonical
pub mod FieldLaws
pub mod Descriptors
pub mod LendingLaws
