pub mod Texts
pub mod Shapes
pub mod FieldRows
pub mod Held
pub mod Told
pub mod Nine
