pub mod UnitLaws
pub mod Keeping
pub mod Counting
pub mod Due
pub mod Placing
pub mod Standing
