mod AsBox
mod Steps
mod Unboxing
