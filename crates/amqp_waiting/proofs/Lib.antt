mod Entries
mod Growing
mod Meeting
mod Aside
mod FirstPlaces
mod ReadBack
mod Values
