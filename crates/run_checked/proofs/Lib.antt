-- Many slots of which each is refused alike, and those that are run in place.
pub mod Runs
pub mod Idling
