-- How the steps of a slot compose to the model's, each finding what it asks; and the states that are ready for one.
pub mod Compose
pub mod Standing
pub mod Deciding
