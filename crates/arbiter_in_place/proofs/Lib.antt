-- Why the composition is the model's slot.
pub mod Composed
