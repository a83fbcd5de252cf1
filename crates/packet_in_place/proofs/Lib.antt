-- Why the composition is the model's slot of the packet layer.
pub mod Composed
