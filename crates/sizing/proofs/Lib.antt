-- A law of the sizing rule.
pub mod Laws
