-- What the sizing rule and the derived sizes promise.
pub mod Says
