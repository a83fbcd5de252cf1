-- The packet layer's own refusals by the figures of a state and a record.
pub mod Says
