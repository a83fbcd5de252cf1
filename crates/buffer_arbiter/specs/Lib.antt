-- What a slot by value promises in which the arbiter chooses, and how long a queue waits over such calls.
pub mod Says
pub mod Served
