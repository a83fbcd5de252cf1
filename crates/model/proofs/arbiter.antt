-- The round robin arbiter of request 2.2: what it chooses, and that no queue waits long for it. The bound is a fact of
-- the ideal buffer and the choice alone: where a queue is not asked, the arbiter has come nearer, and the front byte is
-- the front still.
pub mod Choice
pub mod Waiting
pub mod Fair
