-- Laws of the plan, by topic.

-- The queue that a slot will write, and the one that it will read.
pub mod Writes
pub mod Reading
-- The whole plan of a slot, as the code makes it.
pub mod Planning
-- That the plan by figures is that of the model's slot.
pub mod PaperPlan
