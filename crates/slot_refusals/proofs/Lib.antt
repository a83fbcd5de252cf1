-- Laws of the refusals, by topic.

-- 4 to 8, each by what its test has found.
pub mod Judging
-- 10.
pub mod Room
