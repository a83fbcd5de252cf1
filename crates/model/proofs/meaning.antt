-- The definitions say what the paper says: its steps, ten slots worked by hand, the queue that is written, the scan and
-- the margin; and what the statements of demand 3 rule out.
pub mod Steps
pub mod Worked
pub mod Fullest
pub mod Scan
pub mod Place
pub mod Margin
pub mod RuledOut
