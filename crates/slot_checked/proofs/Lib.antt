-- One slot on lent arrays, whatever they hold: 3 and 2, and what a state needs of which both are ruled out.
pub mod Judging
pub mod Planned
pub mod Clearing
