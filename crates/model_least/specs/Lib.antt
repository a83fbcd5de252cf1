-- The two cache sizes are the least: the lists that fill them, and the statement.
pub mod Least
