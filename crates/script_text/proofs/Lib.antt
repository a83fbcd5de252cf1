-- Laws of what a script prints. Each file opens with what it shows and why.

-- The definitions say what the paper says.
pub mod Examples
-- Slots in two parts, and quiet ones.
pub mod Append
-- The numbers of dropped halves.
pub mod HalfNumbers
-- How much a script can print: the length of a line, what is delivered, what slots and commands pay for, and the bound.
pub mod Lengths
pub mod Delivered
pub mod SlotCharges
pub mod ScriptCharges
pub mod Bound
-- What no script prints, and what the program needs to read and to lend.
pub mod Never
pub mod Program
