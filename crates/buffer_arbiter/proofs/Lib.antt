-- A slot on the arrays of a record, told of the record; and how long a queue waits over such calls.
pub mod ByValue
pub mod Served
