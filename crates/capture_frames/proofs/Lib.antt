-- The laws of captures. Each file opens with what it shows and why.

-- The request's cases, computed.
pub mod Examples
-- The answers in their order.
pub mod Order
-- The header, byte by byte.
pub mod Headers
-- The frames, record by record.
pub mod Records
-- The frames are those of the records, and their bytes those of the capture.
pub mod RecordsSay
-- What is known of a capture that is good for its sizes.
pub mod Good
-- The commands: in order, and how long the script is.
pub mod Commands
-- The slots: their values, no request, eight queues.
pub mod Slots
-- What the slots answer: 4 never, and on a store that is long enough nothing but 5 for an arrival that is dropped.
pub mod Answers
-- What the request says, whole.
pub mod Sentences
