-- Request 2.7: the layer's slot, its lists, what is promised of them, the request's sentences of one slot, its worked
-- cases.
pub mod Packets
pub mod PacketLists
pub mod Whole
pub mod Sentences
pub mod Examples
