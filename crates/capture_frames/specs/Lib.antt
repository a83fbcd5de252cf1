-- Captures, and the script that one becomes; examples; what the request says of it.
pub mod Frames
pub mod Script
pub mod Examples
pub mod Sentences
