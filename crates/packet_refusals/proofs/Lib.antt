-- That the packet layer's refusals by figures are the request's own.
pub mod Paper
