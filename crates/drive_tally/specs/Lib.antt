-- What is counted of a drive that another house laid: foreign arcs and gaps, the cost, and the must arcs that are missed.
pub mod Rows
pub mod Tally
pub mod Laws
