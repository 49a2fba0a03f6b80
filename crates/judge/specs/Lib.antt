-- What the judging call answers, and what its passes over the list keep.
pub mod Contract
-- What is proved about them.
pub mod Laws
