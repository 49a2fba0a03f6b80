pub mod MachineBytes
pub mod MachineStored
-- What is proved about them.
pub mod Laws
