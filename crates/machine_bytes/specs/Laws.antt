-- What is proved about the definitions.
pub mod MachineBytes
pub mod EmptyMachine
pub mod MachineStored
