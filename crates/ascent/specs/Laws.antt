-- What is proved: loops, turn by turn, and that what a step gives is small.
pub mod Bodies
