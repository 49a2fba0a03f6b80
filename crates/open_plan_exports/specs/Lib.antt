-- What other languages call over an open plan that they lend: functions over numbers and
-- slices, none of which asks anything of its caller.
pub mod Editing
pub mod Laws
