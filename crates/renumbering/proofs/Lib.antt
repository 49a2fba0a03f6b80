-- What a call of `from_fn` makes.
pub mod Made
