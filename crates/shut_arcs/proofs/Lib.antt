-- What a call of `any` says.
pub mod Some
