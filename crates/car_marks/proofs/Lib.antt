-- What a call of `any` over two lists says.
pub mod Some
