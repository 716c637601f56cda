-- What the law says.
pub mod Laws
