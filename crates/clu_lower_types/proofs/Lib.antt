-- Lemmas of what lowering reads.
pub mod Listed
