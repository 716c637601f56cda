pub mod Immediates
pub mod RowLemmas
pub mod WordToInstr
pub mod InstrToWord
