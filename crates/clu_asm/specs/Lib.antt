pub mod Mnemonics
pub mod AssemblyText
pub mod Places
pub mod Candidates
pub mod Lines
pub mod Faults
pub mod CutLines
