-- Expressions, flat code and the machine, and what ties them.
pub mod Evaluating
pub mod Fitting
pub mod Fixed
pub mod Growing
pub mod Holding
pub mod Laws
pub mod Registers
pub mod Running
pub mod Sized
pub mod Standing
