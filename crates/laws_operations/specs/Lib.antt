-- The code of the operations, and what it comes to beside their rows.
pub mod CellSteps
pub mod Comes
pub mod Leaves
pub mod LoadCodes
pub mod LoopCodes
pub mod LoopRows
pub mod NumberCodes
pub mod PlainCodes
pub mod Puts
pub mod Rows
pub mod Steps
