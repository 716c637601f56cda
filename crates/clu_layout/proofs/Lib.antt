mod Sampling
mod PlainSamples
mod NumberSamples
mod StringSamples
mod ArraySamples
mod SequenceSamples
mod RecordSamples
mod OneofSamples
mod StreamSamples
mod InvocationSamples
mod OpenerSamples
mod Names
pub mod FieldNames
pub mod Laws
pub mod SameTypeLaws
pub mod CellLaws
pub mod CellsKept
pub mod UnchangedLaws
pub mod SignalsUnchanged
pub mod ListedLaws
pub mod SignalsListed
pub mod RightLaws
pub mod CellsRight
