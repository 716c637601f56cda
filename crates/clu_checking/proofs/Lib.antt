pub mod Checking
pub mod First
mod ConstantSamples
mod CornerSamples
mod DemandSamples
mod ExceptionSamples
mod ExpressionSamples
mod InvokedSamples
mod ModuleSamples
mod NameSamples
mod OperationSamples
mod OrderSamples
mod PlaceSamples
mod RaiseSamples
mod RefusedSamples
mod ScopeSamples
mod SpecificationSamples
mod StatementSamples
mod TypeSamples
