pub mod Combining
pub mod Going
pub mod Evaluating
pub mod Executed
pub mod Levels
pub mod TypedFacts
pub mod TypedElements
pub mod TypedComputing
pub mod FittingLaws
pub mod FittingOperations
pub mod FittingSelectors
pub mod FittingInvoked
pub mod TypedMaking
pub mod TypedHeadings
pub mod TypedFine
pub mod TypedCalls
pub mod TypedEvaluating
pub mod TypedExecuted
pub mod TypedRun
mod Running
mod BasicPrograms
mod ExpressionPrograms
mod VariablePrograms
mod HandlerPrograms
mod ResignalPrograms
mod LoopPrograms
mod IteratorPrograms
mod BoolPrograms
mod IntPrograms
mod CharPrograms
mod StringPrograms
mod ArrayPrograms
mod SharingPrograms
mod RangePrograms
mod SequencePrograms
mod SubsequencePrograms
mod RecordPrograms
mod OneofPrograms
mod StreamPrograms
mod RoutinePrograms
mod AnyPrograms
mod OwnPrograms
mod ClusterPrograms
mod ParameterPrograms
mod CopyPrograms
mod FailurePrograms
mod WrongPrograms
mod WorkPrograms
mod FilePrograms
mod NamedPrograms
mod RulePrograms
mod InstancePrograms
mod CounterPrograms
