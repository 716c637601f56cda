-- When an object of one type may stand where another type is wanted.
use Rattle.std.specs.Prelude.{◌≡◌, ℕ, List, ◌⊎◌}
use Rattle.clu_types.specs.CluType.{CluType, any_type, proc_of, iter_of, CluTypes, Signals, no_signals, signal_and}

-- a signal of this name with these objects is listed
abbrev pub HasSignal : List ℕ → CluTypes → Signals → Type 0
HasSignal name objects no_signals = ⊥
HasSignal name objects (signal_and n os rest) = ((n ≡ name) × (os ≡ objects)) ⊎ HasSignal name objects rest

-- each signal of the first list is one of the second
abbrev pub AreAmong : Signals → Signals → Type 0
AreAmong no_signals many = Unit {0}
AreAmong (signal_and n os rest) many = HasSignal n os many × AreAmong rest many

-- the type is a proctype of these arguments and results, and all its signals are among these
abbrev pub IsNarrowerProc : CluTypes → CluTypes → Signals → CluType → Type 0
IsNarrowerProc args results many (proc_of args' results' few) = (args' ≡ args) × (results' ≡ results) × AreAmong few many
IsNarrowerProc args results many _ = ⊥

-- the same for itertypes
abbrev pub IsNarrowerIter : CluTypes → CluTypes → Signals → CluType → Type 0
IsNarrowerIter args results many (iter_of args' results' few) = (args' ≡ args) × (results' ≡ results) × AreAmong few many
IsNarrowerIter args results many _ = ⊥

-- the second type is any, or both are routine types that differ only in that the second has more signals
abbrev pub IsNarrower : CluType → CluType → Type 0
IsNarrower a any_type = Unit {0}
IsNarrower a (proc_of args results signals) = IsNarrowerProc args results signals a
IsNarrower a (iter_of args results signals) = IsNarrowerIter args results signals a
IsNarrower a _ = ⊥

abbrev pub Included : CluType → CluType → Type 0
Included a b = (a ≡ b) ⊎ IsNarrower a b
