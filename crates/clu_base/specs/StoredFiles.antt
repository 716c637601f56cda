-- What a store in memory shows.
use Rattle.std.specs.Prelude.{ℕ, List, option_map}
use Rattle.std.specs.BTreeMap.{get_by_text}
use Rattle.clu_base.specs.Outside.{Files}
use Rattle.clu_base.specs.declared.files.MemStore.{MemStore}

-- the content of each file by its name
abbrev pub files_of : MemStore → Files
files_of s = λ name. option_map (λ v. v.items) (get_by_text s.files name)

-- the numbers of the calls that fail
abbrev pub failing_of : MemStore → List ℕ
failing_of s = s.failing.items

-- how many bytes of the new content a failing put leaves
abbrev pub torn_of : MemStore → ℕ
torn_of s = s.torn

-- how many calls there were, and how many of them failed
abbrev pub calls_of : MemStore → ℕ
calls_of s = s.calls

abbrev pub faults_of : MemStore → ℕ
faults_of s = s.faults
