-- Which modules of a library name which, as lines of text.
use Rattle.std.specs.Prelude.{◌++◌, ℕ, List, ◌∷◌, Option, Some, None, codes, take}
use Rattle.std.specs.List.{flat_map}
use Rattle.clu_library.specs.Contents.{Contents, body_of}
use Rattle.clu_library.specs.declared.body.Body.{Body}

-- names, each after a blank
abbrev pub names_text : List (List ℕ) → List ℕ
names_text names = flat_map (λ name. 32 ∷ name) names

-- the names of a body; `*` stands for all
abbrev pub those_of : Option (List (List ℕ)) → List ℕ
those_of None = codes " *"
those_of (Some names) = names_text names

-- the same where there is a body, or `-`
abbrev pub body_text : Option Body → List ℕ
body_text None = codes " -"
body_text (Some body) = those_of body.names

-- the line of a module
abbrev pub module_text : Contents → List ℕ → List ℕ
module_text library name = ((name ++ codes ":") ++ body_text (body_of library name)) ++ codes "\n"

-- a line for each of so many modules; a library keeps at most 4096
abbrev pub lines_to : Contents → ℕ → List ℕ
lines_to library count = flat_map (λ s. module_text library s.name) (take count library.specs)

abbrev pub cross_reference : Contents → List ℕ
cross_reference library = lines_to library 4096
