-- Tables by number, of which what isn't there is nothing.
use Rattle.std.specs.Prelude.{ℕ, zero, suc, ◌-◌, ◌&&◌, nat_le, if◌then◌else◌, List, [], ◌∷◌, ◌++◌, length, take, drop, slice_get, Option, Some, None}
use Rattle.clu_names.specs.Denotes.{end_in, end_of}

abbrev pub optional : {A : Type 0} → Option (Option A) → Option A
optional (Some item) = item
optional None = None

-- the items from one place up to another; none if there is no such part
abbrev pub between : {A : Type 0} → List A → ℕ → ℕ → List A
between items from to = if nat_le from to && nat_le to (length items) then take (to - from) (drop from items) else []

-- the items of the node n in a table in which those of each node stand together, from where `starts` says
unfoldable pub items_at : {A : Type 0} → List A → List ℕ → ℕ → List A
items_at table starts n = between table (end_in (slice_get starts n) (length table)) (end_of starts (length table) n)

-- what `f` gives for the numbers below n
unfoldable pub table_to : {A : Type 0} → (ℕ → A) → ℕ → List A
table_to f zero = []
table_to f (suc n) = table_to f n ++ f n ∷ []

-- the lists that `f` gives for them, one behind the other
unfoldable pub joined_to : {A : Type 0} → (ℕ → List A) → ℕ → List A
joined_to f zero = []
joined_to f (suc n) = joined_to f n ++ f n
