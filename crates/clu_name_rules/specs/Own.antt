-- Where the declarations of nodes begin.
use Rattle.std.specs.Prelude.{ℕ, suc, ◌&&◌, nat_lt, List, [], ◌∷◌, length, replicate, get_or, set, if◌then◌else◌}
use Rattle.clu_names.specs.declared.scopes.Declared.{Declared}

-- notes the place k of a declaration of the node n, unless one before it is noted
abbrev pub noted : ℕ → ℕ → List ℕ → List ℕ
noted n k own = if nat_lt n (length own) && nat_lt k (get_or own n 0) then set own n k else own

-- notes the places of all, of which the first has the place k
abbrev pub noted_from : ℕ → List Declared → List ℕ → List ℕ
noted_from k [] own = own
noted_from k (d ∷ ds) own = noted_from (suc k) ds (noted d.node k own)

-- for each of so many nodes the place of its first declaration; the number of all where there is none
abbrev pub own_places : List Declared → ℕ → List ℕ
own_places ds nodes = noted_from 0 ds (replicate nodes (length ds))
