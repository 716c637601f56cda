-- What the word `rep` is bound to at each node.
use Rattle.std.specs.Prelude.{ℕ, zero, suc, Bool, false, if◌then◌else◌, List, replicate, set, length, slice_get, codes, Option, Some, None}
use Rattle.clu_names.specs.declared.scopes.Declared.{Declared}
use Rattle.clu_names.specs.Denotes.{found, is_rep}
use Rattle.clu_names.specs.Latest.{is_local, outlasts, at, reaches}
use Rattle.clu_bindings.specs.Tables.{optional, table_to}

-- ---- as a name is

abbrev pub in_module : Option Declared → Bool
in_module (Some d) = is_local d.unit
in_module None = false

-- what a name denotes, if a module declares it inside itself
abbrev pub if_in_module : List Declared → Option ℕ → Option ℕ
if_in_module ds place = if in_module (at ds place) then place else None

unfoldable pub rep_found : List Declared → ℕ → Option ℕ
rep_found ds n = if_in_module ds (found ds (codes "rep") n)

-- ---- by two passes: what begins at each node, and what has begun up to it

abbrev pub declares_rep_in : Option ℕ → List ℕ → Bool
declares_rep_in (Some unit) name = is_rep name
declares_rep_in None name = false

abbrev pub declares_rep : Declared → Bool
declares_rep d = declares_rep_in d.unit d.name

module _ (ds : List Declared) where
  -- of the declaration d at a place and the one at `best` the one that counts
  abbrev pub outlasting : Declared → ℕ → Option ℕ → Option ℕ
  outlasting d place best = if outlasts d place (at ds best) best then Some place else best

  -- once a declaration of `rep` is noted at the first node of its scope
  abbrev pub with_begun : List (Option ℕ) → ℕ → Declared → List (Option ℕ)
  with_begun begun place d = if declares_rep d then set begun d.from (outlasting d place (optional (slice_get begun d.from))) else begun

  abbrev pub with_begun_at : List (Option ℕ) → ℕ → Option Declared → List (Option ℕ)
  with_begun_at begun place (Some d) = with_begun begun place d
  with_begun_at begun place None = begun

  -- once the first p declarations are
  unfoldable pub begun_to : ℕ → ℕ → List (Option ℕ)
  begun_to nodes zero = replicate nodes None
  begun_to nodes (suc p) = with_begun_at (begun_to nodes p) p (slice_get ds p)

  abbrev pub begun_of : ℕ → List (Option ℕ)
  begun_of nodes = begun_to nodes (length ds)

  -- of the declarations at two places the one that counts
  abbrev pub outlasting_from : Option Declared → ℕ → Option ℕ → Option ℕ
  outlasting_from (Some d) place best = outlasting d place best
  outlasting_from None place best = best

  abbrev pub outlasting_at : Option ℕ → Option ℕ → Option ℕ
  outlasting_at (Some place) best = outlasting_from (slice_get ds place) place best
  outlasting_at None best = best

  -- what counts, if its scope reaches the node
  abbrev pub reaching : Option ℕ → ℕ → Option ℕ
  reaching best n = if reaches n (at ds best) then best else None

  module _ (begun : List (Option ℕ)) where
    -- what counts of those that begin at the first n nodes
    unfoldable pub best_to : ℕ → Option ℕ
    best_to zero = None
    best_to (suc n) = outlasting_at (optional (slice_get begun n)) (best_to n)

    abbrev pub reached_at : ℕ → Option ℕ
    reached_at n = reaching (best_to (suc n)) n

    abbrev pub reached_of : ℕ → List (Option ℕ)
    reached_of nodes = table_to reached_at nodes
