-- What an operation of a built-in type is, by its row in the table.
use Rattle.std.proofs.Common.{◌≡◌, Bool, true, false, List, [], ◌∷◌, Option, Some, refl, ◌∙◌, subst}
use Rattle.clu_types.specs.CluType.{CluType}
use Rattle.clu_builtin.specs.declared.lookup.Builtin.{Builtin}
use Rattle.clu_builtin.specs.declared.needs.Need.{Need}
use Rattle.clu_builtin.specs.Operation.{Operation}
use Rattle.clu_builtin.specs.Built.{found_at, needs_at}
use Rattle.clu_reach.specs.declared.denoting.Sort.{Sort}
use Rattle.clu_reach.specs.Uses.{IsSortOf, sort_of_built}

same_sort : (types : List CluType) (iter : Bool) (needs : List Need) → sort_of_built iter needs ≡ sort_of_built iter (needs_at types needs)
same_sort types true needs = refl
same_sort types false [] = refl
same_sort types false (need ∷ needs) = refl

pub sort_found : (types : List CluType) (b : Builtin) (found : Option Operation) (s : Sort) → found_at types (Some b) ≡ found → s ≡ sort_of_built b.iter b.needs → IsSortOf found (Some s)
sort_found types b found s is same =
    let P : Option Operation → Type 0 = λ o. IsSortOf o (Some s) in
    subst P is (same ∙ same_sort types b.iter b.needs)
