-- What the word `rep` is declared by, and nodes at which it stands for the same type, as does `cvt` to the body of a routine.
use Rattle.std.specs.Prelude.{◌≡◌, ◌<◌, ℕ, true, false, codes, length, slice_get, Some}
use Rattle.clu_tree.specs.declared.node.NodeKind.TheVariants as kind
use Rattle.clu_syntax.specs.Kinds.{is_type}
use Rattle.clu_syntax.specs.Roles.{has_no_name}
use Rattle.clu_checking.specs.Files.{File, declaration, kind_in, names, round, stands_in}
use Rattle.clu_checking.specs.ConstantRules.{v31}
use Rattle.clu_names.specs.declared.scopes.Declared.{Declared}
use Rattle.clu_names.specs.Denotes.{is_rep}
use Rattle.clu_bindings.specs.declared.file.File.{File as Read}
use Rattle.clu_bindings.specs.Readers.{meaning_in}
use Rattle.clu_passes.specs.Clear.{IsOutside}
use Rattle.clu_passes.specs.Lost.{is_cvt_at}
use Rattle.clu_passes.specs.NamesKnown.{variable_of}

-- no name of a text is that word: what declares it is an equate without a name, which stands in a cluster, as the grammar has it
pub record IsRep (f : File) (e : ℕ) : Type 0 where
  pub equate : kind_in f e ≡ kind.Equate
  pub unnamed : has_no_name (names f e) ≡ true
  pub inside : stands_in f kind.Cluster e ≡ true

abbrev pub AreReps : File → Type 0
AreReps f = (j : ℕ) (d : Declared) → slice_get f.scope.declarations j ≡ Some d → is_rep d.name ≡ true → IsRep f d.node

-- both nodes stand in the same cluster, and see the same `rep`
pub record IsAtHome (f : File) (n t : ℕ) : Type 0 where
  pub cluster : (round f t).cluster ≡ (round f n).cluster
  pub rep : declaration f t (codes "rep") ≡ declaration f n (codes "rep")

-- the type of a variable that is named at a node: if it is `cvt` where it may stand, it stands in the same cluster
pub record IsVariableType (f : File) (n t : ℕ) : Type 0 where
  pub is : is_type (kind_in f t) ≡ true
  pub outside : IsOutside f t
  pub home : is_cvt_at f t ≡ true → v31 f t ≡ false → IsAtHome f n t

abbrev pub AreVariableTypes : File → Read → Type 0
AreVariableTypes f r = (n t : ℕ) → n < length f.nodes → variable_of (meaning_in r n) ≡ Some t → IsVariableType f n t
