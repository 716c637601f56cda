-- A file whose names, values and refused nodes are known as the calls before the headings make them, so that names and types at its nodes
-- are those of the definitions.
use Rattle.std.specs.Prelude.{◌≡◌, ◌<◌, ℕ, true, false, List, [], ◌∷◌, length, codes, Some}
use Rattle.clu_parser.specs.Trees.{Text}
use Rattle.clu_types.specs.declared.term.Term.{Term}
use Rattle.clu_syntax.specs.Items.{Item}
use Rattle.clu_checking.specs.Settled.{value_settled}
use Rattle.clu_checking.specs.Typing.{is_type_value}
use Rattle.clu_checking.specs.Specifications.{Specification}
use Rattle.clu_checking.specs.Files.{File, children, equate_named, is_refused, item, kind_in, round, scope_in}
use Rattle.clu_checking.specs.Headings as headings
use Rattle.clu_checking.specs.ConstantRules.{is_cluster_round, is_no_type_side}
use Rattle.clu_checking.specs.Refusals.{refused_nodes}
use Rattle.clu_bindings.specs.declared.file.File.{File as Read}
use Rattle.clu_bindings.specs.declared.file.Headed.{Headed}
use Rattle.clu_bindings.specs.Inside as bound
use Rattle.clu_bindings.specs.Inside.{type_inside}
use Rattle.clu_bindings.specs.Owned.{AreOwned}
use Rattle.clu_name_rules.specs.declared.tables.Tables.{Tables}
use Rattle.clu_passes.specs.Clear.{IsOutside}
use Rattle.clu_passes.specs.ConstantTables.{IsKnown, file_with}
use Rattle.clu_passes.specs.FactTables.{IsType}
use Rattle.clu_passes.specs.Lost.{is_cvt_at}
use Rattle.clu_passes.specs.Made.{IsWhole}
use Rattle.clu_passes.specs.Reps.{AreReps, AreVariableTypes, IsAtHome}

-- by counts of refused nodes a node is refused just if it is; in brackets what is refused before it may be told by another rule
abbrev pub AreCountsTold : File → Headed → Type 0
AreCountsTold f h = (n : ℕ) → n < length f.nodes → IsOutside f n → is_refused f n ≡ bound.is_refused h n

-- the right side of the `rep` that counts at the node is known, and a type
abbrev pub IsRepFine : File → Read → ℕ → Type 0
IsRepFine f r n = (e c : ℕ) (cs : List ℕ) → equate_named f n (codes "rep") ≡ Some e → children f e ≡ c ∷ cs → IsKnown r c × ((is_no_type_side f (kind_in f c) c ≡ false) × (is_type_value (value_settled f.scope (item f c).constant) ≡ true))

-- `cvt` at t as the body in which n stands sees it, which is that of the routine m, in the same cluster
abbrev pub AreCvtsKnown : File → Headed → List Term → Type 0
AreCvtsKnown f h terms = (items : ℕ → Item) (n m t : ℕ) → n < length f.nodes → is_cvt_at f t ≡ true → is_cluster_round f t ≡ true → IsAtHome f n t → IsAtHome f m t → IsRepFine f h.file n → IsType terms (type_inside h.file items n t) (Some (headings.type_inside f m (item f t).type))

-- a routine sees the same `rep` as what stands in it
abbrev pub AreRoutinesAtHome : File → Type 0
AreRoutinesAtHome f = (n r : ℕ) → (round f n).routine ≡ Some r → IsAtHome f n r

pub record IsFileRead (t : Text) (h : Headed) (its : Tables) (library : List Specification) (refused : List ℕ) : Type 0 where
  pub whole : (refused : List ℕ) → IsWhole t (record its { file = h.file }) library refused
  -- nodes that are refused by rules of types
  pub refused_are : refused ≡ refused_nodes (file_with h.file (scope_in h.file.syntax.now h.file.rounds.now) library [])
  pub counts : AreCountsTold (file_with h.file (scope_in h.file.syntax.now h.file.rounds.now) library refused) h
  pub owned : AreOwned its.types.now h.file.values.now h.file.syntax.now (length h.file.syntax.now) h.file.bindings.now.own.items
  pub variables : AreVariableTypes (file_with h.file (scope_in h.file.syntax.now h.file.rounds.now) library refused) h.file
  pub routines : AreRoutinesAtHome (file_with h.file (scope_in h.file.syntax.now h.file.rounds.now) library refused)
  pub reps : AreReps (file_with h.file (scope_in h.file.syntax.now h.file.rounds.now) library refused)
  pub cvts : AreCvtsKnown (file_with h.file (scope_in h.file.syntax.now h.file.rounds.now) library refused) h its.types.now
