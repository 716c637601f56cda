-- What is known of the names at a node and of the types of variables that it binds.
use Rattle.std.specs.Prelude.{◌≡◌, ℕ, Bool, true, false, List, [], ◌∷◌, map, slice_get, is_some, Option, Some, None}
use Rattle.std.specs.List.{AllByRecursion}
use Rattle.clu_tree.specs.declared.node.Node.{Node}
use Rattle.clu_tree.specs.declared.node.NodeKind.{NodeKind}
use Rattle.clu_tree.specs.declared.node.NodeKind.TheVariants as kind
use Rattle.clu_syntax.specs.declared.round.Round.{Round}
use Rattle.clu_syntax.specs.Kinds.{is_type, kind_at}
use Rattle.clu_syntax.specs.Items.{Item}
use Rattle.clu_syntax.specs.Syntax.{Identifier}
use Rattle.clu_meaning.specs.Scoping as means
use Rattle.clu_checking.specs.Files.{File, item, kind_in, stands_in, parent, children, names, meaning, is_of_module}
use Rattle.clu_checking.specs.Headings as headings
use Rattle.clu_checking.specs.Wanted.{first_name_at}
use Rattle.clu_settle.specs.Parameters.{is_parameter}
use Rattle.clu_bindings.specs.declared.file.File.{File as Read}
use Rattle.clu_bindings.specs.declared.meaning.Meaning.{Meaning}
use Rattle.clu_bindings.specs.declared.meaning.Meaning.TheVariants as meant
use Rattle.clu_bindings.specs.Inside.{type_inside}
use Rattle.clu_bindings.specs.Readers.{meaning_in, module_in}
use Rattle.clu_head.specs.Refused.{is_set}
use Rattle.clu_type_rules.specs.declared.known.Known.{Known}
use Rattle.clu_type_rules.specs.Known as known
use Rattle.clu_type_rules.specs.Bindings.{meanings}
use Rattle.clu_type_rules.specs.ExceptionRules.{exception_named, arm_for, arm_declarations}
use Rattle.clu_passes.specs.ConstantTables.{Means, IsEquateKnown}
use Rattle.clu_passes.specs.FactTables.{IsResultKnown, IsType}

-- the types that stand at nodes, as the body in which a node stands sees them, but where something is lost, as it is at `cvt`
pub record AreInside (f : File) (k : Known) (lost : ℕ → Bool) : Type 0 where
  pub types : (items : ℕ → Item) (n t : ℕ) → is_type (kind_in f t) ≡ true → lost t ≡ false → IsType k.tables.types.now (type_inside k.tables.file items n t) (Some (headings.type_inside f n (item f t).type))

-- the type at the node t as the body in which the node n stands sees it, also if it is `cvt`
abbrev pub IsInsideKnown : File → Known → ℕ → ℕ → Type 0
IsInsideKnown f k n t = (items : ℕ → Item) → IsType k.tables.types.now (type_inside k.tables.file items n t) (Some (headings.type_inside f n (item f t).type))

-- each Parm is a parameter of a module: no routine of a cluster has one, as the grammar has it
abbrev pub AreOfModules : List Node → List Round → Type 0
AreOfModules nodes rounds = (n : ℕ) → kind_at nodes n ≡ kind.Parm → is_parameter nodes rounds n ≡ true

-- the name of a Name is that of a module just if the table has one for it
abbrev pub TellModules : File → Read → Type 0
TellModules f r = (n : ℕ) → kind_in f n ≡ kind.Name → is_some (module_in r n) ≡ is_of_module f n (first_name_at f n)

-- and so that of a type by its name
abbrev pub TellTypeModules : File → Read → Type 0
TellTypeModules f r = (n : ℕ) → kind_in f n ≡ kind.NameT → is_some (module_in r n) ≡ is_of_module f n (first_name_at f n)

-- ---- names to which a node assigns

abbrev pub AllMean : List Node → List Meaning → List means.Meaning → Type 0
AllMean nodes [] [] = Unit {0}
AllMean nodes (m ∷ ms) (x ∷ xs) = Means nodes m x × AllMean nodes ms xs
AllMean nodes _ _ = ⊥

abbrev pub is_assigning : NodeKind → Bool
is_assigning kind.Assign = true
is_assigning kind.For = true
is_assigning _ = false

-- the table has what each of them means
abbrev pub AreTargets : File → Known → Type 0
AreTargets f k = (n : ℕ) → is_assigning (kind_in f n) ≡ true → AllMean f.nodes (meanings k n) (map (λ name. meaning f n name) (names f n))

-- ---- what is known

-- of an equate that the name of a Name denotes, or that before brackets
abbrev pub IsNameKnown : Read → NodeKind → ℕ → List ℕ → Type 0
IsNameKnown r kind.Name n cs = IsEquateKnown r (meaning_in r n)
IsNameKnown r kind.Index n (c ∷ cs) = IsEquateKnown r (meaning_in r c)
IsNameKnown r _ n cs = Unit {0}

module _ (f : File) (k : Known) (n : ℕ) where
  -- the type of a variable, at the node
  abbrev pub IsVariableKnown : Meaning → Type 0
  IsVariableKnown (meant.Local t) = IsInsideKnown f k n t
  IsVariableKnown (meant.OwnOfRoutine t) = IsInsideKnown f k n t
  IsVariableKnown (meant.OwnOfCluster t) = IsInsideKnown f k n t
  IsVariableKnown _ = Unit {0}

  -- those of the variables to which the node assigns, if it is of this kind
  abbrev pub AreTargetsKnown : NodeKind → List Meaning → Type 0
  AreTargetsKnown kind.Assign ms = AllByRecursion IsVariableKnown ms
  AreTargetsKnown kind.For ms = AllByRecursion IsVariableKnown ms
  AreTargetsKnown _ ms = Unit {0}

abbrev pub has_arms : NodeKind → Bool
has_arms kind.Tagcase = true
has_arms kind.Except = true
has_arms _ = false

module _ (f : File) (lost : ℕ → Bool) where
  -- what stands first in the node round an arm: that on which its Tagcase selects, or the statement that it guards
  abbrev pub IsFirstKnown : ℕ → Type 0
  IsFirstKnown n = (p c : ℕ) (cs : List ℕ) → parent f n ≡ Some p → has_arms (kind_in f p) ≡ true → children f p ≡ c ∷ cs → lost c ≡ false

-- ---- exceptions

-- the types of the exception of this name in the heading round a node
abbrev pub IsExceptionKnown : File → Known → ℕ → Identifier → Type 0
IsExceptionKnown f k n name = (c : ℕ) → exception_named k n name ≡ Some c → AllByRecursion (IsResultKnown f k n) (known.children k c)

-- ---- arms

-- the bits of declarations of arms in which a rule is violated
abbrev pub AreBadDecls : File → List Bool → (ℕ → Bool) → Type 0
AreBadDecls f bits bad = (d : ℕ) → kind_in f d ≡ kind.Decl → stands_in f kind.When d ≡ true → is_set (slice_get bits d) ≡ bad d

-- the types of the declarations of the arm to which an exit goes, but where a rule is violated in them
abbrev pub IsArmKnown : Known → (ℕ → Bool) → (ℕ → Bool) → ℕ → Type 0
IsArmKnown k lost bad n = (c : ℕ) → arm_for k n ≡ Some c → AllByRecursion (λ d. bad d ≡ false → AllByRecursion (λ t. lost t ≡ false) (known.children k d)) (arm_declarations k c)
