-- The tables that the rules on names read.
use Rattle.std.specs.Prelude.{◌≡◌, ℕ, true, false, List, [], ◌∷◌, length, get_or, slice_get, is_none, Option, Some, None}
use Rattle.clu_literal.specs.Literal.{string_denoted}
use Rattle.clu_tree.specs.declared.node.Node.{Node}
use Rattle.clu_tree.specs.declared.node.NodeKind.TheVariants as kind
use Rattle.clu_syntax.specs.Syntax.{Identifier, string}
use Rattle.clu_syntax.specs.Words.{literal_of}
use Rattle.clu_names.specs.declared.binding.Names.{Names}
use Rattle.clu_names.specs.declared.scopes.Declared.{Declared}
use Rattle.clu_names.specs.Denotes.{is_open, bound_at, bound_to, starts_to}
use Rattle.clu_names.specs.Latest.{is_local}
use Rattle.clu_names.specs.Scopes.{is_stream}
use Rattle.clu_checking.specs.Files.{File, is_kept}
use Rattle.clu_settle.specs.declared.value.Value.{Value}
use Rattle.clu_settle.specs.declared.value.Value.TheVariants as value
use Rattle.clu_bindings.specs.declared.meaning.Meaning.{Meaning}
use Rattle.clu_bindings.specs.Tables.{items_at}
use Rattle.clu_settle.specs.Names.{names_of}
use Rattle.clu_name_rules.specs.NameRules.{is_nothing, is_module, same_unit}

-- what `names_of` of clu_names gives of the file
pub record AreNames (f : File) (names : Names) : Type 0 where
  pub declared : names.declared.items ≡ f.scope.declarations
  pub bound : names.bound.items ≡ bound_to f.nodes f.scope.declarations (length f.nodes)
  pub starts : names.starts.items ≡ starts_to f.nodes f.scope.declarations (length f.nodes)

-- a name that is bound to nothing means a module just if the library has one of this name; `stream` is that of none
abbrev pub MeansModule : File → Identifier → Option ℕ → Meaning → Type 0
MeansModule f name (Some place) meant = Unit {0}
MeansModule f name None meant = is_stream name ≡ false → is_module meant ≡ is_kept f name

abbrev pub AreMeant : File → List Identifier → List (Option ℕ) → List Meaning → Type 0
AreMeant f (name ∷ names) (bound ∷ bounds) (meant ∷ meanings) = MeansModule f name bound meant × AreMeant f names bounds meanings
AreMeant f (name ∷ names) (bound ∷ bounds) [] = ⊥
AreMeant f _ _ meanings = Unit {0}

-- so do the names of each node
abbrev pub AreMeanings : File → Names → List Meaning → Type 0
AreMeanings f names meanings =
    (n : ℕ) → AreMeant f (names_of (slice_get f.nodes n)) (bound_at f.scope.declarations n (slice_get f.nodes n)) (items_at meanings names.starts.items n)

-- a string comes to nothing just if it denotes nothing, so an octal code in it is too large
abbrev pub TellStrings : File → List Value → Type 0
TellStrings f values =
    (n : ℕ) (node : Node) (text : List ℕ) → slice_get f.nodes n ≡ Some node → node.kind ≡ kind.Literal → literal_of node.value ≡ string text → is_nothing (get_or values n value.Lost) ≡ is_none (string_denoted text)

-- the value of no string is lost
abbrev pub AreFoundStrings : File → List Value → Type 0
AreFoundStrings f values =
    (n : ℕ) (node : Node) (text : List ℕ) → slice_get f.nodes n ≡ Some node → node.kind ≡ kind.Literal → literal_of node.value ≡ string text → get_or values n value.Lost ≡ value.Lost → ⊥

-- the declarations of a name that the node has in their scope, but for modules, are those of one module, as the tree of a file
-- has it
abbrev pub OpenOfOne : List Declared → ℕ → Identifier → Declared → Type 0
OpenOfOne ds n name e =
    (j : ℕ) (d : Declared) → slice_get ds j ≡ Some d → is_open name n d ≡ true → is_local d.unit ≡ true → is_local e.unit ≡ true → same_unit d.unit e.unit ≡ true
