-- What is known of the types of constructors.
use Rattle.std.specs.Prelude.{◌≡◌, ℕ, false, List, ◌∷◌}
use Rattle.clu_tree.specs.declared.node.NodeKind.{NodeKind}
use Rattle.clu_tree.specs.declared.node.NodeKind.TheVariants as kind
use Rattle.clu_checking.specs.NameRules.{stands_twice}
use Rattle.clu_name_rules.specs.declared.tables.Tables.{Tables}
use Rattle.clu_name_rules.specs.Components.{fields_in}
use Rattle.clu_name_rules.specs.Constructors.{term_at}
use Rattle.clu_passes.specs.ConstantTables.{IsKnown}
use Rattle.clu_passes.specs.Counting.{names_of_fields}

-- the type of a constructor, which stands first, isn't lost
abbrev pub IsTyped : Tables → NodeKind → List ℕ → Type 0
IsTyped t kind.Fields (of ∷ parts) = IsKnown t.file of
IsTyped t kind.Elems (of ∷ parts) = IsKnown t.file of
IsTyped t _ parts = Unit {0}

-- no selector of it stands twice: where one does, a rule is violated at the type
abbrev pub HasEachOnce : Tables → NodeKind → List ℕ → Type 0
HasEachOnce t kind.Fields (of ∷ parts) = stands_twice (names_of_fields (fields_in (term_at t of))) ≡ false
HasEachOnce t _ parts = Unit {0}
