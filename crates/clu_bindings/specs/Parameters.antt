-- The parameters of the modules of a file, by the node of the type with which each is declared.
use Rattle.std.specs.Prelude.{◌≡◌, ℕ, if◌then◌else◌, List, [], ◌∷◌, ◌++◌, map, length, get_or, slice_get, Option, Some, None}
use Rattle.clu_tree.specs.declared.node.Node.{Node}
use Rattle.clu_tree.specs.declared.node.NodeKind.TheVariants as kind
use Rattle.clu_syntax.specs.Splits.{is_of, type_of}
use Rattle.clu_syntax.specs.declared.round.Round.{Round}
use Rattle.clu_names.specs.declared.scopes.Declared.{Declared}
use Rattle.clu_settle.specs.Parameters.{numbers_to, counted}
use Rattle.clu_bindings.specs.declared.bindings.ParameterTypes.{ParameterTypes}
use Rattle.clu_bindings.specs.Headlines.{Headline, headline_at}
use Rattle.clu_bindings.specs.Tables.{table_to, joined_to}

module _ (nodes : List Node) where
  -- those of a Parm; a type parameter is declared with none
  abbrev pub of_parm : Option Node → List (Option ℕ)
  of_parm (Some node) = if is_of kind.Parm node.kind then map (λ name. type_of nodes node.children) node.names else []
  of_parm None = []

  unfoldable pub of_parms : List ℕ → List (Option ℕ)
  of_parms [] = []
  of_parms (p ∷ ps) = of_parm (slice_get nodes p) ++ of_parms ps

  abbrev pub of_headline : Option Headline → List (Option ℕ)
  of_headline (Some h) = of_parms h.parameters
  of_headline None = []

  -- those of the Module n
  abbrev pub of_unit : ℕ → List (Option ℕ)
  of_unit n = of_headline (headline_at nodes n)

  -- those of all modules, one behind the other
  abbrev pub parameters_of : List (Option ℕ)
  parameters_of = joined_to of_unit (length nodes)

  -- where those of each node begin
  abbrev pub starts_of : List ℕ
  starts_of = table_to (λ n. length (joined_to of_unit n)) (length nodes)

-- the tables have these, the number of each declaration, and how many parameters each module has
pub record AreParameters (nodes : List Node) (rounds : List Round) (ds : List Declared) (all : ParameterTypes) : Type 0 where
  pub numbers : all.numbers.items ≡ numbers_to nodes rounds ds (length ds)
  pub counts : (u : ℕ) → get_or all.counts.items u 0 ≡ counted nodes rounds ds u (length ds)
  pub starts : all.starts.items ≡ starts_of nodes
  pub declared : all.declared.items ≡ parameters_of nodes
