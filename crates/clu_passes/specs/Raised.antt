-- What each node raises by the definitions, and the same by what its children raise.
use Rattle.std.specs.Prelude.{◌≡◌, ◌++◌, ℕ, codes, if◌then◌else◌, Bool, true, false, List, [], ◌∷◌, flat_map}
use Rattle.clu_tree.specs.declared.node.NodeKind.{NodeKind}
use Rattle.clu_tree.specs.declared.node.NodeKind.TheVariants as kind
use Rattle.clu_grammar.specs.Kinds.{is_statement}
use Rattle.clu_syntax.specs.Kinds.{is_expression}
use Rattle.clu_syntax.specs.Syntax.{Expression, an_infix, a_prefix, a_name, an_index, a_get, a_call, elements, elements_from, Statement, a_set_field, a_set_index, a_resignal, an_except}
use Rattle.clu_meaning.specs.Constants.{sugar, prefix_name}
use Rattle.clu_checking.specs.Files.{File, item, kind_in, children}
use Rattle.clu_checking.specs.Typing.{type_of, takes_actuals}
use Rattle.clu_checking.specs.Raising.{Raise, failure, invoked, without, passed_on, by_sugar, by_name, by_infix, by_expression, by_statement, by_body, by_others}
use Rattle.clu_typing.specs.Raises.{guards_as, is_done_as, tail_of}
use Rattle.clu_typing.specs.Sets.{HaveSame}

module _ (f : File) where
  -- ---- the definition of each node

  -- components and arms
  unfoldable pub part_raises : NodeKind → ℕ → List Raise
  part_raises kind.FieldE n = by_expression f (item f n).component.value
  part_raises kind.TagArm n = by_body f (item f n).tag_arm.body
  part_raises kind.When n = by_body f (item f n).when.body
  part_raises kind.Others n = by_others f (item f n).others
  part_raises _ n = []

  unfoldable pub raises_as : NodeKind → ℕ → List Raise
  raises_as k n = if is_expression k then by_expression f (item f n).expression else (if is_statement k then by_statement f (item f n).statement else part_raises k n)

  unfoldable pub raises_of : ℕ → List Raise
  raises_of n = raises_as (kind_in f n) n

  -- ---- by what the children raise

  -- brackets after a name hold actual parameters
  abbrev pub has_actuals : Expression → Bool
  has_actuals (an_index n (a_name m name) cs) = takes_actuals f m name
  has_actuals _ = false

  -- what a node raises by itself
  abbrev pub own_raises : Expression → List Raise
  own_raises (an_infix n op a b) = by_infix f n (sugar op) (type_of f a)
  own_raises (a_prefix n s e) = by_sugar f n (prefix_name s) (type_of f e)
  own_raises (a_name n name) = by_name f n name
  own_raises (an_index n e cs) = by_sugar f n (codes "fetch") (type_of f e)
  own_raises (a_get n e name) = by_sugar f n (codes "get_" ++ name) (type_of f e)
  own_raises (a_call n e es) = invoked (type_of f e)
  own_raises (elements n t es) = failure ∷ []
  own_raises (elements_from n t e es) = failure ∷ []
  own_raises _ = []

  abbrev pub own_raises_of : Statement → List Raise
  own_raises_of (a_set_field n r name e) = by_sugar f n (codes "set_" ++ name) (type_of f r)
  own_raises_of (a_set_index n a i e) = by_sugar f n (codes "store") (type_of f a)
  own_raises_of _ = []

  -- what isn't taken of what a statement raises
  abbrev pub passed_by : Statement → List Raise → List Raise
  passed_by (a_resignal n s names) raises = without names raises
  passed_by (an_except n s ws other) raises = passed_on ws other raises
  passed_by _ raises = raises

  unfoldable pub own_as : NodeKind → ℕ → List Raise
  own_as k n = if is_expression k then own_raises (item f n).expression else (if is_statement k then own_raises_of (item f n).statement else [])

  module _ (told : ℕ → List Raise) where
    abbrev pub passed_from : ℕ → List ℕ → List Raise
    passed_from n (s ∷ arms) = passed_by (item f n).statement (told s)
    passed_from n [] = []

    -- of an Except and a Resignal what is passed on, and what the arms raise
    unfoldable pub inside_as : Bool → ℕ → List Raise
    inside_as true n = passed_from n (children f n) ++ flat_map told (tail_of (children f n))
    inside_as false n = flat_map told (children f n)

    unfoldable pub row_as : NodeKind → ℕ → List Raise
    row_as k n = if is_done_as k (has_actuals (item f n).expression) then inside_as (guards_as k) n ++ own_as k n else []

    abbrev pub row_of : ℕ → List Raise
    row_of n = row_as (kind_in f n) n

-- ---- tables

-- each node raises what its row says, but where something is lost
abbrev pub AreRows : File → (ℕ → Bool) → (ℕ → List Raise) → Type 0
AreRows f lost told = (n : ℕ) → lost n ≡ false → HaveSame (told n) (row_of f told n)
