-- V8 and V9 by tables: what is no constant or no type, and names of bad equates.
use Rattle.std.proofs.Common.{◌≡◌, ◌∙◌, ◌⊎◌, ℕ, ◌≤◌, Bool, true, false, ◌&&◌, ◌||◌, if◌then◌else◌, List, [], ◌∷◌, length, map, drop, codes, Option, Some, None, inl, inr, refl, sym, ap, subst, arith}
use Rattle.std.specs.Prelude.{not, bytes_eq, is_none, is_some, slice_get}
use Rattle.std.specs.List.{list_any}
use Rattle.std.proofs.Math.Bool.{or_assoc}
use Rattle.std.proofs.lemmas.Bool.{true≢false, and_parts}
use Rattle.clu_base.specs.declared.constants.Const.{Const}
use Rattle.clu_tree.specs.declared.node.Node.{Node}
use Rattle.clu_tree.specs.declared.node.NodeKind.{NodeKind}
use Rattle.clu_tree.specs.declared.node.NodeKind.TheVariants as kind
use Rattle.clu_tree.specs.Nodes.{IsTree}
use Rattle.clu_parser.specs.Shape.{HaveForms}
use Rattle.clu_types.specs.CluType.{CluType}
use Rattle.clu_types.specs.Arena.{types_of}
use Rattle.clu_syntax.specs.declared.words.SimpleType.{SimpleType}
use Rattle.clu_syntax.specs.declared.words.SimpleType.TheVariants as simple
use Rattle.clu_syntax.specs.Enough.{least_names}
use Rattle.clu_syntax.specs.Kinds.{kind_at, is_expression, is_type}
use Rattle.clu_syntax.specs.Roles.{has_no_name}
use Rattle.clu_syntax.specs.Slots.{slots, any}
use Rattle.clu_syntax.specs.Slots.{is_constant as is_constant_kind}
use Rattle.clu_syntax.specs.Splits.{child, children_of, first_name, name_at, is_of, one_of, run}
use Rattle.clu_syntax.specs.Syntax.{Identifier, Literal, real, Expression, a_name, a_literal, an_index, Constants, TypeExpression, a_simple_type}
use Rattle.clu_syntax.specs.Items.{Item, constants_at}
use Rattle.clu_syntax.specs.Words.{symbol_in, simple_type, literal_of}
use Rattle.clu_syntax.specs.Nodes.{before, item_with, item_at, elements_of, expression_of, type_expression_of, restricted, restriction_of, type_set_of}
use Rattle.clu_syntax.proofs.Enough.{enough}
use Rattle.clu_syntax.proofs.Items.{item_is}
use Rattle.clu_names.specs.declared.scopes.Declared.{Declared}
use Rattle.clu_names.specs.Denotes.{found, names_in, bound_at}
use Rattle.clu_meaning.specs.Scoping as means
use Rattle.clu_meaning.specs.Scoping.{Scope}
use Rattle.clu_meaning.specs.Settling.{Value as Settled}
use Rattle.clu_checking.specs.Settled.{value_settled}
use Rattle.clu_checking.specs.Specifications.{Specification}
use Rattle.clu_checking.specs.Files as checking
use Rattle.clu_checking.specs.Files.{File, item, is_kind, kind_in, node_names, names, parent, meaning, equate_named}
use Rattle.clu_checking.specs.Equates as equates
use Rattle.clu_checking.specs.Typing as typing
use Rattle.clu_checking.specs.Wanted as wants
use Rattle.clu_checking.specs.Wanted.{Wanted, first_name_at}
use Rattle.clu_checking.specs.ConstantRules as rules_of
use Rattle.clu_settle.specs.declared.value.Value.{Value}
use Rattle.clu_settle.specs.declared.value.Value.TheVariants as value
use Rattle.clu_settle.specs.Values.{told, Agrees, IsWithin}
use Rattle.clu_settle.specs.Names.{is_constant, names_of}
use Rattle.clu_settle.specs.Standing.{is_cvt_type}
use Rattle.clu_settle.proofs.Parts.{before_is, constant_is, expression_is_constant}
use Rattle.clu_settle.proofs.Shapes.{first_part}
use Rattle.clu_head.specs.There.{is_there}
use Rattle.clu_bindings.specs.declared.file.File.{File as Read}
use Rattle.clu_bindings.specs.declared.meaning.Meaning.{Meaning}
use Rattle.clu_bindings.specs.declared.meaning.Meaning.TheVariants as meant
use Rattle.clu_bindings.specs.declared.wanted.Wanted.{Wanted as WantedThere}
use Rattle.clu_bindings.specs.declared.wanted.Wanted.TheVariants as wanted
use Rattle.clu_bindings.specs.Tables.{optional}
use Rattle.clu_bindings.specs.Files as bound
use Rattle.clu_bindings.specs.Files.{bound_in, is_there_at}
use Rattle.clu_bindings.specs.Readers as read
use Rattle.clu_bindings.specs.Readers.{value_in, wanted_in, meaning_in, module_of, is_routine, children_in, set_at}
use Rattle.clu_bindings.specs.Named as named
use Rattle.clu_name_rules.specs.declared.tables.Tables.{Tables}
use Rattle.clu_name_rules.specs.ConstantRules as of_tables
use Rattle.clu_passes.specs.ConstantTables.{file_with, Means, is_equated, wanted_told, AreTables, AreBad, AreBracketsKnown, IsKnown, IsEquateKnown, IsFirstKnown, IsIndexKnown, IsOperatorKnown, IsTypeNameKnown}
use Rattle.clu_passes.proofs.ByNodes.{any_mapped}
use Rattle.clu_passes.proofs.ByNodes as by_nodes
use Rattle.clu_declares.proofs.Below.{same_kind}
use Rattle.clu_declares.proofs.Facts.{there}
use Rattle.clu_passes.proofs.ConstantNodes as so
use Rattle.clu_passes.proofs.ConstantNodes.{its_item, is_name}
use Rattle.clu_passes.proofs.OwnPlaces.{there_is}
use Rattle.clu_passes.proofs.Tables.{bound_is}

-- ---- values that are known

module _ (types : List CluType) (constants : List Const) where
  constant_value : (v : Value) (s : Settled) → (v ≡ value.Lost → ⊥) → Agrees (told types constants v) s → rules_of.is_constant_value s ≡ of_tables.is_constant_value v
  constant_value value.Nothing s known e = ap rules_of.is_constant_value e
  constant_value value.Lost s known e = absurd (known refl)
  constant_value (value.Type id) s known e = ap rules_of.is_constant_value e
  constant_value (value.Constant k) s known e = ap rules_of.is_constant_value e
  constant_value (value.Parameter k) s known e = ap rules_of.is_constant_value e

  type_value : (v : Value) (s : Settled) → (v ≡ value.Lost → ⊥) → Agrees (told types constants v) s → typing.is_type_value s ≡ of_tables.is_type_value v
  type_value value.Nothing s known e = ap typing.is_type_value e
  type_value value.Lost s known e = absurd (known refl)
  type_value (value.Type id) s known e = ap typing.is_type_value e
  type_value (value.Constant k) s known e = ap typing.is_type_value e
  type_value (value.Parameter k) s known e = ap typing.is_type_value e

-- ---- real literals, whatever the nodes before them are

real_literal : (n : ℕ) (l : Literal) → rules_of.is_real_literal (a_literal n l) ≡ of_tables.is_real_literal (a_literal n l)
real_literal n (real text) = refl
real_literal n _ = refl

real_elements : (items others : ℕ → Item) (nodes : List Node) (n : ℕ) (t u : TypeExpression) (token : Option ℕ) (cs : List ℕ) → rules_of.is_real_literal (elements_of items nodes n t token cs) ≡ of_tables.is_real_literal (elements_of others nodes n u token cs)
real_elements items others nodes n t u None cs = refl
real_elements items others nodes n t u (Some token) [] = refl
real_elements items others nodes n t u (Some token) (c ∷ cs) = refl

real_same : (items others : ℕ → Item) (nodes : List Node) (n : ℕ) (node : Node) (k : NodeKind) → rules_of.is_real_literal (expression_of items nodes n node k) ≡ of_tables.is_real_literal (expression_of others nodes n node k)
real_same items others nodes n node kind.Literal = real_literal n (literal_of node.value)
real_same items others nodes n node kind.Elems = real_elements items others nodes n (items (child 0 node)).type (others (child 0 node)).type node.value_token (drop 1 node.children)
real_same items others nodes n node _ = refl

pub real_is : (items : ℕ → Item) (nodes : List Node) (n : ℕ) → rules_of.is_real_literal (item_at nodes n).expression ≡ of_tables.is_real_literal (item_with items nodes n (slice_get nodes n)).expression
real_is items nodes n = ap (λ (i : Item). rules_of.is_real_literal i.expression) (item_is nodes n) ∙ by (slice_get nodes n)
  where
    by : (its : Option Node) → rules_of.is_real_literal (item_with (before n (item_at nodes)) nodes n its).expression ≡ of_tables.is_real_literal (item_with items nodes n its).expression
    by None = refl
    by (Some node) = real_same (before n (item_at nodes)) items nodes n node node.kind

-- ---- words

word_same : (w : SimpleType) (t : TypeExpression) → rules_of.is_word w t ≡ of_tables.is_word w t
word_same w (a_simple_type n other) = refl
word_same w _ = refl

pub word_is : (items : ℕ → Item) (nodes : List Node) (n : ℕ) → kind_at nodes n ≡ kind.Simple → (w : SimpleType) → rules_of.is_word w (item_at nodes n).type ≡ of_tables.is_word w (item_with items nodes n (slice_get nodes n)).type
word_is items nodes n is w =
    let x = there nodes n kind.Simple refl is in
    ap (λ (i : Item). rules_of.is_word w i.type) (its_item nodes n kind.Simple x)
    ∙ ap (λ (k : NodeKind). rules_of.is_word w (type_expression_of (before n (item_at nodes)) nodes n x.node k)) x.is
    ∙ ap (λ (k : NodeKind). of_tables.is_word w (type_expression_of items nodes n x.node k)) (sym x.is)
    ∙ ap (λ (its : Option Node). of_tables.is_word w (item_with items nodes n its).type) (sym x.at)

-- ---- tests

guarded : (a b x y : Bool) → a ≡ b → (a ≡ true → x ≡ y) → (a && x) ≡ (b && y)
guarded true b x y e same = same refl ∙ ap (λ (c : Bool). c && y) e
guarded false b x y e same = ap (λ (c : Bool). c && y) e

none_is : {A : Type 0} (o : Option A) → is_none o ≡ not (is_some o)
none_is None = refl
none_is (Some x) = refl

or_five : (a b c d e : Bool) → (a || b || c || d || e) ≡ (a || (b || (c || (d || e))))
or_five true b c d e = refl
or_five false true c d e = refl
or_five false false true d e = refl
or_five false false false d e = refl

second : (a b c : Bool) → b ≡ true → (a || (b || c)) ≡ true
second true b c e = refl
second false b c e = ap (λ (x : Bool). x || c) e

fourth : (a b c d e : Bool) → d ≡ true → (a || (b || (c || (d || e)))) ≡ true
fourth true b c d e h = refl
fourth false true c d e h = refl
fourth false false true d e h = refl
fourth false false false d e h = ap (λ (x : Bool). x || e) h

operator_known_in : (r : Read) (k : NodeKind) (n : ℕ) → IsKnown r n → IsOperatorKnown r k n
operator_known_in r kind.Infix n known = known
operator_known_in r kind.Prefix n known = known
operator_known_in r kind.Paren n known = known
operator_known_in r kind.File n known = tt
operator_known_in r _ n known = tt

type_name_known_in : (r : Read) (k : NodeKind) (n : ℕ) → IsEquateKnown r (meaning_in r n) → IsTypeNameKnown r k n
type_name_known_in r kind.NameT n known = known
type_name_known_in r kind.Simple n known = λ word. known
type_name_known_in r kind.File n known = tt
type_name_known_in r _ n known = tt

second_same : (its : List Identifier) → 2 ≤ length its → not (bytes_eq (name_at 1 its) (first_name its)) ≡ of_tables.is_second_other its
second_same [] more = absurd (omega (arith, more))
second_same (a ∷ []) more = absurd (omega (arith, more))
second_same (a ∷ b ∷ its) more = refl

module _ (t : Tables) (scope : Scope) (library : List Specification) (refused : List ℕ) where
  abbrev nodes : List Node
  nodes = t.file.syntax.now

  abbrev f : File
  f = file_with t.file scope library refused

  abbrev r : Read
  r = t.file

  module _ (shaped : HaveForms nodes) (tree : IsTree nodes) (are : AreTables f t) where
    abbrev ds : List Declared
    ds = scope.declarations

    -- ---- what is no constant

    abbrev types_there : List CluType
    types_there = types_of t.types.now

    object_same : (n : ℕ) (name : Identifier) (meant : Meaning) (m : means.Meaning) → Means nodes meant m → is_routine r (module_of meant) ≡ rules_of.is_module_routine f n name → rules_of.names_object f n name m ≡ of_tables.names_object r meant
    object_same n name (meant.Equate c) m is routine = ap (rules_of.names_object f n name) is.1
    object_same n name meant.TypeSet m is routine = ap (rules_of.names_object f n name) is
    object_same n name (meant.TypeParameter k) m is routine = ap (rules_of.names_object f n name) is
    object_same n name (meant.ConstantParameter k) m is routine = ap (rules_of.names_object f n name) is
    object_same n name (meant.Local u) m is routine = ap (rules_of.names_object f n name) is
    object_same n name (meant.OwnOfRoutine u) m is routine = ap (rules_of.names_object f n name) is
    object_same n name (meant.OwnOfCluster u) m is routine = ap (rules_of.names_object f n name) is
    object_same n name meant.RoutineOfCluster m is routine = ap (rules_of.names_object f n name) is
    object_same n name (meant.Module its) m is routine = ap (rules_of.names_object f n name) is ∙ sym routine

    named_object : (n : ℕ) → kind_at nodes n ≡ kind.Name → rules_of.is_no_constant_name f n (first_name_at f n) ≡ of_tables.names_object r (meaning_in r n)
    named_object n is = let m = are.named n is in object_same n (first_name_at f n) (meaning_in r n) (meaning f n (first_name_at f n)) m.means m.routine

    -- brackets after an expression
    no_name_index : (n : ℕ) (e : Expression) (cs : Constants) → is_name e ≡ false → rules_of.is_no_constant_index f (an_index n e cs) ≡ true
    unfolding is_name
    no_name_index n (a_name m name) cs other = absurd (true≢false other)
    no_name_index n _ cs other = refl

    bracketed : (n c : ℕ) (cs : Constants) → IsEquateKnown r (meaning_in r c) → so.AName t scope library refused c ⊎ so.NoName t scope library refused c → rules_of.is_no_constant_index f (an_index n (item f c).expression cs) ≡ (if read.takes_actuals r c then of_tables.names_object r (meaning_in r c) else true)
    bracketed n c cs known (inl x) =
        let takes : read.takes_actuals r c ≡ typing.takes_actuals f c (first_name_at f c) = are.takers c known ∙ ap (λ (b : Bool). b && typing.takes_actuals f c (first_name_at f c)) x.is in
        ap (λ (e : Expression). rules_of.is_no_constant_index f (an_index n e cs)) x.expression
        ∙ ap (λ (b : Bool). if b then rules_of.is_no_constant_name f c (first_name_at f c) else true) (sym takes)
        ∙ ap (λ (b : Bool). if read.takes_actuals r c then b else true) (named_object c (same_kind kind.Name (kind_at nodes c) x.is))
    bracketed n c cs known (inr x) =
        let takes : read.takes_actuals r c ≡ false = are.takers c known ∙ ap (λ (b : Bool). b && typing.takes_actuals f c (first_name_at f c)) x.is in
        no_name_index n (item f c).expression cs x.expression
        ∙ ap (λ (b : Bool). if b then of_tables.names_object r (meaning_in r c) else true) (sym takes)

    index_is : (n : ℕ) → IsIndexKnown r n → kind_at nodes n ≡ kind.Index → rules_of.is_no_constant_index f (item f n).expression ≡ of_tables.is_no_constant_index r (children_in r n)
    index_is n known is =
        let x = there nodes n kind.Index refl is in
        let first = first_part nodes tree shaped is_expression (any is_constant_kind ∷ []) n x.node x.at (ap slots x.is) in
        let c : ℕ = child 0 x.node in
        let cs : Constants = constants_at (before n (item_at nodes)) (drop 1 x.node.children) in
        ap (λ (i : Item). rules_of.is_no_constant_index f i.expression) (its_item nodes n kind.Index x)
        ∙ ap (λ (k : NodeKind). rules_of.is_no_constant_index f (expression_of (before n (item_at nodes)) nodes n x.node k)) x.is
        ∙ ap (λ (i : Item). rules_of.is_no_constant_index f (an_index n i.expression cs)) (before_is nodes n c first.first.0)
        ∙ bracketed n c cs (subst (IsFirstKnown r) (ap children_of x.at ∙ first.is) (known is)) (so.name_or_none t scope library refused c first.first.1)
        ∙ ap (of_tables.is_no_constant_index r) (sym first.is)
        ∙ ap (λ (its : Option Node). of_tables.is_no_constant_index r (children_of its)) (sym x.at)

    no_value : (n : ℕ) → IsKnown r n → is_expression (kind_at nodes n) ≡ true → rules_of.is_no_value f n ≡ not (of_tables.is_constant_value (value_in r n))
    no_value n known e = ap not (constant_value types_there r.constants.now (value_in r n) (value_settled scope (item f n).constant) known (so.value_agrees t scope library refused shaped tree are n known (expression_is_constant nodes n e)))

    no_constant : (n : ℕ) → IsIndexKnown r n → (k : NodeKind) → IsOperatorKnown r k n → kind_at nodes n ≡ k → rules_of.is_no_constant f k n ≡ of_tables.is_no_constant r k n
    no_constant n brackets kind.Literal known is = refl
    no_constant n brackets kind.Name known is = named_object n is
    no_constant n brackets kind.Index known is = index_is n brackets is
    no_constant n brackets kind.Infix known is = no_value n known (ap is_expression is)
    no_constant n brackets kind.Prefix known is = no_value n known (ap is_expression is)
    no_constant n brackets kind.Paren known is = no_value n known (ap is_expression is)
    no_constant n brackets _ known is = refl

    neither_same : (n : ℕ) → IsOperatorKnown r (kind_at nodes n) n → AreBracketsKnown r n → rules_of.is_neither f n ≡ of_tables.is_neither r n
    neither_same n known brackets =
        ap (λ (b : Bool). b && rules_of.is_no_constant f (kind_in f n) n) (so.constant_wanted_at t scope library refused shaped tree are n brackets.round)
        ∙ ap (λ (b : Bool). of_tables.is_constant_wanted (wanted_in r n) && b) (no_constant n brackets.own (kind_at nodes n) known refl)

    neither_wants : (n : ℕ) → rules_of.is_neither f n ≡ true → wants.wants_type f n ≡ named.wants_type r n
    neither_wants n h = so.wants_same t scope library refused shaped tree are n (and_parts (rules_of.is_constant_wanted (wants.wanted f n)) (rules_of.is_no_constant f (kind_in f n) n) h).0

    -- ---- right sides of equates

    stands_same : (k : NodeKind) → is_of k kind.File ≡ false → (o : Option ℕ) → checking.is_kind_at f k o ≡ is_there_at nodes k o
    stands_same k other None = refl
    stands_same k other (Some p) = there_is k other (slice_get nodes p)

    pub side_same : (n : ℕ) → rules_of.is_right_side f n ≡ of_tables.is_right_side r n
    side_same n =
        ap (λ (b : Bool). b && not (is_kind f kind.TypeSet n)) (stands_same kind.Equate refl (parent f n))
        ∙ ap (λ (b : Bool). bound.stands_in nodes r.rounds.now kind.Equate n && not b) (there_is kind.TypeSet refl (slice_get nodes n))

    long_constant : (v : Value) (s : Settled) → (v ≡ value.Lost → ⊥) → IsWithin (length t.types.now) (length r.constants.now) v → Agrees (told types_there r.constants.now v) s → rules_of.is_long_constant s ≡ of_tables.is_long_constant t.long_constants.now v
    long_constant value.Nothing s known within e = ap rules_of.is_long_constant e
    long_constant value.Lost s known within e = absurd (known refl)
    long_constant (value.Type id) s known within e = ap rules_of.is_long_constant e
    long_constant (value.Constant k) s known within e = ap rules_of.is_long_constant e ∙ sym (are.long_constants k within.1)
    long_constant (value.Parameter k) s known within e = ap rules_of.is_long_constant e

    long_type : (n : ℕ) (v : Value) (s : Settled) → value_in r n ≡ v → (v ≡ value.Lost → ⊥) → Agrees (told types_there r.constants.now v) s → rules_of.is_long_type s ≡ of_tables.is_long_type t.long_types.now v
    long_type n value.Nothing s is known e = ap rules_of.is_long_type e
    long_type n value.Lost s is known e = absurd (known refl)
    long_type n (value.Type id) s is known e = ap rules_of.is_long_type e ∙ sym (are.long_types n id is)
    long_type n (value.Constant k) s is known e = ap rules_of.is_long_type e
    long_type n (value.Parameter k) s is known e = ap rules_of.is_long_type e

    cvt_word : (u : TypeExpression) → rules_of.is_word simple.Cvt u ≡ is_cvt_type u
    cvt_word (a_simple_type n simple.Cvt) = refl
    cvt_word (a_simple_type n _) = refl
    cvt_word _ = refl

    -- what is known is not that of `cvt`
    not_cvt : (n : ℕ) → is_constant nodes n ≡ true → IsKnown r n → rules_of.is_cvt (item f n).constant ≡ false
    not_cvt n const known = by (is_type (kind_at nodes n)) refl
      where
        of_type : (b : Bool) → rules_of.is_word simple.Cvt (item f n).type ≡ b → is_type (kind_at nodes n) ≡ true → b ≡ false
        of_type true word is = absurd (known (are.cvt n is (sym (cvt_word (item f n).type) ∙ word)))
        of_type false word is = refl

        by : (b : Bool) → is_type (kind_at nodes n) ≡ b → rules_of.is_cvt (item f n).constant ≡ false
        by true is = ap rules_of.is_cvt (constant_is nodes n true is) ∙ of_type (rules_of.is_word simple.Cvt (item f n).type) refl is
        by false is = ap rules_of.is_cvt (constant_is nodes n false is)

    -- where both say the same of the text
    too_long : (test : Settled → Bool) (long : Value → Bool) (n : ℕ) → (is_constant nodes n ≡ true → IsKnown r n) → (is_constant nodes n ≡ true → IsKnown r n → test (value_settled scope (item f n).constant) ≡ long (value_in r n)) → rules_of.is_too_long f test n ≡ (of_tables.is_right_side r n && long (value_in r n))
    too_long test long n known same =
        guarded (rules_of.is_right_side f n) (of_tables.is_right_side r n) (not (rules_of.is_cvt (item f n).constant) && test (value_settled scope (item f n).constant)) (long (value_in r n)) (side_same n)
        (λ h. ap (λ (b : Bool). not b && test (value_settled scope (item f n).constant)) (not_cvt n (are.sides n h) (known (are.sides n h))) ∙ same (are.sides n h) (known (are.sides n h)))

    pub too_long_constant : (n : ℕ) → (is_constant nodes n ≡ true → IsKnown r n) → rules_of.is_too_long f rules_of.is_long_constant n ≡ (of_tables.is_right_side r n && of_tables.is_long_constant t.long_constants.now (value_in r n))
    too_long_constant n known =
        too_long rules_of.is_long_constant (of_tables.is_long_constant t.long_constants.now) n known
        (λ const here. long_constant (value_in r n) (value_settled scope (item f n).constant) here (so.value_within t scope library refused shaped tree are n) (so.value_agrees t scope library refused shaped tree are n here const))

    pub too_long_type : (n : ℕ) → (is_constant nodes n ≡ true → IsKnown r n) → rules_of.is_too_long f rules_of.is_long_type n ≡ (of_tables.is_right_side r n && of_tables.is_long_type t.long_types.now (value_in r n))
    too_long_type n known =
        too_long rules_of.is_long_type (of_tables.is_long_type t.long_types.now) n known
        (λ const here. long_type n (value_in r n) (value_settled scope (item f n).constant) refl here (so.value_agrees t scope library refused shaped tree are n here const))

    -- ---- the right side of `rep`

    rep_same : (e : ℕ) → (is_kind f kind.Equate e && has_no_name (names f e)) ≡ of_tables.is_rep r e
    rep_same e =
        ap (λ (b : Bool). b && has_no_name (names f e)) (there_is kind.Equate refl (slice_get nodes e))
        ∙ ap (λ (its : List Identifier). is_there kind.Equate (slice_get nodes e) && has_no_name its) (so.names_same t scope library refused (slice_get nodes e))

    rep_at_same : (o : Option ℕ) → rules_of.is_rep_equate f o ≡ of_tables.is_rep_at r o
    rep_at_same None = refl
    rep_at_same (Some e) = rep_same e

    rep_stands : (o : Option ℕ) → rules_of.is_rep_equate f o ≡ true → checking.is_kind_at f kind.Equate o ≡ true
    rep_stands None h = absurd (true≢false (sym h))
    rep_stands (Some e) h = (and_parts (is_kind f kind.Equate e) (has_no_name (names f e)) h).0

    side_known : (items : ℕ → Item) (n : ℕ) → (is_constant nodes n ≡ true → IsKnown r n) → (k : NodeKind) → kind_at nodes n ≡ k → (is_of kind.TypeSet k ≡ false → is_constant nodes n ≡ true) → rules_of.is_no_type_side f k n ≡ of_tables.is_no_type_side r items k n
    side_known items n known kind.TypeSet is is_so = refl
    side_known items n known _ is is_so =
        ap (λ (b : Bool). not b && not (rules_of.is_real_literal (item f n).expression)) (type_value types_there r.constants.now (value_in r n) (value_settled scope (item f n).constant) (known (is_so refl)) (so.value_agrees t scope library refused shaped tree are n (known (is_so refl)) (is_so refl)))
        ∙ ap (λ (b : Bool). not (of_tables.is_type_value (value_in r n)) && not b) (real_is items nodes n)

    -- where both say the same of what no type is there
    pub bad_rep_by : (items : ℕ → Item) (n : ℕ) → ((is_of kind.TypeSet (kind_at nodes n) ≡ false → is_constant nodes n ≡ true) → rules_of.is_no_type_side f (kind_in f n) n ≡ of_tables.is_no_type_side r items (kind_at nodes n) n) → rules_of.is_bad_rep f n ≡ of_tables.is_bad_rep r items n
    bad_rep_by items n same =
        guarded (rules_of.is_rep_equate f (parent f n)) (of_tables.is_rep_at r (parent f n)) (rules_of.is_no_type_side f (kind_in f n) n) (of_tables.is_no_type_side r items (kind_at nodes n) n) (rep_at_same (parent f n))
        (λ h. same (λ apart. are.sides n (ap (λ (b : Bool). b && not (is_kind f kind.TypeSet n)) (rep_stands (parent f n) h) ∙ ap not apart)))

    pub bad_rep : (items : ℕ → Item) (n : ℕ) → (is_constant nodes n ≡ true → IsKnown r n) → rules_of.is_bad_rep f n ≡ of_tables.is_bad_rep r items n
    bad_rep items n known = bad_rep_by items n (side_known items n known (kind_at nodes n) refl)

    -- ---- names of types

    equated_value : (c : ℕ) → IsKnown r c → is_constant nodes c ≡ true → typing.is_type_value (value_settled scope (item f c).constant) ≡ of_tables.is_type_value (value_in r c)
    equated_value c known is_so = type_value types_there r.constants.now (value_in r c) (value_settled scope (item f c).constant) known (so.value_agrees t scope library refused shaped tree are c known is_so)

    no_type_same : (n : ℕ) (name : Identifier) (meant : Meaning) (m : means.Meaning) → IsEquateKnown r meant → Means nodes meant m → is_routine r (module_of meant) ≡ rules_of.is_module_routine f n name → rules_of.names_no_type f n name m ≡ of_tables.names_no_type r meant
    no_type_same n name (meant.Equate c) m known is routine = ap (rules_of.names_no_type f n name) is.1 ∙ ap not (equated_value c known is.0)
    no_type_same n name meant.TypeSet m known is routine = ap (rules_of.names_no_type f n name) is
    no_type_same n name (meant.TypeParameter k) m known is routine = ap (rules_of.names_no_type f n name) is
    no_type_same n name (meant.ConstantParameter k) m known is routine = ap (rules_of.names_no_type f n name) is
    no_type_same n name (meant.Local u) m known is routine = ap (rules_of.names_no_type f n name) is
    no_type_same n name (meant.OwnOfRoutine u) m known is routine = ap (rules_of.names_no_type f n name) is
    no_type_same n name (meant.OwnOfCluster u) m known is routine = ap (rules_of.names_no_type f n name) is
    no_type_same n name meant.RoutineOfCluster m known is routine = ap (rules_of.names_no_type f n name) is
    no_type_same n name (meant.Module its) m known is routine = ap (rules_of.names_no_type f n name) is ∙ sym routine

    abbrev rep : Identifier
    rep = codes "rep"

    -- the word `rep` denotes no equate, or one of no type
    abbrev no_rep : ℕ → means.Meaning → Bool
    no_rep n m = not (is_equated m) || rules_of.names_no_type f n rep m

    no_rep_same : (n : ℕ) (meant : Meaning) (m : means.Meaning) → IsEquateKnown r meant → Means nodes meant m → no_rep n m ≡ not (of_tables.names_equated_type r meant)
    no_rep_same n (meant.Equate c) m known is = ap (no_rep n) is.1 ∙ ap not (equated_value c known is.0)
    no_rep_same n meant.TypeSet m known is = ap (no_rep n) is
    no_rep_same n (meant.TypeParameter k) m known is = ap (no_rep n) is
    no_rep_same n (meant.ConstantParameter k) m known is = ap (no_rep n) is
    no_rep_same n (meant.Local u) m known is = ap (no_rep n) is
    no_rep_same n (meant.OwnOfRoutine u) m known is = ap (no_rep n) is
    no_rep_same n (meant.OwnOfCluster u) m known is = ap (no_rep n) is
    no_rep_same n meant.RoutineOfCluster m known is = ap (no_rep n) is
    no_rep_same n (meant.Module its) m known is = ap (no_rep n) is

    no_type_rep : (items : ℕ → Item) (n : ℕ) → (rules_of.is_word simple.Rep (item f n).type ≡ true → IsEquateKnown r (meaning_in r n)) → kind_at nodes n ≡ kind.Simple → rules_of.is_no_type_rep f n ≡ of_tables.is_no_type_rep r items n
    no_type_rep items n known is = by (rules_of.is_word simple.Rep (item f n).type) refl ∙ ap (λ (b : Bool). b && (of_tables.is_of_cluster r n && not (of_tables.names_equated_type r (meaning_in r n)))) (word_is items nodes n is simple.Rep)
      where
        named_so : rules_of.is_word simple.Rep (item f n).type ≡ true → (is_none (equate_named f n rep) || rules_of.is_no_type_name f n rep) ≡ not (of_tables.names_equated_type r (meaning_in r n))
        named_so word =
            ap (λ (b : Bool). b || rules_of.is_no_type_name f n rep) (none_is (equate_named f n rep) ∙ ap not (are.equates n rep))
            ∙ no_rep_same n (meaning_in r n) (meaning f n rep) (known word) (are.reps n is word)

        by : (b : Bool) → rules_of.is_word simple.Rep (item f n).type ≡ b →
            (b && rules_of.is_cluster_round f n && (is_none (equate_named f n rep) || rules_of.is_no_type_name f n rep)) ≡ (b && (of_tables.is_of_cluster r n && not (of_tables.names_equated_type r (meaning_in r n))))
        by true word = ap (λ (b : Bool). rules_of.is_cluster_round f n && b) (named_so word)
        by false word = refl

    -- ---- where clauses and type sets

    parameter_same : (meant : Meaning) (m : means.Meaning) → Means nodes meant m → rules_of.denotes_parameter f m ≡ of_tables.is_type_parameter meant
    parameter_same (meant.Equate c) m is = ap (rules_of.denotes_parameter f) is.1
    parameter_same meant.TypeSet m is = ap (rules_of.denotes_parameter f) is
    parameter_same (meant.TypeParameter k) m is = ap (rules_of.denotes_parameter f) is
    parameter_same (meant.ConstantParameter k) m is = ap (rules_of.denotes_parameter f) is
    parameter_same (meant.Local u) m is = ap (rules_of.denotes_parameter f) is
    parameter_same (meant.OwnOfRoutine u) m is = ap (rules_of.denotes_parameter f) is
    parameter_same (meant.OwnOfCluster u) m is = ap (rules_of.denotes_parameter f) is
    parameter_same meant.RoutineOfCluster m is = ap (rules_of.denotes_parameter f) is
    parameter_same (meant.Module its) m is = ap (rules_of.denotes_parameter f) is

    abbrev denoted : ℕ → List Identifier → List (Option ℕ)
    denoted n its = map (λ name. found ds name n) its

    set_same : (items others : ℕ → Item) (n : ℕ) (its : List Identifier) (o : Option ℕ) (cs : List ℕ) → rules_of.has_no_set f (restricted items nodes n its o cs) ≡ (of_tables.names_set (restricted others nodes n its o cs) && is_none (set_at r (of_tables.second_bound (denoted n its))))
    set_same items others n [] (Some c) cs = refl
    set_same items others n [] None cs = refl
    set_same items others n (a ∷ []) (Some c) cs = refl
    set_same items others n (a ∷ []) None cs = refl
    set_same items others n (a ∷ b ∷ its) (Some c) cs = refl
    set_same items others n (a ∷ b ∷ its) None cs = none_is (equates.set_named f n b) ∙ ap not (sym (are.sets n b)) ∙ sym (none_is (set_at r (found ds b n)))

    no_set : (items : ℕ → Item) (n : ℕ) → kind_at nodes n ≡ kind.Restrict → rules_of.has_no_set f (item f n).restriction ≡ of_tables.has_no_set r items n
    no_set items n is =
        let x = there nodes n kind.Restrict refl is in
        let is_so : is_there kind.Restrict (slice_get nodes n) ≡ true = ap (is_there kind.Restrict) x.at ∙ ap (is_of kind.Restrict) x.is in
        ap (λ (i : Item). rules_of.has_no_set f i.restriction) (its_item nodes n kind.Restrict x)
        ∙ ap (λ (k : NodeKind). rules_of.has_no_set f (restriction_of (before n (item_at nodes)) nodes n x.node k)) x.is
        ∙ set_same (before n (item_at nodes)) items n x.node.names (one_of nodes kind.TypeSet x.node.children) (run nodes kind.Oper x.node.children)
        ∙ ap (λ (k : NodeKind). of_tables.names_set (restriction_of items nodes n x.node k) && is_none (set_at r (of_tables.second_bound (denoted n (names_in k x.node))))) (sym x.is)
        ∙ ap (λ (its : Option Node). of_tables.names_set (item_with items nodes n its).restriction && is_none (set_at r (of_tables.second_bound (bound_at ds n its)))) (sym x.at)
        ∙ ap (λ (bounds : List (Option ℕ)). of_tables.names_set (of_tables.item_in r items n).restriction && is_none (set_at r (of_tables.second_bound bounds))) (sym (bound_is f r.names.now are.names n))
        ∙ ap (λ (b : Bool). b && (of_tables.names_set (of_tables.item_in r items n).restriction && is_none (set_at r (of_tables.second_bound (bound_in r.names.now n))))) (sym is_so)

    other_variable : (n : ℕ) → kind_at nodes n ≡ kind.TypeSet → rules_of.is_other_variable f (item f n).type_set ≡ of_tables.is_second_other (names_of (slice_get nodes n))
    other_variable n is =
        let x = there nodes n kind.TypeSet refl is in
        let least : least_names x.node.kind ≡ 2 = ap least_names x.is in
        let size : least_names x.node.kind ≤ length x.node.names = (enough nodes shaped n x.node x.at).names in
        ap (λ (i : Item). rules_of.is_other_variable f i.type_set) (its_item nodes n kind.TypeSet x)
        ∙ ap (λ (k : NodeKind). rules_of.is_other_variable f (type_set_of (before n (item_at nodes)) nodes n x.node k)) x.is
        ∙ second_same x.node.names (omega (arith, least, size))
        ∙ ap (λ (its : Option Node). of_tables.is_second_other (names_of its)) (sym x.at)

    no_type : (items : ℕ → Item) (n : ℕ) (k : NodeKind) → IsTypeNameKnown r k n → kind_at nodes n ≡ k → rules_of.is_no_type f k n ≡ of_tables.is_no_type r items k n
    no_type items n kind.NameT known is = let m = are.named_types n is in no_type_same n (first_name_at f n) (meaning_in r n) (meaning f n (first_name_at f n)) known m.means m.routine
    no_type items n kind.Simple known is = no_type_rep items n known is
    no_type items n kind.Restrict known is =
        ap (λ (b : Bool). not b || rules_of.has_no_set f (item f n).restriction) (parameter_same (meaning_in r n) (meaning f n (first_name_at f n)) (are.restricted n is))
        ∙ ap (λ (b : Bool). not (of_tables.is_type_parameter (meaning_in r n)) || b) (no_set items n is)
    no_type items n kind.TypeSet known is = other_variable n is
    no_type items n _ known is = refl

    module _ (bits : List Bool) (bad : ℕ → Bool) (are_bad : AreBad f bits bad) where
      -- ---- V8 and V9

      abbrev pub IsTypeWantedSame : ℕ → Type 0
      IsTypeWantedSame n = rules_of.is_type_wanted f bad (wants.wanted f n) n ≡ of_tables.is_type_wanted r (wanted_in r n) n

      pub type_wanted : (n : ℕ) → AreBracketsKnown r n → IsTypeWantedSame n
      type_wanted n brackets = by (wanted_in r n) (sym (are.wanted n brackets.round))
        where
          by : (w : WantedThere) → wants.wanted f n ≡ wanted_told w → rules_of.is_type_wanted f bad (wants.wanted f n) n ≡ of_tables.is_type_wanted r w n
          by wanted.Constant is = ap (λ (w : Wanted). rules_of.is_type_wanted f bad w n) is ∙ so.wants_same t scope library refused shaped tree are n (ap rules_of.is_constant_wanted is)
          by wanted.NameWithActuals is = ap (λ (w : Wanted). rules_of.is_type_wanted f bad w n) is
          by wanted.Object is = ap (λ (w : Wanted). rules_of.is_type_wanted f bad w n) is
          by wanted.Objects is = ap (λ (w : Wanted). rules_of.is_type_wanted f bad w n) is
          by wanted.LoopCall is = ap (λ (w : Wanted). rules_of.is_type_wanted f bad w n) is
          by wanted.Type is = ap (λ (w : Wanted). rules_of.is_type_wanted f bad w n) is
          by wanted.Nothing is = ap (λ (w : Wanted). rules_of.is_type_wanted f bad w n) is

      pub name_bad : (n : ℕ) → kind_at nodes n ≡ kind.Name → equates.is_bad_name f bad n (first_name_at f n) ≡ of_tables.is_bad_first t bits n
      name_bad n is = so.bad_first t scope library refused shaped tree are bits bad are_bad n kind.Name refl (λ node. refl) refl is

      pub bad_constant : (n : ℕ) → IsTypeWantedSame n → (k : NodeKind) → kind_at nodes n ≡ k → rules_of.has_bad_constant f bad k n ≡ of_tables.has_bad_constant t bits k n
      bad_constant n same kind.Name is =
          ap (λ (b : Bool). b && not (rules_of.is_type_wanted f bad (wants.wanted f n) n)) (name_bad n is)
          ∙ ap (λ (b : Bool). of_tables.is_bad_first t bits n && not b) same
      bad_constant n same _ is = refl

      -- where both say the same of a text that is too long
      pub v8_by : (n : ℕ) → IsOperatorKnown r (kind_at nodes n) n → AreBracketsKnown r n →
          rules_of.is_too_long f rules_of.is_long_constant n ≡ (of_tables.is_right_side r n && of_tables.is_long_constant t.long_constants.now (value_in r n)) → rules_of.v8 f bad n ≡ of_tables.v8 t bits n
      v8_by n known brackets long =
          ap (λ (a : Bool). a || rules_of.has_bad_constant f bad (kind_in f n) n || rules_of.is_too_long f rules_of.is_long_constant n)
          (guarded (rules_of.is_neither f n) (of_tables.is_neither r n) (not (wants.wants_type f n)) (not (named.wants_type r n)) (neither_same n known brackets) (λ h. ap not (neither_wants n h)))
          ∙ ap (λ (b : Bool). (of_tables.is_neither r n && not (named.wants_type r n)) || b || rules_of.is_too_long f rules_of.is_long_constant n) (bad_constant n (type_wanted n brackets) (kind_at nodes n) refl)
          ∙ ap (λ (c : Bool). (of_tables.is_neither r n && not (named.wants_type r n)) || of_tables.has_bad_constant t bits (kind_at nodes n) n || c) long
          ∙ or_assoc (of_tables.is_neither r n && not (named.wants_type r n)) (of_tables.has_bad_constant t bits (kind_at nodes n) n) (of_tables.is_right_side r n && of_tables.is_long_constant t.long_constants.now (value_in r n))

      pub v8_is : (n : ℕ) → IsKnown r n → AreBracketsKnown r n → rules_of.v8 f bad n ≡ of_tables.v8 t bits n
      v8_is n known brackets = v8_by n (operator_known_in r (kind_at nodes n) n known) brackets (too_long_constant n (λ side. known))

      any_bad : (n : ℕ) (its : List Identifier) → list_any (equates.is_bad_name f bad n) its ≡ list_any (λ name. of_tables.is_bad t bits (found ds name n)) its
      any_bad n [] = refl
      any_bad n (name ∷ rest) =
          ap (λ (b : Bool). b || list_any (equates.is_bad_name f bad n) rest) (so.bad_name t scope library refused shaped tree are bits bad are_bad n name)
          ∙ ap (λ (b : Bool). of_tables.is_bad t bits (found ds name n) || b) (any_bad n rest)

      restricted_bad : (n : ℕ) → kind_at nodes n ≡ kind.Restrict → list_any (equates.is_bad_name f bad n) (names f n) ≡ list_any (of_tables.is_bad t bits) (bound_in r.names.now n)
      restricted_bad n is =
          let x = there nodes n kind.Restrict refl is in
          ap (λ (its : Option Node). list_any (equates.is_bad_name f bad n) (node_names f its)) x.at
          ∙ any_bad n x.node.names
          ∙ sym (any_mapped (of_tables.is_bad t bits) (λ name. found ds name n) x.node.names)
          ∙ ap (λ (k : NodeKind). list_any (of_tables.is_bad t bits) (denoted n (names_in k x.node))) (sym x.is)
          ∙ ap (λ (its : Option Node). list_any (of_tables.is_bad t bits) (bound_at ds n its)) (sym x.at)
          ∙ ap (list_any (of_tables.is_bad t bits)) (sym (bound_is f r.names.now are.names n))

      word_bad : (n : ℕ) (w : SimpleType) → (rules_of.is_word simple.Rep (a_simple_type n w) && equates.is_bad_name f bad n rep) ≡ of_tables.is_bad t bits (optional (slice_get (denoted n (equates.word_named f (a_simple_type n w))) 0))
      word_bad n simple.Rep = so.bad_name t scope library refused shaped tree are bits bad are_bad n rep
      word_bad n _ = refl

      rep_bad : (n : ℕ) → kind_at nodes n ≡ kind.Simple → (rules_of.is_word simple.Rep (item f n).type && equates.is_bad_name f bad n rep) ≡ of_tables.is_bad_first t bits n
      rep_bad n is =
          let x = there nodes n kind.Simple refl is in
          let its : (item f n).type ≡ a_simple_type n (simple_type (symbol_in x.node.value)) =
          ap (λ (i : Item). i.type) (its_item nodes n kind.Simple x) ∙ ap (type_expression_of (before n (item_at nodes)) nodes n x.node) x.is in
          ap (λ (u : TypeExpression). rules_of.is_word simple.Rep u && equates.is_bad_name f bad n rep) its
          ∙ word_bad n (simple_type (symbol_in x.node.value))
          ∙ ap (λ (u : TypeExpression). of_tables.is_bad t bits (optional (slice_get (denoted n (equates.word_named f u)) 0))) (sym its)
          ∙ ap (λ (bounds : List (Option ℕ)). of_tables.is_bad t bits (optional (slice_get bounds 0))) (sym (by_nodes.names_same f shaped n x.node x.at kind.Simple x.is))
          ∙ ap (λ (k : NodeKind). of_tables.is_bad t bits (optional (slice_get (denoted n (names_in k x.node)) 0))) (sym x.is)
          ∙ ap (λ (its : Option Node). of_tables.is_bad t bits (optional (slice_get (bound_at ds n its) 0))) (sym x.at)
          ∙ ap (λ (bounds : List (Option ℕ)). of_tables.is_bad t bits (optional (slice_get bounds 0))) (sym (bound_is f r.names.now are.names n))

      pub bad_type : (n : ℕ) → IsTypeWantedSame n → (k : NodeKind) → kind_at nodes n ≡ k → rules_of.has_bad_type f bad k n ≡ of_tables.has_bad_type t bits k n
      bad_type n same kind.Name is =
          ap (λ (b : Bool). b && rules_of.is_type_wanted f bad (wants.wanted f n) n) (name_bad n is)
          ∙ ap (λ (b : Bool). of_tables.is_bad_first t bits n && b) same
      bad_type n same kind.NameT is = so.bad_first t scope library refused shaped tree are bits bad are_bad n kind.NameT refl (λ node. refl) refl is
      bad_type n same kind.Simple is = rep_bad n is
      bad_type n same kind.Restrict is = restricted_bad n is
      bad_type n same _ is = refl

      -- where both say the same of the right side of `rep` too
      pub v9_by : (items : ℕ → Item) (n : ℕ) → IsOperatorKnown r (kind_at nodes n) n → IsTypeNameKnown r (kind_at nodes n) n → AreBracketsKnown r n → rules_of.is_bad_rep f n ≡ of_tables.is_bad_rep r items n →
          rules_of.is_too_long f rules_of.is_long_type n ≡ (of_tables.is_right_side r n && of_tables.is_long_type t.long_types.now (value_in r n)) → rules_of.v9 f bad n ≡ of_tables.v9 t bits items n
      v9_by items n known equated brackets rep_side long =
          let a : Bool = of_tables.is_neither r n && named.wants_type r n in
          let b : Bool = of_tables.is_bad_rep r items n in
          let c : Bool = of_tables.is_no_type r items (kind_at nodes n) n in
          let d : Bool = of_tables.has_bad_type t bits (kind_at nodes n) n in
          let e : Bool = of_tables.is_right_side r n && of_tables.is_long_type t.long_types.now (value_in r n) in
          ap (λ (x : Bool). x || rules_of.is_bad_rep f n || rules_of.is_no_type f (kind_in f n) n || rules_of.has_bad_type f bad (kind_in f n) n || rules_of.is_too_long f rules_of.is_long_type n)
          (guarded (rules_of.is_neither f n) (of_tables.is_neither r n) (wants.wants_type f n) (named.wants_type r n) (neither_same n known brackets) (neither_wants n))
          ∙ ap (λ (x : Bool). a || x || rules_of.is_no_type f (kind_in f n) n || rules_of.has_bad_type f bad (kind_in f n) n || rules_of.is_too_long f rules_of.is_long_type n) rep_side
          ∙ ap (λ (x : Bool). a || b || x || rules_of.has_bad_type f bad (kind_in f n) n || rules_of.is_too_long f rules_of.is_long_type n) (no_type items n (kind_at nodes n) equated refl)
          ∙ ap (λ (x : Bool). a || b || c || x || rules_of.is_too_long f rules_of.is_long_type n) (bad_type n (type_wanted n brackets) (kind_at nodes n) refl)
          ∙ ap (λ (x : Bool). a || b || c || d || x) long
          ∙ or_five a b c d e

      pub v9_is : (items : ℕ → Item) (n : ℕ) → IsKnown r n → IsEquateKnown r (meaning_in r n) → AreBracketsKnown r n → rules_of.v9 f bad n ≡ of_tables.v9 t bits items n
      v9_is items n known equated brackets =
          v9_by items n (operator_known_in r (kind_at nodes n) n known) (type_name_known_in r (kind_at nodes n) n equated) brackets (bad_rep items n (λ side. known)) (too_long_type n (λ side. known))

      -- the name of a bad equate where a type is wanted: V9 is violated by both, whatever else is lost
      pub v9_of_bad : (items : ℕ → Item) (n : ℕ) → of_tables.has_bad_type t bits (kind_at nodes n) n ≡ true → of_tables.v9 t bits items n ≡ true
      v9_of_bad items n hit =
          fourth (of_tables.is_neither r n && named.wants_type r n) (of_tables.is_bad_rep r items n) (of_tables.is_no_type r items (kind_at nodes n) n) (of_tables.has_bad_type t bits (kind_at nodes n) n)
          (of_tables.is_right_side r n && of_tables.is_long_type t.long_types.now (value_in r n)) hit

      pub v8_of_bad : (n : ℕ) → of_tables.has_bad_constant t bits (kind_at nodes n) n ≡ true → of_tables.v8 t bits n ≡ true
      v8_of_bad n hit =
          second (of_tables.is_neither r n && not (named.wants_type r n)) (of_tables.has_bad_constant t bits (kind_at nodes n) n) (of_tables.is_right_side r n && of_tables.is_long_constant t.long_constants.now (value_in r n)) hit
