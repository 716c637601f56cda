-- The same of any node that binds, by its form.
use Rattle.std.proofs.Common.{◌≡◌, ◌∙◌, ℕ, ◌+◌, true, List, [], ◌∷◌, ◌++◌, Option, Some, None, slice_get, refl, ap, sym, subst, inl, inr, append-nil}
use Rattle.std.specs.List.{AllByRecursion}
use Rattle.std.proofs.lemmas.Bool.{true≢false}
use Rattle.clu_lexer.specs.declared.symbols.Symbol.{Symbol}
use Rattle.clu_tree.specs.declared.node.Node.{Node}
use Rattle.clu_tree.specs.declared.node.NodeKind.{NodeKind}
use Rattle.clu_tree.specs.declared.node.NodeKind.TheVariants as kind
use Rattle.clu_tree.specs.Nodes.{IsTree}
use Rattle.clu_grammar.specs.Kinds.{is_statement}
use Rattle.clu_parser.specs.Shape as shape
use Rattle.clu_parser.specs.Shape.{Part, Letter, IsWord, value_is, name_is, token_is, IsFormOf, forms, names_in, values_in, HasForm}
use Rattle.clu_syntax.specs.declared.round.Round.{Round}
use Rattle.clu_syntax.specs.Kinds.{kind_of, kind_at}
use Rattle.clu_syntax.specs.Rounds.{round_at, routine_in}
use Rattle.clu_syntax.specs.Splits.{run, after_run}
use Rattle.clu_syntax.specs.Syntax.{Identifier, TypeExpression}
use Rattle.clu_syntax.specs.Items.{Item}
use Rattle.clu_syntax.specs.Nodes.{before, item_at, item_of, statement_of, for_of, init_of, owned, own_of, when_of, tag_arm_of, others_of}
use Rattle.clu_names.specs.Scopes.{kind_at_parent}
use Rattle.clu_parts.proofs.Fitting.{slots_of, Stand, fitted}
use Rattle.clu_parts.proofs.Counted.{is_unnamed, is_unvalued, is_valued, no_names, no_values, some_value, unnamed, FirstName, first_named, no_value, value_there}
use Rattle.clu_meaning.specs.Scoping.{Meaning, is_local, Bindings, of_statement, of_own, of_taken, of_body, of_others, of_variable}
use Rattle.clu_declares.specs.Declares.{variable_in, own_variable, outer_kind, declared_in, declared_by, of_initial, of_own_initial, of_arm}
use Rattle.clu_declares.proofs.Around.{IsAround}
use Rattle.clu_declares.proofs.Below.{binds, item_there, all_at, all_in, statement_at, equate_all, decl_all, own_all, arm_all, when_all, others_all, AreVariables}
use Rattle.clu_declares.proofs.Plain.{is_plain, none_below}
use Rattle.clu_declares.proofs.Whole.{while_is, begin_is, resignal_is, except_is, declare_is, init_is, call_init_is, owns_is, own_call_is, own_init_is, for_is, for_names_is, behind_type, when_is, any_when_is, tagcase_is, tagcase_others_is, TagcaseWhole, WhenWhole}

module _ (nodes : List Node) (rounds : List Round) (tree : IsTree nodes) (n : ℕ) (node : Node) (at : slice_get nodes n ≡ Some node) (f : HasForm nodes node) (round : AllByRecursion (IsAround rounds n node) node.children) where
  abbrev items : ℕ → Item
  items = before n (item_at nodes)

  abbrev all : List ℕ → Bindings
  all = all_in nodes rounds

  abbrev pub IsWhole : Type 0
  IsWhole = all_at nodes rounds n ≡ declared_by nodes rounds n ++ all node.children

  its : item_at nodes n ≡ item_of items nodes n node
  its = item_there nodes n node at

  -- ---- by kind

  kind_is : (k : NodeKind) → node.kind ≡ k → kind_at nodes n ≡ k
  kind_is k is = ap kind_of at ∙ is

  pub form_of : (k : NodeKind) → node.kind ≡ k → IsFormOf f.form (forms k)
  form_of k is = subst (λ (k : NodeKind). IsFormOf f.form (forms k)) is f.of_kind

  pub stand_in : (form : List Part) → f.form ≡ form → Stand nodes n (slots_of form) node.children
  stand_in form e = subst (λ (form : List Part). Stand nodes n (slots_of form) node.children) e (fitted nodes tree n node at f)

  word_in : (form : List Part) → f.form ≡ form → IsWord form f.word
  word_in form e = subst (λ (form : List Part). IsWord form f.word) e f.is_word

  declared_is : (k : NodeKind) → node.kind ≡ k → declared_by nodes rounds n ≡ declared_in nodes rounds k n
  declared_is k is = ap (λ (k : NodeKind). declared_in nodes rounds k n) (kind_is k is)

  -- ---- variables of the children

  outer_is : (c : ℕ) → IsAround rounds n node c → outer_kind nodes rounds c ≡ node.kind
  outer_is c r = ap (kind_at_parent nodes) r.parent ∙ ap kind_of at

  pub local_in : (k : NodeKind) → ((r : Round) → variable_in k r ≡ is_local) → node.kind ≡ k → (cs : List ℕ) → AllByRecursion (IsAround rounds n node) cs → AreVariables nodes rounds n is_local cs
  local_in k local is [] rs = tt
  local_in k local is (c ∷ cs) rs =
      (ap (λ (k : NodeKind). variable_in k (round_at rounds c)) (outer_is c rs.0 ∙ is) ∙ local (round_at rounds c), local_in k local is cs rs.1)

  own_in : node.kind ≡ kind.Own → (cs : List ℕ) → AllByRecursion (IsAround rounds n node) cs → AreVariables nodes rounds n (own_variable (round_at rounds n).routine) cs
  own_in is [] rs = tt
  own_in is (c ∷ cs) rs = (
    ap (λ (k : NodeKind). variable_in k (round_at rounds c)) (outer_is c rs.0 ∙ is)
        ∙ ap own_variable (rs.0.routine ∙ ap (λ (k : NodeKind). routine_in k n (round_at rounds n)) is),
    own_in is cs rs.1,
  )

  -- ---- statements

  statement_is : (k : NodeKind) → node.kind ≡ k → is_statement k ≡ true → all_at nodes rounds n ≡ of_statement (statement_of items nodes n node k)
  statement_is k is st =
      statement_at nodes rounds n (ap is_statement (kind_is k is) ∙ st)
      ∙ ap (λ (i : Item). of_statement i.statement) its ∙ ap (λ (k : NodeKind). of_statement (statement_of items nodes n node k)) is

  by_statement : (k : NodeKind) → node.kind ≡ k → is_statement k ≡ true → declared_in nodes rounds k n ≡ [] → of_statement (statement_of items nodes n node k) ≡ all node.children → IsWhole
  by_statement k is st none whole = statement_is k is st ∙ whole ∙ sym (ap (λ (bs : Bindings). bs ++ all node.children) (declared_is k is ∙ none))

  plain_statement : (k : NodeKind) → node.kind ≡ k → is_statement k ≡ true → declared_in nodes rounds k n ≡ [] → of_statement (statement_of items nodes n node k) ≡ [] → is_plain k ≡ true → IsWhole
  plain_statement k is st none empty plain = by_statement k is st none (empty ∙ sym (none_below nodes rounds tree n node at f (ap is_plain is ∙ plain)))

  -- ---- names and values

  first_name : (form : List Part) → f.form ≡ form → ((w : List Letter) → IsWord form w → (m : ℕ) × (names_in w ≡ m + 1)) → FirstName node.names
  first_name form e g = let m = g f.word (word_in form e) in first_named node.names m.0 (f.names_are ∙ m.1)

  no_name : (form : List Part) → f.form ≡ form → is_unnamed 2 form ≡ true → node.names ≡ []
  no_name form e none = unnamed node.names (names_in f.word) f.names_are (no_names 2 form f.word (word_in form e) none)

  without_value : (form : List Part) → f.form ≡ form → is_unvalued 2 form ≡ true → node.value_token ≡ None
  without_value form e none = no_value node (values_in f.word) f.value_is (no_values 2 form f.word (word_in form e) none)

  with_value : (form : List Part) → f.form ≡ form → is_valued form ≡ true → (token : ℕ) × (node.value_token ≡ Some token)
  with_value form e some = value_there node (values_in f.word) f.value_is (some_value form f.word (word_in form e) some)

  name_first : (ps : List Part) (w : List Letter) → IsWord (shape.name ∷ ps) w → (m : ℕ) × (names_in w ≡ m + 1)
  name_first ps _ (name_is _ w d) = (names_in w, refl)

  token_first : (x : Symbol) (ps : List Part) (w : List Letter) → IsWord (shape.token x ∷ shape.name ∷ ps) w → (m : ℕ) × (names_in w ≡ m + 1)
  token_first x ps _ (token_is _ _ w d) = name_first ps w d

  value_first : (xs : List Symbol) (ps : List Part) (w : List Letter) → IsWord (shape.value xs ∷ shape.name ∷ ps) w → (m : ℕ) × (names_in w ≡ m + 1)
  value_first xs ps _ (value_is _ _ _ w has d) = name_first ps w d

  -- ---- each kind with parts that bind

  while_whole : node.kind ≡ kind.While → IsWhole
  while_whole is = elim (form_of kind.While is) [ inl e ↦ by_statement kind.While is refl refl (while_is nodes rounds n node node.children (stand_in _ e)) | inr never ↦ absurd never ]

  begin_whole : node.kind ≡ kind.Begin → IsWhole
  begin_whole is = elim (form_of kind.Begin is) [ inl e ↦ by_statement kind.Begin is refl refl (begin_is nodes rounds n node node.children (stand_in _ e)) | inr never ↦ absurd never ]

  resignal_whole : node.kind ≡ kind.Resignal → IsWhole
  resignal_whole is = elim (form_of kind.Resignal is) [ inl e ↦ by_statement kind.Resignal is refl refl (resignal_is nodes rounds n node node.children (stand_in _ e)) | inr never ↦ absurd never ]

  except_whole : node.kind ≡ kind.Except → IsWhole
  except_whole is = elim (form_of kind.Except is) [ inl e ↦ by_statement kind.Except is refl refl (except_is nodes rounds n node node.children (stand_in _ e)) | inr never ↦ absurd never ]

  declare_whole : node.kind ≡ kind.Declare → IsWhole
  declare_whole is = elim (form_of kind.Declare is) [ inl e ↦ by_statement kind.Declare is refl refl (declare_is nodes rounds n node node.children (stand_in _ e) (local_in kind.Declare (λ r. refl) is node.children round)) | inr never ↦ absurd never ]

  abbrev InitBy : List Identifier → Type 0
  InitBy names = of_statement (init_of items nodes n node names) ≡ of_initial (init_of items nodes n node names) ++ all node.children

  init_whole : node.kind ≡ kind.Init → IsWhole
  init_whole is = elim (form_of kind.Init is) [
    | inl e ↦
        let name = first_name _ e (name_first _) in
        named name.first name.others name.is (init_is nodes rounds n node name.first name.others node.children (stand_in _ e))
    | inr (inl e) ↦ bare (no_name _ e refl) (call_init_is nodes rounds n node node.children (local_in kind.Init (λ r. refl) is node.children round) (stand_in _ e))
    | inr (inr never) ↦ absurd never
  ]
    where
      behind : InitBy node.names → IsWhole
      behind w =
          statement_is kind.Init is refl ∙ w
          ∙ sym (ap (λ (bs : Bindings). bs ++ all node.children) (declared_is kind.Init is ∙ ap (λ (i : Item). of_initial i.statement) its ∙ ap (λ (k : NodeKind). of_initial (statement_of items nodes n node k)) is))

      named : (name : Identifier) (names : List Identifier) → node.names ≡ name ∷ names → InitBy (name ∷ names) → IsWhole
      named name names e w = behind (subst InitBy (sym e) w)

      bare : node.names ≡ [] → InitBy [] → IsWhole
      bare e w = behind (subst InitBy (sym e) w)

  abbrev v : TypeExpression → Meaning
  v = own_variable (round_at rounds n).routine

  abbrev OwnBy : List Identifier → Type 0
  OwnBy names =
      of_own v (owned items nodes n names (run nodes kind.Decl node.children) (after_run nodes kind.Decl node.children))
      ≡ of_own_initial v (owned items nodes n names (run nodes kind.Decl node.children) (after_run nodes kind.Decl node.children)) ++ all node.children

  own_whole : node.kind ≡ kind.Own → IsWhole
  own_whole is = elim (form_of kind.Own is) [
    | inl e ↦ behind [] (no_name _ e refl) (owns_is nodes rounds n v node.children (own_in is node.children round) (stand_in _ e))
    | inr (inl e) ↦
        let name = first_name _ e (value_first _ _) in
        behind (name.first ∷ name.others) name.is (own_init_is nodes rounds n v name.first name.others node.children (stand_in _ e))
    | inr (inr (inl e)) ↦ behind [] (no_name _ e refl) (own_call_is nodes rounds n v node.children (own_in is node.children round) (stand_in _ e))
    | inr (inr (inr never)) ↦ absurd never
  ]
    where
      behind : (names : List Identifier) → node.names ≡ names → OwnBy names → IsWhole
      behind names e w =
          own_all nodes rounds n (kind_is kind.Own is) ∙ ap (λ (i : Item). of_own v i.own) its ∙ ap (λ (k : NodeKind). of_own v (own_of items nodes n node k)) is
          ∙ subst OwnBy (sym e) w
          ∙ sym (ap (λ (bs : Bindings). bs ++ all node.children) (declared_is kind.Own is ∙ ap (λ (i : Item). of_own_initial v i.own) its ∙ ap (λ (k : NodeKind). of_own_initial v (own_of items nodes n node k)) is))

  abbrev ForBy : List Identifier → Type 0
  ForBy names = of_statement (for_of items nodes n names (run nodes kind.Decl node.children) (after_run nodes kind.Decl node.children)) ≡ all node.children

  for_whole : node.kind ≡ kind.For → IsWhole
  for_whole is = elim (form_of kind.For is) [
    | inl e ↦ behind [] (no_name _ e refl) (for_is nodes rounds n node.children (local_in kind.For (λ r. refl) is node.children round) (stand_in _ e))
    | inr (inl e) ↦
        let name = first_name _ e (token_first _ _) in
        behind (name.first ∷ name.others) name.is (for_names_is nodes rounds n name.first name.others node.children (stand_in _ e))
    | inr (inr never) ↦ absurd never
  ]
    where
      behind : (names : List Identifier) → node.names ≡ names → ForBy names → IsWhole
      behind names e w = by_statement kind.For is refl refl (subst ForBy (sym e) w)

  tagcase_whole : node.kind ≡ kind.Tagcase → IsWhole
  tagcase_whole is = elim (form_of kind.Tagcase is) [
    | inl e ↦ behind None (without_value _ e refl) (tagcase_is nodes rounds n node.children (stand_in _ e))
    | inr (inl e) ↦ let token = with_value _ e refl in behind (Some token.0) token.1 (tagcase_others_is nodes rounds n token.0 node.children (stand_in _ e))
    | inr (inr never) ↦ absurd never
  ]
    where
      behind : (token : Option ℕ) → node.value_token ≡ token → TagcaseWhole nodes rounds n token node.children → IsWhole
      behind token e w = by_statement kind.Tagcase is refl refl (subst (λ (token : Option ℕ). TagcaseWhole nodes rounds n token node.children) (sym e) w)

  -- ---- arms and declarations

  arm_whole : node.kind ≡ kind.TagArm → IsWhole
  arm_whole is = elim (form_of kind.TagArm is) [
    | inl e ↦
        arm_all nodes rounds n (kind_is kind.TagArm is)
        ∙ ap (λ (b : Bindings). of_variable n is_local (item_at nodes n).tag_arm.variable ++ b) (ap (λ (i : Item). of_body i.tag_arm.body) its ∙ ap (λ (k : NodeKind). of_body (tag_arm_of items nodes n node k).body) is ∙ behind_type nodes rounds n node.children (stand_in _ e))
        ∙ sym (ap (λ (bs : Bindings). bs ++ all node.children) (declared_is kind.TagArm is))
    | inr never ↦ absurd never
  ]

  when_whole : node.kind ≡ kind.When → IsWhole
  when_whole is = elim (form_of kind.When is) [
    | inl e ↦ behind None (without_value _ e refl) (when_is nodes rounds n node.children (local_in kind.When (λ r. refl) is node.children round) (stand_in _ e))
    | inr (inl e) ↦ let token = with_value _ e refl in behind (Some token.0) token.1 (any_when_is nodes rounds n token.0 node.children (stand_in _ e))
    | inr (inr never) ↦ absurd never
  ]
    where
      behind : (token : Option ℕ) → node.value_token ≡ token → WhenWhole nodes rounds n token node.children → IsWhole
      behind token e w =
          when_all nodes rounds n (kind_is kind.When is)
          ∙ ap (λ (i : Item). of_taken i.when.taken ++ of_body i.when.body) its ∙ ap (λ (k : NodeKind). of_taken (when_of items nodes n node k).taken ++ of_body (when_of items nodes n node k).body) is
          ∙ subst (λ (token : Option ℕ). WhenWhole nodes rounds n token node.children) (sym e) w
          ∙ sym (ap (λ (bs : Bindings). bs ++ all node.children) (declared_is kind.When is))

  others_whole : node.kind ≡ kind.Others → IsWhole
  others_whole is = elim (form_of kind.Others is) [
    | inl e ↦
        others_all nodes rounds n (kind_is kind.Others is) ∙ ap (λ (i : Item). of_others i.others) its ∙ ap (λ (k : NodeKind). of_others (others_of items nodes n node k)) is
        ∙ ap (λ (b : Bindings). of_arm (others_of items nodes n node kind.Others) ++ b) (behind_type nodes rounds n node.children (stand_in _ e))
        ∙ sym (ap (λ (bs : Bindings). bs ++ all node.children) (declared_is kind.Others is ∙ ap (λ (i : Item). of_arm i.others) its ∙ ap (λ (k : NodeKind). of_arm (others_of items nodes n node k)) is))
    | inr never ↦ absurd never
  ]

  -- nothing binds below an equate or a declaration
  plain_whole : (k : NodeKind) → node.kind ≡ k → is_plain k ≡ true → all_at nodes rounds n ≡ declared_in nodes rounds k n → IsWhole
  plain_whole k is plain e =
      e ∙ sym (append-nil (declared_in nodes rounds k n)) ∙ ap (λ (bs : Bindings). declared_in nodes rounds k n ++ bs) (sym (none_below nodes rounds tree n node at f (ap is_plain is ∙ plain)))
      ∙ sym (ap (λ (bs : Bindings). bs ++ all node.children) (declared_is k is))

  -- an If, which is split by its tokens
  module _ (if_whole : node.kind ≡ kind.If → of_statement (statement_of items nodes n node kind.If) ≡ all node.children) where
    whole_by : (k : NodeKind) → node.kind ≡ k → binds k ≡ true → IsWhole
    whole_by kind.Equate is b = plain_whole kind.Equate is refl (equate_all nodes rounds n (kind_is kind.Equate is))
    whole_by kind.Decl is b = plain_whole kind.Decl is refl (decl_all nodes rounds n (kind_is kind.Decl is))
    whole_by kind.Own is b = own_whole is
    whole_by kind.TagArm is b = arm_whole is
    whole_by kind.When is b = when_whole is
    whole_by kind.Others is b = others_whole is
    whole_by kind.Declare is b = declare_whole is
    whole_by kind.Init is b = init_whole is
    whole_by kind.Assign is b = plain_statement kind.Assign is refl refl refl refl
    whole_by kind.SetField is b = plain_statement kind.SetField is refl refl refl refl
    whole_by kind.SetIndex is b = plain_statement kind.SetIndex is refl refl refl refl
    whole_by kind.CallS is b = plain_statement kind.CallS is refl refl refl refl
    whole_by kind.While is b = while_whole is
    whole_by kind.For is b = for_whole is
    whole_by kind.If is b = by_statement kind.If is refl refl (if_whole is)
    whole_by kind.Tagcase is b = tagcase_whole is
    whole_by kind.Return is b = plain_statement kind.Return is refl refl refl refl
    whole_by kind.Yield is b = plain_statement kind.Yield is refl refl refl refl
    whole_by kind.Signal is b = plain_statement kind.Signal is refl refl refl refl
    whole_by kind.Exit is b = plain_statement kind.Exit is refl refl refl refl
    whole_by kind.Break is b = plain_statement kind.Break is refl refl refl refl
    whole_by kind.Continue is b = plain_statement kind.Continue is refl refl refl refl
    whole_by kind.Begin is b = begin_whole is
    whole_by kind.Resignal is b = resignal_whole is
    whole_by kind.Except is b = except_whole is
    whole_by _ is b = absurd (true≢false (sym b))

    pub whole : binds node.kind ≡ true → IsWhole
    whole b = whole_by node.kind refl b
