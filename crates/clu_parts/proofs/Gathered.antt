-- The parts of each node are its children: no list of parts leaves out a child.
use Rattle.std.proofs.Common.{◌≡◌, ◌∙◌, ℕ, ◌+◌, ◌&&◌, Bool, true, false, if◌then◌else◌, List, [], ◌∷◌, ◌++◌, length, take, drop, Option, Some, None, slice_get, refl, ap, ap₂, sym, subst, inl, inr, arith, append-nil}
use Rattle.std.proofs.lemmas.List.{take-append-drop}
use Rattle.clu_lexer.specs.declared.symbols.Symbol.{Symbol}
use Rattle.clu_tree.specs.declared.node.Node.{Node}
use Rattle.clu_tree.specs.declared.node.NodeKind.{NodeKind}
use Rattle.clu_tree.specs.declared.node.NodeKind.TheVariants as kind
use Rattle.clu_tree.specs.Nodes.{IsTree}
use Rattle.clu_grammar.specs.Kinds.{is_type}
use Rattle.clu_parser.specs.Shape as shape
use Rattle.clu_parser.specs.Shape.{Part, is_child, parts_of as group, IsWord, token_is, name_is, value_is, IsFormOf, forms, names_in, values_in, HasForm}
use Rattle.clu_syntax.specs.Kinds.{kind_at}
use Rattle.clu_syntax.specs.Splits.{child, is_of, leading, leading_types, leading_before, run, after_run, after_one, one_of, type_of}
use Rattle.clu_syntax.specs.Syntax.{Identifier}
use Rattle.clu_parts.specs.Parts.{list_of, otherwise_parts, taken_parts, restricted_parts, owned_parts, for_parts, init_parts, owns_parts, equates_parts, cluster_parts, results_parts, routine_parts, parts_of}
use Rattle.clu_parts.specs.Slots.{Slot, just, several, at_most_one, may_stand, slots_of, Stand, body_slots, IsElse, IfParts}
use Rattle.clu_parts.proofs.Fitting.{first_of, run_is, no_run, after_one_is, on_head, on_end, several_from, fitted}
use Rattle.clu_parts.proofs.Counted.{is_unnamed, is_unvalued, is_valued, no_names, no_values, some_value, unnamed, FirstName, first_named, no_value, value_there}
use Rattle.clu_parts.proofs.Lists.{run_then, one_then, type_then, routine_whole, all_run, all_more, one_alone, results_whole, with_last, behind_types, clauses_whole, first_alone, first_then, two_alone, three_alone, behind_first, nothing}

-- ---- which kinds stand in slots

abbrev here : shape.Group → NodeKind → Bool
here g = may_stand 2 (group g)

abbrev one : NodeKind → NodeKind → Bool
one k = is_child (shape.one k)

same_modules : (j : NodeKind) → here shape.more_modules j ≡ is_of kind.Module j
same_modules kind.File = refl
same_modules _ = refl

same_module : (j : NodeKind) → one kind.Module j ≡ here shape.more_modules j
same_module kind.File = refl
same_module _ = refl

same_equates : (j : NodeKind) → here shape.equates j ≡ is_of kind.Equate j
same_equates kind.File = refl
same_equates _ = refl

same_parms : (j : NodeKind) → here shape.parms j ≡ is_of kind.Parm j
same_parms kind.File = refl
same_parms _ = refl

same_where : (j : NodeKind) → here shape.demands j ≡ is_of kind.Where j
same_where kind.File = refl
same_where _ = refl

same_owns : (j : NodeKind) → here shape.owns j ≡ is_of kind.Own j
same_owns kind.File = refl
same_owns _ = refl

same_routines : (j : NodeKind) → here shape.more_routines j ≡ is_of kind.Routine j
same_routines kind.File = refl
same_routines _ = refl

same_routine : (j : NodeKind) → one kind.Routine j ≡ here shape.more_routines j
same_routine kind.File = refl
same_routine _ = refl

same_exceptions : (j : NodeKind) → here shape.more_exceptions j ≡ is_of kind.Exc j
same_exceptions kind.File = refl
same_exceptions _ = refl

same_exception : (j : NodeKind) → one kind.Exc j ≡ here shape.more_exceptions j
same_exception kind.File = refl
same_exception _ = refl

same_restricts : (j : NodeKind) → here shape.more_restricts j ≡ is_of kind.Restrict j
same_restricts kind.File = refl
same_restricts _ = refl

same_restrict : (j : NodeKind) → one kind.Restrict j ≡ here shape.more_restricts j
same_restrict kind.File = refl
same_restrict _ = refl

same_opers : (j : NodeKind) → here shape.more_opers j ≡ is_of kind.Oper j
same_opers kind.File = refl
same_opers _ = refl

same_oper : (j : NodeKind) → one kind.Oper j ≡ here shape.more_opers j
same_oper kind.File = refl
same_oper _ = refl

same_fields : (j : NodeKind) → here shape.more_fields j ≡ is_of kind.FieldT j
same_fields kind.File = refl
same_fields _ = refl

same_field : (j : NodeKind) → one kind.FieldT j ≡ here shape.more_fields j
same_field kind.File = refl
same_field _ = refl

same_components : (j : NodeKind) → here shape.more_components j ≡ is_of kind.FieldE j
same_components kind.File = refl
same_components _ = refl

same_component : (j : NodeKind) → one kind.FieldE j ≡ here shape.more_components j
same_component kind.File = refl
same_component _ = refl

same_decls : (j : NodeKind) → here shape.more_decls j ≡ is_of kind.Decl j
same_decls kind.File = refl
same_decls _ = refl

same_decl : (j : NodeKind) → one kind.Decl j ≡ here shape.more_decls j
same_decl kind.File = refl
same_decl _ = refl

same_loop : (j : NodeKind) → here shape.decls j ≡ is_of kind.Decl j
same_loop kind.File = refl
same_loop _ = refl

same_arms : (j : NodeKind) → here shape.more_arms j ≡ is_of kind.TagArm j
same_arms kind.File = refl
same_arms _ = refl

same_arm : (j : NodeKind) → one kind.TagArm j ≡ here shape.more_arms j
same_arm kind.File = refl
same_arm _ = refl

same_whens : (j : NodeKind) → here shape.whens j ≡ is_of kind.When j
same_whens kind.File = refl
same_whens _ = refl

same_others : (j : NodeKind) → here shape.others j ≡ is_of kind.Others j
same_others kind.File = refl
same_others _ = refl

same_types : (j : NodeKind) → here shape.types j ≡ is_type j
same_types kind.File = refl
same_types _ = refl

same_results : (j : NodeKind) → here shape.results j ≡ is_of kind.Results j
same_results kind.File = refl
same_results _ = refl

same_signals : (j : NodeKind) → here shape.signals j ≡ is_of kind.Signals j
same_signals kind.File = refl
same_signals _ = refl

same_sets : (j : NodeKind) → one kind.TypeSet j ≡ is_of kind.TypeSet j
same_sets kind.File = refl
same_sets _ = refl

-- ---- and which stand apart

apart_equates : (j : NodeKind) → (is_of kind.Equate j && first_of (several (here shape.owns) ∷ just (one kind.Routine) ∷ several (here shape.more_routines) ∷ []) j) ≡ false
apart_equates kind.File = refl
apart_equates _ = refl

apart_owns : (j : NodeKind) → (is_of kind.Own j && first_of (just (one kind.Routine) ∷ several (here shape.more_routines) ∷ []) j) ≡ false
apart_owns kind.File = refl
apart_owns _ = refl

abbrev owns_slots : List Slot
owns_slots = several (here shape.owns) ∷ just (one kind.Routine) ∷ several (here shape.more_routines) ∷ []

abbrev where_slots : List Slot
where_slots = at_most_one (here shape.demands) ∷ several (here shape.equates) ∷ owns_slots

apart_where : (j : NodeKind) → (is_of kind.Where j && first_of (several (here shape.equates) ∷ owns_slots) j) ≡ false
apart_where kind.File = refl
apart_where _ = refl

apart_parms : (j : NodeKind) → (is_of kind.Parm j && first_of where_slots j) ≡ false
apart_parms kind.File = refl
apart_parms _ = refl

apart_routine : (j : NodeKind) → (is_of kind.Equate j && first_of (just (one kind.Routine) ∷ []) j) ≡ false
apart_routine kind.File = refl
apart_routine _ = refl

apart_cluster : (j : NodeKind) → (is_of kind.Equate j && first_of (just (one kind.Cluster) ∷ []) j) ≡ false
apart_cluster kind.File = refl
apart_cluster _ = refl

apart_call : (j : NodeKind) → (is_of kind.Decl j && first_of (just (one kind.Call) ∷ []) j) ≡ false
apart_call kind.File = refl
apart_call _ = refl

apart_end : (j : NodeKind) → (is_of kind.Decl j && first_of [] j) ≡ false
apart_end kind.File = refl
apart_end _ = refl

abbrev type_expression : List Slot
type_expression = just (is_child shape.any_type) ∷ just (is_child shape.expression) ∷ []

apart_type : (j : NodeKind) → (is_of kind.Decl j && first_of type_expression j) ≡ false
apart_type kind.File = refl
apart_type _ = refl

abbrev call_body : List Slot
call_body = just (one kind.Call) ∷ body_slots

apart_loop : (j : NodeKind) → (is_of kind.Decl j && first_of call_body j) ≡ false
apart_loop kind.File = refl
apart_loop _ = refl

apart_body : (j : NodeKind) → (is_of kind.Decl j && first_of body_slots j) ≡ false
apart_body kind.File = refl
apart_body _ = refl

apart_arms : (j : NodeKind) → (is_of kind.TagArm j && first_of body_slots j) ≡ false
apart_arms kind.File = refl
apart_arms _ = refl

apart_whens : (j : NodeKind) → (is_of kind.When j && first_of (at_most_one (here shape.others) ∷ []) j) ≡ false
apart_whens kind.File = refl
apart_whens _ = refl

apart_opers : (j : NodeKind) → (is_of kind.Oper j && first_of (several (here shape.equates) ∷ []) j) ≡ false
apart_opers kind.File = refl
apart_opers _ = refl

apart_results : (j : NodeKind) → (is_of kind.Results j && first_of (at_most_one (here shape.signals) ∷ []) j) ≡ false
apart_results kind.File = refl
apart_results _ = refl

apart_types : (j : NodeKind) → (is_type j && first_of (at_most_one (here shape.results) ∷ at_most_one (here shape.signals) ∷ []) j) ≡ false
apart_types kind.File = refl
apart_types _ = refl

apart_set : (j : NodeKind) → (is_of kind.TypeSet j && first_of (several (here shape.more_opers) ∷ []) j) ≡ false
apart_set kind.File = refl
apart_set _ = refl

module _ (nodes : List Node) (n : ℕ) where
  -- ---- by the slots

  abbrev Has : List Slot → List ℕ → Type 0
  Has = Stand nodes n

  owns_whole : (cs : List ℕ) → Has owns_slots cs → owns_parts nodes cs ≡ cs
  owns_whole cs s =
      run_then nodes n kind.Own cs (run nodes kind.Routine (after_run nodes kind.Own cs))
      (all_more nodes n kind.Routine (here shape.more_routines) (one kind.Routine) (after_run nodes kind.Own cs) same_routines same_routine
      (run_is nodes n kind.Own (here shape.owns) (just (one kind.Routine) ∷ several (here shape.more_routines) ∷ []) cs same_owns apart_owns s).rest)

  equates_whole : (cs : List ℕ) → Has (several (here shape.equates) ∷ owns_slots) cs → equates_parts nodes cs ≡ cs
  equates_whole cs s = run_then nodes n kind.Equate cs (owns_parts nodes (after_run nodes kind.Equate cs)) (owns_whole (after_run nodes kind.Equate cs) (run_is nodes n kind.Equate (here shape.equates) owns_slots cs same_equates apart_equates s).rest)

  cluster_whole : (cs : List ℕ) → Has where_slots cs → cluster_parts nodes cs ≡ cs
  cluster_whole cs s =
      one_then nodes n kind.Where cs (equates_parts nodes (after_one nodes kind.Where cs)) (equates_whole (after_one nodes kind.Where cs) (after_one_is nodes n kind.Where (here shape.demands) (several (here shape.equates) ∷ owns_slots) cs same_where apart_where s))

  -- Decl#, and what stands behind them
  behind_decls : (ss : List Slot) (cs : List ℕ) → ((j : NodeKind) → (is_of kind.Decl j && first_of ss j) ≡ false) → Has (just (one kind.Decl) ∷ several (here shape.more_decls) ∷ ss) cs → Has ss (after_run nodes kind.Decl cs)
  behind_decls ss cs apart s = (run_is nodes n kind.Decl (here shape.more_decls) ss cs same_decls apart (several_from nodes n (one kind.Decl) (here shape.more_decls) ss cs same_decl s)).rest

  own_decls : (cs : List ℕ) → Has (just (one kind.Decl) ∷ several (here shape.more_decls) ∷ []) cs → owned_parts [] (run nodes kind.Decl cs) (after_run nodes kind.Decl cs) ≡ cs
  own_decls cs s =
      on_end nodes n (λ (xs : List ℕ). xs ≡ after_run nodes kind.Decl cs → owned_parts [] (run nodes kind.Decl cs) xs ≡ cs)
      (λ e. sym (append-nil (run nodes kind.Decl cs)) ∙ run_then nodes n kind.Decl cs [] e) (after_run nodes kind.Decl cs) (behind_decls [] cs apart_end s) refl

  own_call : (cs : List ℕ) → Has (just (one kind.Decl) ∷ several (here shape.more_decls) ∷ just (one kind.Call) ∷ []) cs → owned_parts [] (run nodes kind.Decl cs) (after_run nodes kind.Decl cs) ≡ cs
  own_call cs s =
      on_head nodes n (λ (xs : List ℕ). xs ≡ after_run nodes kind.Decl cs → owned_parts [] (run nodes kind.Decl cs) xs ≡ cs) (one kind.Call) []
      (λ c rest is s. on_end nodes n (λ (rest : List ℕ). c ∷ rest ≡ after_run nodes kind.Decl cs → owned_parts [] (run nodes kind.Decl cs) (c ∷ rest) ≡ cs) (λ e. run_then nodes n kind.Decl cs (c ∷ []) e) rest s)
      (after_run nodes kind.Decl cs) (behind_decls (just (one kind.Call) ∷ []) cs apart_call s) refl

  own_init : (name : Identifier) (names : List Identifier) (cs : List ℕ) → Has type_expression cs → owned_parts (name ∷ names) (run nodes kind.Decl cs) (after_run nodes kind.Decl cs) ≡ cs
  own_init name names cs s =
      subst (λ (m : ℕ). owned_parts (name ∷ names) (take m cs) (drop m cs) ≡ cs) (sym (no_run nodes n kind.Decl type_expression cs apart_type s))
      (on_head nodes n (λ (cs : List ℕ). owned_parts (name ∷ names) [] cs ≡ cs) (is_child shape.any_type) (just (is_child shape.expression) ∷ [])
      (λ c rest is s. on_head nodes n (λ (rest : List ℕ). owned_parts (name ∷ names) [] (c ∷ rest) ≡ c ∷ rest) (is_child shape.expression) []
      (λ d rest is s. on_end nodes n (λ (rest : List ℕ). c ∷ d ∷ [] ≡ c ∷ d ∷ rest) refl rest s) rest s) cs s)

  for_decls : (cs : List ℕ) → Has (several (here shape.decls) ∷ call_body) cs → for_parts [] (run nodes kind.Decl cs) (after_run nodes kind.Decl cs) ≡ cs
  for_decls cs s =
      on_head nodes n (λ (xs : List ℕ). xs ≡ after_run nodes kind.Decl cs → for_parts [] (run nodes kind.Decl cs) xs ≡ cs) (one kind.Call) body_slots
      (λ c rest is s e. run_then nodes n kind.Decl cs (c ∷ rest) e) (after_run nodes kind.Decl cs) (run_is nodes n kind.Decl (here shape.decls) call_body cs same_loop apart_loop s).rest refl

  for_names : (name : Identifier) (names : List Identifier) (cs : List ℕ) → Has call_body cs → for_parts (name ∷ names) (run nodes kind.Decl cs) (after_run nodes kind.Decl cs) ≡ cs
  for_names name names cs s =
      subst (λ (m : ℕ). for_parts (name ∷ names) (take m cs) (drop m cs) ≡ cs) (sym (no_run nodes n kind.Decl call_body cs apart_loop s))
      (on_head nodes n (λ (cs : List ℕ). for_parts (name ∷ names) [] cs ≡ cs) (one kind.Call) body_slots (λ c rest is s. refl) cs s)

  when_any : (at : ℕ) (cs : List ℕ) → Has body_slots cs → taken_parts (Some at) (run nodes kind.Decl cs) ++ after_run nodes kind.Decl cs ≡ cs
  when_any at cs s = ap (λ (m : ℕ). drop m cs) (no_run nodes n kind.Decl body_slots cs apart_body s)

  arms_alone : (cs : List ℕ) → Has (just (one kind.TagArm) ∷ several (here shape.more_arms) ∷ []) cs → run nodes kind.TagArm cs ++ otherwise_parts None (after_run nodes kind.TagArm cs) ≡ cs
  arms_alone cs s = append-nil (run nodes kind.TagArm cs) ∙ all_more nodes n kind.TagArm (here shape.more_arms) (one kind.TagArm) cs same_arms same_arm s

  excepts : (cs : List ℕ) → Has (several (here shape.whens) ∷ at_most_one (here shape.others) ∷ []) cs → run nodes kind.When cs ++ list_of (one_of nodes kind.Others (after_run nodes kind.When cs)) ≡ cs
  excepts cs s = run_then nodes n kind.When cs (list_of (one_of nodes kind.Others (after_run nodes kind.When cs))) (one_alone nodes n kind.Others (here shape.others) (after_run nodes kind.When cs) same_others (run_is nodes n kind.When (here shape.whens) (at_most_one (here shape.others) ∷ []) cs same_whens apart_whens s).rest)

  sets : (cs : List ℕ) → Has (just (one kind.Oper) ∷ several (here shape.more_opers) ∷ several (here shape.equates) ∷ []) cs → run nodes kind.Oper cs ++ run nodes kind.Equate (after_run nodes kind.Oper cs) ≡ cs
  sets cs s =
      run_then nodes n kind.Oper cs (run nodes kind.Equate (after_run nodes kind.Oper cs))
      (all_run nodes n kind.Equate (here shape.equates) (after_run nodes kind.Oper cs) same_equates
      (run_is nodes n kind.Oper (here shape.more_opers) (several (here shape.equates) ∷ []) cs same_opers apart_opers (several_from nodes n (one kind.Oper) (here shape.more_opers) (several (here shape.equates) ∷ []) cs same_oper s)).rest)

  routine_types : (cs : List ℕ) → Has (several (here shape.types) ∷ at_most_one (here shape.results) ∷ at_most_one (here shape.signals) ∷ []) cs → take (leading_types nodes cs) cs ++ results_parts nodes (drop (leading_types nodes cs) cs) ≡ cs
  routine_types cs s =
      ap (λ (xs : List ℕ). take (leading_types nodes cs) cs ++ xs)
      (results_whole nodes n (here shape.results) (here shape.signals) (drop (leading_types nodes cs) cs) same_results same_signals apart_results
      (behind_types nodes n (here shape.types) (at_most_one (here shape.results) ∷ at_most_one (here shape.signals) ∷ []) cs same_types apart_types s))
      ∙ take-append-drop (leading_types nodes cs) cs

  -- a first child of another kind is not that one
  not_that : (k : NodeKind) (p : NodeKind → Bool) (ss : List Slot) (cs : List ℕ) → ((j : NodeKind) → (p j && is_of k j) ≡ false) → Has (just p ∷ ss) cs → one_of nodes k cs ≡ None
  not_that k p ss cs apart s =
      on_head nodes n (λ (cs : List ℕ). one_of nodes k cs ≡ None) p ss
      (λ c rest is s. ap (λ (b : Bool). if b then Some c else None) (sym (ap (λ (b : Bool). b && is_of k (kind_at nodes c)) is.1) ∙ apart (kind_at nodes c))) cs s

  set_alone : (names : List Identifier) (decls cs : List ℕ) → Has (just (one kind.TypeSet) ∷ []) cs → restricted_parts names (one_of nodes kind.TypeSet cs) decls ≡ cs
  set_alone names decls cs s =
      on_head nodes n (λ (cs : List ℕ). restricted_parts names (one_of nodes kind.TypeSet cs) decls ≡ cs) (one kind.TypeSet) []
      (λ c rest is s. ap (λ (b : Bool). restricted_parts names (if b then Some c else None) decls) (sym (same_sets (kind_at nodes c)) ∙ is.1) ∙ on_end nodes n (λ (rest : List ℕ). c ∷ [] ≡ c ∷ rest) refl rest s) cs s

  type_alone : (cs : List ℕ) → Has (just (is_child shape.any_type) ∷ []) cs → list_of (type_of nodes cs) ≡ cs
  type_alone cs s =
      on_head nodes n (λ (cs : List ℕ). list_of (type_of nodes cs) ≡ cs) (is_child shape.any_type) []
      (λ c rest is s. ap (λ (b : Bool). list_of (if b then Some c else None)) is.1 ∙ on_end nodes n (λ (rest : List ℕ). c ∷ [] ≡ c ∷ rest) refl rest s) cs s

  no_type : (cs : List ℕ) → Has [] cs → list_of (type_of nodes cs) ≡ cs
  no_type cs s = on_end nodes n (λ (cs : List ℕ). list_of (type_of nodes cs) ≡ cs) refl cs s

oper_no_set : (j : NodeKind) → (one kind.Oper j && is_of kind.TypeSet j) ≡ false
oper_no_set kind.File = refl
oper_no_set _ = refl

no_restricted : (names : List Identifier) → restricted_parts names None [] ≡ []
no_restricted [] = refl
no_restricted (a ∷ []) = refl
no_restricted (a ∷ b ∷ names) = refl

module _ (nodes : List Node) (tree : IsTree nodes) (n : ℕ) (node : Node) (at : slice_get nodes n ≡ Some node) (f : HasForm nodes node) where
  abbrev cs : List ℕ
  cs = node.children

  abbrev IsWhole : NodeKind → Type 0
  IsWhole k = parts_of nodes node k ≡ node.children

  form_of : (k : NodeKind) → node.kind ≡ k → IsFormOf f.form (forms k)
  form_of k is = subst (λ (k : NodeKind). IsFormOf f.form (forms k)) is f.of_kind

  stand_in : (form : List Part) → f.form ≡ form → Stand nodes n (slots_of form) node.children
  stand_in form e = subst (λ (form : List Part). Stand nodes n (slots_of form) node.children) e (fitted nodes tree n node at f)

  word_in : (form : List Part) → f.form ≡ form → IsWord form f.word
  word_in form e = subst (λ (form : List Part). IsWord form f.word) e f.is_word

  unnamed_in : (form : List Part) → f.form ≡ form → is_unnamed 2 form ≡ true → node.names ≡ []
  unnamed_in form e none = unnamed node.names (names_in f.word) f.names_are (no_names 2 form f.word (word_in form e) none)

  without_value : (form : List Part) → f.form ≡ form → is_unvalued 2 form ≡ true → node.value_token ≡ None
  without_value form e none = no_value node (values_in f.word) f.value_is (no_values 2 form f.word (word_in form e) none)

  with_value : (form : List Part) → f.form ≡ form → is_valued form ≡ true → (token : ℕ) × (node.value_token ≡ Some token)
  with_value form e some = value_there node (values_in f.word) f.value_is (some_value form f.word (word_in form e) some)

  named_in : (form : List Part) → f.form ≡ form → ((w : List shape.Letter) → IsWord form w → (m : ℕ) × (names_in w ≡ m + 1)) → FirstName node.names
  named_in form e g = let m = g f.word (word_in form e) in first_named node.names m.0 (f.names_are ∙ m.1)

  name_first : (ps : List Part) (w : List shape.Letter) → IsWord (shape.name ∷ ps) w → (m : ℕ) × (names_in w ≡ m + 1)
  name_first ps _ (name_is _ w d) = (names_in w, refl)

  token_first : (x : Symbol) (ps : List Part) (w : List shape.Letter) → IsWord (shape.token x ∷ shape.name ∷ ps) w → (m : ℕ) × (names_in w ≡ m + 1)
  token_first x ps _ (token_is _ _ w d) = name_first ps w d

  value_first : (xs : List Symbol) (ps : List Part) (w : List shape.Letter) → IsWord (shape.value xs ∷ shape.name ∷ ps) w → (m : ℕ) × (names_in w ≡ m + 1)
  value_first xs ps _ (value_is _ _ _ w has d) = name_first ps w d

  -- the name is the only one
  one_name : (form ps : List Part) → form ≡ shape.name ∷ ps → f.form ≡ form → is_unnamed 2 ps ≡ true → length node.names ≡ 1
  one_name form ps same e none = f.names_are ∙ by f.word (word_in (shape.name ∷ ps) (e ∙ same))
    where
      by : (w : List shape.Letter) → IsWord (shape.name ∷ ps) w → names_in w ≡ 1
      by _ (name_is _ w d) = ap (λ (m : ℕ). m + 1) (no_names 2 ps w d none)

  restricted_one : (names : List Identifier) (decls : List ℕ) → length names ≡ 1 → restricted_parts names None decls ≡ decls
  restricted_one [] decls e = absurd (omega (arith, e))
  restricted_one (a ∷ []) decls e = refl
  restricted_one (a ∷ b ∷ names) decls e = absurd (omega (arith, e))

  module _ (ifs : node.kind ≡ kind.If → IfParts nodes n node) where
    if_whole : node.kind ≡ kind.If → IsWhole kind.If
    if_whole is =
        let p : IfParts nodes n node = ifs is in
        ap₂ (λ (xs ys : List ℕ). xs ++ ys) (clauses_whole nodes n (take (leading_before nodes node node.children) node.children) p.clauses) (else_whole node.value_token (drop (leading_before nodes node node.children) node.children) p.behind)
        ∙ take-append-drop (leading_before nodes node node.children) node.children
      where
        else_whole : (o : Option ℕ) (xs : List ℕ) → IsElse nodes n o xs → otherwise_parts o xs ≡ xs
        else_whole None xs e = sym e
        else_whole (Some token) xs s = refl

    gathered : (k : NodeKind) → node.kind ≡ k → IsWhole k
    unfolding leading
    gathered kind.File is = elim (form_of kind.File is) [ inl e ↦ all_more nodes n kind.Module (here shape.more_modules) (one kind.Module) cs same_modules same_module (stand_in _ e) | inr never ↦ absurd never ]
    gathered kind.Module is = elim (form_of kind.Module is) [ inl e ↦ with_last nodes n kind.Equate (one kind.Routine) cs (run_is nodes n kind.Equate (here shape.equates) (just (one kind.Routine) ∷ []) cs same_equates apart_routine (stand_in _ e)).rest | inr (inl e) ↦ with_last nodes n kind.Equate (one kind.Cluster) cs (run_is nodes n kind.Equate (here shape.equates) (just (one kind.Cluster) ∷ []) cs same_equates apart_cluster (stand_in _ e)).rest | inr (inr never) ↦ absurd never ]
    gathered kind.Routine is = run_then nodes n kind.Parm cs (routine_parts nodes (after_run nodes kind.Parm cs)) (routine_whole nodes n (after_run nodes kind.Parm cs))
    gathered kind.Cluster is = elim (form_of kind.Cluster is) [ inl e ↦ run_then nodes n kind.Parm cs (cluster_parts nodes (after_run nodes kind.Parm cs)) (cluster_whole nodes n (after_run nodes kind.Parm cs) (run_is nodes n kind.Parm (here shape.parms) where_slots cs same_parms apart_parms (stand_in _ e)).rest) | inr never ↦ absurd never ]
    gathered kind.Parm is = elim (form_of kind.Parm is) [ inl e ↦ no_type nodes n cs (stand_in _ e) | inr (inl e) ↦ type_alone nodes n cs (stand_in _ e) | inr (inr never) ↦ absurd never ]
    gathered kind.Results is = refl
    gathered kind.Exc is = refl
    gathered kind.NameT is = refl
    gathered kind.Assign is = refl
    gathered kind.Return is = refl
    gathered kind.Yield is = refl
    gathered kind.Signal is = refl
    gathered kind.Exit is = refl
    gathered kind.Begin is = refl
    gathered kind.Signals is = elim (form_of kind.Signals is) [ inl e ↦ all_more nodes n kind.Exc (here shape.more_exceptions) (one kind.Exc) cs same_exceptions same_exception (stand_in _ e) | inr never ↦ absurd never ]
    gathered kind.Where is = elim (form_of kind.Where is) [ inl e ↦ all_more nodes n kind.Restrict (here shape.more_restricts) (one kind.Restrict) cs same_restricts same_restrict (stand_in _ e) | inr never ↦ absurd never ]
    gathered kind.Restrict is = elim (form_of kind.Restrict is) [
      | inl e ↦
          ap (λ (o : Option ℕ). restricted_parts node.names o (run nodes kind.Oper cs)) (not_that nodes n kind.TypeSet (one kind.Oper) (several (here shape.more_opers) ∷ []) cs oper_no_set (stand_in _ e))
          ∙ restricted_one node.names (run nodes kind.Oper cs) (one_name _ _ refl e refl)
          ∙ all_more nodes n kind.Oper (here shape.more_opers) (one kind.Oper) cs same_opers same_oper (stand_in _ e)
      | inr (inl e) ↦ on_end nodes n (λ (xs : List ℕ). restricted_parts node.names (one_of nodes kind.TypeSet xs) (run nodes kind.Oper xs) ≡ xs) (no_restricted node.names) cs (stand_in _ e)
      | inr (inr (inl e)) ↦ set_alone nodes n node.names (run nodes kind.Oper cs) cs (stand_in _ e)
      | inr (inr (inr never)) ↦ absurd never
    ]
    gathered kind.Oper is = elim (form_of kind.Oper is) [ inl e ↦ first_alone nodes n (is_child shape.any_type) cs (stand_in _ e) | inr never ↦ absurd never ]
    gathered kind.TypeSet is = elim (form_of kind.TypeSet is) [ inl e ↦ sets nodes n cs (stand_in _ e) | inr never ↦ absurd never ]
    gathered kind.Equate is = elim (form_of kind.Equate is) [
      | inl e ↦ first_alone nodes n (is_child shape.constant) cs (stand_in _ e)
      | inr (inl e) ↦ first_alone nodes n (one kind.TypeSet) cs (stand_in _ e)
      | inr (inr (inl e)) ↦ first_alone nodes n (is_child shape.constant) cs (stand_in _ e)
      | inr (inr (inr (inl e))) ↦ first_alone nodes n (one kind.TypeSet) cs (stand_in _ e)
      | inr (inr (inr (inr never))) ↦ absurd never
    ]
    gathered kind.Own is = elim (form_of kind.Own is) [
      | inl e ↦ ap (λ (names : List Identifier). owned_parts names (run nodes kind.Decl cs) (after_run nodes kind.Decl cs)) (unnamed_in _ e refl) ∙ own_decls nodes n cs (stand_in _ e)
      | inr (inl e) ↦
          (let name = named_in _ e (value_first _ _) in
          ap (λ (names : List Identifier). owned_parts names (run nodes kind.Decl cs) (after_run nodes kind.Decl cs)) name.is ∙ own_init nodes n name.first name.others cs (stand_in _ e))
      | inr (inr (inl e)) ↦ ap (λ (names : List Identifier). owned_parts names (run nodes kind.Decl cs) (after_run nodes kind.Decl cs)) (unnamed_in _ e refl) ∙ own_call nodes n cs (stand_in _ e)
      | inr (inr (inr never)) ↦ absurd never
    ]
    gathered kind.Decl is = elim (form_of kind.Decl is) [ inl e ↦ first_alone nodes n (is_child shape.any_type) cs (stand_in _ e) | inr never ↦ absurd never ]
    gathered kind.ListT is = elim (form_of kind.ListT is) [ inl e ↦ first_alone nodes n (is_child shape.any_type) cs (stand_in _ e) | inr never ↦ absurd never ]
    gathered kind.FieldsT is = elim (form_of kind.FieldsT is) [ inl e ↦ all_more nodes n kind.FieldT (here shape.more_fields) (one kind.FieldT) cs same_fields same_field (stand_in _ e) | inr never ↦ absurd never ]
    gathered kind.FieldT is = elim (form_of kind.FieldT is) [ inl e ↦ first_alone nodes n (is_child shape.any_type) cs (stand_in _ e) | inr never ↦ absurd never ]
    gathered kind.RoutineT is = elim (form_of kind.RoutineT is) [ inl e ↦ routine_types nodes n cs (stand_in _ e) | inr (inl e) ↦ routine_types nodes n cs (stand_in _ e) | inr (inr never) ↦ absurd never ]
    gathered kind.Declare is = elim (form_of kind.Declare is) [ inl e ↦ first_alone nodes n (one kind.Decl) cs (stand_in _ e) | inr never ↦ absurd never ]
    gathered kind.Init is = elim (form_of kind.Init is) [
      | inl e ↦
          (let name = named_in _ e (name_first _) in
          ap (init_parts nodes node) name.is ∙ two_alone nodes n (is_child shape.any_type) (is_child shape.expression) cs (stand_in _ e))
      | inr (inl e) ↦ ap (init_parts nodes node) (unnamed_in _ e refl) ∙ with_last nodes n kind.Decl (one kind.Call) cs (behind_decls nodes n (just (one kind.Call) ∷ []) cs apart_call (stand_in _ e))
      | inr (inr never) ↦ absurd never
    ]
    gathered kind.SetField is = elim (form_of kind.SetField is) [ inl e ↦ two_alone nodes n (is_child shape.expression) (is_child shape.expression) cs (stand_in _ e) | inr never ↦ absurd never ]
    gathered kind.SetIndex is = elim (form_of kind.SetIndex is) [ inl e ↦ three_alone nodes n (is_child shape.expression) (is_child shape.expression) (is_child shape.expression) cs (stand_in _ e) | inr never ↦ absurd never ]
    gathered kind.CallS is = elim (form_of kind.CallS is) [ inl e ↦ first_alone nodes n (one kind.Call) cs (stand_in _ e) | inr never ↦ absurd never ]
    gathered kind.While is = elim (form_of kind.While is) [ inl e ↦ first_then nodes n (is_child shape.expression) body_slots cs (stand_in _ e) | inr never ↦ absurd never ]
    gathered kind.For is = elim (form_of kind.For is) [
      | inl e ↦ ap (λ (names : List Identifier). for_parts names (run nodes kind.Decl cs) (after_run nodes kind.Decl cs)) (unnamed_in _ e refl) ∙ for_decls nodes n cs (stand_in _ e)
      | inr (inl e) ↦
          (let name = named_in _ e (token_first _ _) in
          ap (λ (names : List Identifier). for_parts names (run nodes kind.Decl cs) (after_run nodes kind.Decl cs)) name.is ∙ for_names nodes n name.first name.others cs (stand_in _ e))
      | inr (inr never) ↦ absurd never
    ]
    gathered kind.If is = if_whole is
    gathered kind.Tagcase is = elim (form_of kind.Tagcase is) [
      | inl e ↦
          ap (λ (o : Option ℕ). child 0 node ∷ run nodes kind.TagArm (drop 1 cs) ++ otherwise_parts o (after_run nodes kind.TagArm (drop 1 cs))) (without_value _ e refl)
          ∙ behind_first nodes n (is_child shape.expression) (just (one kind.TagArm) ∷ several (here shape.more_arms) ∷ []) (λ (xs : List ℕ). run nodes kind.TagArm xs ++ otherwise_parts None (after_run nodes kind.TagArm xs)) (λ rest s. arms_alone nodes n rest s) cs (stand_in _ e)
      | inr (inl e) ↦
          (let token = with_value _ e refl in
          ap (λ (o : Option ℕ). child 0 node ∷ run nodes kind.TagArm (drop 1 cs) ++ otherwise_parts o (after_run nodes kind.TagArm (drop 1 cs))) token.1
          ∙ behind_first nodes n (is_child shape.expression) (just (one kind.TagArm) ∷ several (here shape.more_arms) ∷ body_slots) (λ (xs : List ℕ). run nodes kind.TagArm xs ++ after_run nodes kind.TagArm xs) (λ rest s. run_then nodes n kind.TagArm rest (after_run nodes kind.TagArm rest) refl) cs (stand_in _ e))
      | inr (inr never) ↦ absurd never
    ]
    gathered kind.TagArm is = type_then nodes n cs
    gathered kind.Resignal is = elim (form_of kind.Resignal is) [ inl e ↦ first_alone nodes n (is_child shape.statement) cs (stand_in _ e) | inr never ↦ absurd never ]
    gathered kind.Except is = elim (form_of kind.Except is) [ inl e ↦ behind_first nodes n (is_child shape.statement) (several (here shape.whens) ∷ at_most_one (here shape.others) ∷ []) (λ (xs : List ℕ). run nodes kind.When xs ++ list_of (one_of nodes kind.Others (after_run nodes kind.When xs))) (λ rest s. excepts nodes n rest s) cs (stand_in _ e) | inr never ↦ absurd never ]
    gathered kind.When is = elim (form_of kind.When is) [
      | inl e ↦ ap (λ (o : Option ℕ). taken_parts o (run nodes kind.Decl cs) ++ after_run nodes kind.Decl cs) (without_value _ e refl) ∙ run_then nodes n kind.Decl cs (after_run nodes kind.Decl cs) refl
      | inr (inl e) ↦ (let token = with_value _ e refl in ap (λ (o : Option ℕ). taken_parts o (run nodes kind.Decl cs) ++ after_run nodes kind.Decl cs) token.1 ∙ when_any nodes n token.0 cs (stand_in _ e))
      | inr (inr never) ↦ absurd never
    ]
    gathered kind.Others is = type_then nodes n cs
    gathered kind.Infix is = elim (form_of kind.Infix is) [ inl e ↦ two_alone nodes n (is_child shape.expression) (is_child shape.expression) cs (stand_in _ e) | inr never ↦ absurd never ]
    gathered kind.Prefix is = elim (form_of kind.Prefix is) [ inl e ↦ first_alone nodes n (is_child shape.expression) cs (stand_in _ e) | inr never ↦ absurd never ]
    gathered kind.Paren is = elim (form_of kind.Paren is) [ inl e ↦ first_alone nodes n (is_child shape.expression) cs (stand_in _ e) | inr never ↦ absurd never ]
    gathered kind.Get is = elim (form_of kind.Get is) [ inl e ↦ first_alone nodes n (is_child shape.expression) cs (stand_in _ e) | inr never ↦ absurd never ]
    gathered kind.FieldE is = elim (form_of kind.FieldE is) [ inl e ↦ first_alone nodes n (is_child shape.expression) cs (stand_in _ e) | inr never ↦ absurd never ]
    gathered kind.Up is = elim (form_of kind.Up is) [ inl e ↦ first_alone nodes n (is_child shape.expression) cs (stand_in _ e) | inr never ↦ absurd never ]
    gathered kind.Down is = elim (form_of kind.Down is) [ inl e ↦ first_alone nodes n (is_child shape.expression) cs (stand_in _ e) | inr never ↦ absurd never ]
    gathered kind.OperOf is = elim (form_of kind.OperOf is) [ inl e ↦ first_alone nodes n (is_child shape.any_type) cs (stand_in _ e) | inr never ↦ absurd never ]
    gathered kind.Force is = elim (form_of kind.Force is) [ inl e ↦ first_alone nodes n (is_child shape.any_type) cs (stand_in _ e) | inr never ↦ absurd never ]
    gathered kind.Index is = elim (form_of kind.Index is) [ inl e ↦ first_then nodes n (is_child shape.expression) _ cs (stand_in _ e) | inr never ↦ absurd never ]
    gathered kind.Call is = elim (form_of kind.Call is) [ inl e ↦ first_then nodes n (is_child shape.expression) _ cs (stand_in _ e) | inr never ↦ absurd never ]
    gathered kind.Fields is = elim (form_of kind.Fields is) [ inl e ↦ behind_first nodes n (is_child shape.any_type) (just (one kind.FieldE) ∷ several (here shape.more_components) ∷ []) (run nodes kind.FieldE) (λ rest s. all_more nodes n kind.FieldE (here shape.more_components) (one kind.FieldE) rest same_components same_component s) cs (stand_in _ e) | inr never ↦ absurd never ]
    gathered kind.Elems is = elim (form_of kind.Elems is) [ inl e ↦ first_then nodes n (is_child shape.any_type) _ cs (stand_in _ e) | inr (inl e) ↦ first_then nodes n (is_child shape.any_type) _ cs (stand_in _ e) | inr (inr never) ↦ absurd never ]
    gathered kind.Simple is = elim (form_of kind.Simple is) [ inl e ↦ nothing nodes n cs (stand_in _ e) | inr never ↦ absurd never ]
    gathered kind.Literal is = elim (form_of kind.Literal is) [ inl e ↦ nothing nodes n cs (stand_in _ e) | inr never ↦ absurd never ]
    gathered kind.Name is = elim (form_of kind.Name is) [ inl e ↦ nothing nodes n cs (stand_in _ e) | inr never ↦ absurd never ]
    gathered kind.Break is = elim (form_of kind.Break is) [ inl e ↦ nothing nodes n cs (stand_in _ e) | inr never ↦ absurd never ]
    gathered kind.Continue is = elim (form_of kind.Continue is) [ inl e ↦ nothing nodes n cs (stand_in _ e) | inr never ↦ absurd never ]

    pub all_gathered : parts_of nodes node node.kind ≡ node.children
    all_gathered = gathered node.kind refl
