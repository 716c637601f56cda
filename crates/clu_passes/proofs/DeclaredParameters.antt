-- The types with which the parameters of modules are declared are those of the table.
use Rattle.std.proofs.Common.{◌≡◌, ◌∙◌, ℕ, zero, suc, ◌+◌, ◌<◌, ◌-◌, Bool, true, false, if◌then◌else◌, List, [], ◌∷◌, ◌++◌, length, map, get_or, Option, Some, None, slice_get, refl, ap, sym, subst, inl, inr, arith, length-append}
use Rattle.std.specs.Prelude.{All}
use Rattle.std.specs.Option.{option_and_then}
use Rattle.std.proofs.lemmas.Option.{slice_get_within}
use Rattle.clu_tree.specs.declared.node.Node.{Node}
use Rattle.clu_tree.specs.declared.node.NodeKind.{NodeKind}
use Rattle.clu_tree.specs.declared.node.NodeKind.TheVariants as kind
use Rattle.clu_parser.specs.Trees.{Text}
use Rattle.clu_syntax.specs.declared.round.Round.{Round}
use Rattle.clu_syntax.specs.Kinds.{is_type, kind_at}
use Rattle.clu_syntax.specs.Rounds.{AreRounds, round_at}
use Rattle.clu_syntax.specs.Splits.{is_of, last_child, run, type_of}
use Rattle.clu_syntax.specs.Syntax.{Identifier, TypeExpression, Parameter}
use Rattle.clu_syntax.specs.Items.{Item, parameters_at, type_of_option}
use Rattle.clu_syntax.specs.Nodes.{before, item_at, parameter_of, parameter_from}
use Rattle.clu_meaning.specs.Scoping.{Scope}
use Rattle.clu_checking.specs.Specifications.{Specification}
use Rattle.clu_checking.specs.Files.{File, parameters_in, parameters_round}
use Rattle.clu_checking.specs.Headings as headings
use Rattle.clu_checking.specs.Headings.{types_in, nth}
use Rattle.clu_parts.proofs.Fitting.{AreParts, children_before}
use Rattle.clu_declares.specs.Declares.{IsParsed}
use Rattle.clu_declares.proofs.Below.{same_kind, before_is, item_there}
use Rattle.clu_declares.proofs.Facts.{There, there, run_kinds, routine_at, ModuleIs, module_at}
use Rattle.clu_declares.proofs.Haves.{cluster_facts}
use Rattle.clu_declares.proofs.Modules.{unit_is}
use Rattle.clu_bindings.specs.declared.file.File.{File as Read}
use Rattle.clu_bindings.specs.Tables.{optional, items_at, joined_to}
use Rattle.clu_bindings.specs.Headlines.{Headline, headline_of, headline_by, defined_in, headline_in, headline_at}
use Rattle.clu_bindings.specs.Parameters.{of_parm, of_parms, of_headline, of_unit, AreParameters}
use Rattle.clu_bindings.specs.Bindings.{AreBindings}
use Rattle.clu_bindings.specs.Readers as read
use Rattle.clu_passes.specs.ConstantTables.{IsTypeOf, file_with}
use Rattle.clu_passes.proofs.ParameterKinds.{first_type}
use Rattle.clu_passes.proofs.Joined.{AreStarts, table_size, table_at, joined_at}

-- ---- lists of parameters

abbrev pub AreTypes : List Node → List (Option ℕ) → List (Option TypeExpression) → Type 0
AreTypes nodes [] [] = Unit {0}
AreTypes nodes (x ∷ xs) (y ∷ ys) = IsTypeOf nodes x y × AreTypes nodes xs ys
AreTypes nodes _ _ = ⊥

joined_types : (nodes : List Node) (xs : List (Option ℕ)) (ys : List (Option TypeExpression)) (us : List (Option ℕ)) (vs : List (Option TypeExpression)) → AreTypes nodes xs ys → AreTypes nodes us vs → AreTypes nodes (xs ++ us) (ys ++ vs)
joined_types nodes [] [] us vs a b = b
joined_types nodes [] (y ∷ ys) us vs a b = absurd a
joined_types nodes (x ∷ xs) [] us vs a b = absurd a
joined_types nodes (x ∷ xs) (y ∷ ys) us vs a b = (a.0, joined_types nodes xs ys us vs a.1 b)

each_named : (nodes : List Node) (x : Option ℕ) (y : Option TypeExpression) (names : List Identifier) → IsTypeOf nodes x y → AreTypes nodes (map (λ name. x) names) (map (λ name. y) names)
each_named nodes x y [] e = tt
each_named nodes x y (name ∷ names) e = (e, each_named nodes x y names e)

nth_type : (nodes : List Node) (xs : List (Option ℕ)) (ys : List (Option TypeExpression)) (k : ℕ) → AreTypes nodes xs ys → IsTypeOf nodes (read.numbered xs k) (option_and_then (λ t. t) (nth ys k))
nth_type nodes xs ys zero a = tt
nth_type nodes [] [] (suc k) a = tt
nth_type nodes [] (y ∷ ys) (suc k) a = absurd a
nth_type nodes (x ∷ xs) [] (suc k) a = absurd a
nth_type nodes (x ∷ xs) (y ∷ ys) (suc zero) a = a.0
nth_type nodes (x ∷ xs) (y ∷ ys) (suc (suc k)) a = nth_type nodes xs ys (suc k) a.1

last_there : (xs : List ℕ) (x : ℕ) → get_or (xs ++ x ∷ []) (length xs) 0 ≡ x
last_there [] x = refl
last_there (y ∷ xs) x = last_there xs x

last_of : (xs : List ℕ) (x : ℕ) → get_or (xs ++ x ∷ []) (length (xs ++ x ∷ []) - 1) 0 ≡ x
last_of xs x =
    let long : length (xs ++ x ∷ []) - 1 ≡ length xs = let size : length (xs ++ x ∷ []) ≡ length xs + 1 = length-append xs (x ∷ []) in omega (arith, size) in
    ap (λ (k : ℕ). get_or (xs ++ x ∷ []) k 0) long ∙ last_there xs x

module _ (t : Text) (nodes : List Node) (rounds : List Round) (parsed : IsParsed t nodes) (are : AreRounds nodes rounds) where
  -- ---- those of a Parm

  type_is : (n : ℕ) (o : Option ℕ) → ((c : ℕ) → o ≡ Some c → (c < n) × (is_type (kind_at nodes c) ≡ true)) → IsTypeOf nodes o (type_of_option (before n (item_at nodes)) o)
  type_is n None typed = tt
  type_is n (Some c) typed = let e = typed c refl in (e.1, ap (λ (i : Item). i.type) (sym (before_is nodes n c e.0)))

  parm_types : (c : ℕ) → is_of kind.Parm (kind_at nodes c) ≡ true → AreTypes nodes (of_parm nodes (slice_get nodes c)) (map (λ name. (item_at nodes c).parameter.type) (item_at nodes c).parameter.names)
  parm_types c e =
      let th : There nodes c kind.Parm = there nodes c kind.Parm refl (same_kind kind.Parm (kind_at nodes c) e) in
      let its : (item_at nodes c).parameter ≡ parameter_from (before c (item_at nodes)) nodes c th.node =
      ap (λ (i : Item). i.parameter) (item_there nodes c th.node th.at) ∙ ap (parameter_of (before c (item_at nodes)) nodes c th.node) th.is in
      let own : of_parm nodes (slice_get nodes c) ≡ map (λ name. type_of nodes th.node.children) th.node.names =
      ap (of_parm nodes) th.at ∙ ap (λ (k : NodeKind). if is_of kind.Parm k then map (λ name. type_of nodes th.node.children) th.node.names else []) th.is in
      subst (λ (xs : List (Option ℕ)). AreTypes nodes xs (map (λ name. (item_at nodes c).parameter.type) (item_at nodes c).parameter.names)) (sym own)
      (subst (λ (p : Parameter). AreTypes nodes (map (λ name. type_of nodes th.node.children) th.node.names) (map (λ name. p.type) p.names)) (sym its)
      (each_named nodes (type_of nodes th.node.children) (type_of_option (before c (item_at nodes)) (type_of nodes th.node.children)) th.node.names
      (type_is c (type_of nodes th.node.children) (λ x is. first_type nodes c th.node.children x (children_below c th) is))))
    where
      children_below : (c : ℕ) (th : There nodes c kind.Parm) → All (λ d. d < c) th.node.children
      children_below c th = parsed.tree.below c th.node th.at

  pub parms_types : (d : ℕ) (cs : List ℕ) → AreParts nodes (is_of kind.Parm) d cs → AreTypes nodes (of_parms nodes cs) (types_in (parameters_at (before d (item_at nodes)) cs))
  unfolding of_parms
  parms_types d [] ps = tt
  parms_types d (c ∷ cs) ps =
      joined_types nodes (of_parm nodes (slice_get nodes c)) (map (λ name. (before d (item_at nodes) c).parameter.type) (before d (item_at nodes) c).parameter.names) (of_parms nodes cs) (types_in (parameters_at (before d (item_at nodes)) cs))
      (subst (λ (i : Item). AreTypes nodes (of_parm nodes (slice_get nodes c)) (map (λ name. i.parameter.type) i.parameter.names)) (sym (before_is nodes d c ps.0.0)) (parm_types c ps.0.1))
      (parms_types d cs ps.1)

  -- ---- those of a module

  module _ (u : ℕ) (node : Node) (at : slice_get nodes u ≡ Some node) (is : node.kind ≡ kind.Module) where
    abbrev pub facts : ModuleIs t nodes rounds parsed are u node
    facts = module_at t nodes rounds parsed are u node at is

    pub last_is : last_child node ≡ facts.last
    last_is = ap (λ (cs : List ℕ). get_or cs (length cs - 1) 0) (sym facts.is_last) ∙ last_of (run nodes kind.Equate node.children) facts.last

    pub headline_is : headline_at nodes u ≡ defined_in nodes (slice_get nodes facts.last)
    headline_is =
        ap (headline_in nodes) at
        ∙ ap (λ (k : NodeKind). if is_of kind.Module k then defined_in nodes (slice_get nodes (last_child node)) else None) is
        ∙ ap (λ (c : ℕ). defined_in nodes (slice_get nodes c)) last_is

    module _ (k : NodeKind) (th : There nodes facts.last k) (b : Bool) (by : headline_by nodes k th.node ≡ Some (headline_of nodes b th.node)) where
      types_so : (ps : List Parameter) → parameters_in (item_at nodes u).module_ ≡ ps → ps ≡ parameters_at (before facts.last (item_at nodes)) (run nodes kind.Parm th.node.children) → AreTypes nodes (of_unit nodes u) (types_in (parameters_in (item_at nodes u).module_))
      types_so ps its e =
          let own : of_unit nodes u ≡ of_parms nodes (run nodes kind.Parm th.node.children) =
          ap (of_headline nodes) (headline_is ∙ ap (defined_in nodes) th.at ∙ ap (λ (k : NodeKind). headline_by nodes k th.node) th.is ∙ by) in
          subst (λ (xs : List (Option ℕ)). AreTypes nodes xs (types_in (parameters_in (item_at nodes u).module_))) (sym own)
          (subst (λ (ps : List Parameter). AreTypes nodes (of_parms nodes (run nodes kind.Parm th.node.children)) (types_in ps)) (sym (its ∙ e))
          (parms_types facts.last (run nodes kind.Parm th.node.children) (run_kinds nodes kind.Parm facts.last th.node.children (children_before nodes parsed.tree facts.last th.node th.at))))

    pub unit_types : AreTypes nodes (of_unit nodes u) (types_in (parameters_in (item_at nodes u).module_))
    unit_types = elim facts.defines [
      | inl d ↦
          (let th : There nodes facts.last kind.Routine = there nodes facts.last kind.Routine refl d.0 in
          types_so kind.Routine th true refl (item_at nodes facts.last).routine.parameters (ap parameters_in d.1) (routine_at t nodes rounds parsed are facts.last th.node th.at th.is).parameters)
      | inr d ↦
          (let th : There nodes facts.last kind.Cluster = there nodes facts.last kind.Cluster refl d.0 in
          types_so kind.Cluster th false refl (item_at nodes facts.last).cluster.parameters (ap parameters_in d.1) (cluster_facts t nodes rounds parsed are 0 [] facts.last th.node th.at th.is).parameters)
    ]

-- ---- the table of a file

module _ (t : Text) (r : Read) (parsed : IsParsed t r.syntax.now) (are : AreRounds r.syntax.now r.rounds.now) (tables : AreBindings r.syntax.now r.rounds.now r.names.now r.values.now r.bindings.now) where
  starts : AreStarts (of_unit r.syntax.now) r.bindings.now.parameters.starts.items (length r.syntax.now)
  starts = record {
    size = ap length tables.parameters.starts ∙ table_size (λ n. length (joined_to (of_unit r.syntax.now) n)) (length r.syntax.now);
    at = λ n l. ap (λ (xs : List ℕ). slice_get xs n) tables.parameters.starts ∙ table_at (λ n. length (joined_to (of_unit r.syntax.now) n)) (length r.syntax.now) n l;
  }

  pub of_node : (u : ℕ) → u < length r.syntax.now → items_at r.bindings.now.parameters.declared.items r.bindings.now.parameters.starts.items u ≡ of_unit r.syntax.now u
  of_node u l =
      ap (λ (xs : List (Option ℕ)). items_at xs r.bindings.now.parameters.starts.items u) tables.parameters.declared
      ∙ joined_at (of_unit r.syntax.now) r.bindings.now.parameters.starts.items (length r.syntax.now) u starts l

  none_there : (k : ℕ) → IsTypeOf r.syntax.now None (option_and_then {T = Option TypeExpression} {U = TypeExpression} (λ t. t) (nth [] k))
  none_there zero = tt
  none_there (suc k) = tt

  by_unit : (n k : ℕ) (o : Option ℕ) → (round_at r.rounds.now n).unit ≡ o → IsTypeOf r.syntax.now (read.declared_in r.bindings.now.parameters o k) (option_and_then (λ t. t) (nth (types_in (parameters_round r.syntax.now o)) k))
  by_unit n k None e = none_there k
  by_unit n k (Some u) e =
      let m = unit_is t r.syntax.now r.rounds.now parsed are n u e in
      subst (λ (xs : List (Option ℕ)). IsTypeOf r.syntax.now (read.numbered xs k) (option_and_then (λ t. t) (nth (types_in (parameters_round r.syntax.now (Some u))) k))) (sym (of_node u (slice_get_within r.syntax.now u m.0 m.1)))
      (nth_type r.syntax.now (of_unit r.syntax.now u) (types_in (parameters_in (item_at r.syntax.now u).module_)) k (unit_types t r.syntax.now r.rounds.now parsed are u m.0 m.1 m.2))

  pub parameters_declared : (scope : Scope) (library : List Specification) (refused : List ℕ) (n k : ℕ) → IsTypeOf r.syntax.now (read.declared_parameter r n k) (headings.declared_parameter (file_with r scope library refused) n k)
  parameters_declared scope library refused n k = by_unit n k (round_at r.rounds.now n).unit refl
