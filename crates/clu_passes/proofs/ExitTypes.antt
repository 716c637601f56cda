-- V26 of an Exit: the arm to which it goes takes its objects.
use Rattle.std.proofs.Common.{◌≡◌, ◌∙◌, ◌==◌, ℕ, Bool, true, false, ◌&&◌, ◌||◌, if◌then◌else◌, List, [], ◌∷◌, length, map, replicate, drop, Option, Some, None, inl, inr, refl, sym, ap, ap₂, subst}
use Rattle.std.specs.Prelude.{slice_get, not, is_some}
use Rattle.std.specs.List.{AllByRecursion}
use Rattle.std.proofs.lemmas.Bool.{and_parts}
use Rattle.std.proofs.lemmas.List.{take-append-drop}
use Rattle.std.proofs.lemmas.Option.{slice_get_within}
use Rattle.clu_tree.specs.declared.node.Node.{Node}
use Rattle.clu_tree.specs.declared.node.NodeKind.{NodeKind}
use Rattle.clu_tree.specs.declared.node.NodeKind.TheVariants as kind
use Rattle.clu_parser.specs.Trees.{Text}
use Rattle.clu_types.specs.CluType.{CluType}
use Rattle.clu_types.specs.declared.term.TypeId.{TypeId}
use Rattle.clu_types.specs.declared.term.Term.{Term}
use Rattle.clu_syntax.specs.Kinds.{kind_of, kind_at, is_expression, is_type}
use Rattle.clu_syntax.specs.Rounds.{AreRounds}
use Rattle.clu_syntax.specs.Slots.{slots}
use Rattle.clu_syntax.specs.Splits.{child, first_name, is_of, leading, run, children_of}
use Rattle.clu_syntax.specs.Syntax.{Identifier, Typed, Taken}
use Rattle.clu_syntax.specs.Items.{Item, declarations_at, expressions_at}
use Rattle.clu_syntax.specs.Nodes.{before, item_at, declaration_of, taken_of, when_of, statement_of}
use Rattle.clu_parts.specs.Slots.{IsPart, AreParts}
use Rattle.clu_parts.proofs.Fitting.{children_before}
use Rattle.clu_settle.specs.Names.{names_of}
use Rattle.clu_settle.proofs.Shapes.{all_parts, first_part}
use Rattle.clu_meaning.specs.Scoping.{Scope}
use Rattle.clu_checking.specs.Specifications.{Specification}
use Rattle.clu_checking.specs.Files.{File, item, is_kind_at}
use Rattle.clu_checking.specs.Headings as headings
use Rattle.clu_checking.specs.Invocations as invoking
use Rattle.clu_checking.specs.ExceptionRules as checking
use Rattle.clu_checking.specs.ExceptionRules.{type_unless, v26, v26_in}
use Rattle.clu_bindings.specs.Inside.{type_inside}
use Rattle.clu_declares.specs.Declares.{IsParsed}
use Rattle.clu_declares.proofs.Below.{before_is, item_there, same_kind}
use Rattle.clu_declares.proofs.Facts.{There, there, run_kinds}
use Rattle.clu_declares.proofs.Parents.{IsIn, in_front}
use Rattle.clu_head.specs.Refused.{is_set}
use Rattle.clu_name_rules.specs.Words.{words_to}
use Rattle.clu_type_rules.specs.declared.known.Known.{Known}
use Rattle.clu_type_rules.specs.Known as tables
use Rattle.clu_type_rules.specs.Known.{type_at}
use Rattle.clu_type_rules.specs.Objects as of_objects
use Rattle.clu_type_rules.specs.ExceptionRules as of_tables
use Rattle.clu_type_rules.specs.ExceptionRules.{arm_declarations, arm_named}
use Rattle.clu_passes.specs.Bound.{AreInside, AreBadDecls, IsArmKnown}
use Rattle.clu_passes.specs.ConstantTables.{AreTables}
use Rattle.clu_passes.specs.FactTables.{IsType, AreTypes, AreFacts}
use Rattle.clu_passes.specs.Firsts.{AreItems}
use Rattle.clu_passes.specs.Notes.{has, HaveParents}
use Rattle.clu_passes.proofs.Bound.{values_known}
use Rattle.clu_passes.proofs.BoundParts.{Each, each_joined, each_name}
use Rattle.clu_passes.proofs.ExitArms.{IsArm, arm_found}
use Rattle.clu_passes.proofs.FactNodes as so
use Rattle.clu_passes.proofs.Fits.{all_at_once, each_may_same}
use Rattle.clu_passes.proofs.Known.{is_known, are_known, nodes_known}
use Rattle.clu_passes.proofs.OfParents.{has_it, have_parents}
use Rattle.clu_passes.proofs.OneName.{OneName, exit_name}

-- the first of some children of a kind stand among all
pub in_run : (nodes : List Node) (j : NodeKind) (d : ℕ) (cs : List ℕ) → IsIn d (run nodes j cs) → IsIn d cs
in_run nodes j d cs i = subst (IsIn d) (take-append-drop (leading nodes j cs) cs) (in_front d (run nodes j cs) (drop (leading nodes j cs) cs) i)

module _ (k : Known) (scope : Scope) (library : List Specification) (refused : List ℕ) where
  abbrev nodes : List Node
  nodes = k.tables.file.syntax.now

  abbrev f : File
  f = so.f k scope library refused

  abbrev terms : List Term
  terms = k.tables.types.now

  abbrev words : List Identifier
  words = words_to nodes (length nodes)

  abbrev items : ℕ → ℕ → Item
  items n = before n (item_at nodes)

  as_types : (os : List (Option TypeId)) (ws : List (Option CluType)) → Each (IsType terms) os ws → AreTypes terms os ws
  as_types [] [] each = tt
  as_types [] (w ∷ ws) each = absurd each
  as_types (o ∷ os) [] each = absurd each
  as_types (o ∷ os) (w ∷ ws) each = (each.0, as_types os ws each.1)

  module _ (t : Text) (parsed : IsParsed t nodes) (rounds : AreRounds nodes f.rounds) (are : AreTables f k.tables) (lost : ℕ → Bool) (facts : AreFacts f terms k.facts.now lost) (inside : AreInside f k lost) (bits : List Bool) (bad : ℕ → Bool) (are_bad : AreBadDecls f bits bad) (others : ℕ → Item) where
    abbrev Here : List ℕ → Type 0
    Here cs = AllByRecursion (λ c. lost c ≡ false) cs

    -- where no rule is violated in a declaration, nothing is lost of its type
    abbrev IsHere : ℕ → Type 0
    IsHere d = bad d ≡ false → Here (tables.children k d)

    parents : HaveParents f
    parents = have_parents t f parsed rounds

    -- ---- the variables of an arm

    type_is : (d t : ℕ) (b : Bool) → bad d ≡ b → is_set (slice_get bits d) ≡ bad d → of_objects.first_inside k others d (tables.children k d) ≡ type_inside k.tables.file others d t → (b ≡ false → IsType terms (type_inside k.tables.file others d t) (Some (headings.type_inside f d (items d t).type))) →
        IsType terms (of_objects.declared_type k others bits d) (type_unless (bad d) (headings.type_inside f d (items d t).type))
    type_is d t true is bit first its =
        subst (λ (o : Option TypeId). IsType terms o (type_unless (bad d) (headings.type_inside f d (items d t).type))) (sym (ap (λ (b : Bool). if◌then◌else◌ {A = Option TypeId} b None (of_objects.first_inside k others d (tables.children k d))) (bit ∙ is)))
        (subst (λ (b : Bool). IsType terms None (type_unless b (headings.type_inside f d (items d t).type))) (sym is) tt)
    type_is d t false is bit first its =
        subst (λ (o : Option TypeId). IsType terms o (type_unless (bad d) (headings.type_inside f d (items d t).type))) (sym (ap (λ (b : Bool). if◌then◌else◌ {A = Option TypeId} b None (of_objects.first_inside k others d (tables.children k d))) (bit ∙ is) ∙ first))
        (subst (λ (b : Bool). IsType terms (type_inside k.tables.file others d t) (type_unless b (headings.type_inside f d (items d t).type))) (sym is) (its refl))

    one_declared : (c d : ℕ) → IsPart nodes (is_of kind.Decl) c d → is_set (slice_get bits d) ≡ bad d → IsHere d →
        Each (IsType terms) (of_objects.variables_of k others bits d) (map (λ name. type_unless (bad (items c d).declaration.node) (headings.type_inside f (items c d).declaration.node (items c d).declaration.type)) (items c d).declaration.names)
    one_declared c d p bit here =
        let x : There nodes d kind.Decl = there nodes d kind.Decl refl (same_kind kind.Decl (kind_at nodes d) p.1) in
        let first = first_part nodes parsed.tree parsed.forms is_type [] d x.node x.at (ap slots x.is) in
        let u : ℕ = child 0 x.node in
        let kids : tables.children k d ≡ u ∷ drop 1 x.node.children = ap children_of x.at ∙ first.is in
        let its : (items c d).declaration ≡ declaration_of (items d) nodes d x.node kind.Decl =
        ap (λ (i : Item). i.declaration) (before_is nodes c d p.0)
        ∙ ap (λ (i : Item). i.declaration) (item_there nodes d x.node x.at)
        ∙ ap (declaration_of (items d) nodes d x.node) x.is in
        let code : of_objects.variables_of k others bits d ≡ replicate (length x.node.names) (of_objects.declared_type k others bits d) =
        ap (λ (ns : List Identifier). replicate (length ns) (of_objects.declared_type k others bits d)) (ap names_of x.at) in
        let told : IsType terms (of_objects.declared_type k others bits d) (type_unless (bad d) (headings.type_inside f d (items d u).type)) =
        type_is d u (bad d) refl bit (ap (of_objects.first_inside k others d) kids)
        (λ fine. subst (λ (i : Item). IsType terms (type_inside k.tables.file others d u) (Some (headings.type_inside f d i.type))) (sym (before_is nodes d u first.first.0)) (inside.types others d u first.first.1 (subst Here kids (here fine)).0)) in
        subst (λ (os : List (Option TypeId)). Each (IsType terms) os (map (λ name. type_unless (bad (items c d).declaration.node) (headings.type_inside f (items c d).declaration.node (items c d).declaration.type)) (items c d).declaration.names)) (sym code)
        (subst (λ (D : Typed). Each (IsType terms) (replicate (length x.node.names) (of_objects.declared_type k others bits d)) (map (λ name. type_unless (bad D.node) (headings.type_inside f D.node D.type)) D.names)) (sym its)
        (each_name (IsType terms) (of_objects.declared_type k others bits d) (type_unless (bad d) (headings.type_inside f d (items d u).type)) told x.node.names))

    all_declared : (c : ℕ) (ds : List ℕ) → AreParts nodes (is_of kind.Decl) c ds → AllByRecursion (λ d. is_set (slice_get bits d) ≡ bad d) ds → AllByRecursion IsHere ds → Each (IsType terms) (of_objects.declared_types k others bits ds) (checking.arm_types f bad (declarations_at (items c) ds))
    all_declared c [] ps bit here = tt
    all_declared c (d ∷ ds) ps bit here =
        each_joined (IsType terms) (of_objects.variables_of k others bits d) (of_objects.declared_types k others bits ds)
        (map (λ name. type_unless (bad (items c d).declaration.node) (headings.type_inside f (items c d).declaration.node (items c d).declaration.type)) (items c d).declaration.names) (checking.arm_types f bad (declarations_at (items c) ds))
        (one_declared c d ps.0 bit.0 here.0) (all_declared c ds ps.1 bit.1 here.1)

    -- the bits of the declarations of an arm
    bits_there : (c : ℕ) → kind_at nodes c ≡ kind.When → (ds : List ℕ) → AreParts nodes (is_of kind.Decl) c ds → ((d : ℕ) → IsIn d ds → IsIn d (tables.children k c)) → AllByRecursion (λ d. is_set (slice_get bits d) ≡ bad d) ds
    bits_there c is [] ps within = tt
    bits_there c is (d ∷ ds) ps within = (
      are_bad d (same_kind kind.Decl (kind_at nodes d) ps.0.1)
          (ap (is_kind_at f kind.When) (parents.above c d (ap (has d) (so.children_same k scope library refused (slice_get nodes c)) ∙ has_it d (tables.children k c) (within d (inl refl)))) ∙ ap (is_of kind.When) is),
      bits_there c is ds ps.1 (λ e i. within e (inr i)),
    )

    -- ---- what the arm takes

    taken_same : (gs : List (Option TypeId)) (ts : List (Option CluType)) → AreTypes terms gs ts → (c : ℕ) (x : There nodes c kind.When) → AllByRecursion IsHere (arm_declarations k c) → (token : Option ℕ) → x.node.value_token ≡ token →
        checking.takes_given f bad ts (taken_of (items c) nodes token (run nodes kind.Decl x.node.children)) ≡ (is_some token || of_objects.take_objects k others bits gs (arm_declarations k c))
    taken_same gs ts given c x here (Some token) e = refl
    taken_same gs ts given c x here None e =
        let ds : List ℕ = run nodes kind.Decl x.node.children in
        let same : arm_declarations k c ≡ ds = ap (λ (its : Option Node). run nodes kind.Decl (children_of its)) x.at in
        let ps : AreParts nodes (is_of kind.Decl) c ds = run_kinds nodes kind.Decl c x.node.children (children_before nodes parsed.tree c x.node x.at) in
        let within : (d : ℕ) → IsIn d ds → IsIn d (tables.children k c) = λ d i. subst (IsIn d) (sym (ap children_of x.at)) (in_run nodes kind.Decl d x.node.children i) in
        let its : AreTypes terms (of_objects.declared_types k others bits ds) (checking.arm_types f bad (declarations_at (items c) ds)) =
        as_types (of_objects.declared_types k others bits ds) (checking.arm_types f bad (declarations_at (items c) ds))
        (all_declared c ds ps (bits_there c (ap kind_of x.at ∙ x.is) ds ps within) (subst (AllByRecursion IsHere) same here)) in
        each_may_same k gs ts given (of_objects.declared_types k others bits ds) (checking.arm_types f bad (declarations_at (items c) ds)) its
        ∙ ap (λ (b : Bool). length (of_objects.declared_types k others bits ds) == length gs && b) (sym (all_at_once k others bits ds gs))
        ∙ ap (of_objects.take_objects k others bits gs) (sym same)

    takes_same : (gs : List (Option TypeId)) (ts : List (Option CluType)) → AreTypes terms gs ts → (o : Option ℕ) (arm : Option (List Identifier × Taken)) → IsArm k scope library refused o arm → ((c : ℕ) → o ≡ Some c → AllByRecursion IsHere (arm_declarations k c)) → checking.arm_takes f bad ts arm ≡ of_tables.arm_takes k others bits gs o
    takes_same gs ts given None None is here = refl
    takes_same gs ts given None (Some arm) is here = absurd is
    takes_same gs ts given (Some c) None is here = absurd is
    takes_same gs ts given (Some c) (Some arm) is here =
        let x : There nodes c kind.When = there nodes c kind.When refl is.0 in
        let taken : (item f c).when.taken ≡ taken_of (items c) nodes x.node.value_token (run nodes kind.Decl x.node.children) =
        ap (λ (i : Item). i.when.taken) (item_there nodes c x.node x.at) ∙ ap (λ (j : NodeKind). (when_of (items c) nodes c x.node j).taken) x.is in
        ap (λ (arm : List Identifier × Taken). checking.takes_given f bad ts arm.1) is.1
        ∙ ap (checking.takes_given f bad ts) taken
        ∙ taken_same gs ts given c x (here c refl) x.node.value_token refl
        ∙ ap (λ (its : Option Node). of_tables.has_value its || of_objects.take_objects k others bits gs (arm_declarations k c)) (sym x.at)

    -- ---- the rule

    exit_is : AreItems f k.tables → (n : ℕ) → kind_at nodes n ≡ kind.Exit → lost n ≡ false → IsArmKnown k lost bad n → v26_in f bad kind.Exit n ≡ not (of_tables.arm_takes k others bits (of_tables.values_at k n) (of_tables.arm_for k n))
    exit_is firsts n is here known =
        let x : There nodes n kind.Exit = there nodes n kind.Exit refl is in
        let one : OneName nodes n = exit_name nodes parsed.forms n is in
        let all : are_known words (one.its ∷ []) ≡ true = ap (are_known words) (sym one.is) ∙ nodes_known nodes (length nodes) n (slice_get_within nodes n x.node x.at) in
        let name : first_name x.node.names ≡ one.its = ap (λ (its : Option Node). first_name (names_of its)) (sym x.at) ∙ ap first_name one.is in
        let kids : tables.children k n ≡ x.node.children = ap children_of x.at in
        let values : AreTypes terms (map (type_at k) x.node.children) (invoking.types_of f (expressions_at (items n) x.node.children)) =
        values_known k scope library refused parsed.forms parsed.tree are lost facts n x.node.children (all_parts nodes parsed.tree parsed.forms is_expression n x.node x.at (ap slots x.is))
        (subst Here (so.children_same k scope library refused (slice_get nodes n) ∙ kids) (facts.below n here)) in
        let code : of_tables.arm_for k n ≡ arm_named k n (one.its ∷ []) = ap (arm_named k n) one.is in
        ap (λ (i : Item). checking.has_other_types f bad n i.statement) (item_there nodes n x.node x.at)
        ∙ ap (λ (j : NodeKind). checking.has_other_types f bad n (statement_of (items n) nodes n x.node j)) x.is
        ∙ ap (λ (its : Identifier). not (checking.arm_takes f bad (invoking.types_of f (expressions_at (items n) x.node.children)) (checking.arm_for f n its))) name
        ∙ ap not (takes_same (map (type_at k) x.node.children) (invoking.types_of f (expressions_at (items n) x.node.children)) values (arm_named k n (one.its ∷ [])) (checking.arm_for f n one.its)
        (arm_found k scope library refused t parsed rounds firsts one.its (and_parts (is_known words one.its) true all).0 n) (λ c e. known c (code ∙ e)))
        ∙ ap₂ (λ (cs : List ℕ) (o : Option ℕ). not (of_tables.arm_takes k others bits (map (type_at k) cs) o)) (sym kids) (sym code)

  pub of_exits : (t : Text) → IsParsed t nodes → AreRounds nodes f.rounds → AreTables f k.tables → AreItems f k.tables → (lost : ℕ → Bool) → AreFacts f terms k.facts.now lost → AreInside f k lost → (bits : List Bool) (bad : ℕ → Bool) → AreBadDecls f bits bad → (others : ℕ → Item) (n : ℕ) → kind_at nodes n ≡ kind.Exit → lost n ≡ false → IsArmKnown k lost bad n → v26 f bad n ≡ of_tables.v26 k others bits n
  of_exits t parsed rounds are firsts lost facts inside bits bad are_bad others n is here known =
      ap (λ (j : NodeKind). v26_in f bad j n) is
      ∙ exit_is t parsed rounds are lost facts inside bits bad are_bad others firsts n is here known
      ∙ ap (λ (j : NodeKind). of_tables.v26_at k others bits j n) (sym is)
