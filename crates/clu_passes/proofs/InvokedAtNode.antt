-- What is noted as invoked at a node is what the definitions say, where that for which it stands, its type and what is noted of its first
-- child are so.
use Rattle.std.proofs.Common.{◌≡◌, ◌∙◌, ◌<◌, ◌≤◌, ◌&&◌, ◌++◌, ℕ, Bool, true, false, if◌then◌else◌, List, [], ◌∷◌, codes, length, get_or, slice_get, Option, Some, None, refl, sym, ap, subst, arith}
use Rattle.std.specs.Prelude.{unwrap_or}
use Rattle.std.specs.Option.{option_or}
use Rattle.std.proofs.lemmas.Bool.{true≢false}
use Rattle.clu_tree.specs.declared.node.Node.{Node}
use Rattle.clu_tree.specs.declared.node.NodeKind.{NodeKind}
use Rattle.clu_tree.specs.declared.node.NodeKind.TheVariants as kind
use Rattle.clu_parser.specs.Shape as shape
use Rattle.clu_parser.specs.Shape.{is_child}
use Rattle.clu_parser.specs.Trees.{Text}
use Rattle.clu_types.specs.Arena.{IsArena}
use Rattle.clu_types.specs.declared.term.Term.{Term}
use Rattle.clu_types.specs.declared.term.TypeId.{TypeId}
use Rattle.clu_syntax.specs.Enough.{least_names}
use Rattle.clu_syntax.specs.Items.{Item}
use Rattle.clu_syntax.specs.Kinds.{is_expression, kind_at}
use Rattle.clu_syntax.specs.Nodes.{before as before_node, expression_of, item_at, statement_of}
use Rattle.clu_syntax.specs.Splits.{child, children_of, first_name}
use Rattle.clu_syntax.specs.Syntax.{Expression, Statement}
use Rattle.clu_syntax.proofs.Enough.{enough}
use Rattle.clu_parts.proofs.Fitting.{Stand, just, on_head, several}
use Rattle.clu_meaning.specs.Scoping.{Scope}
use Rattle.clu_settle.specs.Names.{names_of}
use Rattle.clu_declares.specs.Declares.{IsParsed}
use Rattle.clu_declares.proofs.Below.{before_is, item_there}
use Rattle.clu_declares.proofs.Facts.{There, there}
use Rattle.clu_checking.specs.Specifications.{Specification}
use Rattle.clu_checking.specs.Files.{File, children, item, kind_in, node_children}
use Rattle.clu_checking.specs.Invocations as wanting
use Rattle.clu_checking.specs.Invoked as meant
use Rattle.clu_checking.specs.Typing.{type_of}
use Rattle.clu_checking.specs.Wanted.{wanted}
use Rattle.clu_bindings.specs.declared.file.Headed.{Headed}
use Rattle.clu_bindings.specs.Named.{named_by}
use Rattle.clu_bindings.specs.Readers.{children_in, wanted_in}
use Rattle.clu_bindings.specs.Tables.{optional}
use Rattle.clu_bindings.specs.Wanted as bound
use Rattle.clu_typing.specs.declared.applied.Applied.{Applied}
use Rattle.clu_typing.specs.declared.facts.Facts.{Facts}
use Rattle.clu_typing.specs.declared.facts.Invoked.{Invoked}
use Rattle.clu_typing.specs.declared.facts.Invoked.TheVariants as invoked
use Rattle.clu_typing.specs.Found.{IsAppliedTold}
use Rattle.clu_typing.specs.Invoked as tables
use Rattle.clu_typing.specs.Invoked.{by_applied, called, called_by, instance_of}
use Rattle.clu_typing.specs.Nodes.{first_type, is_used_as}
use Rattle.clu_typing.specs.Stands.{field_stands, stands_as, stands_at, stands_by}
use Rattle.clu_passes.specs.ConstantTables.{file_with, wanted_told}
use Rattle.clu_passes.specs.InvokedSaid.{IsSaid, IsSaidIf}
use Rattle.clu_passes.specs.NamesKnown.{HasTypes}
use Rattle.clu_passes.specs.StandsFor.{IsSugar, NodeStandsFor, StandsFor, StatementStandsFor, is_call}
use Rattle.clu_passes.specs.Trees.{IsFileOfTree}
use Rattle.clu_passes.proofs.CalleesWanted.{callee_wanted}
use Rattle.clu_passes.proofs.FactNodes.{object_wanted}
use Rattle.clu_passes.proofs.InvokedCalls.{call_said, routine_said}
use Rattle.clu_passes.proofs.InvokedExpressions.{or_none, sugar_said}
use Rattle.clu_passes.proofs.InvokedNodes.{expression_said}
use Rattle.clu_passes.proofs.NodeSaid.{form_at}
use Rattle.clu_passes.proofs.OperandsGiven.{only}
use Rattle.clu_passes.proofs.RaisedRows.{here}
use Rattle.clu_passes.proofs.Shells.{number_at}

module _ (t : Text) (h : Headed) (scope : Scope) (library : List Specification) (refused : List ℕ) (parsed : IsParsed t h.file.syntax.now) (tree : IsFileOfTree (file_with h.file scope library refused)) (items : ℕ → Item) (terms : List Term) (arena : IsArena terms) (facts : Facts) (known : List (Option TypeId)) (n : ℕ) (its : Applied)
    (stood : IsAppliedTold h terms facts.finding n (stands_at h.file known n items) its)
    (told : is_expression (kind_in (file_with h.file scope library refused) n) ≡ true → IsAppliedTold h terms facts.finding n (stands_by h.file known n (item (file_with h.file scope library refused) n).expression) its)
    (stands : NodeStandsFor (file_with h.file scope library refused) terms facts (kind_in (file_with h.file scope library refused) n) n its)
    (types : is_expression (kind_in (file_with h.file scope library refused) n) ≡ true → HasTypes (file_with h.file scope library refused) h items terms n (item (file_with h.file scope library refused) n).expression)
    (wants : wanted_told (wanted_in h.file n) ≡ wanted (file_with h.file scope library refused) n) (before : List (Option Invoked))
    (callee : (c : ℕ) (cs : List ℕ) → children (file_with h.file scope library refused) n ≡ c ∷ cs → c < n
    → (is_expression (kind_in (file_with h.file scope library refused) c) ≡ true → HasTypes (file_with h.file scope library refused) h items terms c (item (file_with h.file scope library refused) c).expression)
    × IsSaidIf terms facts.finding.words (optional (slice_get before c)) (meant.invoked_at (file_with h.file scope library refused) c)) where
  abbrev f : File
  f = file_with h.file scope library refused

  abbrev nodes : List Node
  nodes = h.file.syntax.now

  abbrev Said : Option Invoked → Option meant.Invoked → Type 0
  Said noted i = IsSaidIf terms facts.finding.words noted i

  -- what is noted but at a call
  abbrev noted_by : NodeKind → Option Invoked
  noted_by k = option_or (by_applied terms its) (instance_of h.file n (named_by h.file k n))

  abbrev parts : ℕ → Item
  parts = before_node n (item_at nodes)

  -- ---- assignments to components and elements

  told_as : (k : NodeKind) → kind_in f n ≡ k → IsAppliedTold h terms facts.finding n (stands_as h.file known n items k) its
  told_as k at = subst (λ (k : NodeKind). IsAppliedTold h terms facts.finding n (stands_as h.file known n items k) its) at stood

  stands_for : (k : NodeKind) → kind_in f n ≡ k → NodeStandsFor f terms facts k n its
  stands_for k at = subst (λ (k : NodeKind). NodeStandsFor f terms facts k n its) at stands

  its_statement : (k : NodeKind) (x : There nodes n k) → (item f n).statement ≡ statement_of parts nodes n x.node k
  its_statement k x = ap (λ (i : Item). i.statement) (item_there nodes n x.node x.at) ∙ ap (λ (k : NodeKind). statement_of parts nodes n x.node k) x.is

  field_said : (a : Expression) (names : List (List ℕ)) → 1 ≤ length names → IsAppliedTold h terms facts.finding n (field_stands names (first_type h.file known n)) its → IsSugar f terms facts false n (codes "set_" ++ first_name names) (type_of f a) its
      → Said (by_applied terms its) (meant.by_sugar (codes "set_" ++ first_name names) (type_of f a))
  field_said a [] le u is = absurd (omega (arith, le))
  field_said a (name ∷ names) le u is = sugar_said f h terms arena facts n (first_type h.file known n) (type_of f a) (codes "set_" ++ name) false its u is

  set_field : kind_in f n ≡ kind.SetField → Said (noted_by (kind_in f n)) (meant.invoked_by_statement f (item f n).statement)
  unfolding stands_as
  set_field at =
      let x = there nodes n kind.SetField refl at in
      let enough_names : least_names x.node.kind ≤ length x.node.names = (enough nodes parsed.forms n x.node x.at).names in
      let least : 1 ≤ length x.node.names = subst (λ (k : NodeKind). least_names k ≤ length x.node.names) x.is enough_names in
      let so : StatementStandsFor f terms facts (statement_of parts nodes n x.node kind.SetField) its = subst (λ (s : Statement). StatementStandsFor f terms facts s its) (its_statement kind.SetField x) (stands_for kind.SetField at) in
      let meant_there : Option meant.Invoked = meant.by_sugar (codes "set_" ++ first_name x.node.names) (type_of f (parts (child 0 x.node)).expression) in
      subst (λ (s : Statement). Said (noted_by (kind_in f n)) (meant.invoked_by_statement f s)) (sym (its_statement kind.SetField x))
      (subst (λ (k : NodeKind). Said (noted_by k) meant_there) (sym at)
      (or_none f h terms arena facts n (by_applied terms its) meant_there
      (field_said (parts (child 0 x.node)).expression x.node.names least
      (subst (λ (o : Option Node). IsAppliedTold h terms facts.finding n (field_stands (names_of o) (first_type h.file known n)) its) x.at (told_as kind.SetField at)) so)))

  set_index : kind_in f n ≡ kind.SetIndex → Said (noted_by (kind_in f n)) (meant.invoked_by_statement f (item f n).statement)
  unfolding stands_as
  set_index at =
      let x = there nodes n kind.SetIndex refl at in
      let so : StatementStandsFor f terms facts (statement_of parts nodes n x.node kind.SetIndex) its = subst (λ (s : Statement). StatementStandsFor f terms facts s its) (its_statement kind.SetIndex x) (stands_for kind.SetIndex at) in
      let meant_there : Option meant.Invoked = meant.by_sugar (codes "store") (type_of f (parts (child 0 x.node)).expression) in
      subst (λ (s : Statement). Said (noted_by (kind_in f n)) (meant.invoked_by_statement f s)) (sym (its_statement kind.SetIndex x))
      (subst (λ (k : NodeKind). Said (noted_by k) meant_there) (sym at)
      (or_none f h terms arena facts n (by_applied terms its) meant_there
      (sugar_said f h terms arena facts n (first_type h.file known n) (type_of f (parts (child 0 x.node)).expression) (codes "store") false its (told_as kind.SetIndex at) so)))

  -- ---- calls

  -- the first of them is an expression
  abbrev BeginsWith : List ℕ → Type 0
  BeginsWith [] = ⊥
  BeginsWith (c ∷ cs) = (c < n) × (is_expression (kind_at nodes c) ≡ true)

  begins_with : (cs : List ℕ) → Stand nodes n (just (is_child shape.expression) ∷ several (here shape.expressions) ∷ []) cs → BeginsWith cs
  begins_with cs s = on_head nodes n BeginsWith (is_child shape.expression) (several (here shape.expressions) ∷ []) (λ c rest is s. is) cs s

  call_so : kind_in f n ≡ kind.Call → Said (Some (unwrap_or (called h.file before n) invoked.Stored)) (meant.invoked_by f (item f n).expression)
  call_so at = by x.node.children refl (begins_with x.node.children (only f n [] [] t parsed kind.Call x _ refl))
    where
      x : There nodes n kind.Call
      x = there nodes n kind.Call refl at

      its_expression : (item f n).expression ≡ expression_of parts nodes n x.node kind.Call
      its_expression = ap (λ (i : Item). i.expression) (item_there nodes n x.node x.at) ∙ ap (λ (k : NodeKind). expression_of parts nodes n x.node k) x.is

      by : (cs : List ℕ) → x.node.children ≡ cs → BeginsWith cs → Said (Some (unwrap_or (called h.file before n) invoked.Stored)) (meant.invoked_by f (item f n).expression)
      by [] begins first = absurd first
      by (c ∷ cs) begins first =
          let kids : children f n ≡ c ∷ cs = ap (node_children f) x.at ∙ begins in
          let in_table : children_in h.file n ≡ c ∷ cs = ap children_of x.at ∙ begins in
          let its_callee : (parts (child 0 x.node)).expression ≡ (item f c).expression = ap (λ (l : List ℕ). (parts (get_or l 0 0)).expression) begins ∙ ap (λ (i : Item). i.expression) (before_is nodes n c first.0) in
          subst (λ (e : Expression). Said (Some (unwrap_or (called h.file before n) invoked.Stored)) (meant.invoked_by f e)) (sym its_expression)
          (subst (λ (l : List ℕ). IsSaid terms facts.finding.words (unwrap_or (called_by h.file before l) invoked.Stored) (meant.or_stored (meant.named_by f (parts (child 0 x.node)).expression))) (sym in_table)
          (subst (λ (e : Expression). IsSaid terms facts.finding.words (unwrap_or (called_by h.file before (c ∷ cs)) invoked.Stored) (meant.or_stored (meant.named_by f e))) (sym its_callee)
          (call_said h scope library refused items terms facts.finding.words before c cs (item f c).expression
          (routine_said h scope library refused items terms facts.finding.words before c first.1 (callee_wanted f tree n x.node x.at x.is c cs begins first.1) ((callee c cs kids first.0).0 first.1) (callee c cs kids first.0).1))))

  -- ---- where an object is wanted

  abbrev used_here : Bool
  used_here = bound.is_object_wanted (wanted_in h.file n)

  wanted_same : wanting.is_object_wanted (wanted f n) ≡ used_here
  wanted_same = sym (ap wanting.is_object_wanted wants) ∙ object_wanted (wanted_in h.file n)

  if_used : (o : Option Invoked) → (used_here ≡ true → Said o (meant.invoked_by f (item f n).expression)) → Said (if used_here then o else None) (meant.if_object f (wanting.is_object_wanted (wanted f n)) n)
  if_used o so = subst (λ (b : Bool). Said (if used_here then o else None) (meant.if_object f b n)) (sym wanted_same) (by used_here refl)
    where
      by : (b : Bool) → used_here ≡ b → Said (if b then o else None) (meant.if_object f b n)
      by true e = so e
      by false e = tt

  -- ---- expressions that are no calls

  stands_then : (k : NodeKind) → is_expression k ≡ true → NodeStandsFor f terms facts k n its → StandsFor f terms facts (item f n).expression its
  stands_then kind.SetField e so = absurd (true≢false (sym e))
  stands_then kind.SetIndex e so = absurd (true≢false (sym e))
  stands_then _ e so = so e

  expression_so : is_expression (kind_in f n) ≡ true → is_call (kind_in f n) ≡ false → used_here ≡ true → Said (noted_by (kind_in f n)) (meant.invoked_by f (item f n).expression)
  expression_so expressed plain used =
      subst (λ (k : NodeKind). Said (noted_by k) (meant.invoked_by f (item f n).expression)) (form_at nodes n expressed)
      (expression_said h scope library refused items terms arena facts known n its used (item f n).expression (number_at nodes n expressed) (ap is_call (form_at nodes n expressed) ∙ plain) (told expressed) (stands_then (kind_in f n) expressed stands) (types expressed))

  other_so : (k : NodeKind) → kind_in f n ≡ k → is_call k ≡ false → Said (if is_expression k && used_here then noted_by (kind_in f n) else None) (meant.if_object f (is_expression k && wanting.is_object_wanted (wanted f n)) n)
  other_so k at plain = by (is_expression k) refl
    where
      by : (b : Bool) → is_expression k ≡ b → Said (if b && used_here then noted_by (kind_in f n) else None) (meant.if_object f (b && wanting.is_object_wanted (wanted f n)) n)
      by true e = if_used (noted_by (kind_in f n)) (λ used. expression_so (ap is_expression at ∙ e) (ap is_call at ∙ plain) used)
      by false e = tt

  -- ---- by kinds

  by_kind : (k : NodeKind) → kind_in f n ≡ k → Said (if is_used_as h.file k n then tables.invoked_as h.file terms before its k n else None) (meant.invoked_in f k n)
  by_kind kind.SetField at = set_field at
  by_kind kind.SetIndex at = set_index at
  by_kind kind.Call at = if_used (Some (unwrap_or (called h.file before n) invoked.Stored)) (λ used. call_so at)
  by_kind _ at = other_so _ at refl

  pub invoked_said : IsSaidIf terms facts.finding.words (tables.invoked_at h.file terms before its n) (meant.invoked_at f n)
  invoked_said = by_kind (kind_in f n) refl
