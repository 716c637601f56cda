-- The type of a routine as it is made from the values of its nodes, where all of these are known, is the one that callers see.
use Rattle.std.proofs.Common.{◌≡◌, ◌∙◌, ℕ, ◌<◌, Bool, true, false, if◌then◌else◌, List, [], ◌∷◌, ◌++◌, map, Option, Some, None, refl, sym, ap, ap₂, append_assoc}
use Rattle.std.specs.Prelude.{All, slice_get, bytes_eq, codes}
use Rattle.std.specs.Option.{option_and_then, option_map}
use Rattle.std.proofs.lemmas.List.{append-nil}
use Rattle.std.proofs.lemmas.List.Elements.{All-nil, All-cons}
use Rattle.std.proofs.lemmas.Option.{none-some, same_Some}
use Rattle.clu_base.specs.declared.constants.Const.{Const}
use Rattle.clu_types.specs.CluType.{CluType, CluTypes, type_and, Signals, signal_and}
use Rattle.clu_types.specs.declared.term.TypeId.{TypeId}
use Rattle.clu_types.specs.declared.term.Exception.{Exception}
use Rattle.clu_types.specs.declared.term.Heading.{Heading}
use Rattle.clu_types.specs.declared.term.Term.{Term}
use Rattle.clu_types.specs.Arena.{types_of, type_at, types_at, signals_at, type_of}
use Rattle.clu_tree.specs.declared.node.Node.{Node}
use Rattle.clu_tree.specs.declared.node.NodeKind.TheVariants as kind
use Rattle.clu_tree.specs.Nodes.{IsTree}
use Rattle.clu_parser.specs.Shape.{HaveForms}
use Rattle.clu_syntax.specs.declared.words.RoutineKind.{RoutineKind}
use Rattle.clu_syntax.specs.declared.words.RoutineKind.TheVariants as word
use Rattle.clu_syntax.specs.Kinds.{is_type, kind_at}
use Rattle.clu_syntax.specs.Slots.{slots}
use Rattle.clu_syntax.specs.Splits.{is_of, child, first_name, after_run, parts, after_one, leading}
use Rattle.clu_syntax.specs.Syntax.{Identifier, TypeExpressions, Exceptions, Typed}
use Rattle.clu_syntax.specs.Syntax as syntax
use Rattle.clu_syntax.specs.Items.{Item, declarations_at, exceptions_at}
use Rattle.clu_syntax.specs.Items as items
use Rattle.clu_syntax.specs.Nodes.{before, item_at, declaration_of, exception_of, routine_of}
use Rattle.clu_meaning.specs.Settling.{comes_after, routine_type, with_signal, listed_signal}
use Rattle.clu_meaning.specs.Programs.{HeadingType}
use Rattle.clu_meaning.specs.Programs as program
use Rattle.clu_meaning.specs.Resolving.{Place, declared_from, heading_type, heading_types, formals_of, with_exception, exceptions_of}
use Rattle.clu_checking.specs.Files.{File}
use Rattle.clu_checking.specs.Headings.{for_callers, types_by, signals_by, formal_types, outside_type}
use Rattle.clu_declares.proofs.Below.{same_kind, before_is, item_there}
use Rattle.clu_declares.proofs.Facts.{There, there}
use Rattle.clu_settle.specs.declared.value.Value.{Value}
use Rattle.clu_settle.specs.Inserted.{in_order}
use Rattle.clu_settle.specs.Lists.{value_of, exception_before, exception_with}
use Rattle.clu_settle.specs.Settled.{AreSettled}
use Rattle.clu_settle.proofs.Fields.{signals_put, signals_in_order, signals_of_one}
use Rattle.clu_settle.proofs.Shapes.{AreParts, AreBefore, IsPart, all_parts, first_part, children_before, before_dropped, before_after_one, parts_of_first, run_parts, all_before}
use Rattle.clu_head.specs.Seen.{seen_type}
use Rattle.clu_head.specs.Outside.{times, type_outside, types_behind, first_type, declared_at, arguments_behind, signals_behind, heading_outside}
use Rattle.clu_head.specs.Outside as outside
use Rattle.clu_head.specs.Routines.{arguments_in, behind_arguments, results_in, kind_in}
use Rattle.clu_head.specs.Routines as routines
use Rattle.clu_head.specs.Terms.{term_of}
use Rattle.clu_passes.proofs.Outside.{all_told}
use Rattle.clu_passes.proofs.Seen.{seen_told}

-- ---- lists of types and of exceptions

-- each name of a declaration has its type
types_repeated : (seen : HeadingType → CluType) (t : HeadingType) (types : List CluType) (id : TypeId) (names : List Identifier) (rest : List HeadingType) (more : List TypeId)
    → seen t ≡ type_at types id → types_by seen rest ≡ types_at types more → types_by seen (map (λ name. t) names ++ rest) ≡ types_at types (times id names ++ more)
types_repeated seen t types id [] rest more e g = g
types_repeated seen t types id (name ∷ names) rest more e g = ap₂ type_and e (types_repeated seen t types id names rest more e g)

formals_typed : (t : HeadingType) (number : Identifier → ℕ) (names : List Identifier) (rest : List program.Formal) → formal_types (map (λ name. record { number = number name; type = t }) names ++ rest) ≡ map (λ name. t) names ++ formal_types rest
formals_typed t number [] rest = refl
formals_typed t number (name ∷ names) rest = ap (λ (ts : List HeadingType). t ∷ ts) (formals_typed t number names rest)

module _ (seen : HeadingType → CluType) where
  signals_with : (place : Place) (e : program.Exception) (es : List program.Exception) → signals_by seen (with_exception place e es) ≡ with_signal e.name (types_by seen e.objects) (signals_by seen es)
  signals_with place e [] = refl
  signals_with place e (g ∷ gs) = by (comes_after e.name g.name) (signals_with place e gs)
    where
      by : (b : Bool) → signals_by seen (with_exception place e gs) ≡ with_signal e.name (types_by seen e.objects) (signals_by seen gs) →
          signals_by seen (if b then g ∷ with_exception place e gs else e ∷ g ∷ gs) ≡
          (if b then signal_and g.name (types_by seen g.objects) (with_signal e.name (types_by seen e.objects) (signals_by seen gs)) else signal_and e.name (types_by seen e.objects) (signal_and g.name (types_by seen g.objects) (signals_by seen gs)))
      by true more = ap (λ (ss : Signals). signal_and g.name (types_by seen g.objects) ss) more
      by false more = refl

  signals_listed : (place : Place) (n : ℕ) (name : Identifier) (ts : TypeExpressions) (es : Exceptions) → signals_by seen (exceptions_of place (syntax.exception_and n name ts es)) ≡ listed_signal name (types_by seen (heading_types place ts)) (signals_by seen (exceptions_of place es))
  signals_listed place n name ts es = by (bytes_eq name (codes "failure"))
    where
      by : (b : Bool) → signals_by seen (if b then exceptions_of place es else with_exception place (record { name = name; objects = heading_types place ts }) (exceptions_of place es)) ≡
          (if b then signals_by seen (exceptions_of place es) else with_signal name (types_by seen (heading_types place ts)) (signals_by seen (exceptions_of place es)))
      by true = refl
      by false = signals_with place (record { name = name; objects = heading_types place ts }) (exceptions_of place es)

-- ---- of nodes

all_types : (nodes : List Node) (n : ℕ) (cs : List ℕ) → AreParts nodes is_type n cs → All (λ c. is_type (kind_at nodes c) ≡ true) cs
all_types nodes n [] ps = All-nil (λ c. is_type (kind_at nodes c) ≡ true)
all_types nodes n (c ∷ cs) ps = All-cons (λ c. is_type (kind_at nodes c) ≡ true) c cs ps.0.1 (all_types nodes n cs ps.1)

types_before : (nodes : List Node) (n : ℕ) (cs : List ℕ) → AreParts nodes is_type n cs → items.types_at (before n (item_at nodes)) cs ≡ items.types_at (item_at nodes) cs
types_before nodes n [] ps = refl
types_before nodes n (c ∷ cs) ps = ap₂ syntax.type_and (ap (λ (i : Item). i.type) (before_is nodes n c ps.0.0)) (types_before nodes n cs ps.1)

by_kind : (types : List CluType) (k : RoutineKind) (h : Heading) → type_of types (term_of k h) ≡ routine_type k (types_at types h.args) (types_at types h.results) (signals_at types h.signals)
by_kind types word.Procedure h = refl
by_kind types word.Iterator h = refl

module _ (f : File) (shaped : HaveForms f.nodes) (tree : IsTree f.nodes) (place : Place) (types : List Term) (constants : List Const) (values : List Value) (known : AreSettled f.nodes place.scope types constants values)
    (own : Option TypeId) (home : option_map (type_at (types_of types)) own ≡ place.home) where
  abbrev nodes : List Node
  nodes = f.nodes

  abbrev its : ℕ → ℕ → Item
  its n = before n (item_at nodes)

  outside_is : (n : ℕ) → type_outside own nodes values n ≡ seen_type own (item_at nodes n).type (value_of values n)
  unfolding type_outside
  outside_is n = refl

  one_told : (n c : ℕ) (id : TypeId) → IsPart nodes is_type n c → type_outside own nodes values c ≡ Some id → for_callers (heading_type place (its n c).type) ≡ type_at (types_of types) id
  one_told n c id p e =
      ap (λ (i : Item). for_callers (heading_type place i.type)) (before_is nodes n c p.0)
      ∙ seen_told nodes place types constants values known own home c p.1 id (sym (outside_is c) ∙ e)

  some_told : (n : ℕ) (cs : List ℕ) (ids : List TypeId) → AreParts nodes is_type n cs → types_behind own nodes values [] cs ≡ Some ids → types_by for_callers (heading_types place (items.types_at (its n) cs)) ≡ types_at (types_of types) ids
  some_told n cs ids ps e =
      ap (λ (ts : TypeExpressions). types_by for_callers (heading_types place ts)) (types_before nodes n cs ps)
      ∙ all_told nodes place types constants values known own home cs ids (all_types nodes n cs ps) e

  -- ---- arguments

  abbrev ArgumentsAre : List TypeId → List TypeId → ℕ → List ℕ → Type 0
  ArgumentsAre done all n cs = (more : List TypeId) × (all ≡ done ++ more) × (types_by for_callers (formal_types (formals_of place (declarations_at (its n) cs))) ≡ types_at (types_of types) more)

  declaration_is : (n c : ℕ) → c < n → (x : There nodes c kind.Decl) → (its n c).declaration ≡ declaration_of (its c) nodes c x.node kind.Decl
  declaration_is n c less x = ap (λ (i : Item). i.declaration) (before_is nodes n c less ∙ item_there nodes c x.node x.at) ∙ ap (declaration_of (its c) nodes c x.node) x.is

  arguments_told : (n : ℕ) (cs : List ℕ) (done all : List TypeId) → AreParts nodes (is_of kind.Decl) n cs → arguments_behind own nodes values done cs ≡ Some all → ArgumentsAre done all n cs
  arguments_told n [] done all ps e = ([], sym (same_Some done all e) ∙ sym (append-nil done), refl)
  arguments_told n (c ∷ cs) done all ps e =
      let x = there nodes c kind.Decl refl (same_kind kind.Decl (kind_at nodes c) ps.0.1) in
      let one = first_part nodes tree shaped is_type [] c x.node x.at (ap slots x.is) in
      let so : declared_at own nodes values (slice_get nodes c) ≡ option_map (λ of. times of x.node.names) (type_outside own nodes values (child 0 x.node)) =
      ap (declared_at own nodes values) x.at ∙ ap (λ (ds : List ℕ). option_map (λ of. times of x.node.names) (first_type own nodes values ds)) one.is in
      by x (child 0 x.node) one.first refl (type_outside own nodes values (child 0 x.node)) refl
      (sym (ap (λ (o : Option (List TypeId)). option_and_then (λ all. arguments_behind own nodes values all cs) (option_map (λ more. done ++ more) o)) so) ∙ e)
      (λ id. arguments_told n cs (done ++ times id x.node.names) all ps.1)
    where
      by : (x : There nodes c kind.Decl) (d : ℕ) → IsPart nodes is_type c d → child 0 x.node ≡ d → (o : Option TypeId) → type_outside own nodes values d ≡ o
          → option_and_then (λ all. arguments_behind own nodes values all cs) (option_map (λ more. done ++ more) (option_map (λ of. times of x.node.names) o)) ≡ Some all
          → ((id : TypeId) → arguments_behind own nodes values (done ++ times id x.node.names) cs ≡ Some all → ArgumentsAre (done ++ times id x.node.names) all n cs) → ArgumentsAre done all n (c ∷ cs)
      by x d p first None is e more = absurd (none-some all e)
      by x d p first (Some id) is e more =
          let rest = more id e in (
            times id x.node.names ++ rest.0,
            rest.1 ∙ append_assoc done (times id x.node.names) rest.0,
            ap (λ (d : Typed). types_by for_callers (formal_types (formals_of place (d ∷ declarations_at (its n) cs)))) (declaration_is n c ps.0.0 x)
                ∙ ap (types_by for_callers) (formals_typed (heading_type place (its c (child 0 x.node)).type) (λ name. declared_from 0 place.scope.declarations c name) x.node.names (formals_of place (declarations_at (its n) cs)))
                ∙ types_repeated for_callers (heading_type place (its c (child 0 x.node)).type) (types_of types) id x.node.names (formal_types (formals_of place (declarations_at (its n) cs))) rest.0
                (ap (λ (m : ℕ). for_callers (heading_type place (its c m).type)) first ∙ one_told c d id p is) rest.2,
          )

  -- ---- exceptions

  abbrev SignalsAre : List Exception → List Exception → ℕ → List ℕ → Type 0
  SignalsAre done all n cs = (more : List Exception) × (all ≡ done ++ more) × (signals_put (types_of types) more ≡ signals_by for_callers (exceptions_of place (exceptions_at (its n) cs)))

  exception_is : (n c : ℕ) → c < n → (x : There nodes c kind.Exc) → (its n c).exception ≡ exception_of (its c) nodes c x.node kind.Exc
  exception_is n c less x = ap (λ (i : Item). i.exception) (before_is nodes n c less ∙ item_there nodes c x.node x.at) ∙ ap (exception_of (its c) nodes c x.node) x.is

  signals_told : (n : ℕ) (cs : List ℕ) (done all : List Exception) → AreParts nodes (is_of kind.Exc) n cs → signals_behind own nodes values done cs ≡ Some all → SignalsAre done all n cs
  signals_told n [] done all ps e = ([], sym (same_Some done all e) ∙ sym (append-nil done), refl)
  signals_told n (c ∷ cs) done all ps e =
      let x = there nodes c kind.Exc refl (same_kind kind.Exc (kind_at nodes c) ps.0.1) in
      by x (types_behind own nodes values [] x.node.children) refl
      (sym (ap (λ (o : Option Node). option_and_then (λ all. signals_behind own nodes values all cs) (option_map (λ more. done ++ more) (outside.exceptions_at own nodes values o))) x.at) ∙ e)
      (λ ids. signals_told n cs (done ++ exception_with (first_name x.node.names) ids) all ps.1)
    where
      by : (x : There nodes c kind.Exc) (o : Option (List TypeId)) → types_behind own nodes values [] x.node.children ≡ o
          → option_and_then (λ all. signals_behind own nodes values all cs) (option_map (λ more. done ++ more) (option_map (exception_with (first_name x.node.names)) o)) ≡ Some all
          → ((ids : List TypeId) → signals_behind own nodes values (done ++ exception_with (first_name x.node.names) ids) cs ≡ Some all → SignalsAre (done ++ exception_with (first_name x.node.names) ids) all n cs) → SignalsAre done all n (c ∷ cs)
      by x None is e more = absurd (none-some all e)
      by x (Some ids) is e more =
          let rest = more ids e in
          let objects : types_by for_callers (heading_types place (items.types_at (its c) x.node.children)) ≡ types_at (types_of types) ids =
          some_told c x.node.children ids (all_parts nodes tree shaped is_type c x.node x.at (ap slots x.is)) is in (
            exception_with (first_name x.node.names) ids ++ rest.0,
            rest.1 ∙ append_assoc done (exception_with (first_name x.node.names) ids) rest.0,
            signals_of_one (types_of types) (first_name x.node.names) ids rest.0
                ∙ ap₂ (λ (ts : CluTypes) (ss : Signals). listed_signal (first_name x.node.names) ts ss) (sym objects) rest.2
                ∙ sym (signals_listed for_callers place c (first_name x.node.names) (items.types_at (its c) x.node.children) (exceptions_at (its n) cs))
                ∙ sym (ap (λ (s : syntax.Exception). signals_by for_callers (exceptions_of place (items.exception_before (its n) s (exceptions_at (its n) cs)))) (exception_is n c ps.0.0 x)),
          )

  -- ---- the whole

  module _ (n : ℕ) (x : There nodes n kind.Routine) where
    abbrev rest : List ℕ
    rest = behind_arguments nodes x.node

    before_rest : AreBefore n rest
    before_rest = before_dropped nodes n (leading nodes kind.Decl (after_run nodes kind.Parm x.node.children)) (after_run nodes kind.Parm x.node.children) behind_parms
      where
        behind_parms : AreBefore n (after_run nodes kind.Parm x.node.children)
        behind_parms = before_dropped nodes n (leading nodes kind.Parm x.node.children) x.node.children (children_before nodes tree shaped n x.node x.at)

    argument_parts : AreParts nodes (is_of kind.Decl) n (arguments_in nodes x.node)
    argument_parts = run_parts nodes kind.Decl n (after_run nodes kind.Parm x.node.children) (before_dropped nodes n (leading nodes kind.Parm x.node.children) x.node.children (children_before nodes tree shaped n x.node x.at))

    result_parts : AreParts nodes is_type n (results_in nodes x.node)
    result_parts = parts_of_first nodes tree shaped kind.Results is_type refl n rest before_rest

    exception_parts : AreParts nodes (is_of kind.Exc) n (routines.exceptions_in nodes x.node)
    exception_parts =
        run_parts nodes kind.Exc n (parts nodes kind.Signals (after_one nodes kind.Results rest))
        (all_before nodes (is_of kind.Exc) n (parts nodes kind.Signals (after_one nodes kind.Results rest))
        (parts_of_first nodes tree shaped kind.Signals (is_of kind.Exc) refl n (after_one nodes kind.Results rest) (before_after_one nodes kind.Results n rest before_rest)))

    its_routine : (item_at nodes n).routine ≡ routine_of (its n) nodes n x.node kind.Routine
    its_routine = ap (λ (i : Item). i.routine) (item_there nodes n x.node x.at) ∙ ap (routine_of (its n) nodes n x.node) x.is

    abbrev made_of : List TypeId → List TypeId → List Exception → Heading
    made_of args results signals = record { args = args; results = results; signals = signals }

    whole : (args results : List TypeId) (list : List Exception) → arguments_behind own nodes values [] (arguments_in nodes x.node) ≡ Some args → types_behind own nodes values [] (results_in nodes x.node) ≡ Some results → signals_behind own nodes values [] (routines.exceptions_in nodes x.node) ≡ Some list
        → type_of (types_of types) (term_of (kind_in x.node) (made_of args results (in_order exception_before list))) ≡ outside_type f place (item_at nodes n).routine
    whole args results list a r s =
        let told = arguments_told n (arguments_in nodes x.node) [] args argument_parts a in
        let listed = signals_told n (routines.exceptions_in nodes x.node) [] list exception_parts s in
        by_kind (types_of types) (kind_in x.node) (made_of args results (in_order exception_before list))
        ∙ ap (λ (ts : CluTypes). routine_type (kind_in x.node) ts (types_at (types_of types) results) (signals_at (types_of types) (in_order exception_before list))) (ap (types_at (types_of types)) told.1 ∙ sym told.2)
        ∙ ap (λ (ts : CluTypes). routine_type (kind_in x.node) (types_by for_callers (formal_types (formals_of place (declarations_at (its n) (arguments_in nodes x.node))))) ts (signals_at (types_of types) (in_order exception_before list)))
        (sym (some_told n (results_in nodes x.node) results result_parts r))
        ∙ ap (λ (ss : Signals). routine_type (kind_in x.node) (types_by for_callers (formal_types (formals_of place (declarations_at (its n) (arguments_in nodes x.node))))) (types_by for_callers (heading_types place (items.types_at (its n) (results_in nodes x.node)))) ss)
        (signals_in_order (types_of types) list ∙ ap (signals_put (types_of types)) listed.1 ∙ listed.2)
        ∙ sym (ap (outside_type f place) its_routine)

    pub heading_told : (h : Heading) → heading_outside own nodes values (arguments_in nodes x.node) (results_in nodes x.node) (routines.exceptions_in nodes x.node) ≡ Some h → type_of (types_of types) (term_of (kind_in x.node) h) ≡ outside_type f place (item_at nodes n).routine
    heading_told h e = by (arguments_behind own nodes values [] (arguments_in nodes x.node)) refl (types_behind own nodes values [] (results_in nodes x.node)) refl (signals_behind own nodes values [] (routines.exceptions_in nodes x.node)) refl e
      where
        by : (a : Option (List TypeId)) → arguments_behind own nodes values [] (arguments_in nodes x.node) ≡ a → (r : Option (List TypeId)) → types_behind own nodes values [] (results_in nodes x.node) ≡ r
            → (s : Option (List Exception)) → signals_behind own nodes values [] (routines.exceptions_in nodes x.node) ≡ s
            → option_and_then (λ args. option_and_then (λ types. option_map (λ signals. made_of args types signals) (option_map (in_order exception_before) s)) r) a ≡ Some h
            → type_of (types_of types) (term_of (kind_in x.node) h) ≡ outside_type f place (item_at nodes n).routine
        by None is r was s so e = absurd (none-some h e)
        by (Some args) is None was s so e = absurd (none-some h e)
        by (Some args) is (Some results) was None so e = absurd (none-some h e)
        by (Some args) is (Some results) was (Some list) so e =
            ap (λ (h : Heading). type_of (types_of types) (term_of (kind_in x.node) h)) (sym (same_Some (made_of args results (in_order exception_before list)) h e))
            ∙ whole args results list is was so

  pub heading_at : (n : ℕ) (node : Node) → slice_get nodes n ≡ Some node → node.kind ≡ kind.Routine → (h : Heading) → heading_outside own nodes values (arguments_in nodes node) (results_in nodes node) (routines.exceptions_in nodes node) ≡ Some h → type_of (types_of types) (term_of (kind_in node) h) ≡ outside_type f place (item_at nodes n).routine
  heading_at n node at is h e = heading_told n (record { node = node; at = at; is = is }) h e
