-- At the nodes that stand in equates, types and expressions the rules over tables say what the definitions say, up to the first that is
-- violated, where no rule is violated before the node.
use Rattle.std.proofs.Common.{◌≡◌, ◌∙◌, ℕ, ◌+◌, ◌==◌, ◌^◌, ◌<◌, ◌&&◌, ◌||◌, not, Bool, true, false, List, [], ◌∷◌, length, refl, sym, ap, ap₂, arith}
use Rattle.std.specs.List.{AllByRecursion, list_any}
use Rattle.std.proofs.lemmas.Bool.{true≢false}
use Rattle.clu_base.specs.declared.rules.Rule.{Rule}
use Rattle.clu_base.specs.declared.rules.Rule.TheVariants as rule
use Rattle.clu_tree.specs.declared.node.Node.{Node}
use Rattle.clu_tree.specs.declared.node.NodeKind.{NodeKind}
use Rattle.clu_tree.specs.declared.node.NodeKind.TheVariants as kind
use Rattle.clu_parser.specs.Trees.{Text}
use Rattle.clu_syntax.specs.Items.{Item}
use Rattle.clu_syntax.specs.Kinds.{is_expression, is_type}
use Rattle.clu_syntax.specs.Syntax.{Identifier}
use Rattle.clu_names.specs.Scopes.{declarations}
use Rattle.clu_meaning.specs.Scoping.{Scope}
use Rattle.clu_checking.specs.Specifications.{Specification}
use Rattle.clu_checking.specs.Files.{File, kind_in, scope_in}
use Rattle.clu_checking.specs.Equates.{is_bad_name, names_unfolded}
use Rattle.clu_checking.specs.NameRules.{is_defined_twice}
use Rattle.clu_checking.specs.Invocations as wanting
use Rattle.clu_checking.specs.Invocations.{invocations}
use Rattle.clu_checking.specs.Wanted as wants
use Rattle.clu_checking.specs.ExpressionRules as expressions
use Rattle.clu_checking.specs.StatementRules as statements
use Rattle.clu_checking.specs.Rules as definition
use Rattle.clu_checking.specs.Refusals.{is_bad_of, rules_of_types}
use Rattle.clu_bindings.specs.declared.file.File.{File as Read}
use Rattle.clu_bindings.specs.declared.wanted.Wanted.{Wanted as WantedThere}
use Rattle.clu_bindings.specs.declared.wanted.Wanted.TheVariants as wanted
use Rattle.clu_bindings.specs.Wanted as bound
use Rattle.clu_name_rules.specs.NameRules as tables
use Rattle.clu_type_rules.specs.declared.invocation_rules.Fault.TheVariants as fault
use Rattle.clu_type_rules.specs.declared.known.Known.{Known}
use Rattle.clu_type_rules.specs.Known as known
use Rattle.clu_type_rules.specs.Asked.{is_asked, rules_at}
use Rattle.clu_type_rules.specs.Bindings as binds
use Rattle.clu_type_rules.specs.ExceptionRules.{v26_at}
use Rattle.clu_type_rules.specs.InvocationRules.{some_has_fault}
use Rattle.clu_type_rules.specs.ResultRules as results
use Rattle.clu_type_rules.specs.Rules.{violates, violates_of_types}
use Rattle.clu_passes.specs.ConstantsKnown.{AreConstantsKnown, file_of}
use Rattle.clu_passes.specs.ConstantTables.{AreTables, wanted_told}
use Rattle.clu_passes.specs.Lost.{is_lost_itself, lost}
use Rattle.clu_passes.specs.Refusing.{AgreeOn, is_of_types, of_types}
use Rattle.clu_passes.specs.Right.{AgreeThere, AreTypesBad, IsQuiet}
use Rattle.clu_passes.specs.Trees.{IsFileOfTree, is_of_constant}
use Rattle.clu_passes.specs.Turns.{bit}
use Rattle.clu_passes.proofs.BadEquates.{violates_same}
use Rattle.clu_passes.proofs.ClustersRound.{of_kinds}
use Rattle.clu_passes.proofs.ConstantsFacts as facts
use Rattle.clu_passes.proofs.ConstantsKept as kept
use Rattle.clu_passes.proofs.ConstantsKept.{reads_facts}
use Rattle.clu_passes.proofs.DefinedTwice.{defined_told}
use Rattle.clu_passes.proofs.Disagreed.{disagrees_same}
use Rattle.clu_passes.proofs.Failures as failures
use Rattle.clu_passes.proofs.FailuresKnown.{failures_known}
use Rattle.clu_passes.proofs.MeaningsThere.{meanings_are}
use Rattle.clu_passes.proofs.OtherRules.{AgreeElse, agree_all}
use Rattle.clu_passes.proofs.RightBits.{agree_same}
use Rattle.clu_passes.proofs.TablesMade.{tables_are}
use Rattle.clu_passes.proofs.TypesAgree as all_types
use Rattle.clu_passes.proofs.TypesBad.{name_bad}
use Rattle.clu_passes.proofs.ValuesKnown as at

either_way : (x y : Bool) → ((x || true) || false) ≡ ((y || true) || false)
either_way true true = refl
either_way true false = refl
either_way false true = refl
either_way false false = refl

-- a type is no expression
no_expression : (k : NodeKind) → is_type k ≡ true → is_expression k ≡ false
no_expression kind.Simple e = refl
no_expression kind.ListT e = refl
no_expression kind.FieldsT e = refl
no_expression kind.RoutineT e = refl
no_expression kind.NameT e = refl
no_expression kind.File e = absurd (true≢false (sym e))
no_expression _ e = absurd (true≢false (sym e))

module _ (t : Text) (k : Known) (library : List Specification) (refused : List ℕ) (items : ℕ → Item) (bits : List Bool) (its : AreConstantsKnown t k library refused)
    (bad : ℕ → Bool) (bad_are : AreTypesBad (file_of k library refused) bad) (n : ℕ) (inside : n < length k.tables.file.syntax.now) (quiet : IsQuiet (file_of k library refused) bad n) where
  abbrev r : Read
  r = k.tables.file

  abbrev nodes : List Node
  nodes = k.tables.file.syntax.now

  abbrev scope : Scope
  scope = scope_in k.tables.file.syntax.now k.tables.file.rounds.now

  abbrev f : File
  f = file_of k library refused

  abbrev of_file : IsFileOfTree f
  of_file = at.of_tree t k.tables library refused its.whole.made its.whole.lost

  are : AreTables f k.tables
  are = tables_are t k.tables library refused its.whole.made

  abbrev found : Rule → Bool
  found = violates k bits items n

  abbrev violated : Rule → Bool
  violated = definition.violates f bad n

  abbrev Same : Rule → Type 0
  Same x = found x ≡ violated x

  abbrev Missed : Rule → Type 0
  Missed x = violated x ≡ false

  abbrev Else : NodeKind → Type 0
  Else j = AgreeElse found violated (rules_at j)

  -- nothing is lost by the node, of which rules read facts
  record Fine : Type 0 where
    reads : reads_facts (kind_in f n) ≡ true
    itself : is_lost_itself f n ≡ false

  unasked : (j : NodeKind) → kind_in f n ≡ j → (x : Rule) → is_asked j x ≡ false → Missed x
  unasked = kept.unasked t k library refused its bad bad_are n inside quiet

  fine_itself : reads_facts (kind_in f n) ≡ true → Missed rule.LiteralRange → Missed rule.UnknownName → Missed rule.CircularEquate → Missed rule.NotConstant → Missed rule.NotType → Missed rule.Real → Missed rule.CvtPlace → Fine
  fine_itself reads range unknown circle constant type real place =
      record { reads = reads; itself = kept.fine_itself t k library refused its bad bad_are n inside quiet range unknown circle constant type real place }

  -- ---- rules by which types are refused: that they agree is known

  skip : (x : Rule) → is_of_types x ≡ true → is_of_types x ≡ false → Same x
  skip x is apart = absurd (true≢false (sym is ∙ apart))

  -- ---- rules on facts, where nothing is lost by the node

  module _ (fine : Fine) where
    here : lost f n ≡ false
    here = kept.here t k library refused its bad bad_are n inside quiet fine.itself fine.reads

    same_operation : Same rule.NoOperation
    same_operation = facts.same_operation t k library refused items bits its bad n inside here

    same_count : Same rule.ArgumentCount
    same_count = facts.same_count t k library refused items bits its bad n inside here

    same_types : Same rule.ArgumentType
    same_types = facts.same_types t k library refused items bits its bad n inside here (kept.typed t k library refused its bad bad_are n inside quiet)

    same_results : Same rule.ResultCount
    same_results =
        facts.same_results t k library refused items bits its bad n inside here (kept.name_known t k library refused its bad bad_are n inside quiet fine.itself)
        (kept.brackets t k library refused its bad bad_are n inside quiet fine.itself)

    same_bool : Same rule.NotBool
    same_bool = facts.same_bool t k library refused items bits its bad n inside here

    same_has : Same rule.WhereNotMet
    same_has = facts.same_has t k library refused items bits its bad n inside here

    same_in_set : Same rule.NotInTypeSet
    same_in_set = facts.same_in_set t k library refused items bits its bad n inside here

    same_up : Same rule.UpDown
    same_up = facts.same_up t k library refused items bits its bad n inside here

    same_use : Same rule.IteratorUse
    same_use = facts.same_use t k library refused items bits its bad n inside here

  -- what is listed as failure
  same_failure : kind_in f n ≡ kind.Exc → Same rule.SignalTypes
  same_failure is =
      ap (λ (j : NodeKind). v26_at k items bits j n) is
      ∙ sym (failures.v26_is k scope library refused its.whole.made.file.parsed.forms its.whole.made.file.parsed.tree are.arena bad items n is
      (failures_known t k library refused its.whole its.own.own n inside is (kept.clear t k library refused its bad bad_are n inside quiet)))

  -- ---- V14 of a type, which is no object

  abbrev some_result : Bool
  some_result = list_any expressions.has_not_one_result (invocations f n)

  abbrev some_result_there : Bool
  some_result_there = some_has_fault k fault.ResultCount n

  -- what V14 asks of a node of this kind, where this is wanted
  abbrev asked : NodeKind → wants.Wanted → Bool
  asked j w = ((expressions.is_one_wanted j w && some_result) || (is_type j && wanting.is_object_wanted w)) || false

  abbrev asked_there : NodeKind → WantedThere → Bool
  asked_there j w = ((results.is_one_wanted j w && some_result_there) || (is_type j && bound.is_object_wanted w)) || false

  as_told : (j : NodeKind) → is_type j ≡ true → (w : WantedThere) → asked_there j w ≡ asked j (wanted_told w)
  as_told kind.Simple e wanted.Object = either_way some_result_there some_result
  as_told kind.Simple e _ = refl
  as_told kind.ListT e wanted.Object = either_way some_result_there some_result
  as_told kind.ListT e _ = refl
  as_told kind.FieldsT e wanted.Object = either_way some_result_there some_result
  as_told kind.FieldsT e _ = refl
  as_told kind.RoutineT e wanted.Object = either_way some_result_there some_result
  as_told kind.RoutineT e _ = refl
  as_told kind.NameT e wanted.Object = either_way some_result_there some_result
  as_told kind.NameT e _ = refl
  as_told kind.File e w = absurd (true≢false (sym e))
  as_told _ e w = absurd (true≢false (sym e))

  -- the rule, by the definition and by tables, at a node of this kind
  abbrev checked : NodeKind → Bool
  checked j =
      ((expressions.is_one_wanted j (wants.wanted f n) && some_result) || expressions.is_no_object f j n)
      || list_any (λ (b : statements.Binding). not (length b.variables == length b.objects)) (statements.bindings_in f j n)

  abbrev checked_there : NodeKind → Bool
  checked_there j = ((results.is_one_wanted j (known.wanted_in k n) && some_result_there) || results.is_no_object r j n) || binds.is_other_number k (binds.binding_at k items j n)

  checked_is : (j : NodeKind) → is_type j ≡ true → checked j ≡ asked j (wants.wanted f n)
  checked_is kind.Simple e = refl
  checked_is kind.ListT e = refl
  checked_is kind.FieldsT e = refl
  checked_is kind.RoutineT e = refl
  checked_is kind.NameT e = refl
  checked_is kind.File e = absurd (true≢false (sym e))
  checked_is _ e = absurd (true≢false (sym e))

  there_is : (j : NodeKind) → is_type j ≡ true → checked_there j ≡ asked_there j (known.wanted_in k n)
  there_is kind.Simple e = refl
  there_is kind.ListT e = refl
  there_is kind.FieldsT e = refl
  there_is kind.RoutineT e = refl
  there_is kind.NameT e = refl
  there_is kind.File e = absurd (true≢false (sym e))
  there_is _ e = absurd (true≢false (sym e))

  same_of_type : is_type (kind_in f n) ≡ true → Same rule.ResultCount
  same_of_type e =
      there_is (kind_in f n) e
      ∙ as_told (kind_in f n) e (known.wanted_in k n)
      ∙ ap (asked (kind_in f n)) (are.wanted n (kept.round_of_type t k library refused its bad bad_are n inside quiet (no_expression (kind_in f n) e)))
      ∙ sym (checked_is (kind_in f n) e)

  module _ (const : is_of_constant (kind_in f n) ≡ true) (named : AllByRecursion (λ (name : Identifier). is_bad_name f (bit bits) n name ≡ is_bad_name f bad n name) (names_unfolded f (kind_in f n) n)) where
    -- by the bits the definitions say the same
    by_bits : (x : Rule) → definition.violates f (bit bits) n x ≡ definition.violates f bad n x
    by_bits = violates_same f of_file (bit bits) bad n const named

    -- ---- V6

    few : length nodes < 2 ^ 32
    few = let both : length nodes + length (declarations nodes k.tables.file.rounds.now) < 2 ^ 32 = its.whole.made.file.few in omega (arith, both)

    twice : tables.is_defined_twice items nodes k.tables.file.rounds.now k.tables.file.names.now k.tables.items.now.repeated.items k.tables.own.now n ≡ is_defined_twice f n
    twice =
        ap (λ (own : List ℕ). tables.is_defined_twice items nodes k.tables.file.rounds.now k.tables.file.names.now k.tables.items.now.repeated.items own n) its.whole.own
        ∙ sym (defined_told t f its.whole.made.file.parsed its.whole.made.file.rounds refl few k.tables.file.names.now its.whole.made.file.names k.tables.items.now.repeated.items its.whole.noted.repeated items n)

    same_defined : Same rule.DefinedTwice
    same_defined =
        ap₂ (λ (a b : Bool). a || b) twice
        (ap (λ (disagrees : List Bool). tables.disagrees_by nodes k.tables.file.names.now k.tables.circular.now bits disagrees (kind_in f n) n) its.rules.demands.bits
        ∙ sym (disagrees_same k.tables scope library refused its.whole.made.file.parsed.forms its.whole.made.file.parsed.tree are bits (bit bits) (λ e is. refl) its.rules.demands.terms its.rules.demands.arena
        k.headed.heads.now.asked its.rules.demands.told (of_kinds f its.whole.made.file.parsed.tree its.whole.made.file.rounds) n))
        ∙ by_bits rule.DefinedTwice

    -- ---- the rules by which no type is refused, by the kind of the node

    -- of what is invoked: where V4, V8 and V9 are not violated
    invoking : Fine → AgreeElse found violated (rule.NoOperation ∷ rule.ArgumentCount ∷ rule.ArgumentType ∷ rule.ResultCount ∷ rule.NotBool ∷ rule.WhereNotMet ∷ rule.NotInTypeSet ∷ rule.IteratorUse ∷ [])
    invoking fine = (
      λ e. same_operation fine,
      λ a. (
        λ e. same_count fine,
        λ b. (
          λ e. same_types fine,
          λ c. (
            λ e. same_results fine,
            λ d.
                (λ e. same_bool fine, λ g. (λ e. same_has fine, λ h. (λ e. same_in_set fine, λ i. (λ e. same_use fine, λ j. tt)))),
          ),
        ),
      ),
    )

    indexed : Fine → AgreeElse found violated (rule.NoOperation ∷ rule.ArgumentCount ∷ rule.ArgumentType ∷ rule.ResultCount ∷ rule.WhereNotMet ∷ rule.ParameterKind ∷ rule.NotInTypeSet ∷ rule.IteratorUse ∷ [])
    indexed fine = (
      λ e. same_operation fine,
      λ a. (
        λ e. same_count fine,
        λ b. (
          λ e. same_types fine,
          λ c. (
            λ e. same_results fine,
            λ d.
                (λ e. same_has fine, λ g. (skip rule.ParameterKind refl, λ h. (λ e. same_in_set fine, λ i. (λ e. same_use fine, λ j. tt)))),
          ),
        ),
      ),
    )

    a_name : Fine → AgreeElse found violated (rule.NoOperation ∷ rule.ResultCount ∷ rule.WhereNotMet ∷ rule.ParameterKind ∷ rule.NotInTypeSet ∷ [])
    a_name fine = (λ e. same_operation fine, λ a. (λ e. same_results fine, λ b. (λ e. same_has fine, λ c. (skip rule.ParameterKind refl, λ d. (λ e. same_in_set fine, λ g. tt)))))

    an_operation : Fine → AgreeElse found violated (rule.NoOperation ∷ rule.WhereNotMet ∷ rule.NotInTypeSet ∷ [])
    an_operation fine = (λ e. same_operation fine, λ a. (λ e. same_has fine, λ b. (λ e. same_in_set fine, λ c. tt)))

    module _ (j : NodeKind) (is : kind_in f n ≡ j) where
      -- not violated: V4, V8 and V9
      fine_call : reads_facts j ≡ true → is_asked j rule.UnknownName ≡ false → is_asked j rule.CircularEquate ≡ false → is_asked j rule.Real ≡ false → is_asked j rule.CvtPlace ≡ false → Missed rule.LiteralRange → Missed rule.NotConstant → Missed rule.NotType → Fine
      fine_call reads unknown circle real place range constant type =
          fine_itself (ap reads_facts is ∙ reads) range (unasked j is rule.UnknownName unknown) (unasked j is rule.CircularEquate circle) constant type (unasked j is rule.Real real) (unasked j is rule.CvtPlace place)

      -- V8 and V9, where no name stands
      fine_part : reads_facts j ≡ true → is_asked j rule.LiteralRange ≡ false → is_asked j rule.UnknownName ≡ false → is_asked j rule.CircularEquate ≡ false → is_asked j rule.Real ≡ false → is_asked j rule.CvtPlace ≡ false → Missed rule.NotConstant → Missed rule.NotType → Fine
      fine_part reads range unknown circle real place constant type = fine_call reads unknown circle real place (unasked j is rule.LiteralRange range) constant type

    calls : (j : NodeKind) → kind_in f n ≡ j → reads_facts j ≡ true → is_asked j rule.UnknownName ≡ false → is_asked j rule.CircularEquate ≡ false → is_asked j rule.Real ≡ false → is_asked j rule.CvtPlace ≡ false →
        AgreeElse found violated (rule.LiteralRange ∷ rule.NotConstant ∷ rule.NotType ∷ rule.NoOperation ∷ rule.ArgumentCount ∷ rule.ArgumentType ∷ rule.ResultCount ∷ rule.NotBool ∷ rule.WhereNotMet ∷ rule.NotInTypeSet ∷ rule.IteratorUse ∷ [])
    calls j is reads unknown circle real place =
        (skip rule.LiteralRange refl, λ a. (skip rule.NotConstant refl, λ b. (skip rule.NotType refl, λ c. invoking (fine_call j is reads unknown circle real place a b c))))

    constructed : (j : NodeKind) → kind_in f n ≡ j → reads_facts j ≡ true → is_asked j rule.LiteralRange ≡ false → is_asked j rule.UnknownName ≡ false → is_asked j rule.CircularEquate ≡ false → is_asked j rule.Real ≡ false → is_asked j rule.CvtPlace ≡ false →
        AgreeElse found violated (rule.NotConstant ∷ rule.NotType ∷ rule.ArgumentType ∷ rule.Selectors ∷ [])
    constructed j is reads range unknown circle real place =
        (skip rule.NotConstant refl, λ a. (skip rule.NotType refl, λ b. (λ e. same_types (fine_part j is reads range unknown circle real place a b), λ c. (skip rule.Selectors refl, λ d. tt))))

    up_or_down : (j : NodeKind) → kind_in f n ≡ j → reads_facts j ≡ true → is_asked j rule.LiteralRange ≡ false → is_asked j rule.UnknownName ≡ false → is_asked j rule.CircularEquate ≡ false → is_asked j rule.Real ≡ false → is_asked j rule.CvtPlace ≡ false →
        AgreeElse found violated (rule.NotConstant ∷ rule.NotType ∷ rule.UpDown ∷ [])
    up_or_down j is reads range unknown circle real place =
        (skip rule.NotConstant refl, λ a. (skip rule.NotType refl, λ b. (λ e. same_up (fine_part j is reads range unknown circle real place a b), λ c. tt)))

    a_type : is_type (kind_in f n) ≡ true → AgreeElse found violated (rule.NotType ∷ rule.ResultCount ∷ [])
    a_type e = (skip rule.NotType refl, λ a. (λ h. same_of_type e, λ b. tt))

    else_at : (j : NodeKind) → is_of_constant j ≡ true → kind_in f n ≡ j → Else j
    else_at kind.FieldE e is = (skip rule.LiteralRange refl, λ a. (skip rule.Selectors refl, λ b. tt))
    else_at kind.FieldT e is = (skip rule.LiteralRange refl, λ a. (skip rule.Selectors refl, λ b. tt))
    else_at kind.Results e is = (skip rule.LiteralRange refl, λ a. tt)
    else_at kind.Signals e is = (skip rule.LiteralRange refl, λ a. tt)
    else_at kind.Exc e is = (skip rule.LiteralRange refl, λ a. (λ h. same_defined, λ b. (λ h. same_failure is, λ c. tt)))
    else_at kind.TypeSet e is = (skip rule.LiteralRange refl, λ a. (skip rule.UnknownName refl, λ b. (λ h. same_defined, λ c. (skip rule.NotType refl, λ d. tt))))
    else_at kind.Oper e is = (skip rule.LiteralRange refl, λ a. (λ h. same_defined, λ b. tt))
    else_at kind.Equate e is = (skip rule.LiteralRange refl, λ a. (λ h. same_defined, λ b. tt))
    else_at kind.Simple e is =
        (skip rule.CircularEquate refl, λ a. (skip rule.NotType refl, λ b. (skip rule.Real refl, λ c. (λ h. same_of_type (ap is_type is), λ d. (skip rule.CvtPlace refl, λ g. tt)))))
    else_at kind.ListT e is = a_type (ap is_type is)
    else_at kind.FieldsT e is = a_type (ap is_type is)
    else_at kind.RoutineT e is = a_type (ap is_type is)
    else_at kind.NameT e is = (
      skip rule.LiteralRange refl,
      λ a. (
        skip rule.UnknownName refl,
        λ b. (
          skip rule.CircularEquate refl,
          λ c. (
            skip rule.NotType refl,
            λ d.
                let fine : Fine = fine_itself (ap reads_facts is) a b c (unasked kind.NameT is rule.NotConstant refl) d (unasked kind.NameT is rule.Real refl) (unasked kind.NameT is rule.CvtPlace refl) in
                (λ h. same_of_type (ap is_type is), λ g. (λ h. same_has fine, λ i. (skip rule.ParameterKind refl, λ j. (λ h. same_in_set fine, λ l. tt)))),
          ),
        ),
      ),
    )
    else_at kind.Infix e is = calls kind.Infix is refl refl refl refl refl
    else_at kind.Prefix e is = calls kind.Prefix is refl refl refl refl refl
    else_at kind.Get e is = calls kind.Get is refl refl refl refl refl
    else_at kind.Call e is = calls kind.Call is refl refl refl refl refl
    else_at kind.Paren e is = (skip rule.NotConstant refl, λ a. (skip rule.NotType refl, λ b. tt))
    else_at kind.Force e is = (skip rule.NotConstant refl, λ a. (skip rule.NotType refl, λ b. tt))
    else_at kind.Literal e is = (skip rule.LiteralRange refl, λ a. (skip rule.NotConstant refl, λ b. (skip rule.NotType refl, λ c. (skip rule.Real refl, λ d. tt))))
    else_at kind.Name e is = (
      skip rule.LiteralRange refl,
      λ a. (
        skip rule.UnknownName refl,
        λ b. (
          skip rule.CircularEquate refl,
          λ c. (
            skip rule.NotConstant refl,
            λ d. (
              skip rule.NotType refl,
              λ g.
                  a_name (fine_itself (ap reads_facts is) a b c d g (unasked kind.Name is rule.Real refl) (unasked kind.Name is rule.CvtPlace refl)),
            ),
          ),
        ),
      ),
    )
    else_at kind.Index e is = (skip rule.NotConstant refl, λ a. (skip rule.NotType refl, λ b. indexed (fine_part kind.Index is refl refl refl refl refl refl a b)))
    else_at kind.OperOf e is =
        (skip rule.LiteralRange refl, λ a. (skip rule.NotConstant refl, λ b. (skip rule.NotType refl, λ c. an_operation (fine_call kind.OperOf is refl refl refl refl refl a b c))))
    else_at kind.Fields e is = constructed kind.Fields is refl refl refl refl refl refl
    else_at kind.Elems e is = constructed kind.Elems is refl refl refl refl refl refl
    else_at kind.Up e is = up_or_down kind.Up is refl refl refl refl refl refl
    else_at kind.Down e is = up_or_down kind.Down is refl refl refl refl refl refl
    else_at kind.File e is = absurd (true≢false (sym e))
    else_at _ e is = absurd (true≢false (sym e))

    -- ---- together with those by which types are refused

    abbrev typed : Rule → Bool
    typed = violates_of_types k.tables bits items n

    found_typed : (x : Rule) → is_of_types x ≡ true → found x ≡ typed x
    found_typed rule.LiteralRange e = refl
    found_typed rule.UnknownName e = refl
    found_typed rule.CircularEquate e = refl
    found_typed rule.NotConstant e = refl
    found_typed rule.NotType e = refl
    found_typed rule.Real e = refl
    found_typed rule.Selectors e = refl
    found_typed rule.ParameterKind e = refl
    found_typed rule.CvtPlace e = refl
    found_typed _ e = absurd (true≢false (sym e))

    abbrev types_bad : ℕ → Bool
    types_bad = is_bad_of f (rules_of_types f)

    more_named : (others : List Identifier) → AllByRecursion (λ (name : Identifier). is_bad_name f (bit bits) n name ≡ is_bad_name f bad n name) others →
        AllByRecursion (λ (name : Identifier). is_bad_name f types_bad n name ≡ true → is_bad_name f (bit bits) n name ≡ true) others
    more_named [] same = tt
    more_named (name ∷ others) same = (λ hit. same.0 ∙ name_bad f bad bad_are n name hit, more_named others same.1)

    types_agree : AgreeOn typed (of_types violated) (rules_at (kind_in f n))
    types_agree =
        agree_same typed (of_types (definition.violates f (bit bits) n)) (of_types violated) (λ x. ap (λ (b : Bool). is_of_types x && b) (by_bits x)) (rules_at (kind_in f n))
        (all_types.types_agree t k.tables library refused its.whole.made its.whole.lost (meanings_are t k.tables.file library refused k.tables.types.now its.whole.made.file) its.whole.noted.repeated items bits (bit bits) (λ e is. refl) n inside
        (kept.clear t k library refused its bad bad_are n inside quiet) (more_named (names_unfolded f (kind_in f n) n) named))

    pub constants_agree : AgreeThere f k items bits bad n
    constants_agree = agree_all found violated typed found_typed (rules_at (kind_in f n)) types_agree (else_at (kind_in f n) const refl)

-- the field `constants` of `AreRight`
pub constants_right : (t : Text) (k : Known) (library : List Specification) (refused : List ℕ) (items : ℕ → Item) (bits : List Bool) → AreConstantsKnown t k library refused →
    (bad : ℕ → Bool) (n : ℕ) → n < length k.tables.file.syntax.now → is_of_constant (kind_in (file_of k library refused) n) ≡ true →
    AllByRecursion (λ (name : Identifier). is_bad_name (file_of k library refused) (bit bits) n name ≡ is_bad_name (file_of k library refused) bad n name) (names_unfolded (file_of k library refused) (kind_in (file_of k library refused) n) n) →
    AreTypesBad (file_of k library refused) bad → IsQuiet (file_of k library refused) bad n → AgreeThere (file_of k library refused) k items bits bad n
constants_right t k library refused items bits its bad n inside const named bad_are quiet = constants_agree t k library refused items bits its bad bad_are n inside quiet const named
