-- What is bound below a routine, a cluster, a module and a type set: by their parts, which leave out no child.
use Rattle.std.proofs.Common.{◌≡◌, ◌∙◌, ℕ, ◌&&◌, Bool, true, false, if◌then◌else◌, List, [], ◌∷◌, ◌++◌, refl, ap, ap₂, sym, subst, append_assoc, append-nil}
use Rattle.std.specs.List.{AllByRecursion}
use Rattle.std.proofs.lemmas.List.{take-append-drop}
use Rattle.clu_tree.specs.declared.node.Node.{Node}
use Rattle.clu_tree.specs.declared.node.NodeKind.{NodeKind}
use Rattle.clu_tree.specs.declared.node.NodeKind.TheVariants as kind
use Rattle.clu_grammar.specs.Kinds.{is_statement}
use Rattle.clu_parser.specs.Shape as shape
use Rattle.clu_parser.specs.Shape.{is_child, parts_of}
use Rattle.clu_syntax.specs.declared.round.Round.{Round}
use Rattle.clu_syntax.specs.Kinds.{kind_at}
use Rattle.clu_syntax.specs.Splits.{is_of, run, after_run, leading, after_one}
use Rattle.clu_syntax.specs.Items.{Item, equates_at, declarations_at, owns_at, statements_at}
use Rattle.clu_syntax.specs.Nodes.{before, item_at, routine_from}
use Rattle.clu_parts.proofs.Fitting.{Slot, just, several, at_most_one, may_stand, IsPart, AreParts, Stand, first_of, run_is, after_one_is, on_head, on_end, all_several, several_from, some_of, some_slot}
use Rattle.clu_meaning.specs.Scoping.{is_local, is_own_of_routine, is_own_of_cluster, Bindings, of_equates, of_declarations, of_owns, of_statements, of_routine}
use Rattle.clu_declares.proofs.Below.{binds, all_in, all_nil, all_split, skip_first, plain_part, plain_parts, plain_stand, none_at, and_false, equates_in, declarations_in, AreVariables, owns_in, AreOwns, statements_in}
use Rattle.clu_declares.proofs.Whole.{same_equates, same_statements}

-- ---- slots

abbrev equate_here : NodeKind → Bool
equate_here = may_stand 2 (parts_of shape.equates)

abbrev own_here : NodeKind → Bool
own_here = may_stand 2 (parts_of shape.owns)

abbrev statement_here : NodeKind → Bool
statement_here = may_stand 2 (parts_of shape.statements)

abbrev parm_here : NodeKind → Bool
parm_here = may_stand 2 (parts_of shape.parms)

abbrev decl_here : NodeKind → Bool
decl_here = may_stand 2 (parts_of shape.decls)

abbrev where_here : NodeKind → Bool
where_here = may_stand 2 (parts_of shape.demands)

abbrev routine_here : NodeKind → Bool
routine_here = may_stand 2 (parts_of shape.more_routines)

-- {Equate} {Own} {stmt}
abbrev own_slots : List Slot
own_slots = several own_here ∷ several statement_here ∷ []

abbrev body_slots : List Slot
body_slots = several equate_here ∷ own_slots

abbrev where_slots : List Slot
where_slots = at_most_one where_here ∷ body_slots

abbrev signal_slots : List Slot
signal_slots = at_most_one (may_stand 2 (parts_of shape.signals)) ∷ where_slots

abbrev result_slots : List Slot
result_slots = at_most_one (may_stand 2 (parts_of shape.results)) ∷ signal_slots

abbrev decl_slots : List Slot
decl_slots = several decl_here ∷ result_slots

abbrev pub routine_slots : List Slot
routine_slots = several parm_here ∷ decl_slots

abbrev definitions : List Slot
definitions = just (is_child (shape.one kind.Routine)) ∷ several routine_here ∷ []

abbrev cluster_owns : List Slot
cluster_owns = several own_here ∷ definitions

abbrev cluster_equates : List Slot
cluster_equates = several equate_here ∷ cluster_owns

abbrev cluster_where : List Slot
cluster_where = at_most_one where_here ∷ cluster_equates

abbrev pub cluster_slots : List Slot
cluster_slots = several parm_here ∷ cluster_where

abbrev oper_slots : List Slot
oper_slots = several (may_stand 2 (parts_of shape.more_opers)) ∷ several equate_here ∷ []

-- ---- which kinds these are

same_owns : (j : NodeKind) → own_here j ≡ is_of kind.Own j
same_owns kind.File = refl
same_owns _ = refl

same_parms : (j : NodeKind) → parm_here j ≡ is_of kind.Parm j
same_parms kind.File = refl
same_parms _ = refl

same_decls : (j : NodeKind) → decl_here j ≡ is_of kind.Decl j
same_decls kind.File = refl
same_decls _ = refl

same_where : (j : NodeKind) → where_here j ≡ is_of kind.Where j
same_where kind.File = refl
same_where _ = refl

same_signals : (j : NodeKind) → may_stand 2 (parts_of shape.signals) j ≡ is_of kind.Signals j
same_signals kind.File = refl
same_signals _ = refl

same_results : (j : NodeKind) → may_stand 2 (parts_of shape.results) j ≡ is_of kind.Results j
same_results kind.File = refl
same_results _ = refl

pub same_routines : (j : NodeKind) → routine_here j ≡ is_of kind.Routine j
same_routines kind.File = refl
same_routines _ = refl

same_routine : (j : NodeKind) → is_child (shape.one kind.Routine) j ≡ routine_here j
same_routine kind.File = refl
same_routine _ = refl

same_opers : (j : NodeKind) → may_stand 2 (parts_of shape.more_opers) j ≡ is_of kind.Oper j
same_opers kind.File = refl
same_opers _ = refl

same_oper : (j : NodeKind) → is_child (shape.one kind.Oper) j ≡ may_stand 2 (parts_of shape.more_opers) j
same_oper kind.File = refl
same_oper _ = refl

parms_apart : (j : NodeKind) → (is_of kind.Parm j && first_of decl_slots j) ≡ false
parms_apart kind.File = refl
parms_apart _ = refl

decls_apart : (j : NodeKind) → (is_of kind.Decl j && first_of result_slots j) ≡ false
decls_apart kind.File = refl
decls_apart _ = refl

results_apart : (j : NodeKind) → (is_of kind.Results j && first_of signal_slots j) ≡ false
results_apart kind.File = refl
results_apart _ = refl

signals_apart : (j : NodeKind) → (is_of kind.Signals j && first_of where_slots j) ≡ false
signals_apart kind.File = refl
signals_apart _ = refl

where_apart : (j : NodeKind) → (is_of kind.Where j && first_of body_slots j) ≡ false
where_apart kind.File = refl
where_apart _ = refl

equates_apart : (j : NodeKind) → (is_of kind.Equate j && first_of own_slots j) ≡ false
equates_apart kind.File = refl
equates_apart _ = refl

owns_apart : (j : NodeKind) → (is_of kind.Own j && first_of (several statement_here ∷ []) j) ≡ false
owns_apart kind.File = refl
owns_apart _ = refl

cluster_parms_apart : (j : NodeKind) → (is_of kind.Parm j && first_of cluster_where j) ≡ false
cluster_parms_apart kind.File = refl
cluster_parms_apart _ = refl

cluster_where_apart : (j : NodeKind) → (is_of kind.Where j && first_of cluster_equates j) ≡ false
cluster_where_apart kind.File = refl
cluster_where_apart _ = refl

cluster_equates_apart : (j : NodeKind) → (is_of kind.Equate j && first_of cluster_owns j) ≡ false
cluster_equates_apart kind.File = refl
cluster_equates_apart _ = refl

cluster_owns_apart : (j : NodeKind) → (is_of kind.Own j && first_of definitions j) ≡ false
cluster_owns_apart kind.File = refl
cluster_owns_apart _ = refl

opers_apart : (j : NodeKind) → (is_of kind.Oper j && first_of (several equate_here ∷ []) j) ≡ false
opers_apart kind.File = refl
opers_apart _ = refl

ends : (k j : NodeKind) → (is_of k j && first_of [] j) ≡ false
ends k j = by (is_of k j)
  where
    by : (b : Bool) → (b && false) ≡ false
    by true = refl
    by false = refl

plain_parms : (j : NodeKind) → (is_of kind.Parm j && binds j) ≡ false
plain_parms kind.File = refl
plain_parms _ = refl

plain_opers : (j : NodeKind) → (is_of kind.Oper j && binds j) ≡ false
plain_opers kind.File = refl
plain_opers _ = refl

plain_results : (j : NodeKind) → (may_stand 2 (parts_of shape.results) j && binds j) ≡ false
plain_results kind.File = refl
plain_results _ = refl

plain_signals : (j : NodeKind) → (may_stand 2 (parts_of shape.signals) j && binds j) ≡ false
plain_signals kind.File = refl
plain_signals _ = refl

plain_where : (j : NodeKind) → (where_here j && binds j) ≡ false
plain_where kind.File = refl
plain_where _ = refl

plain_definitions : (j : NodeKind) → (some_of definitions j && binds j) ≡ false
plain_definitions kind.File = refl
plain_definitions _ = refl

module _ (nodes : List Node) (rounds : List Round) (n : ℕ) where
  abbrev items : ℕ → Item
  items = before n (item_at nodes)

  abbrev all : List ℕ → Bindings
  all = all_in nodes rounds

  -- a run that binds nothing
  skip_run : (k : NodeKind) (cs : List ℕ) → ((j : NodeKind) → (is_of k j && binds j) ≡ false) → AreParts nodes (is_of k) n (run nodes k cs) → all (after_run nodes k cs) ≡ all cs
  skip_run k cs pl ps = sym (ap (λ (bs : Bindings). bs ++ all (after_run nodes k cs)) (plain_parts nodes rounds n (is_of k) (run nodes k cs) pl ps)) ∙ sym (all_split nodes rounds (leading nodes k cs) cs)

  -- one that binds nothing, or none
  skip_one : (k : NodeKind) (p : NodeKind → Bool) (ss : List Slot) (cs : List ℕ) → ((j : NodeKind) → p j ≡ is_of k j) → ((j : NodeKind) → (is_of k j && first_of ss j) ≡ false) → ((j : NodeKind) → (p j && binds j) ≡ false) → Stand nodes n (at_most_one p ∷ ss) cs → all (after_one nodes k cs) ≡ all cs
  skip_one k p ss [] same apart pl s = refl
  skip_one k p ss (c ∷ cs) same apart pl s = by (is_of k (kind_at nodes c)) refl
    where
      by : (b : Bool) → is_of k (kind_at nodes c) ≡ b → all (if b then cs else c ∷ cs) ≡ all (c ∷ cs)
      by true e = sym (skip_first nodes rounds c cs (none_at nodes rounds c (and_false (p (kind_at nodes c)) (binds (kind_at nodes c)) (pl (kind_at nodes c)) (same (kind_at nodes c) ∙ e))))
      by false e = refl

  several_of : (k : NodeKind) (cs : List ℕ) (xs : Bindings) → xs ≡ all (run nodes k cs) → (ys : Bindings) → ys ≡ all (after_run nodes k cs) → xs ++ ys ≡ all cs
  several_of k cs xs e ys f = ap₂ (λ (xs ys : Bindings). xs ++ ys) e f ∙ sym (all_split nodes rounds (leading nodes k cs) cs)

  -- {Equate} {Own} {stmt}
  pub bodies : (cs : List ℕ) → AreOwns nodes rounds n is_own_of_routine (run nodes kind.Own (after_run nodes kind.Equate cs)) → Stand nodes n body_slots cs →
      of_equates (equates_at items (run nodes kind.Equate cs)) ++ (of_owns is_own_of_routine (owns_at items (run nodes kind.Own (after_run nodes kind.Equate cs))) ++ of_statements (statements_at items (after_run nodes kind.Own (after_run nodes kind.Equate cs)))) ≡ all cs
  bodies cs os s =
      let e = run_is nodes n kind.Equate equate_here own_slots cs same_equates equates_apart s in
      let rest : List ℕ = after_run nodes kind.Equate cs in
      let o = run_is nodes n kind.Own own_here (several statement_here ∷ []) (after_run nodes kind.Equate cs) same_owns owns_apart e.rest in
      several_of kind.Equate cs (of_equates (equates_at items (run nodes kind.Equate cs))) (equates_in nodes rounds n (run nodes kind.Equate cs) e.parts)
      (of_owns is_own_of_routine (owns_at items (run nodes kind.Own (after_run nodes kind.Equate cs))) ++ of_statements (statements_at items (after_run nodes kind.Own (after_run nodes kind.Equate cs))))
      (several_of kind.Own (after_run nodes kind.Equate cs) (of_owns is_own_of_routine (owns_at items (run nodes kind.Own (after_run nodes kind.Equate cs)))) (owns_in nodes rounds n is_own_of_routine (run nodes kind.Own (after_run nodes kind.Equate cs)) o.parts os)
      (of_statements (statements_at items (after_run nodes kind.Own (after_run nodes kind.Equate cs))))
      (statements_in nodes rounds n (after_run nodes kind.Own (after_run nodes kind.Equate cs)) (all_several nodes n statement_here is_statement (after_run nodes kind.Own (after_run nodes kind.Equate cs)) same_statements o.rest)))

  abbrev behind_results : List ℕ → List ℕ
  behind_results cs = after_one nodes kind.Where (after_one nodes kind.Signals (after_one nodes kind.Results cs))

  abbrev pub arguments_of : List ℕ → List ℕ
  arguments_of cs = run nodes kind.Decl (after_run nodes kind.Parm cs)

  abbrev pub rest_of : List ℕ → List ℕ
  rest_of cs = after_run nodes kind.Decl (after_run nodes kind.Parm cs)

  abbrev pub owns_of : List ℕ → List ℕ
  owns_of cs = run nodes kind.Own (after_run nodes kind.Equate (behind_results (rest_of cs)))

  pub routine_is : (node : Node) (cs : List ℕ) → Stand nodes n routine_slots cs → AreVariables nodes rounds n is_local (arguments_of cs) → AreOwns nodes rounds n is_own_of_routine (owns_of cs) →
      of_routine (routine_from items nodes n node cs (rest_of cs)) ≡ all cs
  routine_is node cs s vs os =
      let p = run_is nodes n kind.Parm parm_here decl_slots cs same_parms parms_apart s in
      let first : List ℕ = after_run nodes kind.Parm cs in
      let d = run_is nodes n kind.Decl decl_here result_slots (after_run nodes kind.Parm cs) same_decls decls_apart p.rest in
      let a : Stand nodes n signal_slots (after_one nodes kind.Results (rest_of cs)) = after_one_is nodes n kind.Results (may_stand 2 (parts_of shape.results)) signal_slots (rest_of cs) same_results results_apart d.rest in
      let b : Stand nodes n where_slots (after_one nodes kind.Signals (after_one nodes kind.Results (rest_of cs))) = after_one_is nodes n kind.Signals (may_stand 2 (parts_of shape.signals)) where_slots (after_one nodes kind.Results (rest_of cs)) same_signals signals_apart a in
      let c : Stand nodes n body_slots (behind_results (rest_of cs)) = after_one_is nodes n kind.Where where_here body_slots (after_one nodes kind.Signals (after_one nodes kind.Results (rest_of cs))) same_where where_apart b in
      let passed : all (behind_results (rest_of cs)) ≡ all (rest_of cs) =
      skip_one kind.Where where_here body_slots (after_one nodes kind.Signals (after_one nodes kind.Results (rest_of cs))) same_where where_apart plain_where b
      ∙ skip_one kind.Signals (may_stand 2 (parts_of shape.signals)) where_slots (after_one nodes kind.Results (rest_of cs)) same_signals signals_apart plain_signals a
      ∙ skip_one kind.Results (may_stand 2 (parts_of shape.results)) signal_slots (rest_of cs) same_results results_apart plain_results d.rest in
      regroup (of_declarations is_local (declarations_at items (arguments_of cs))) (of_equates (equates_at items (run nodes kind.Equate (behind_results (rest_of cs))))) (of_owns is_own_of_routine (owns_at items (owns_of cs))) (of_statements (statements_at items (after_run nodes kind.Own (after_run nodes kind.Equate (behind_results (rest_of cs))))))
      ∙ several_of kind.Decl (after_run nodes kind.Parm cs) (of_declarations is_local (declarations_at items (arguments_of cs))) (declarations_in nodes rounds n is_local (arguments_of cs) d.parts vs)
      (of_equates (equates_at items (run nodes kind.Equate (behind_results (rest_of cs)))) ++ (of_owns is_own_of_routine (owns_at items (owns_of cs)) ++ of_statements (statements_at items (after_run nodes kind.Own (after_run nodes kind.Equate (behind_results (rest_of cs)))))))
      (bodies (behind_results (rest_of cs)) os c ∙ passed)
      ∙ skip_run kind.Parm cs plain_parms p.parts
    where
      regroup : (d e o s : Bindings) → d ++ e ++ o ++ s ≡ d ++ (e ++ (o ++ s))
      regroup d e o s = append_assoc (d ++ e) o s ∙ append_assoc d e (o ++ s)

  -- behind the parameters stands none
  no_parm : (j : NodeKind) → (some_of decl_slots j && is_of kind.Parm j) ≡ false
  no_parm kind.File = refl
  no_parm _ = refl

  no_cluster_parm : (j : NodeKind) → (some_of cluster_where j && is_of kind.Parm j) ≡ false
  no_cluster_parm kind.File = refl
  no_cluster_parm _ = refl

  abbrev pub AreOthers : NodeKind → List ℕ → Type 0
  AreOthers k cs = AllByRecursion (λ (c : ℕ). is_of k (kind_at nodes c) ≡ false) cs

  others_than : (k : NodeKind) (p : NodeKind → Bool) (cs : List ℕ) → ((j : NodeKind) → (p j && is_of k j) ≡ false) → AreParts nodes p n cs → AreOthers k cs
  others_than k p [] apart ps = tt
  others_than k p (c ∷ cs) apart ps = (and_false (p (kind_at nodes c)) (is_of k (kind_at nodes c)) (apart (kind_at nodes c)) ps.0.1, others_than k p cs apart ps.1)

  pub behind_parms : (cs : List ℕ) → Stand nodes n routine_slots cs → AreOthers kind.Parm (after_run nodes kind.Parm cs)
  behind_parms cs s =
      let p = run_is nodes n kind.Parm parm_here decl_slots cs same_parms parms_apart s in
      others_than kind.Parm (some_of decl_slots) (after_run nodes kind.Parm cs) no_parm (some_slot nodes n decl_slots (after_run nodes kind.Parm cs) p.rest)

  pub behind_cluster_parms : (cs : List ℕ) → Stand nodes n cluster_slots cs → AreOthers kind.Parm (after_run nodes kind.Parm cs)
  behind_cluster_parms cs s =
      let p = run_is nodes n kind.Parm parm_here cluster_where cs same_parms cluster_parms_apart s in
      others_than kind.Parm (some_of cluster_where) (after_run nodes kind.Parm cs) no_cluster_parm (some_slot nodes n cluster_where (after_run nodes kind.Parm cs) p.rest)

  abbrev pub cluster_rest : List ℕ → List ℕ
  cluster_rest cs = after_one nodes kind.Where (after_run nodes kind.Parm cs)

  abbrev pub cluster_own : List ℕ → List ℕ
  cluster_own cs = run nodes kind.Own (after_run nodes kind.Equate (cluster_rest cs))

  abbrev pub cluster_routines : List ℕ → List ℕ
  cluster_routines cs = run nodes kind.Routine (after_run nodes kind.Own (after_run nodes kind.Equate (cluster_rest cs)))

  pub record ClusterParts (cs : List ℕ) : Type 0 where
    pub bound : of_equates (equates_at items (run nodes kind.Equate (cluster_rest cs))) ++ of_owns is_own_of_cluster (owns_at items (cluster_own cs)) ≡ all cs
    pub parms : AreParts nodes (is_of kind.Parm) n (run nodes kind.Parm cs)
    pub routines : AreParts nodes (is_of kind.Routine) n (cluster_routines cs)
    -- all that stand behind are routines
    pub others : after_run nodes kind.Own (after_run nodes kind.Equate (cluster_rest cs)) ≡ cluster_routines cs

  pub cluster_is : (cs : List ℕ) → Stand nodes n cluster_slots cs → AreOwns nodes rounds n is_own_of_cluster (cluster_own cs) → ClusterParts cs
  cluster_is cs s os =
      let p = run_is nodes n kind.Parm parm_here cluster_where cs same_parms cluster_parms_apart s in
      let c : Stand nodes n cluster_equates (cluster_rest cs) = after_one_is nodes n kind.Where where_here cluster_equates (after_run nodes kind.Parm cs) same_where cluster_where_apart p.rest in
      let passed : all (cluster_rest cs) ≡ all (after_run nodes kind.Parm cs) = skip_one kind.Where where_here cluster_equates (after_run nodes kind.Parm cs) same_where cluster_where_apart plain_where p.rest in
      let e = run_is nodes n kind.Equate equate_here cluster_owns (cluster_rest cs) same_equates cluster_equates_apart c in
      let o = run_is nodes n kind.Own own_here definitions (after_run nodes kind.Equate (cluster_rest cs)) same_owns cluster_owns_apart e.rest in
      let behind : List ℕ = after_run nodes kind.Own (after_run nodes kind.Equate (cluster_rest cs)) in
      let none : all (after_run nodes kind.Own (after_run nodes kind.Equate (cluster_rest cs))) ≡ [] = plain_stand nodes rounds n definitions (after_run nodes kind.Own (after_run nodes kind.Equate (cluster_rest cs))) plain_definitions o.rest in
      let r = run_is nodes n kind.Routine routine_here [] (after_run nodes kind.Own (after_run nodes kind.Equate (cluster_rest cs))) same_routines (ends kind.Routine) (several_from nodes n (is_child (shape.one kind.Routine)) routine_here [] (after_run nodes kind.Own (after_run nodes kind.Equate (cluster_rest cs))) same_routine o.rest) in
      record {
        bound =
            several_of kind.Equate (cluster_rest cs) (of_equates (equates_at items (run nodes kind.Equate (cluster_rest cs)))) (equates_in nodes rounds n (run nodes kind.Equate (cluster_rest cs)) e.parts)
            (of_owns is_own_of_cluster (owns_at items (cluster_own cs)))
            (owns_in nodes rounds n is_own_of_cluster (cluster_own cs) o.parts os ∙ sym (append-nil (all (cluster_own cs))) ∙ ap (λ (bs : Bindings). all (cluster_own cs) ++ bs) (sym none)
            ∙ sym (all_split nodes rounds (leading nodes kind.Own (after_run nodes kind.Equate (cluster_rest cs))) (after_run nodes kind.Equate (cluster_rest cs))))
            ∙ passed ∙ skip_run kind.Parm cs plain_parms p.parts;
        parms = p.parts;
        routines = r.parts;
        others =
            on_end nodes n (λ rest. cluster_routines cs ++ rest ≡ after_run nodes kind.Own (after_run nodes kind.Equate (cluster_rest cs)) → after_run nodes kind.Own (after_run nodes kind.Equate (cluster_rest cs)) ≡ cluster_routines cs)
            (λ e. sym e ∙ append-nil (cluster_routines cs)) (after_run nodes kind.Routine (after_run nodes kind.Own (after_run nodes kind.Equate (cluster_rest cs)))) r.rest
            (take-append-drop (leading nodes kind.Routine (after_run nodes kind.Own (after_run nodes kind.Equate (cluster_rest cs)))) (after_run nodes kind.Own (after_run nodes kind.Equate (cluster_rest cs))));
      }

  -- a type set's own equates
  pub set_is : (cs : List ℕ) → Stand nodes n (just (is_child (shape.one kind.Oper)) ∷ oper_slots) cs → of_equates (equates_at items (run nodes kind.Equate (after_run nodes kind.Oper cs))) ≡ all cs
  set_is cs s =
      let o = run_is nodes n kind.Oper (may_stand 2 (parts_of shape.more_opers)) (several equate_here ∷ []) cs same_opers opers_apart (several_from nodes n (is_child (shape.one kind.Oper)) (may_stand 2 (parts_of shape.more_opers)) (several equate_here ∷ []) cs same_oper s) in
      let e = run_is nodes n kind.Equate equate_here [] (after_run nodes kind.Oper cs) same_equates (ends kind.Equate) o.rest in
      equates_in nodes rounds n (run nodes kind.Equate (after_run nodes kind.Oper cs)) e.parts
      ∙ sym (append-nil (all (run nodes kind.Equate (after_run nodes kind.Oper cs))))
      ∙ ap (λ (bs : Bindings). all (run nodes kind.Equate (after_run nodes kind.Oper cs)) ++ bs) (sym (on_end nodes n (λ cs. all cs ≡ []) (all_nil nodes rounds) (after_run nodes kind.Equate (after_run nodes kind.Oper cs)) e.rest))
      ∙ sym (all_split nodes rounds (leading nodes kind.Equate (after_run nodes kind.Oper cs)) (after_run nodes kind.Oper cs))
      ∙ skip_run kind.Oper cs plain_opers o.parts

  -- {Equate} and a definition
  pub record ModuleParts (q : NodeKind → Bool) (cs : List ℕ) : Type 0 where
    pub last : ℕ
    pub part : IsPart nodes q n last
    pub is : cs ≡ run nodes kind.Equate cs ++ last ∷ []
    pub bound : of_equates (equates_at items (run nodes kind.Equate cs)) ≡ all cs

  pub module_is : (q : NodeKind → Bool) (cs : List ℕ) → ((j : NodeKind) → (is_of kind.Equate j && q j) ≡ false) → ((j : NodeKind) → (q j && binds j) ≡ false) → Stand nodes n (several equate_here ∷ just q ∷ []) cs → ModuleParts q cs
  module_is q cs apart pl s =
      let e = run_is nodes n kind.Equate equate_here (just q ∷ []) cs same_equates apart s in
      on_head nodes n (λ rest. after_run nodes kind.Equate cs ≡ rest → ModuleParts q cs) q []
      (λ c rest is s. on_end nodes n (λ rest. after_run nodes kind.Equate cs ≡ c ∷ rest → ModuleParts q cs)
      (λ f. record {
        last = c;
        part = is;
        is = sym (take-append-drop (leading nodes kind.Equate cs) cs) ∙ ap (λ (xs : List ℕ). run nodes kind.Equate cs ++ xs) f;
        bound =
            equates_in nodes rounds n (run nodes kind.Equate cs) e.parts
            ∙ sym (append-nil (all (run nodes kind.Equate cs)))
            ∙ ap (λ (bs : Bindings). all (run nodes kind.Equate cs) ++ bs) (sym (ap all f ∙ skip_first nodes rounds c [] (plain_part nodes rounds n c q pl is) ∙ all_nil nodes rounds))
            ∙ sym (all_split nodes rounds (leading nodes kind.Equate cs) cs);
      }) rest s) (after_run nodes kind.Equate cs) e.rest refl

  -- {Module}
  pub modules_are : (cs : List ℕ) → Stand nodes n (just (is_child (shape.one kind.Module)) ∷ several (may_stand 2 (parts_of shape.more_modules)) ∷ []) cs → (AreParts nodes (is_of kind.Module) n cs) × (run nodes kind.Module cs ≡ cs)
  modules_are cs s =
      let r = run_is nodes n kind.Module (may_stand 2 (parts_of shape.more_modules)) [] cs same (ends kind.Module) (several_from nodes n (is_child (shape.one kind.Module)) (may_stand 2 (parts_of shape.more_modules)) [] cs first s) in
      let whole : run nodes kind.Module cs ≡ cs = on_end nodes n (λ rest. run nodes kind.Module cs ++ rest ≡ cs → run nodes kind.Module cs ≡ cs) (λ e. sym (append-nil (run nodes kind.Module cs)) ∙ e) (after_run nodes kind.Module cs) r.rest (take-append-drop (leading nodes kind.Module cs) cs) in
      (subst (AreParts nodes (is_of kind.Module) n) whole r.parts, whole)
    where
      same : (j : NodeKind) → may_stand 2 (parts_of shape.more_modules) j ≡ is_of kind.Module j
      same kind.File = refl
      same _ = refl

      first : (j : NodeKind) → is_child (shape.one kind.Module) j ≡ may_stand 2 (parts_of shape.more_modules) j
      first kind.File = refl
      first _ = refl
