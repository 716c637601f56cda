-- The Results and the Signals of a routine stand behind its parameters and arguments.
use Rattle.std.proofs.Common.{◌≡◌, ◌∙◌, ℕ, suc, ◌+◌, add-one, Bool, true, false, ◌&&◌, if◌then◌else◌, List, [], ◌∷◌, drop, Option, Some, None, inl, inr, refl, sym, ap, subst}
use Rattle.std.specs.Prelude.{slice_get}
use Rattle.clu_tree.specs.declared.node.Node.{Node}
use Rattle.clu_tree.specs.declared.node.NodeKind.{NodeKind}
use Rattle.clu_tree.specs.declared.node.NodeKind.TheVariants as kind
use Rattle.clu_tree.specs.Nodes.{IsTree}
use Rattle.clu_parser.specs.Shape as shape
use Rattle.clu_parser.specs.Shape.{Part, HaveForms, HasForm, IsFormOf, forms, parts_of}
use Rattle.clu_syntax.specs.Kinds.{kind_at}
use Rattle.clu_syntax.specs.Splits.{is_of, leading, after_run, after_one, parts, children_of}
use Rattle.clu_parts.specs.Slots.{Slot, several, at_most_one, may_stand, slots_of, Stand, AreParts}
use Rattle.clu_parts.proofs.Fitting.{fitted, on_option, run_is, after_one_is, first_of, some_of, some_slot}
use Rattle.clu_declares.proofs.Below.{same_kind, and_false}
use Rattle.clu_declares.proofs.Facts.{There}
use Rattle.clu_type_rules.specs.Routines.{child_of_kind}

abbrev parms_here : NodeKind → Bool
parms_here = may_stand 2 (parts_of shape.parms)

abbrev decls_here : NodeKind → Bool
decls_here = may_stand 2 (parts_of shape.decls)

abbrev results_here : NodeKind → Bool
results_here = may_stand 2 (parts_of shape.results)

abbrev signals_here : NodeKind → Bool
signals_here = may_stand 2 (parts_of shape.signals)

abbrev rest_slots : List Slot
rest_slots =
    at_most_one (may_stand 2 (parts_of shape.demands)) ∷ several (may_stand 2 (parts_of shape.equates)) ∷
    several (may_stand 2 (parts_of shape.owns)) ∷ several (may_stand 2 (parts_of shape.statements)) ∷ []

abbrev signal_slots : List Slot
signal_slots = at_most_one signals_here ∷ rest_slots

abbrev result_slots : List Slot
result_slots = at_most_one results_here ∷ signal_slots

abbrev decl_slots : List Slot
decl_slots = several decls_here ∷ result_slots

same_parms : (j : NodeKind) → parms_here j ≡ is_of kind.Parm j
same_parms kind.File = refl
same_parms _ = refl

parms_apart : (j : NodeKind) → (is_of kind.Parm j && first_of decl_slots j) ≡ false
parms_apart kind.File = refl
parms_apart _ = refl

same_decls : (j : NodeKind) → decls_here j ≡ is_of kind.Decl j
same_decls kind.File = refl
same_decls _ = refl

decls_apart : (j : NodeKind) → (is_of kind.Decl j && first_of result_slots j) ≡ false
decls_apart kind.File = refl
decls_apart _ = refl

same_results : (j : NodeKind) → results_here j ≡ is_of kind.Results j
same_results kind.File = refl
same_results _ = refl

results_apart : (j : NodeKind) → (is_of kind.Results j && first_of signal_slots j) ≡ false
results_apart kind.File = refl
results_apart _ = refl

no_results : (j : NodeKind) → (some_of signal_slots j && is_of kind.Results j) ≡ false
no_results kind.File = refl
no_results _ = refl

same_signals : (j : NodeKind) → signals_here j ≡ is_of kind.Signals j
same_signals kind.File = refl
same_signals _ = refl

no_signals : (j : NodeKind) → (some_of rest_slots j && is_of kind.Signals j) ≡ false
no_signals kind.File = refl
no_signals _ = refl

module _ (nodes : List Node) where
  -- a run of another kind holds none
  none_before : (k j : NodeKind) → ((i : NodeKind) → is_of j i ≡ true → is_of k i ≡ false) → (cs : List ℕ) → child_of_kind nodes k cs ≡ child_of_kind nodes k (after_run nodes j cs)
  unfolding leading
  none_before k j apart [] = refl
  none_before k j apart (c ∷ cs) = by (is_of j (kind_at nodes c)) refl (none_before k j apart cs)
    where
      by : (b : Bool) → is_of j (kind_at nodes c) ≡ b → child_of_kind nodes k cs ≡ child_of_kind nodes k (after_run nodes j cs) → child_of_kind nodes k (c ∷ cs) ≡ child_of_kind nodes k (after_run nodes j (c ∷ cs))
      by true e rest =
          let counted : leading nodes j (c ∷ cs) ≡ suc (leading nodes j cs) = ap (λ (b : Bool). if b then leading nodes j cs + 1 else 0) e ∙ add-one (leading nodes j cs) in
          ap (λ (b : Bool). if◌then◌else◌ {A = Option ℕ} b (Some c) (child_of_kind nodes k cs)) (apart (kind_at nodes c) e)
          ∙ rest ∙ ap (λ (m : ℕ). child_of_kind nodes k (drop m (c ∷ cs))) (sym counted)
      by false e rest =
          let none : leading nodes j (c ∷ cs) ≡ 0 = ap (λ (b : Bool). if b then leading nodes j cs + 1 else 0) e in
          ap (λ (m : ℕ). child_of_kind nodes k (drop m (c ∷ cs))) (sym none)

  none_of_kind : (k : NodeKind) (p : NodeKind → Bool) → ((j : NodeKind) → (p j && is_of k j) ≡ false) → (n : ℕ) (cs : List ℕ) → AreParts nodes p n cs → child_of_kind nodes k cs ≡ None
  none_of_kind k p apart n [] ps = refl
  none_of_kind k p apart n (c ∷ cs) ps =
      ap (λ (b : Bool). if◌then◌else◌ {A = Option ℕ} b (Some c) (child_of_kind nodes k cs)) (and_false (p (kind_at nodes c)) (is_of k (kind_at nodes c)) (apart (kind_at nodes c)) ps.0.1)
      ∙ none_of_kind k p apart n cs ps.1

  -- nor does the first one
  none_at_first : (k j : NodeKind) → ((i : NodeKind) → is_of j i ≡ true → is_of k i ≡ false) → (cs : List ℕ) → child_of_kind nodes k cs ≡ child_of_kind nodes k (after_one nodes j cs)
  none_at_first k j apart [] = refl
  none_at_first k j apart (c ∷ cs) = by (is_of j (kind_at nodes c)) refl
    where
      by : (b : Bool) → is_of j (kind_at nodes c) ≡ b → child_of_kind nodes k (c ∷ cs) ≡ child_of_kind nodes k (after_one nodes j (c ∷ cs))
      by true e =
          ap (λ (b : Bool). if◌then◌else◌ {A = Option ℕ} b (Some c) (child_of_kind nodes k cs)) (apart (kind_at nodes c) e)
          ∙ ap (λ (b : Bool). child_of_kind nodes k (if◌then◌else◌ {A = List ℕ} b cs (c ∷ cs))) (sym e)
      by false e = ap (λ (b : Bool). child_of_kind nodes k (if◌then◌else◌ {A = List ℕ} b cs (c ∷ cs))) (sym e)

  abbrev pub children_in : Option ℕ → List ℕ
  children_in (Some n) = children_of (slice_get nodes n)
  children_in None = []

  module _ (k : NodeKind) where
    not_at_head : (c : ℕ) (cs : List ℕ) (b : Bool) → is_of k (kind_at nodes c) ≡ b → child_of_kind nodes k (c ∷ cs) ≡ None → children_in (child_of_kind nodes k (c ∷ cs)) ≡ parts nodes k (c ∷ cs)
    not_at_head c cs true e none =
        ap (λ (b : Bool). children_in (if◌then◌else◌ {A = Option ℕ} b (Some c) (child_of_kind nodes k cs))) e
        ∙ ap (λ (b : Bool). if◌then◌else◌ {A = List ℕ} b (children_of (slice_get nodes c)) []) (sym e)
    not_at_head c cs false e none =
        ap children_in none
        ∙ ap (λ (b : Bool). if◌then◌else◌ {A = List ℕ} b (children_of (slice_get nodes c)) []) (sym e)

    without : (rest : List Slot) → ((j : NodeKind) → (some_of rest j && is_of k j) ≡ false) → (n : ℕ) (cs : List ℕ) → Stand nodes n rest cs → children_in (child_of_kind nodes k cs) ≡ parts nodes k cs
    without rest apart n [] s = refl
    without rest apart n (c ∷ cs) s =
        not_at_head c cs (is_of k (kind_at nodes c)) refl
        (none_of_kind k (some_of rest) apart n (c ∷ cs) (some_slot nodes n rest (c ∷ cs) s))

    with_it : (c : ℕ) (cs : List ℕ) → is_of k (kind_at nodes c) ≡ true → children_in (child_of_kind nodes k (c ∷ cs)) ≡ parts nodes k (c ∷ cs)
    with_it c cs e =
        ap (λ (b : Bool). children_in (if◌then◌else◌ {A = Option ℕ} b (Some c) (child_of_kind nodes k cs))) e
        ∙ ap (λ (b : Bool). if◌then◌else◌ {A = List ℕ} b (children_of (slice_get nodes c)) []) (sym e)

    -- where it stands first, if it is there
    at_option : (here : NodeKind → Bool) (rest : List Slot) → ((j : NodeKind) → here j ≡ is_of k j) → ((j : NodeKind) → (some_of rest j && is_of k j) ≡ false) → (n : ℕ) (cs : List ℕ) → Stand nodes n (at_most_one here ∷ rest) cs → children_in (child_of_kind nodes k cs) ≡ parts nodes k cs
    at_option here rest same apart n cs s =
        on_option nodes n (λ cs. children_in (child_of_kind nodes k cs) ≡ parts nodes k cs) here rest
        (λ cs s. without rest apart n cs s)
        (λ c others is s. with_it c others (sym (same (kind_at nodes c)) ∙ is.1)) cs s

  parm_is_none : (k : NodeKind) → is_of k kind.Parm ≡ false → (i : NodeKind) → is_of kind.Parm i ≡ true → is_of k i ≡ false
  parm_is_none k apart i e = ap (is_of k) (same_kind kind.Parm i e) ∙ apart

  decl_is_none : (k : NodeKind) → is_of k kind.Decl ≡ false → (i : NodeKind) → is_of kind.Decl i ≡ true → is_of k i ≡ false
  decl_is_none k apart i e = ap (is_of k) (same_kind kind.Decl i e) ∙ apart

  results_is_none : (i : NodeKind) → is_of kind.Results i ≡ true → is_of kind.Signals i ≡ false
  results_is_none i e = ap (is_of kind.Signals) (same_kind kind.Results i e)

  abbrev pub rest_of : List ℕ → List ℕ
  rest_of cs = after_run nodes kind.Decl (after_run nodes kind.Parm cs)

  behind : (k : NodeKind) → is_of k kind.Parm ≡ false → is_of k kind.Decl ≡ false → (cs : List ℕ) → child_of_kind nodes k cs ≡ child_of_kind nodes k (rest_of cs)
  behind k no_parm no_decl cs = none_before k kind.Parm (parm_is_none k no_parm) cs ∙ none_before k kind.Decl (decl_is_none k no_decl) (after_run nodes kind.Parm cs)

  rest_stands : (n : ℕ) (cs : List ℕ) → Stand nodes n (several parms_here ∷ decl_slots) cs → Stand nodes n result_slots (rest_of cs)
  rest_stands n cs s =
      let p = run_is nodes n kind.Parm parms_here decl_slots cs same_parms parms_apart s in
      let d = run_is nodes n kind.Decl decls_here result_slots (after_run nodes kind.Parm cs) same_decls decls_apart p.rest in
      d.rest

  results_are : (n : ℕ) (cs : List ℕ) → Stand nodes n (several parms_here ∷ decl_slots) cs → children_in (child_of_kind nodes kind.Results cs) ≡ parts nodes kind.Results (rest_of cs)
  results_are n cs s =
      ap children_in (behind kind.Results refl refl cs)
      ∙ at_option kind.Results results_here signal_slots same_results no_results n (rest_of cs) (rest_stands n cs s)

  signals_are : (n : ℕ) (cs : List ℕ) → Stand nodes n (several parms_here ∷ decl_slots) cs → children_in (child_of_kind nodes kind.Signals cs) ≡ parts nodes kind.Signals (after_one nodes kind.Results (rest_of cs))
  signals_are n cs s =
      ap children_in (behind kind.Signals refl refl cs ∙ none_at_first kind.Signals kind.Results results_is_none (rest_of cs))
      ∙ at_option kind.Signals signals_here rest_slots same_signals no_signals n (after_one nodes kind.Results (rest_of cs))
      (after_one_is nodes n kind.Results results_here signal_slots (rest_of cs) same_results results_apart (rest_stands n cs s))

  module _ (shaped : HaveForms nodes) (tree : IsTree nodes) where
    stands : (r : ℕ) (x : There nodes r kind.Routine) → Stand nodes r (several parms_here ∷ decl_slots) x.node.children
    stands r x =
        let h : HasForm nodes x.node = shaped r x.node x.at in
        let of : (form : List Part) → h.form ≡ form → Stand nodes r (slots_of form) x.node.children = λ form e. subst (λ (form : List Part). Stand nodes r (slots_of form) x.node.children) e (fitted nodes tree r x.node x.at h) in
        elim (subst (λ (k : NodeKind). IsFormOf h.form (forms k)) x.is h.of_kind) [
          | inl e ↦ of _ e
          | inr (inl e) ↦ of _ e
          | inr (inr never) ↦ absurd never
        ]

    pub results_of_routine : (r : ℕ) (x : There nodes r kind.Routine) → children_in (child_of_kind nodes kind.Results x.node.children) ≡ parts nodes kind.Results (rest_of x.node.children)
    results_of_routine r x = results_are r x.node.children (stands r x)

    pub signals_of_routine : (r : ℕ) (x : There nodes r kind.Routine) → children_in (child_of_kind nodes kind.Signals x.node.children) ≡ parts nodes kind.Signals (after_one nodes kind.Results (rest_of x.node.children))
    signals_of_routine r x = signals_are r x.node.children (stands r x)
