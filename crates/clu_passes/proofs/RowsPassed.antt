-- What an Except or a Resignal does not take of what its statement raises, read from tables, is what the definitions say.
use Rattle.std.proofs.Common.{◌≡◌, ◌∙◌, ℕ, Bool, true, false, ◌&&◌, ◌||◌, if◌then◌else◌, List, [], ◌∷◌, ◌++◌, drop, flat_map, get_or, Option, Some, None, refl, sym, ap, ap₂, subst, inl, inr, append-nil}
use Rattle.std.specs.List.{list_any}
use Rattle.std.proofs.lemmas.List.{take-append-drop}
use Rattle.clu_tree.specs.declared.node.Node.{Node}
use Rattle.clu_tree.specs.declared.node.NodeKind.{NodeKind}
use Rattle.clu_tree.specs.declared.node.NodeKind.TheVariants as kind
use Rattle.clu_parser.specs.Shape as shape
use Rattle.clu_parser.specs.Shape.{Part, HasForm, IsFormOf, forms, is_child, parts_of}
use Rattle.clu_parser.specs.Trees.{Text}
use Rattle.clu_syntax.specs.Kinds.{kind_at}
use Rattle.clu_syntax.specs.Items.{Item, others_at, whens_at}
use Rattle.clu_syntax.specs.Nodes.{before, except_of, item_at, others_of, statement_of}
use Rattle.clu_syntax.specs.Splits.{after_run, is_of, leading, one_of, run}
use Rattle.clu_syntax.specs.Syntax.{Identifier, Others, Statement, a_resignal, others}
use Rattle.clu_parts.specs.Slots.{just, slots_of}
use Rattle.clu_parts.proofs.Fitting.{AreParts, IsPart, Stand, fitted, may_stand, on_end, on_head, on_option, run_is}
use Rattle.clu_settle.specs.Names.{names_of}
use Rattle.clu_meaning.specs.Scoping.{Scope}
use Rattle.clu_declares.specs.Declares.{IsParsed}
use Rattle.clu_declares.proofs.Below.{and_false, before_is, item_there, same_kind}
use Rattle.clu_declares.proofs.Facts.{There, there}
use Rattle.clu_checking.specs.Specifications.{Specification}
use Rattle.clu_checking.specs.Files.{File, item}
use Rattle.clu_checking.specs.Raising.{Raise, names_taken, passed_on}
use Rattle.clu_bindings.specs.declared.file.File.{File as Read}
use Rattle.clu_typing.specs.Raises as tables
use Rattle.clu_typing.specs.Raises.{is_others, names_at, told_without}
use Rattle.clu_passes.specs.ConstantTables.{file_with}
use Rattle.clu_passes.specs.Raised.{passed_by}
use Rattle.clu_passes.proofs.Exits.{arm_slots, other_slots, same_whens, when_names, whens_apart}

-- the only form of a kind
pub stands : (t : Text) (nodes : List Node) → IsParsed t nodes → (n : ℕ) (k : NodeKind) (x : There nodes n k) (form : List Part) → forms k ≡ form ∷ [] → Stand nodes n (slots_of form) x.node.children
stands t nodes parsed n k x form one =
    let h : HasForm nodes x.node = parsed.forms n x.node x.at in
    elim (subst (λ (fs : List (List Part)). IsFormOf h.form fs) one (subst (λ (k : NodeKind). IsFormOf h.form (forms k)) x.is h.of_kind)) [
      | inl e ↦ subst (λ (form : List Part). Stand nodes n (slots_of form) x.node.children) e (fitted nodes parsed.tree n x.node x.at h)
      | inr never ↦ absurd never
    ]

when_no_others : (j : NodeKind) → (is_of kind.When j && is_of kind.Others j) ≡ false
when_no_others kind.When = refl
when_no_others _ = refl

others_there : (j : NodeKind) → may_stand 2 (parts_of shape.others) j ≡ is_of kind.Others j
others_there kind.File = refl
others_there _ = refl

module _ (r : Read) (scope : Scope) (library : List Specification) (refused : List ℕ) (t : Text) (parsed : IsParsed t r.syntax.now) (n : ℕ) where
  abbrev nodes : List Node
  nodes = r.syntax.now

  abbrev f : File
  f = file_with r scope library refused

  abbrev items : ℕ → Item
  items = before n (item_at nodes)

  -- ---- the arms

  arms_named : (cs : List ℕ) → AreParts nodes (is_of kind.When) n cs → flat_map (names_at r) cs ≡ names_taken (whens_at items cs)
  arms_named [] ps = refl
  arms_named (c ∷ cs) ps = ap₂ (λ (xs ys : List Identifier). xs ++ ys) (sym (when_names [] nodes n c ps.0)) (arms_named cs ps.1)

  no_others : (cs : List ℕ) → AreParts nodes (is_of kind.When) n cs → list_any (is_others r) cs ≡ false
  no_others [] ps = refl
  no_others (c ∷ cs) ps = ap₂ (λ (a b : Bool). a || b) (and_false (is_of kind.When (kind_at nodes c)) (is_of kind.Others (kind_at nodes c)) (when_no_others (kind_at nodes c)) ps.0.1) (no_others cs ps.1)

  last_others : (cs : List ℕ) (d : ℕ) → is_of kind.Others (kind_at nodes d) ≡ true → list_any (is_others r) (cs ++ d ∷ []) ≡ true
  last_others [] d is = ap (λ (b : Bool). b || false) is
  last_others (c ∷ cs) d is = by (is_of kind.Others (kind_at nodes c)) (last_others cs d is)
    where
      by : (b : Bool) → list_any (is_others r) (cs ++ d ∷ []) ≡ true → (b || list_any (is_others r) (cs ++ d ∷ [])) ≡ true
      by true rest = refl
      by false rest = rest

  module _ (raises : List Raise) where
    abbrev untaken : List ℕ → List Raise
    untaken arms = if list_any (is_others r) arms then [] else told_without (flat_map (names_at r) arms) raises

    no_others_passed : (cs : List ℕ) → AreParts nodes (is_of kind.When) n cs → untaken (cs ++ []) ≡ told_without (names_taken (whens_at items cs)) raises
    no_others_passed cs ps =
        ap untaken (append-nil cs)
        ∙ ap (λ (b : Bool). if b then [] else told_without (flat_map (names_at r) cs) raises) (no_others cs ps)
        ∙ ap (λ (names : List Identifier). told_without names raises) (arms_named cs ps)

    others_passed : (cs : List ℕ) (d : ℕ) → IsPart nodes (may_stand 2 (parts_of shape.others)) n d → untaken (cs ++ d ∷ []) ≡ passed_on (whens_at items cs) (others_at items (one_of nodes kind.Others (d ∷ []))) raises
    others_passed cs d p =
        ap (λ (b : Bool). if b then [] else told_without (flat_map (names_at r) (cs ++ d ∷ [])) raises) (last_others cs d is)
        ∙ sym (ap (λ (o : Others). passed_on (whens_at items cs) o raises) its)
      where
        is : is_of kind.Others (kind_at nodes d) ≡ true
        is = sym (others_there (kind_at nodes d)) ∙ p.1

        x : There nodes d kind.Others
        x = there nodes d kind.Others refl (same_kind kind.Others (kind_at nodes d) is)

        its : others_at items (one_of nodes kind.Others (d ∷ [])) ≡ others_of (before d (item_at nodes)) nodes d x.node kind.Others
        its =
            ap (λ (b : Bool). others_at items (if b then Some d else None)) is
            ∙ ap (λ (i : Item). i.others) (before_is nodes n d p.0)
            ∙ ap (λ (i : Item). i.others) (item_there nodes d x.node x.at)
            ∙ ap (λ (k : NodeKind). others_of (before d (item_at nodes)) nodes d x.node k) x.is

    split_passed : (xs ys : List ℕ) → AreParts nodes (is_of kind.When) n xs → Stand nodes n other_slots ys → untaken (xs ++ ys) ≡ passed_on (whens_at items xs) (others_at items (one_of nodes kind.Others ys)) raises
    split_passed xs ys ps s =
        on_option nodes n (λ (ys : List ℕ). untaken (xs ++ ys) ≡ passed_on (whens_at items xs) (others_at items (one_of nodes kind.Others ys)) raises) (may_stand 2 (parts_of shape.others)) []
        (λ cs s. on_end nodes n (λ (cs : List ℕ). untaken (xs ++ cs) ≡ passed_on (whens_at items xs) (others_at items (one_of nodes kind.Others cs)) raises) (no_others_passed xs ps) cs s)
        (λ d rest p s. on_end nodes n (λ (rest : List ℕ). untaken (xs ++ d ∷ rest) ≡ passed_on (whens_at items xs) (others_at items (one_of nodes kind.Others (d ∷ rest))) raises) (others_passed xs d p) rest s) ys s

    arms_passed : (s : ℕ) (arms : List ℕ) → Stand nodes n arm_slots arms → untaken arms ≡ passed_by f (except_of items nodes n s arms) raises
    arms_passed s arms stand =
        let its = run_is nodes n kind.When (may_stand 2 (parts_of shape.whens)) other_slots arms same_whens whens_apart stand in
        ap untaken (sym (take-append-drop (leading nodes kind.When arms) arms))
        ∙ split_passed (run nodes kind.When arms) (after_run nodes kind.When arms) its.parts its.rest

  -- ---- the node

  -- of what the statement raises
  abbrev pub passed_here : (ℕ → List Raise) → NodeKind → List ℕ → List Raise
  passed_here told k (s ∷ arms) = if list_any (is_others r) arms then [] else told_without (tables.taken_as r k n arms) (told s)
  passed_here told k [] = []

  abbrev pub passed_there : (ℕ → List Raise) → Statement → List ℕ → List Raise
  passed_there told its (s ∷ arms) = passed_by f its (told s)
  passed_there told its [] = []

  except_passed : (told : ℕ → List Raise) (cs : List ℕ) → Stand nodes n (just (is_child shape.statement) ∷ arm_slots) cs → passed_here told kind.Except cs ≡ passed_there told (except_of items nodes n (get_or cs 0 0) (drop 1 cs)) cs
  except_passed told cs s =
      on_head nodes n (λ (cs : List ℕ). passed_here told kind.Except cs ≡ passed_there told (except_of items nodes n (get_or cs 0 0) (drop 1 cs)) cs) (is_child shape.statement) arm_slots
      (λ c rest is s. arms_passed (told c) c rest s) cs s

  resignal_passed : (told : ℕ → List Raise) (names : List Identifier) (cs : List ℕ) → names_at r n ≡ names → Stand nodes n (just (is_child shape.statement) ∷ []) cs → passed_here told kind.Resignal cs ≡ passed_there told (a_resignal n (items (get_or cs 0 0)).statement names) cs
  resignal_passed told names cs e s =
      on_head nodes n (λ (cs : List ℕ). passed_here told kind.Resignal cs ≡ passed_there told (a_resignal n (items (get_or cs 0 0)).statement names) cs) (is_child shape.statement) []
      (λ c rest is s. on_end nodes n (λ (rest : List ℕ). passed_here told kind.Resignal (c ∷ rest) ≡ passed_there told (a_resignal n (items c).statement names) (c ∷ rest)) (ap (λ (names : List Identifier). told_without names (told c)) e) rest s) cs s

  its_statement : (k : NodeKind) (x : There nodes n k) → (item f n).statement ≡ statement_of items nodes n x.node k
  its_statement k x = ap (λ (i : Item). i.statement) (item_there nodes n x.node x.at) ∙ ap (λ (k : NodeKind). statement_of items nodes n x.node k) x.is

  pub at_except : (told : ℕ → List Raise) (x : There nodes n kind.Except) → passed_here told kind.Except x.node.children ≡ passed_there told (item f n).statement x.node.children
  at_except told x =
      except_passed told x.node.children (stands t nodes parsed n kind.Except x _ refl)
      ∙ ap (λ (its : Statement). passed_there told its x.node.children) (sym (its_statement kind.Except x))

  pub at_resignal : (told : ℕ → List Raise) (x : There nodes n kind.Resignal) → passed_here told kind.Resignal x.node.children ≡ passed_there told (item f n).statement x.node.children
  at_resignal told x =
      resignal_passed told x.node.names x.node.children (ap (λ (o : Option Node). names_of o) x.at) (stands t nodes parsed n kind.Resignal x _ refl)
      ∙ ap (λ (its : Statement). passed_there told its x.node.children) (sym (its_statement kind.Resignal x))
