-- What the word `rep` stands for at a node is by the tables what the definitions say, if nothing is refused in the right side of its equate.
use Rattle.std.proofs.Common.{◌≡◌, ◌∙◌, ℕ, zero, suc, ◌<◌, ◌≤◌, if◌then◌else◌, Bool, true, false, List, [], ◌∷◌, length, codes, get_or, is_some, Option, Some, None, inl, refl, sym, ap, subst, arith}
use Rattle.std.specs.Prelude.{slice_get}
use Rattle.std.proofs.lemmas.Bool.{true≢false}
use Rattle.std.proofs.lemmas.Option.{get_or_from_slice_get, none-some, same_Some, slice_get_within}
use Rattle.clu_base.specs.declared.constants.Const.{Const}
use Rattle.clu_tree.specs.declared.node.Node.{Node}
use Rattle.clu_tree.specs.declared.node.NodeKind.TheVariants as kind
use Rattle.clu_parser.specs.Trees.{Text}
use Rattle.clu_types.specs.CluType.{CluType}
use Rattle.clu_types.specs.Arena.{types_of}
use Rattle.clu_types.specs.declared.term.Term.{Term}
use Rattle.clu_types.specs.declared.term.TypeId.{TypeId}
use Rattle.clu_syntax.specs.declared.round.Round.{Round}
use Rattle.clu_syntax.specs.Kinds.{kind_of}
use Rattle.clu_syntax.specs.Nodes.{item_at}
use Rattle.clu_syntax.specs.Splits.{is_of}
use Rattle.clu_names.specs.declared.scopes.Declared.{Declared}
use Rattle.clu_names.specs.Denotes.{found}
use Rattle.clu_names.specs.Latest.{at}
use Rattle.clu_names.specs.Scopes.{declarations}
use Rattle.clu_meaning.specs.Scoping as means
use Rattle.clu_meaning.specs.Scoping.{Scope, declaration_at}
use Rattle.clu_meaning.specs.Settling.{Value as Settled, settled}
use Rattle.clu_checking.specs.Settled.{value_settled}
use Rattle.clu_checking.specs.Specifications.{Specification}
use Rattle.clu_checking.specs.Files.{File, declaring_node, equate_named, equate_of, is_kind, is_refused, is_refused_at, item, kind_in, meaning, parent, round, scope_in}
use Rattle.clu_checking.specs.ConstantRules.{is_of_heading}
use Rattle.clu_checking.specs.Headings.{is_refused_rep}
use Rattle.clu_checking.specs.Refusals.{is_no_type_at}
use Rattle.clu_checking.specs.Typing as typing
use Rattle.clu_checking.specs.Typing.{rep_value, representation_of}
use Rattle.clu_settle.specs.declared.value.Value.{Value}
use Rattle.clu_settle.specs.declared.value.Value.TheVariants as value
use Rattle.clu_settle.specs.Lists.{type_id}
use Rattle.clu_settle.specs.Names.{is_constant}
use Rattle.clu_settle.specs.Values.{Agrees, IsWithin, told}
use Rattle.clu_settle.proofs.Reading.{constant_there}
use Rattle.clu_declares.proofs.Parents.{IsIn}
use Rattle.clu_bindings.specs.declared.file.File.{File as Read}
use Rattle.clu_bindings.specs.declared.file.Headed.{Headed}
use Rattle.clu_bindings.specs.declared.meaning.Meaning.{Meaning}
use Rattle.clu_bindings.specs.declared.meaning.Meaning.TheVariants as meant
use Rattle.clu_bindings.specs.Declaring as table
use Rattle.clu_bindings.specs.Files as files
use Rattle.clu_bindings.specs.Inside as bound
use Rattle.clu_bindings.specs.Inside.{declared_at, rep_at, rep_type, settled_type, type_meant}
use Rattle.clu_bindings.specs.Modules.{named}
use Rattle.clu_bindings.specs.Readers.{value_in}
use Rattle.clu_bindings.specs.Reps.{if_in_module, in_module, rep_found}
use Rattle.clu_bindings.specs.Tables.{optional}
use Rattle.clu_name_rules.specs.declared.tables.Tables.{Tables}
use Rattle.clu_type_rules.specs.ExpressionRules as rules_of
use Rattle.clu_passes.specs.ConstantTables.{AreTables, IsKnown, Means, file_with}
use Rattle.clu_passes.specs.FactTables.{IsType}
use Rattle.clu_passes.specs.Made.{IsWhole}
use Rattle.clu_passes.specs.Trees.{IsFileOfTree}
use Rattle.clu_passes.proofs.ConstantNodes.{value_agrees, value_within}
use Rattle.clu_passes.proofs.CvtPlaces.{no_part, parent_told}
use Rattle.clu_passes.proofs.Joined.{table_at}
use Rattle.clu_passes.proofs.LostRefused.{IsSideOf, side_inside}
use Rattle.clu_passes.proofs.NamedEquates.{to_equate}
use Rattle.clu_passes.proofs.NamesMean.{name_means}
use Rattle.clu_passes.proofs.RepsSaid.{found_so, rep_equated}
use Rattle.clu_passes.proofs.Strings.{value_same}
use Rattle.clu_passes.proofs.TablesMade.{tables_are}
use Rattle.clu_passes.proofs.ValuesKnown as known_at

none_get : {A : Type 0} (xs : List A) (p : ℕ) (d : A) → slice_get xs p ≡ None → get_or xs p d ≡ d
none_get [] zero d e = refl
none_get [] (suc p) d e = refl
none_get (x ∷ xs) zero d e = absurd (none-some x (sym e))
none_get (x ∷ xs) (suc p) d e = none_get xs p d e

in_found : (b : Bool) (o : Option ℕ) (p : ℕ) → (if b then o else None) ≡ Some p → o ≡ Some p
in_found true o p e = e
in_found false o p e = absurd (none-some p e)

-- what agrees with a known value is the same
same_told : (types : List CluType) (constants : List Const) (v : Value) (a b : Settled) → (v ≡ value.Lost → ⊥) → Agrees (told types constants v) a → Agrees (told types constants v) b → a ≡ b
same_told types constants value.Nothing a b known x y = x ∙ sym y
same_told types constants value.Lost a b known x y = absurd (known refl)
same_told types constants (value.Type id) a b known x y = x ∙ sym y
same_told types constants (value.Constant k) a b known x y = x ∙ sym y
same_told types constants (value.Parameter k) a b known x y = x ∙ sym y

module _ (t : Text) (h : Headed) (its : Tables) (library : List Specification) (refused : List ℕ) (whole : IsWhole t (record its { file = h.file }) library refused) where
  abbrev tables : Tables
  tables = record its { file = h.file }

  abbrev r : Read
  r = h.file

  abbrev nodes : List Node
  nodes = h.file.syntax.now

  abbrev rounds : List Round
  rounds = h.file.rounds.now

  abbrev ds : List Declared
  ds = declarations h.file.syntax.now h.file.rounds.now

  abbrev scope : Scope
  scope = scope_in h.file.syntax.now h.file.rounds.now

  abbrev f : File
  f = file_with h.file (scope_in h.file.syntax.now h.file.rounds.now) library refused

  abbrev terms : List Term
  terms = its.types.now

  abbrev of : IsFileOfTree f
  of = known_at.of_tree t tables library refused whole.made whole.lost

  are : AreTables f tables
  are = tables_are t tables library refused whole.made

  -- ---- what the table has for it

  abbrev pub meant_there : ℕ → Meaning
  meant_there n = table.meant_by (named h.file.bindings.now.modules) h.file.bindings.now.declared.items (found ds (codes "rep") n) None

  pub means_so : (n : ℕ) → Means nodes (meant_there n) (meaning f n (codes "rep"))
  means_so n = name_means t r library refused whole.made.file.parsed whole.made.file.rounds whole.made.file.few whole.made.file.names whole.made.file.bindings n (codes "rep") None

  pub rep_there : (n : ℕ) → n < length nodes → rep_at r n ≡ if_in_module ds (found ds (codes "rep") n)
  rep_there n less =
      ap (λ (xs : List (Option ℕ)). optional (slice_get xs n)) whole.made.file.bindings.reps
      ∙ ap (λ (o : Option (Option ℕ)). optional o) (table_at (rep_found r.names.now.declared.items) (length nodes) n less)
      ∙ ap (λ (ds : List Declared). rep_found ds n) whole.made.file.names.declared
      ∙ found_so ds n

  pub place_found : (n p : ℕ) → n < length nodes → rep_at r n ≡ Some p → found ds (codes "rep") n ≡ Some p
  place_found n p less e = in_found (in_module (at ds (found ds (codes "rep") n))) (found ds (codes "rep") n) p (sym (rep_there n less) ∙ e)

  said_so : (n : ℕ) → n < length nodes → rules_of.is_equate (declared_at r (rep_at r n)) ≡ is_some (equate_named f n (codes "rep"))
  said_so = rep_equated t r library refused whole.made.file.parsed whole.made.file.rounds whole.made.file.few whole.made.file.names whole.made.file.bindings

  -- ---- the equate

  pub record HasRep (n right : ℕ) : Type 0 where
    pub equate : ℕ
    pub named_so : equate_named f n (codes "rep") ≡ Some equate
    pub side : IsSideOf f of equate right

  pub has_rep : (n right : ℕ) → meant_there n ≡ meant.Equate right → HasRep n right
  has_rep n right e =
      let x = to_equate t r library refused whole.made.file.parsed whole.made.file.rounds whole.made.file.few whole.made.file.names whole.made.file.bindings of n (codes "rep") right None (found ds (codes "rep") n) refl e in
      record { equate = x.0; named_so = x.1; side = x.2 }

  pub rep_as : (n : ℕ) → n < length nodes → type_meant r (declared_at r (rep_at r n)) ≡ type_meant r (Some (meant_there n))
  rep_as n less = by (rep_at r n) refl
    where
      no_equate : rep_at r n ≡ None → (m : Meaning) → meant_there n ≡ m → None ≡ type_meant r (Some m)
      no_equate e (meant.Equate c) is =
          absurd (true≢false (sym (ap is_some (has_rep n c is).named_so) ∙ sym (said_so n less) ∙ ap (λ (o : Option ℕ). rules_of.is_equate (declared_at r o)) e))
      no_equate e meant.TypeSet is = refl
      no_equate e _ is = refl

      by_declared : (p : ℕ) → meant_there n ≡ get_or r.bindings.now.declared.items p table.nothing → (o : Option Meaning) → slice_get r.bindings.now.declared.items p ≡ o → type_meant r o ≡ type_meant r (Some (meant_there n))
      by_declared p there None here = ap (λ (m : Meaning). type_meant r (Some m)) (sym (there ∙ none_get r.bindings.now.declared.items p table.nothing here))
      by_declared p there (Some m) here = ap (λ (m : Meaning). type_meant r (Some m)) (sym (there ∙ get_or_from_slice_get r.bindings.now.declared.items p m table.nothing here))

      by : (o : Option ℕ) → rep_at r n ≡ o → type_meant r (declared_at r o) ≡ type_meant r (Some (meant_there n))
      by None e = no_equate e (meant_there n) refl
      by (Some p) e =
          by_declared p (ap (λ (o : Option ℕ). table.meant_by (named r.bindings.now.modules) r.bindings.now.declared.items o None) (place_found n p less e)) (slice_get r.bindings.now.declared.items p) refl

  -- ---- its type

  value_typed : (v : Value) (s : Settled) → (v ≡ value.Lost → ⊥) → IsWithin (length terms) (length r.constants.now) v → Agrees (told (types_of terms) r.constants.now v) s → IsType terms (type_id v) (representation_of s)
  value_typed value.Nothing s known within e = subst (λ (s : Settled). IsType terms None (representation_of s)) (sym e) tt
  value_typed value.Lost s known within e = absurd (known refl)
  value_typed (value.Type id) s known within e = subst (λ (s : Settled). IsType terms (Some id) (representation_of s)) (sym e) (within.0, refl)
  value_typed (value.Constant k) s known within e = subst (λ (s : Settled). IsType terms None (representation_of s)) (sym e) tt
  value_typed (value.Parameter k) s known within e = subst (λ (s : Settled). IsType terms None (representation_of s)) (sym e) tt

  right_typed : (c : ℕ) → is_constant nodes c ≡ true → IsKnown r c → IsType terms (settled_type r c) (representation_of (value_settled scope (item f c).constant))
  right_typed c const known =
      value_typed (value_in r c) (value_settled scope (item f c).constant) known (value_within tables scope library refused whole.made.file.parsed.forms whole.made.file.parsed.tree are c)
      (value_agrees tables scope library refused whole.made.file.parsed.forms whole.made.file.parsed.tree are c known const)

  -- one step of unfolding more changes nothing of the right side of its equate, if that is known
  pub right_settled : (n c : ℕ) → meant_there n ≡ meant.Equate c → IsKnown r c → settled scope (item f c).constant ≡ value_settled scope (item f c).constant
  right_settled n c is known =
      let so : Means nodes (meant.Equate c) (meaning f n (codes "rep")) = subst (λ (m : Meaning). Means nodes m (meaning f n (codes "rep"))) is (means_so n) in
      same_told (types_of terms) r.constants.now (value_in r c) (settled scope (item f c).constant) (value_settled scope (item f c).constant) known
      (subst (λ (v : Value). Agrees (told (types_of terms) r.constants.now v) (settled scope (item f c).constant)) (sym (value_same r.values.now c))
      (whole.made.file.values.rights n c (codes "rep") (constant_there nodes c so.0, so.0, so.1)))
      (value_agrees tables scope library refused whole.made.file.parsed.forms whole.made.file.parsed.tree are c known so.0)

  type_so : (m : Meaning) (x : means.Meaning) → Means nodes m x → ((c : ℕ) → m ≡ meant.Equate c → is_constant nodes c ≡ true → IsKnown r c) → IsType terms (type_meant r (Some m)) (rep_value f x)
  type_so (meant.Equate c) x is known = subst (λ (x : means.Meaning). IsType terms (settled_type r c) (rep_value f x)) (sym is.1) (right_typed c is.0 (known c refl is.0))
  type_so meant.TypeSet x is known = subst (λ (x : means.Meaning). IsType terms None (rep_value f x)) (sym is) tt
  type_so (meant.TypeParameter k) x is known = subst (λ (x : means.Meaning). IsType terms None (rep_value f x)) (sym is) tt
  type_so (meant.ConstantParameter k) x is known = subst (λ (x : means.Meaning). IsType terms None (rep_value f x)) (sym is) tt
  type_so (meant.Local c) x is known = subst (λ (x : means.Meaning). IsType terms None (rep_value f x)) (sym is) tt
  type_so (meant.OwnOfRoutine c) x is known = subst (λ (x : means.Meaning). IsType terms None (rep_value f x)) (sym is) tt
  type_so (meant.OwnOfCluster c) x is known = subst (λ (x : means.Meaning). IsType terms None (rep_value f x)) (sym is) tt
  type_so meant.RoutineOfCluster x is known = subst (λ (x : means.Meaning). IsType terms None (rep_value f x)) (sym is) tt
  type_so (meant.Module m) x is known = subst (λ (x : means.Meaning). IsType terms None (rep_value f x)) (sym is) tt

  pub rep_typed : (n : ℕ) → n < length nodes → ((c : ℕ) → meant_there n ≡ meant.Equate c → is_constant nodes c ≡ true → IsKnown r c) → IsType terms (rep_type r n) (rep_value f (meaning f n (codes "rep")))
  rep_typed n less known = subst (λ (o : Option TypeId). IsType terms o (rep_value f (meaning f n (codes "rep")))) (sym (rep_as n less)) (type_so (meant_there n) (meaning f n (codes "rep")) (means_so n) known)

  -- the right side is known if no type is refused in it
  pub side_known : (e c : ℕ) → IsSideOf f of e c → is_constant nodes c ≡ true → ((m : ℕ) → (round f e).first ≤ m → m < e → is_no_type_at f m ≡ false) → IsKnown r c
  side_known e c side const fine =
      let lies = side_inside f of e c side in
      let least : (round f e).first ≤ (round f c).first = lies.0 in
      let less : c < e = lies.1 in
      let there : e < length nodes = slice_get_within nodes e side.its side.at in
      let its_kind : kind_in f e ≡ kind.Equate = ap kind_of side.at ∙ side.is in
      let up : parent f c ≡ Some e = parent_told f of c (record { parent = e; node = side.its; at = side.at; child = subst (IsIn c) (sym side.children) (inl refl) }) in
      known_at.found_known t tables library refused whole.made whole.lost c (omega (arith, less, there))
      (known_at.found_there t tables library refused whole.made whole.lost c (omega (arith, less, there)) const
      (ap (is_of_heading f) up ∙ no_part f e (ap (is_of kind.Decl) its_kind) (ap (is_of kind.Results) its_kind) (ap (is_of kind.Exc) its_kind))
      (λ m low high. fine m (omega (arith, low, least)) (omega (arith, high, less))))

  -- ---- whether it is refused, by counts of refused nodes

  pub declared_there : (n e : ℕ) → n < length nodes → equate_named f n (codes "rep") ≡ Some e → files.declaring_node r.names.now (rep_at r n) ≡ Some e
  declared_there n e less named_so = by (rep_at r n) refl
    where
      node_is : (d : Declared) → equate_of f (Some d.node) ≡ Some e → d.node ≡ e
      node_is d said = by_kind (is_kind f kind.Equate d.node) said
        where
          by_kind : (b : Bool) → (if b then Some d.node else None) ≡ Some e → d.node ≡ e
          by_kind true said = same_Some d.node e said
          by_kind false said = absurd (none-some e said)

      by_place : (o : Option Declared) → equate_of f (declaring_node f o) ≡ Some e → files.node_of o ≡ Some e
      by_place None said = absurd (none-some e said)
      by_place (Some d) said = ap (λ (n : ℕ). Some n) (node_is d said)

      by : (o : Option ℕ) → rep_at r n ≡ o → files.declaring_node r.names.now o ≡ Some e
      by None at_none = absurd (true≢false (sym (ap is_some named_so) ∙ sym (said_so n less) ∙ ap (λ (o : Option ℕ). rules_of.is_equate (declared_at r o)) at_none))
      by (Some p) at_place =
          ap (λ (ds : List Declared). files.node_of (slice_get ds p)) whole.made.file.names.declared
          ∙ by_place (slice_get ds p) (sym (ap (λ (o : Option ℕ). equate_of f (declaring_node f (declaration_at scope o))) (place_found n p less at_place)) ∙ named_so)

  pub rep_refused : (n c : ℕ) → n < length nodes → meant_there n ≡ meant.Equate c → (counts : (e : ℕ) → IsSideOf f of e c → is_refused f e ≡ bound.is_refused h e) → is_refused_rep f n ≡ bound.is_refused_rep h n
  rep_refused n c less is counts =
      let x : HasRep n c = has_rep n c is in
      ap (is_refused_at f) x.named_so
      ∙ counts x.equate x.side
      ∙ sym (ap (bound.is_refused_at h) (declared_there n x.equate less x.named_so))
