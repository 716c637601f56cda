-- A value is lost only where a type is refused at the node or below it, or `cvt` is a whole type of a heading there.
use Rattle.std.proofs.Common.{◌≡◌, ◌∙◌, ◌⊎◌, ℕ, zero, suc, ◌+◌, ◌-◌, ◌^◌, ◌==◌, ◌<◌, ◌≤◌, if◌then◌else◌, ◌&&◌, ◌||◌, not, nat_le, nat_lt, Bool, true, false, List, [], ◌∷◌, ◌++◌, length, map, codes, is_some, Option, Some, None, inl, inr, refl, sym, ap, subst, arith, rules}
use Rattle.std.specs.Prelude.{slice_get}
use Rattle.std.specs.List.{list_any, range_with_len, AllByRecursion}
use Rattle.std.proofs.lemmas.Bool.{true≢false, cases_lt, or_parts, or_right, or_left}
use Rattle.std.proofs.lemmas.Option.{none-some, same_Some, slice_get_within, slice_get_past}
use Rattle.clu_base.specs.declared.rules.Rule.{Rule}
use Rattle.clu_base.specs.declared.rules.Rule.TheVariants as rule
use Rattle.clu_tree.specs.declared.node.Node.{Node}
use Rattle.clu_tree.specs.declared.node.NodeKind.{NodeKind}
use Rattle.clu_tree.specs.declared.node.NodeKind.TheVariants as kind
use Rattle.clu_syntax.specs.declared.words.SimpleType.{SimpleType}
use Rattle.clu_syntax.specs.declared.words.SimpleType.TheVariants as simple
use Rattle.clu_syntax.specs.Kinds.{kind_at, kind_of}
use Rattle.clu_syntax.specs.Splits.{is_of, children_of, first_name}
use Rattle.clu_syntax.specs.Syntax.{Identifier, Literal, integer, TypeExpression, a_simple_type}
use Rattle.clu_syntax.specs.Words.{symbol_in, simple_type, literal_of}
use Rattle.clu_names.specs.declared.scopes.Declared.{Declared}
use Rattle.clu_names.specs.Denotes.{found, bound_at, names_in}
use Rattle.clu_meaning.specs.Constants.{number_after}
use Rattle.clu_meaning.specs.Scoping.{declaration_at}
use Rattle.clu_checking.specs.Files.{File, item, kind_in, is_kind, round, names, below, declaring_node, equate_of, equate_named, declaration}
use Rattle.clu_checking.specs.Equates.{names_unfolded, word_named, equates_at, equates_named, leads_on, leads_far, is_circular, is_circular_at, bad_unless, is_bad_at, is_bad_name}
use Rattle.clu_checking.specs.NameRules.{v4, is_out_of_range, is_literal_out_of_range, has_bad_literal, is_long, leads_to_circle}
use Rattle.clu_checking.specs.ConstantRules.{is_word, is_neither, is_bad_rep, is_no_type, is_too_long, is_long_type, is_long_constant, is_type_wanted, has_bad_constant, has_bad_type, v31}
use Rattle.clu_checking.specs.Wanted.{wanted, wants_type, first_name_at}
use Rattle.clu_checking.specs.Rules.{violates, least}
use Rattle.clu_checking.specs.Refusals.{is_bad_of, rules_of_types, is_no_type_at}
use Rattle.clu_settle.specs.declared.meanings.Meaning.{Meaning}
use Rattle.clu_settle.specs.declared.meanings.Meaning.TheVariants as meaning
use Rattle.clu_settle.specs.Names.{meaning_in}
use Rattle.clu_settle.specs.Graph.{if_used}
use Rattle.clu_settle.specs.Meant as meant
use Rattle.clu_settle.specs.Lost as lost
use Rattle.clu_settle.specs.Lost.{is_source, is_lost_word, is_too_large, is_cvt, made_from, is_lost_in, IsLost}
use Rattle.clu_settle.specs.Parameters.{counted_in, number_at}
use Rattle.clu_syntax.specs.Nodes.{item_at}
use Rattle.clu_declares.proofs.Around.{there}
use Rattle.clu_declares.proofs.Each.{meaning_there, grown, grown_size, none_declared, more_declared}
use Rattle.clu_passes.specs.Trees.{IsFileOfTree}
use Rattle.clu_passes.specs.Losing.{IsReason, HasReason}
use Rattle.clu_passes.proofs.BadEquates.{none_in}
use Rattle.clu_passes.proofs.ByNodes.{names_same as unfolded_names, type_there}
use Rattle.clu_passes.proofs.CvtPlaces.{IsTop, cvt_refused, equate_top}
use Rattle.clu_passes.proofs.Literals.{literal_is}
use Rattle.clu_passes.proofs.StepsEnough.{bad_unfolds, leads_in}
use Rattle.clu_passes.proofs.Subtrees.{AreFirst, firsts_of, is_subtree}
use Rattle.clu_passes.proofs.Within.{AreIn, all_first, forest_goes_on, roots_in}

-- ---- rules and lists

-- a rule of the list that is violated gives one
pub some_least : (v : Rule → Bool) (rs : List Rule) (i : ℕ) (r : Rule) → slice_get rs i ≡ Some r → v r ≡ true → is_some (least v rs) ≡ true
some_least v [] i r at e = absurd (none-some r at)
some_least v (x ∷ xs) zero r at e = ap (λ (b : Bool). is_some (elim b [ true ↦ Some x | false ↦ least v xs ])) (ap v (same_Some x r at) ∙ e)
some_least v (x ∷ xs) (suc i) r at e = by (v x) refl (some_least v xs i r at e)
  where
    by : (b : Bool) → v x ≡ b → is_some (least v xs) ≡ true → is_some (elim b [ true ↦ Some x | false ↦ least v xs ]) ≡ true
    by true is later = refl
    by false is later = later

any_append : (p : ℕ → Bool) (xs ys : List ℕ) → list_any p xs ≡ false → list_any p ys ≡ false → list_any p (xs ++ ys) ≡ false
any_append p [] ys a b = b
any_append p (x ∷ xs) ys a b = by (p x) a (λ e. any_append p xs ys e b)
  where
    by : (c : Bool) → (c || list_any p xs) ≡ false → (list_any p xs ≡ false → list_any p (xs ++ ys) ≡ false) → (c || list_any p (xs ++ ys)) ≡ false
    by true e later = e
    by false e later = later e

any_there : (p : ℕ → Bool) (a len n : ℕ) → a ≤ n → n < a + len → p n ≡ true → list_any p (range_with_len a len) ≡ true
any_there p a zero n l m e = absurd (omega (arith, l, m))
any_there p a (suc len) n l m e = elim (cases_lt a n) [
  | inl more ↦ by (p a) (any_there p (a + 1) len n (omega (arith, more)) (omega (arith, m)) e)
  | inr back ↦ let same : n ≡ a = omega (arith, l, back) in ap (λ (b : Bool). b || list_any p (range_with_len (a + 1) len)) (ap p (sym same) ∙ e)
]
  where
    by : (b : Bool) → list_any p (range_with_len (a + 1) len) ≡ true → (b || list_any p (range_with_len (a + 1) len)) ≡ true
    by true later = refl
    by false later = later

large : (n : ℕ) → nat_le (2 ^ 63) n ≡ true → nat_lt 9223372036854775807 n ≡ true
large n e = e

-- ---- what is not lost after so many steps is not lost after more

module _ (nodes : List Node) (meanings : List Meaning) where
  next_any : (p q : ℕ → Bool) → ((n : ℕ) → p n ≡ false → q n ≡ false) → (ns : List ℕ) → list_any p ns ≡ false → list_any q ns ≡ false
  next_any p q goes [] e = refl
  next_any p q goes (n ∷ ns) e = by (p n) refl e (next_any p q goes ns)
    where
      by : (b : Bool) → p n ≡ b → (b || list_any p ns) ≡ false → (list_any p ns ≡ false → list_any q ns ≡ false) → (q n || list_any q ns) ≡ false
      by true is e later = absurd (true≢false e)
      by false is e later = ap (λ (b : Bool). b || list_any q ns) (goes n is) ∙ later e

  still : (s n : ℕ) → is_lost_in nodes meanings s n ≡ false → is_lost_in nodes meanings (suc s) n ≡ false
  unfolding is_lost_in
  still zero n e = absurd (true≢false e)
  still (suc s) n e = by (is_source (slice_get nodes n)) e (still s)
    where
      by : (b : Bool) → (b || list_any (is_lost_in nodes meanings s) (made_from nodes meanings n)) ≡ false → ((m : ℕ) → is_lost_in nodes meanings s m ≡ false → is_lost_in nodes meanings (suc s) m ≡ false) → (b || list_any (is_lost_in nodes meanings (suc s)) (made_from nodes meanings n)) ≡ false
      by true e goes = absurd (true≢false e)
      by false e goes = next_any (is_lost_in nodes meanings s) (is_lost_in nodes meanings (suc s)) goes (made_from nodes meanings n) e

  later : (s t n : ℕ) → s ≤ t → is_lost_in nodes meanings s n ≡ false → is_lost_in nodes meanings t n ≡ false
  later s zero n l e = let same : s ≡ 0 = omega (arith, l) in subst (λ (k : ℕ). is_lost_in nodes meanings k n ≡ false) same e
  later s (suc t) n l e = elim (cases_lt t s) [
    | inl more ↦ let same : s ≡ suc t = omega (arith, l, more) in subst (λ (k : ℕ). is_lost_in nodes meanings k n ≡ false) same e
    | inr less ↦ still t n (later s t n (omega (arith, less)) e)
  ]

  none_later : (s t : ℕ) → s ≤ t → (ns : List ℕ) → list_any (is_lost_in nodes meanings s) ns ≡ false → list_any (is_lost_in nodes meanings t) ns ≡ false
  none_later s t l = next_any (is_lost_in nodes meanings s) (is_lost_in nodes meanings t) (λ n. later s t n l)

  pub one_step : (s n : ℕ) → is_source (slice_get nodes n) ≡ false → list_any (is_lost_in nodes meanings s) (made_from nodes meanings n) ≡ false → is_lost_in nodes meanings (suc s) n ≡ false
  unfolding is_lost_in
  one_step s n source never = ap (λ (b : Bool). b || list_any (is_lost_in nodes meanings s) (made_from nodes meanings n)) source ∙ never

-- ---- the equate whose right side a name stands for

abbrev is_side : Meaning → Bool
is_side (meaning.Equate right) = true
is_side _ = false

abbrev side : Meaning → ℕ
side (meaning.Equate right) = right
side _ = 0

module _ (f : File) (of : IsFileOfTree f) where
  abbrev ds : List Declared
  ds = f.scope.declarations

  abbrev table : List Meaning
  table = meant.declared_to f.nodes f.rounds ds (length ds)

  abbrev pub meanings : List Meaning
  meanings = meant.meanings_of f.nodes f.rounds ds

  -- the right side is the first child of an Equate
  pub record IsSideOf (e right : ℕ) : Type 0 where
    pub its : Node
    pub at : slice_get f.nodes e ≡ Some its
    pub is : its.kind ≡ kind.Equate
    pub rest : List ℕ
    pub children : its.children ≡ right ∷ rest

  pub record HasEquate (n right : ℕ) : Type 0 where
    pub name : Identifier
    pub others : List Identifier
    pub listed : names_unfolded f (kind_in f n) n ≡ name ∷ others
    pub equate : ℕ
    pub named : equate_named f n name ≡ Some equate
    pub side_of : IsSideOf equate right

  no_side : {A : Type 0} (m : Meaning) (right : ℕ) → is_side m ≡ false → m ≡ meaning.Equate right → A
  no_side m right other e = absurd (true≢false (sym (ap is_side e) ∙ other))

  side_by : (k : NodeKind) (c right : ℕ) → meant.equated_by k c ≡ meaning.Equate right → c ≡ right
  side_by kind.TypeSet c right e = no_side meaning.Other right refl e
  side_by _ c right e = ap side e

  number_by : (b : Bool) (o : Option TypeExpression) (k right : ℕ) → (if b then meaning.Module else meant.parameter_as o k) ≡ meaning.Equate right → ⊥
  number_by true o k right e = no_side meaning.Module right refl e
  number_by false None k right e = no_side (meaning.TypeParameter k) right refl e
  number_by false (Some t) k right e = no_side (meaning.ConstantParameter k) right refl e

  defined_by : (o : Option ℕ) (right : ℕ) → meant.definition_in o ≡ meaning.Equate right → ⊥
  defined_by None right e = no_side meaning.Module right refl e
  defined_by (Some u) right e = no_side meaning.Other right refl e

  right_by : (cs : List ℕ) (right : ℕ) → meant.right_of f.nodes cs ≡ meaning.Equate right → (rest : List ℕ) × (cs ≡ right ∷ rest)
  right_by [] right e = no_side meaning.Other right refl e
  right_by (c ∷ cs) right e = (cs, ap (λ (n : ℕ). n ∷ cs) (side_by (kind_at f.nodes c) c right e))

  -- what a declaration by a node of this kind declares is a right side only if it is an Equate
  is_equate : (k : NodeKind) (n : ℕ) (unit : Option ℕ) (count number right : ℕ) → meant.declared_in f.nodes k n unit count number ≡ meaning.Equate right → (k ≡ kind.Equate) × (meant.right_of f.nodes (children_of (slice_get f.nodes n)) ≡ meaning.Equate right)
  is_equate kind.Equate n unit count number right e = (refl, e)
  is_equate kind.Parm n unit count number right e = absurd (number_by (number == 0) (item_at f.nodes n).parameter.type number right e)
  is_equate kind.TypeSet n unit count number right e = no_side (meant.variable_in n count) right refl e
  is_equate kind.Routine n unit count number right e = absurd (defined_by unit right e)
  is_equate kind.Cluster n unit count number right e = absurd (defined_by unit right e)
  is_equate _ n unit count number right e = no_side meaning.Other right refl e

  by_node : (d : Declared) (right : ℕ) (its : Option Node) → slice_get f.nodes d.node ≡ its → kind_of its ≡ kind.Equate → meant.right_of f.nodes (children_of its) ≡ meaning.Equate right → IsSideOf d.node right
  by_node d right None at is e = no_side meaning.Other right refl e
  by_node d right (Some node) at is e = let c = right_by node.children right e in record { its = node; at = at; is = is; rest = c.0; children = c.1 }

  by_declared : (p : ℕ) (d : Declared) (right : ℕ) → meant.declared_at f.nodes f.rounds ds p (Some d) ≡ meaning.Equate right → (equate_of f (Some d.node) ≡ Some d.node) × IsSideOf d.node right
  by_declared p d right e =
      let told = is_equate (kind_at f.nodes d.node) d.node d.unit (counted_in f.nodes f.rounds ds d.unit (length ds)) (number_at f.nodes f.rounds ds p (Some d)) right e in
      (ap (λ (k : NodeKind). if is_of kind.Equate k then Some d.node else None) told.0, by_node d right (slice_get f.nodes d.node) refl told.0 told.1)

  by_place : (n : ℕ) (name : Identifier) (p right : ℕ) → found ds name n ≡ Some p → p < length ds → (o : Option Declared) → slice_get ds p ≡ o → meant.declared_at f.nodes f.rounds ds p o ≡ meaning.Equate right → (e : ℕ) × (equate_named f n name ≡ Some e) × IsSideOf e right
  by_place n name p right denotes l None there e = no_side meaning.Other right refl e
  by_place n name p right denotes l (Some d) there e =
      let its = by_declared p d right e in
      (d.node, ap (λ (o : Option ℕ). equate_of f (declaring_node f (declaration_at f.scope o))) denotes ∙ ap (λ (o : Option Declared). equate_of f (declaring_node f o)) there ∙ its.0, its.1)

  none_there : (p : ℕ) → length ds ≤ p → slice_get table p ≡ None
  none_there p l =
      let size : length table ≡ length ds = grown_size (meant.declared_to f.nodes f.rounds ds) (λ q. meant.declared_at f.nodes f.rounds ds q (slice_get ds q)) (none_declared f.nodes f.rounds ds) (more_declared f.nodes f.rounds ds) (length ds) in
      slice_get_past table p (omega (arith, l, size))

  by_found : (n : ℕ) (name : Identifier) (right : ℕ) (o : Option ℕ) → found ds name n ≡ o → meant.bound_to_one table o ≡ meaning.Equate right → (e : ℕ) × (equate_named f n name ≡ Some e) × IsSideOf e right
  by_found n name right None denotes e = no_side meaning.Module right refl e
  by_found n name right (Some p) denotes e = elim (cases_lt p (length ds)) [
    | inl inside ↦
        let there : slice_get table p ≡ Some (meant.declared_at f.nodes f.rounds ds p (slice_get ds p)) =
        grown (meant.declared_to f.nodes f.rounds ds) (λ q. meant.declared_at f.nodes f.rounds ds q (slice_get ds q)) (none_declared f.nodes f.rounds ds) (more_declared f.nodes f.rounds ds) (length ds) p inside in
        by_place n name p right denotes inside (slice_get ds p) refl (sym (ap meaning_in there) ∙ e)
    | inr outside ↦ no_side (meaning_in (slice_get table p)) right (ap (λ (o : Option Meaning). is_side (meaning_in o)) (none_there p outside)) e
  ]

  by_names : (n right : ℕ) (its : List Identifier) → names_unfolded f (kind_in f n) n ≡ its → meant.first_of f.nodes ds table (map (λ name. found ds name n) its) ≡ meaning.Equate right → HasEquate n right
  by_names n right [] are e = no_side meaning.Other right refl e
  by_names n right (name ∷ others) are e =
      let x = by_found n name right (found ds name n) refl e in
      record { name = name; others = others; listed = are; equate = x.0; named = x.1; side_of = x.2 }

  pub has_equate : (n right : ℕ) → n < length f.nodes → meaning_in (slice_get meanings n) ≡ meaning.Equate right → HasEquate n right
  has_equate n right inside e =
      let m = there f.nodes n inside in
      let same : if_used m.0.kind (map (λ name. found ds name n) (names_in m.0.kind m.0)) ≡ map (λ name. found ds name n) (names_unfolded f m.0.kind n) = unfolded_names f of.shaped n m.0 m.1 m.0.kind refl in
      let its_kind : kind_in f n ≡ m.0.kind = ap kind_of m.1 in
      let here : meaning_in (slice_get meanings n) ≡ meant.first_of f.nodes ds table (map (λ name. found ds name n) (names_unfolded f (kind_in f n) n)) =
      ap meaning_in (meaning_there f.nodes f.rounds ds n inside)
      ∙ ap (λ (o : Option Node). meant.first_of f.nodes ds table (if_used (kind_of o) (bound_at ds n o))) m.1
      ∙ ap (meant.first_of f.nodes ds table) same
      ∙ ap (λ (k : NodeKind). meant.first_of f.nodes ds table (map (λ name. found ds name n) (names_unfolded f k n))) (sym its_kind) in
      by_names n right (names_unfolded f (kind_in f n) n) refl (sym here ∙ e)

  -- ---- nodes of which a type is refused

  abbrev pub types_bad : ℕ → Bool
  types_bad = is_bad_of f (rules_of_types f)

  pub refused_by : (n i : ℕ) (r : Rule) → slice_get (rules_of_types f) i ≡ Some r → violates f types_bad n r ≡ true → is_no_type_at f n ≡ true
  refused_by n i r at e = some_least (violates f types_bad n) (rules_of_types f) i r at e

  here : (n : ℕ) → n < length f.nodes → IsReason f n → HasReason f n
  here n inside why =
      let m = there f.nodes n inside in
      record { node = n; first = forest_goes_on f.nodes (round f n).first n m.0.children (is_subtree f.nodes f.rounds of.tree of.surrounded of.ordered n m.0 m.1); upto = omega arith; reason = why }

  -- ---- a circular equate is told by V7 at the name

  no_more : {A : Type 0} (name : Identifier) (others : List Identifier) → [] ≡ name ∷ others → A
  no_more name others e = let size : 0 ≡ suc (length others) = ap length e in absurd (omega (arith, size))

  circle_named : (n right : ℕ) (x : HasEquate n right) → is_circular f x.equate ≡ true → list_any (is_circular_at f) (equates_named f n) ≡ true
  circle_named n right x circle =
      ap (λ (its : List Identifier). list_any (is_circular_at f) (equates_at f n its)) x.listed
      ∙ or_left (is_circular_at f (equate_named f n x.name)) (list_any (is_circular_at f) (equates_at f n x.others)) (ap (is_circular_at f) x.named ∙ circle)

  pub circle_there : (k : NodeKind) (n right : ℕ) (x : HasEquate n right) → kind_in f n ≡ k → is_circular f x.equate ≡ true → leads_to_circle f k n ≡ true
  circle_there kind.Restrict n right x is circle = no_more x.name x.others (sym (ap (λ (k : NodeKind). names_unfolded f k n) is) ∙ x.listed)
  circle_there kind.File n right x is circle = circle_named n right x circle
  circle_there _ n right x is circle = circle_named n right x circle

  -- ---- the name of a bad equate is told by V8 or V9

  pub word_first : (t : TypeExpression) (name : Identifier) (others : List Identifier) → word_named f t ≡ name ∷ others → (is_word simple.Rep t ≡ true) × (name ≡ codes "rep")
  word_first (a_simple_type m simple.Rep) name others e = (refl, sym (ap first_name e))
  word_first (a_simple_type m _) name others e = no_more name others e
  word_first _ name others e = no_more name others e

  either_type : (a b c x e : Bool) → x ≡ true → (a || b || c || x || e) ≡ true
  either_type true b c x e h = refl
  either_type false true c x e h = refl
  either_type false false true x e h = refl
  either_type false false false x e h = ap (λ (y : Bool). y || e) h

  either_constant : (a x e : Bool) → x ≡ true → (a || x || e) ≡ true
  either_constant true x e h = refl
  either_constant false x e h = ap (λ (y : Bool). y || e) h

  pub no_type : (n : ℕ) → has_bad_type f types_bad (kind_in f n) n ≡ true → violates f types_bad n rule.NotType ≡ true
  no_type n e = either_type (is_neither f n && wants_type f n) (is_bad_rep f n) (is_no_type f (kind_in f n) n) (has_bad_type f types_bad (kind_in f n) n) (is_too_long f is_long_type n) e

  pub no_constant : (n : ℕ) → has_bad_constant f types_bad (kind_in f n) n ≡ true → violates f types_bad n rule.NotConstant ≡ true
  no_constant n e = either_constant (is_neither f n && not (wants_type f n)) (has_bad_constant f types_bad (kind_in f n) n) (is_too_long f is_long_constant n) e

  abbrev pub IsBadThere : ℕ → Type 0
  IsBadThere n = (has_bad_type f types_bad (kind_in f n) n ≡ true) ⊎ (has_bad_constant f types_bad (kind_in f n) n ≡ true)

  pub bad_there : (k : NodeKind) (n right : ℕ) (x : HasEquate n right) → kind_in f n ≡ k → is_bad_name f types_bad n x.name ≡ true → IsBadThere n
  bad_there kind.Name n right x is bad = by (is_type_wanted f types_bad (wanted f n) n) refl
    where
      first : first_name_at f n ≡ x.name
      first = ap first_name (sym (ap (λ (k : NodeKind). names_unfolded f k n) is) ∙ x.listed)

      by : (b : Bool) → is_type_wanted f types_bad (wanted f n) n ≡ b → IsBadThere n
      by true wants =
          inl
          (ap (λ (k : NodeKind). has_bad_type f types_bad k n) is
          ∙ ap (λ (b : Bool). is_bad_name f types_bad n (first_name_at f n) && b) wants
          ∙ ap (λ (name : Identifier). is_bad_name f types_bad n name && true) first
          ∙ ap (λ (b : Bool). b && true) bad)
      by false wants =
          inr
          (ap (λ (k : NodeKind). has_bad_constant f types_bad k n) is
          ∙ ap (λ (b : Bool). is_bad_name f types_bad n (first_name_at f n) && not b) wants
          ∙ ap (λ (name : Identifier). is_bad_name f types_bad n name && true) first
          ∙ ap (λ (b : Bool). b && true) bad)
  bad_there kind.NameT n right x is bad =
      let first : first_name_at f n ≡ x.name = ap first_name (sym (ap (λ (k : NodeKind). names_unfolded f k n) is) ∙ x.listed) in
      inl (ap (λ (k : NodeKind). has_bad_type f types_bad k n) is ∙ ap (is_bad_name f types_bad n) first ∙ bad)
  bad_there kind.Simple n right x is bad =
      let word = word_first (item f n).type x.name x.others (sym (ap (λ (k : NodeKind). names_unfolded f k n) is) ∙ x.listed) in
      inl
      (ap (λ (k : NodeKind). has_bad_type f types_bad k n) is
      ∙ ap (λ (b : Bool). b && is_bad_name f types_bad n (codes "rep")) word.0
      ∙ ap (is_bad_name f types_bad n) (sym word.1)
      ∙ bad)
  bad_there kind.File n right x is bad = no_more x.name x.others (sym (ap (λ (k : NodeKind). names_unfolded f k n) is) ∙ x.listed)
  bad_there _ n right x is bad = no_more x.name x.others (sym (ap (λ (k : NodeKind). names_unfolded f k n) is) ∙ x.listed)

  pub bad_refused : (n : ℕ) → IsBadThere n → is_no_type_at f n ≡ true
  bad_refused n (inl e) = refused_by n 4 rule.NotType refl (no_type n e)
  bad_refused n (inr e) = refused_by n 3 rule.NotConstant refl (no_constant n e)

  pub bad_named : (n right : ℕ) (x : HasEquate n right) → is_circular f x.equate ≡ false → types_bad x.equate ≡ true → is_bad_name f types_bad n x.name ≡ true
  bad_named n right x circle bad = ap (is_bad_at f types_bad) x.named ∙ ap (λ (b : Bool). bad_unless f types_bad b x.equate) circle ∙ bad

  -- ---- an equate is bad if a type is refused in it

  bad_by_fault : (e m : ℕ) → is_kind f kind.Equate e ≡ true → is_circular f e ≡ false → (round f e).first ≤ m → m < e → is_no_type_at f m ≡ true → types_bad e ≡ true
  bad_by_fault e m equate circle low high refused =
      bad_unfolds f of (rules_of_types f) e equate circle
      ∙ any_there (λ n. is_some (least (violates f types_bad n) (rules_of_types f))) (round f e).first (e - (round f e).first) m low (omega (arith, low, high)) refused

  -- ---- why a value is lost: what it is made from is, or a word

  abbrev pub NotLost : ℕ → Type 0
  NotLost n = (s : ℕ) × (is_lost_in f.nodes meanings s n ≡ false)

  abbrev pub AreNotLost : List ℕ → Type 0
  AreNotLost ns = (s : ℕ) × (list_any (is_lost_in f.nodes meanings s) ns ≡ false)

  too_large : (literal : Literal) → is_too_large literal ≡ true → is_out_of_range literal ≡ true
  too_large (integer digits) e = large (number_after 0 digits) e
  too_large _ e = absurd (true≢false (sym e))

  -- a literal that is too large is told by V4
  pub literal_told : (n : ℕ) (node : Node) → slice_get f.nodes n ≡ Some node → node.kind ≡ kind.Literal → is_lost_word kind.Literal node.value ≡ true → v4 f n ≡ true
  literal_told n node at is e =
      or_right (list_any is_long (names f n)) (has_bad_literal f (kind_in f n) n)
      (ap (λ (k : NodeKind). has_bad_literal f k n) (ap kind_of at ∙ is) ∙ ap is_literal_out_of_range (literal_is f.nodes n node at is) ∙ too_large (literal_of node.value) e)

  word_reason : (k : NodeKind) (n : ℕ) (node : Node) → slice_get f.nodes n ≡ Some node → node.kind ≡ k → is_lost_word k node.value ≡ true → IsReason f n
  word_reason kind.Literal n node at is e = inl (refused_by n 0 rule.LiteralRange refl (literal_told n node at is e))
  word_reason kind.Simple n node at is e = by (v31 f n) refl
    where
      cvt : (w : SimpleType) → is_cvt w ≡ true → is_word simple.Cvt (a_simple_type n w) ≡ true
      cvt simple.Cvt e = refl
      cvt _ e = absurd (true≢false (sym e))

      by : (b : Bool) → v31 f n ≡ b → IsReason f n
      by true told = inl (refused_by n 8 rule.CvtPlace refl told)
      by false told = inr (record {
        of_word = ap kind_of at ∙ is;
        word = ap (is_word simple.Cvt) (type_there f of.shaped n node at is) ∙ cvt (simple_type (symbol_in node.value)) e;
        placed = told;
      })
  word_reason kind.File n node at is e = absurd (true≢false (sym e))
  word_reason _ n node at is e = absurd (true≢false (sym e))

  pub both : (xs ys : List ℕ) → AreNotLost xs → AreNotLost ys → AreNotLost (xs ++ ys)
  both xs ys a b =
      (a.0 + b.0, any_append (is_lost_in f.nodes meanings (a.0 + b.0)) xs ys (none_later f.nodes meanings a.0 (a.0 + b.0) (omega arith) xs a.1) (none_later f.nodes meanings b.0 (a.0 + b.0) (omega arith) ys b.1))

  -- ---- by the equates that are named: all are decided that lead no further

  abbrev pub AreDecided : (ℕ → Bool) → Type 0
  AreDecided leads = (e right : ℕ) → IsSideOf e right → is_circular f e ≡ false → leads e ≡ false → (types_bad e ≡ true) ⊎ NotLost right

  named_reason : (leads : ℕ → Bool) → AreDecided leads → (n right : ℕ) (x : HasEquate n right) → list_any (leads_on f leads) (equates_named f n) ≡ false → IsReason f n ⊎ NotLost right
  named_reason leads decided n right x never = by (is_circular f x.equate) refl
    where
      none_first : (leads_on f leads (equate_named f n x.name) || list_any (leads_on f leads) (equates_at f n x.others)) ≡ false
      none_first = sym (ap (λ (its : List Identifier). list_any (leads_on f leads) (equates_at f n its)) x.listed) ∙ never

      by : (b : Bool) → is_circular f x.equate ≡ b → IsReason f n ⊎ NotLost right
      by true circle = inl (inl (refused_by n 2 rule.CircularEquate refl (circle_there (kind_in f n) n right x refl circle)))
      by false circle = elim (decided x.equate right x.side_of circle (sym (ap (leads_on f leads) x.named) ∙ (or_parts (leads_on f leads (equate_named f n x.name)) (list_any (leads_on f leads) (equates_at f n x.others)) none_first).0)) [
        | inl bad ↦ inl (inl (bad_refused n (bad_there (kind_in f n) n right x refl (bad_named n right x circle bad))))
        | inr found ↦ inr found
      ]

  module _ (leads : ℕ → Bool) (decided : AreDecided leads) where
    abbrev LeadsNot : ℕ → Type 0
    LeadsNot n = (m : ℕ) → (round f n).first ≤ m → m ≤ n → list_any (leads_on f leads) (equates_named f m) ≡ false

    sides_decided : (n : ℕ) → n < length f.nodes → list_any (leads_on f leads) (equates_named f n) ≡ false → (m : Meaning) → meaning_in (slice_get meanings n) ≡ m → IsReason f n ⊎ AreNotLost (lost.right_side m)
    sides_decided n inside never (meaning.Equate right) e = elim (named_reason leads decided n right (has_equate n right inside e) never) [
      | inl why ↦ inl why
      | inr found ↦ inr (found.0, ap (λ (b : Bool). b || false) found.1)
    ]
    sides_decided n inside never meaning.Other e = inr (0, refl)
    sides_decided n inside never _ e = inr (0, refl)

    abbrev IsDecided : ℕ → Type 0
    IsDecided n = HasReason f n ⊎ NotLost n

    children_decided : (n : ℕ) (cs : List ℕ) → AreIn (round f n).first n cs → AllByRecursion (λ (c : ℕ). (round f n).first ≤ (round f c).first) cs → AllByRecursion IsDecided cs → HasReason f n ⊎ AreNotLost cs
    children_decided n [] within firsts each = inr (0, refl)
    children_decided n (c ∷ cs) within firsts each = elim each.0 [
      | inl r ↦
          let low : (round f c).first ≤ r.node = r.first in
          let high : r.node ≤ c = r.upto in
          let least : (round f n).first ≤ (round f c).first = firsts.0 in
          let most : c < n = within.0.1 in
          inl (record { node = r.node; first = omega (arith, low, least); upto = omega (arith, high, most); reason = r.reason })
      | inr one ↦ elim (children_decided n cs within.1 firsts.1 each.1) [
        | inl r ↦ inl r
        | inr rest ↦ inr (both (c ∷ []) cs (one.0, ap (λ (b : Bool). b || false) one.1) rest)
      ]
    ]

    abbrev AreAllDecided : ℕ → Type 0
    AreAllDecided b = (n : ℕ) → n < b → n < length f.nodes → LeadsNot n → IsDecided n

    each_decided : (b n : ℕ) (cs : List ℕ) → AreAllDecided b → n ≤ b → n < length f.nodes → LeadsNot n → AreIn (round f n).first n cs → AllByRecursion (λ (c : ℕ). (round f n).first ≤ (round f c).first) cs → AllByRecursion IsDecided cs
    each_decided b n [] had l inside never within firsts = tt
    each_decided b n (c ∷ cs) had l inside never within firsts =
        let less : c < n = within.0.1 in
        let least : (round f n).first ≤ (round f c).first = firsts.0 in (
          had c (omega (arith, less, l)) (omega (arith, less, inside)) (λ m low high. never m (omega (arith, low, least)) (omega (arith, high, less))),
          each_decided b n cs had l inside never within.1 firsts.1,
        )

    node_decided : (b n : ℕ) → AreAllDecided b → n ≤ b → n < length f.nodes → LeadsNot n → (node : Node) → slice_get f.nodes n ≡ Some node → (c : Bool) → is_source (slice_get f.nodes n) ≡ c → IsDecided n
    node_decided b n had l inside never node at true source = inl (here n inside (word_reason node.kind n node at refl (sym (ap is_source at) ∙ source)))
    node_decided b n had l inside never node at false source =
        let forest = is_subtree f.nodes f.rounds of.tree of.surrounded of.ordered n node at in
        let first : (round f n).first ≤ n = forest_goes_on f.nodes (round f n).first n node.children forest in
        let within : AreIn (round f n).first n node.children = roots_in f.nodes (round f n).first n node.children forest in
        let firsts = all_first f.rounds (round f n).first n (round f n).first node.children (omega arith) (firsts_of f.nodes f.rounds of.tree of.surrounded n node at) within in
        elim (children_decided n node.children within firsts (each_decided b n node.children had l inside never within firsts)) [
          | inl r ↦ inl r
          | inr below_it ↦ elim (sides_decided n inside (never n first (omega arith)) (meaning_in (slice_get meanings n)) refl) [
            | inl why ↦ inl (here n inside why)
            | inr beside ↦
                let all : AreNotLost (node.children ++ lost.right_side (meaning_in (slice_get meanings n))) = both node.children (lost.right_side (meaning_in (slice_get meanings n))) below_it beside in
                inr (suc all.0, one_step f.nodes meanings all.0 n source (ap (λ (o : Option Node). list_any (is_lost_in f.nodes meanings all.0) (children_of o ++ lost.right_side (meaning_in (slice_get meanings n)))) at ∙ all.1))
          ]
        ]

    all_decided : (b : ℕ) → AreAllDecided b
    all_decided zero n l inside never = absurd (omega (arith, l))
    all_decided (suc b) n l inside never =
        let m = there f.nodes n inside in
        node_decided b n (all_decided b) (omega (arith, l)) inside never m.0 m.1 (is_source (slice_get f.nodes n)) refl

  -- ---- all equates, by how far they lead

  pub side_inside : (e right : ℕ) (x : IsSideOf e right) → ((round f e).first ≤ (round f right).first) × (right < e)
  side_inside e right x =
      let forest = is_subtree f.nodes f.rounds of.tree of.surrounded of.ordered e x.its x.at in
      let within : AreIn (round f e).first e (right ∷ x.rest) = subst (AreIn (round f e).first e) x.children (roots_in f.nodes (round f e).first e x.its.children forest) in
      let firsts = all_first f.rounds (round f e).first e (round f e).first (right ∷ x.rest) (omega arith) (subst (AreFirst f.rounds (round f e).first) x.children (firsts_of f.nodes f.rounds of.tree of.surrounded e x.its x.at)) within in
      (firsts.0, within.0.1)

  pub is_equate_node : (e right : ℕ) (x : IsSideOf e right) → is_kind f kind.Equate e ≡ true
  is_equate_node e right x = ap (λ (o : Option Node). is_of kind.Equate (kind_of o)) x.at ∙ ap (is_of kind.Equate) x.is

  side_told : (e right : ℕ) → IsSideOf e right → is_circular f e ≡ false → (round f e).first ≤ (round f right).first → right < e → HasReason f right ⊎ NotLost right → (types_bad e ≡ true) ⊎ NotLost right
  side_told e right x circle least less (inr found) = inr found
  side_told e right x circle least less (inl r) =
      let low : (round f right).first ≤ r.node = r.first in
      let high : r.node ≤ right = r.upto in
      elim r.reason [
        | inl refused ↦ inl (bad_by_fault e r.node (is_equate_node e right x) circle (omega (arith, low, least)) (omega (arith, high, less)) refused)
        | inr cvt ↦ absurd (cvt_refused f of e x.its x.at (subst IsTop (sym x.is) equate_top) r.node (omega (arith, low, least)) (omega (arith, high, less)) cvt)
      ]

  equates_decided : (s : ℕ) → AreDecided (leads_far f s)
  unfolding leads_far
  equates_decided zero e right x circle far = absurd (true≢false far)
  equates_decided (suc s) e right x circle far =
      let inside : e < length f.nodes = slice_get_within f.nodes e x.its x.at in
      let lies = side_inside e right x in
      let least : (round f e).first ≤ (round f right).first = lies.0 in
      let less : right < e = lies.1 in
      side_told e right x circle least less
      (all_decided (leads_far f s) (equates_decided s) (suc right) right (omega arith) (omega (arith, less, inside)) (λ m low high.
      none_in (leads_in f of s) (round f e).first (suc e - (round f e).first) far m (omega (arith, low, least)) (omega (arith, low, high, less, least))))

  -- ---- all nodes: a circular equate leads on, and no other one does

  abbrev is_circle : ℕ → Bool
  is_circle = is_circular f

  pub any_decided : AreDecided (λ e. false)
  any_decided e right x circle far = equates_decided (length ds) e right x circle circle

  leads_none : (os : List (Option ℕ)) → list_any (leads_on f (λ e. false)) os ≡ false
  leads_none [] = refl
  leads_none (None ∷ os) = leads_none os
  leads_none (Some e ∷ os) = leads_none os

  pub reason_there : (n : ℕ) → n < length f.nodes → HasReason f n ⊎ NotLost n
  reason_there n inside = all_decided (λ e. false) any_decided (suc n) n (omega arith) inside (λ m low high. leads_none (equates_named f m))

pub lost_refused : (f : File) → IsFileOfTree f → (n : ℕ) → n < length f.nodes → IsLost f.nodes (meant.meanings_of f.nodes f.rounds f.scope.declarations) n → HasReason f n
lost_refused f of n inside gone = elim (reason_there f of n inside) [
  | inl r ↦ r
  | inr found ↦ absurd (true≢false (sym (gone found.0) ∙ found.1))
]
