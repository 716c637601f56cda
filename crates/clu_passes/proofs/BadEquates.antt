-- Bad equates by a table: what is found of each equate that leads to no circle, from what was found of those that it names, is what the definition gives.
use Rattle.std.proofs.Common.{◌≡◌, ◌∙◌, ℕ, zero, suc, ◌+◌, ◌-◌, ◌<◌, ◌≤◌, ◌&&◌, ◌||◌, not, if◌then◌else◌, Bool, true, false, List, [], ◌∷◌, length, map, codes, is_some, Option, Some, None, inl, inr, refl, sym, ap, subst, arith, rules}
use Rattle.std.specs.Prelude.{slice_get}
use Rattle.std.specs.List.{list_any, range_with_len, AllByRecursion}
use Rattle.std.proofs.lemmas.Bool.{true≢false, cases_lt, or_parts}
use Rattle.clu_base.specs.declared.rules.Rule.{Rule}
use Rattle.clu_base.specs.declared.rules.Rule.TheVariants as rule
use Rattle.clu_tree.specs.declared.node.Node.{Node}
use Rattle.clu_tree.specs.declared.node.NodeKind.{NodeKind}
use Rattle.clu_tree.specs.declared.node.NodeKind.TheVariants as kind
use Rattle.clu_tree.specs.contracts.node.NodeKind.{the_type}
use Rattle.clu_syntax.specs.declared.words.SimpleType.TheVariants as simple
use Rattle.clu_syntax.specs.Enough.{least_names}
use Rattle.clu_syntax.specs.Kinds.{kind_of}
use Rattle.clu_syntax.specs.Splits.{is_of, first_name}
use Rattle.clu_syntax.specs.Syntax.{Identifier, TypeExpression, a_simple_type}
use Rattle.clu_syntax.proofs.Enough.{enough}
use Rattle.clu_checking.specs.Files.{File, item, kind_in, is_kind, round, parent, names, node_names, below, declared_by, equate_of, equate_named}
use Rattle.clu_checking.specs.Equates.{names_unfolded, word_named, equates_at, equates_named, leads_on, leads_far, is_circular, bad_unless, is_bad_at, is_bad_name}
use Rattle.clu_checking.specs.NameRules.{is_defined_twice, disagrees_at}
use Rattle.clu_checking.specs.ConstantRules.{is_neither, is_bad_rep, is_no_type, is_too_long, is_long_type, is_long_constant, is_word, is_type_wanted, has_bad_constant, has_bad_type}
use Rattle.clu_checking.specs.ExceptionRules.{v26_in}
use Rattle.clu_checking.specs.Wanted.{wanted, wants_type, first_name_at}
use Rattle.clu_checking.specs.Rules.{violates, least}
use Rattle.clu_checking.specs.Refusals.{right_side, is_bad_by, is_bad_of}
use Rattle.clu_passes.specs.Trees.{IsFileOfTree, is_of_constant}
use Rattle.clu_passes.specs.Bad.{AreBadBy}
use Rattle.clu_passes.proofs.InEquates.{in_constants}
use denote.Enum.Bare.{same_true}

-- ---- lists

pub any_same : (g h : ℕ → Bool) (a len : ℕ) → ((n : ℕ) → a ≤ n → n < a + len → g n ≡ h n) → list_any g (range_with_len a len) ≡ list_any h (range_with_len a len)
any_same g h a zero same = refl
any_same g h a (suc len) same =
    ap (λ (b : Bool). b || list_any g (range_with_len (a + 1) len)) (same a (omega arith) (omega arith))
    ∙ ap (λ (b : Bool). h a || b) (any_same g h (a + 1) len (λ n l m. same n (omega (arith, l)) (omega (arith, m))))

pub none_in : (g : ℕ → Bool) (a len : ℕ) → list_any g (range_with_len a len) ≡ false → (n : ℕ) → a ≤ n → n < a + len → g n ≡ false
none_in g a zero e n l m = absurd (omega (arith, l, m))
none_in g a (suc len) e n l m = elim (cases_lt a n) [
  | inl more ↦ none_in g (a + 1) len (or_parts (g a) (list_any g (range_with_len (a + 1) len)) e).1 n (omega (arith, more)) (omega (arith, m))
  | inr back ↦ let same : a ≡ n = omega (arith, l, back) in ap g (sym same) ∙ (or_parts (g a) (list_any g (range_with_len (a + 1) len)) e).0
]

pub least_same : (v w : Rule → Bool) → ((r : Rule) → v r ≡ w r) → (rs : List Rule) → least v rs ≡ least w rs
least_same v w same [] = refl
least_same v w same (r ∷ rs) =
    ap (λ (b : Bool). elim b [ true ↦ Some r | false ↦ least v rs ]) (same r)
    ∙ ap (λ (o : Option Rule). elim (w r) [ true ↦ Some r | false ↦ o ]) (least_same v w same rs)

-- ---- what a rule asks of bad equates at a node of a constant

module _ (f : File) (of : IsFileOfTree f) (b c : ℕ → Bool) (n : ℕ) where
  abbrev Same : Identifier → Type 0
  Same name = is_bad_name f b n name ≡ is_bad_name f c n name

  first_of : (ns : List Identifier) (node : Node) → slice_get f.nodes n ≡ Some node → node.names ≡ ns → 1 ≤ length ns → AllByRecursion Same ns → Same (first_name_at f n)
  first_of [] node at are some h = absurd (omega (arith, some))
  first_of (name ∷ ns) node at are some h =
      let first : first_name_at f n ≡ name = ap (λ (o : Option Node). first_name (node_names f o)) at ∙ ap first_name are in
      subst Same (sym first) h.0

  first_same : (k : NodeKind) → 1 ≤ least_names k → kind_in f n ≡ k → is_of kind.File k ≡ false → AllByRecursion Same (names f n) → Same (first_name_at f n)
  first_same k some is no_file = by (slice_get f.nodes n) refl is
    where
      by : (o : Option Node) → slice_get f.nodes n ≡ o → kind_of o ≡ k → AllByRecursion Same (node_names f o) → Same (first_name_at f n)
      by None at is h = absurd (true≢false (ap (is_of kind.File) is ∙ no_file))
      by (Some node) at is h =
          let least : least_names node.kind ≡ least_names k = ap least_names is in
          let more : least_names node.kind ≤ length node.names = (enough f.nodes of.shaped n node at).names in
          first_of node.names node at refl (omega (arith, some, least, more)) h

  word_same : (t : TypeExpression) → AllByRecursion Same (word_named f t) → (is_word simple.Rep t && is_bad_name f b n (codes "rep")) ≡ (is_word simple.Rep t && is_bad_name f c n (codes "rep"))
  word_same (a_simple_type m simple.Rep) h = h.0
  word_same (a_simple_type m _) h = refl
  word_same _ h = refl

  abbrev AreSame : NodeKind → Type 0
  AreSame k = AllByRecursion Same (names_unfolded f k n)

  constant_same : (k : NodeKind) → kind_in f n ≡ k → AreSame k → has_bad_constant f b k n ≡ has_bad_constant f c k n
  constant_same kind.Name is h = ap (λ (x : Bool). x && not (is_type_wanted f b (wanted f n) n)) (first_same kind.Name (omega arith) is refl h)
  constant_same _ is h = refl

  type_same : (k : NodeKind) → kind_in f n ≡ k → is_of_constant k ≡ true → AreSame k → has_bad_type f b k n ≡ has_bad_type f c k n
  type_same kind.Name is const h = ap (λ (x : Bool). x && is_type_wanted f b (wanted f n) n) (first_same kind.Name (omega arith) is refl h)
  type_same kind.NameT is const h = first_same kind.NameT (omega arith) is refl h
  type_same kind.Simple is const h = word_same (item f n).type h
  type_same kind.Restrict is const h = absurd (true≢false (sym const))
  type_same _ is const h = refl

  disagrees_same : (k : NodeKind) → is_of_constant k ≡ true → disagrees_at f b k n ≡ disagrees_at f c k n
  disagrees_same kind.Restrict const = absurd (true≢false (sym const))
  disagrees_same _ const = refl

  signal_same : (k : NodeKind) → is_of_constant k ≡ true → v26_in f b k n ≡ v26_in f c k n
  signal_same kind.Signal const = absurd (true≢false (sym const))
  signal_same kind.Exit const = absurd (true≢false (sym const))
  signal_same kind.Resignal const = absurd (true≢false (sym const))
  signal_same _ const = refl

  pub violates_same : is_of_constant (kind_in f n) ≡ true → AreSame (kind_in f n) → (r : Rule) → violates f b n r ≡ violates f c n r
  violates_same const h rule.DefinedTwice = ap (λ (x : Bool). is_defined_twice f n || x) (disagrees_same (kind_in f n) const)
  violates_same const h rule.NotConstant = ap (λ (x : Bool). (is_neither f n && not (wants_type f n)) || x || is_too_long f is_long_constant n) (constant_same (kind_in f n) refl h)
  violates_same const h rule.NotType = ap (λ (x : Bool). (is_neither f n && wants_type f n) || is_bad_rep f n || is_no_type f (kind_in f n) n || x || is_too_long f is_long_type n) (type_same (kind_in f n) refl const h)
  violates_same const h rule.SignalTypes = signal_same (kind_in f n) const
  violates_same const h _ = refl

-- ---- equates that are named

module _ (f : File) (b c : ℕ → Bool) (e : ℕ) (equate : is_kind f kind.Equate e ≡ true) (known : is_circular f e ≡ false → b e ≡ c e) where
  circle_same : (x : Bool) → is_circular f e ≡ x → is_bad_at f b (Some e) ≡ is_bad_at f c (Some e)
  circle_same true is = ap (λ (x : Bool). bad_unless f b x e) is ∙ sym (ap (λ (x : Bool). bad_unless f c x e) is)
  circle_same false is = ap (λ (x : Bool). bad_unless f b x e) is ∙ known is ∙ sym (ap (λ (x : Bool). bad_unless f c x e) is)

module _ (f : File) (b c : ℕ → Bool) (leads : ℕ → Bool) (known : (e : ℕ) → is_kind f kind.Equate e ≡ true → leads e ≡ false → is_circular f e ≡ false → b e ≡ c e) where
  node_same : (m : ℕ) (x : Bool) → is_kind f kind.Equate m ≡ x → leads_on f leads (equate_of f (Some m)) ≡ false → is_bad_at f b (equate_of f (Some m)) ≡ is_bad_at f c (equate_of f (Some m))
  node_same m true is e =
      let leads_not : leads m ≡ false = sym (ap (λ (x : Bool). leads_on f leads (if◌then◌else◌ {A = Option ℕ} x (Some m) None)) is) ∙ e in
      ap (λ (x : Bool). is_bad_at f b (if◌then◌else◌ {A = Option ℕ} x (Some m) None)) is
      ∙ circle_same f b c m is (known m is leads_not) (is_circular f m) refl
      ∙ sym (ap (λ (x : Bool). is_bad_at f c (if◌then◌else◌ {A = Option ℕ} x (Some m) None)) is)
  node_same m false is e = ap (λ (x : Bool). is_bad_at f b (if◌then◌else◌ {A = Option ℕ} x (Some m) None)) is ∙ sym (ap (λ (x : Bool). is_bad_at f c (if◌then◌else◌ {A = Option ℕ} x (Some m) None)) is)

  named_same : (o : Option ℕ) → leads_on f leads (equate_of f o) ≡ false → is_bad_at f b (equate_of f o) ≡ is_bad_at f c (equate_of f o)
  named_same None e = refl
  named_same (Some m) e = node_same m (is_kind f kind.Equate m) refl e

  pub names_same : (n : ℕ) (its : List Identifier) → list_any (leads_on f leads) (equates_at f n its) ≡ false → AllByRecursion (λ (name : Identifier). is_bad_name f b n name ≡ is_bad_name f c n name) its
  names_same n [] e = tt
  names_same n (name ∷ its) e = (
    named_same (declared_by f n name) (or_parts (leads_on f leads (equate_named f n name)) (list_any (leads_on f leads) (equates_at f n its)) e).0,
    names_same n its (or_parts (leads_on f leads (equate_named f n name)) (list_any (leads_on f leads) (equates_at f n its)) e).1,
  )

module _ (f : File) (b c : ℕ → Bool) (same : (e : ℕ) → is_kind f kind.Equate e ≡ true → is_circular f e ≡ false → b e ≡ c e) where
  any_named : (o : Option ℕ) → is_bad_at f b (equate_of f o) ≡ is_bad_at f c (equate_of f o)
  any_named None = refl
  any_named (Some m) = by (is_kind f kind.Equate m) refl
    where
      by : (x : Bool) → is_kind f kind.Equate m ≡ x → is_bad_at f b (equate_of f (Some m)) ≡ is_bad_at f c (equate_of f (Some m))
      by true is =
          ap (λ (x : Bool). is_bad_at f b (if◌then◌else◌ {A = Option ℕ} x (Some m) None)) is
          ∙ circle_same f b c m is (same m is) (is_circular f m) refl
          ∙ sym (ap (λ (x : Bool). is_bad_at f c (if◌then◌else◌ {A = Option ℕ} x (Some m) None)) is)
      by false is = ap (λ (x : Bool). is_bad_at f b (if◌then◌else◌ {A = Option ℕ} x (Some m) None)) is ∙ sym (ap (λ (x : Bool). is_bad_at f c (if◌then◌else◌ {A = Option ℕ} x (Some m) None)) is)

  pub names_are : (n : ℕ) (name : Identifier) → is_bad_name f b n name ≡ is_bad_name f c n name
  names_are n name = any_named (declared_by f n name)

-- ---- the table

module _ (f : File) (of : IsFileOfTree f) (rules : List Rule) (bad : ℕ → Bool) (are : AreBadBy f rules bad) where
  abbrev fault : (ℕ → Bool) → ℕ → Bool
  fault b n = is_some (least (violates f b n) rules)

  -- after as many steps as it leads on for
  abbrev pub IsSolved : ℕ → Type 0
  IsSolved s = (e : ℕ) → is_kind f kind.Equate e ≡ true → is_circular f e ≡ false → leads_far f s e ≡ false → (t : ℕ) → s ≤ t → bad e ≡ is_bad_by f rules t e

  abbrev leads_in : ℕ → ℕ → Bool
  leads_in s n = list_any (leads_on f (leads_far f s)) (equates_named f n)

  fault_same : (s t : ℕ) → IsSolved s → s ≤ t → (n : ℕ) → is_of_constant (kind_in f n) ≡ true → leads_in s n ≡ false → fault bad n ≡ fault (is_bad_by f rules t) n
  fault_same s t had le n const none =
      ap is_some (least_same (violates f bad n) (violates f (is_bad_by f rules t) n)
      (violates_same f of bad (is_bad_by f rules t) n const
      (names_same f bad (is_bad_by f rules t) (leads_far f s) (λ e equate far circle. had e equate circle far t le) n (names_unfolded f (kind_in f n) n) none))
      rules)

  step : (s t : ℕ) → IsSolved s → s ≤ t → (e : ℕ) (its : Node) → slice_get f.nodes e ≡ Some its → its.kind ≡ kind.Equate → list_any (leads_in s) (below f e) ≡ false →
      list_any (fault bad) (right_side f e) ≡ list_any (fault (is_bad_by f rules t)) (right_side f e)
  step s t had le e its at is none =
      any_same (fault bad) (fault (is_bad_by f rules t)) (round f e).first (e - (round f e).first) (λ n l m.
      let inside : n < e = omega (arith, l, m) in
      fault_same s t had le n
      (in_constants f.nodes f.rounds of.shaped of.ordered of.tree of.surrounded e its at (ap is_of_constant is) n l inside)
      (none_in (leads_in s) (round f e).first (suc e - (round f e).first) none n l (omega (arith, inside, l))))

  pub solved : (s : ℕ) → IsSolved s
  unfolding leads_far is_bad_by
  solved zero e equate circle far t le = absurd (true≢false far)
  solved (suc s) e equate circle far zero le = absurd (omega (arith, le))
  solved (suc s) e equate circle far (suc t) le = are e equate circle ∙ by (slice_get f.nodes e) refl equate (solved s) (omega (arith, le))
    where
      by : (o : Option Node) → slice_get f.nodes e ≡ o → is_of kind.Equate (kind_of o) ≡ true → IsSolved s → s ≤ t → list_any (fault bad) (right_side f e) ≡ list_any (fault (is_bad_by f rules t)) (right_side f e)
      by None at is had le = absurd (true≢false (sym is))
      by (Some its) at is had le = step s t had le e its at (same_true the_type (search rules) its.kind kind.Equate is) far

  -- so it is what the definition gives
  pub bad_is : (e : ℕ) → is_kind f kind.Equate e ≡ true → is_circular f e ≡ false → bad e ≡ is_bad_of f rules e
  bad_is e equate circle = solved (length f.scope.declarations) e equate circle circle (length f.scope.declarations) (omega arith)

  pub bad_names_are : (n : ℕ) (name : Identifier) → is_bad_name f bad n name ≡ is_bad_name f (is_bad_of f rules) n name
  bad_names_are = names_are f bad (is_bad_of f rules) bad_is
