-- A node by which a type is refused is a fault on the walk that goes over it.
use Rattle.std.proofs.Common.{◌≡◌, ◌∙◌, ℕ, zero, suc, ◌+◌, ◌-◌, ◌<◌, ◌≤◌, ◌&&◌, ◌||◌, not, if◌then◌else◌, Bool, true, false, cond, List, [], ◌∷◌, length, filter, is_some, codes, Option, Some, None, inl, inr, refl, sym, ap, subst, arith}
use Rattle.std.specs.Prelude.{slice_get}
use Rattle.std.specs.List.{list_any, range_with_len}
use Rattle.std.proofs.lemmas.Bool.{true≢false, or_right}
use Rattle.std.proofs.lemmas.Option.{none-some, same_Some}
use Rattle.clu_base.specs.declared.rules.Rule.{Rule}
use Rattle.clu_base.specs.declared.rules.Rule.TheVariants as rule
use Rattle.clu_tree.specs.declared.node.NodeKind.{NodeKind}
use Rattle.clu_tree.specs.declared.node.NodeKind.TheVariants as kind
use Rattle.clu_syntax.specs.declared.words.SimpleType.TheVariants as simple
use Rattle.clu_syntax.specs.Syntax.{Identifier}
use Rattle.clu_checking.specs.Files.{File, item, kind_in, round, names, equate_named}
use Rattle.clu_checking.specs.Equates.{is_circular, bad_unless, is_bad_at, is_bad_name}
use Rattle.clu_checking.specs.ConstantRules.{is_word, is_neither, is_bad_rep, is_no_type, is_too_long, is_long_type, is_long_constant, is_type_wanted, has_bad_constant, has_bad_type}
use Rattle.clu_checking.specs.Wanted.{wanted, wants_type, first_name_at}
use Rattle.clu_checking.specs.Rules.{violates, all_rules, least}
use Rattle.clu_checking.specs.Refusals.{Walk, headings, rest, is_of_names, of_definition, of_part, rules_by, right_side, is_bad_by, is_bad_of, is_bad, rules_of_types, is_no_type_at, rules_asked, fault_at, walk_over}
use Rattle.clu_passes.specs.Losing.{is_definition, walk_by, walk_of}
use Rattle.clu_passes.specs.Refusing.{is_of_types}
use Rattle.clu_passes.proofs.LostRefused.{some_least}

any_more : (p q : ℕ → Bool) → ((n : ℕ) → p n ≡ true → q n ≡ true) → (ns : List ℕ) → list_any p ns ≡ true → list_any q ns ≡ true
any_more p q more [] e = absurd (true≢false (sym e))
any_more p q more (n ∷ ns) e = by (p n) refl e (any_more p q more ns)
  where
    by : (b : Bool) → p n ≡ b → (b || list_any p ns) ≡ true → (list_any p ns ≡ true → list_any q ns ≡ true) → (q n || list_any q ns) ≡ true
    by true is e later = ap (λ (b : Bool). b || list_any q ns) (more n is)
    by false is e later = or_right (q n) (list_any q ns) (later e)

names_more : (p q : Identifier → Bool) → ((x : Identifier) → p x ≡ true → q x ≡ true) → (xs : List Identifier) → list_any p xs ≡ true → list_any q xs ≡ true
names_more p q more [] e = absurd (true≢false (sym e))
names_more p q more (x ∷ xs) e = by (p x) refl e (names_more p q more xs)
  where
    by : (b : Bool) → p x ≡ b → (b || list_any p xs) ≡ true → (list_any p xs ≡ true → list_any q xs ≡ true) → (q x || list_any q xs) ≡ true
    by true is e later = ap (λ (b : Bool). b || list_any q xs) (more x is)
    by false is e later = or_right (q x) (list_any q xs) (later e)

-- ---- the rules by which types are refused

none_of_names : (r : Rule) → is_of_types r ≡ true → not (is_of_names r) ≡ true
none_of_names rule.DefinedTwice is = absurd (true≢false (sym is))
none_of_names rule.ExportMissing is = absurd (true≢false (sym is))
none_of_names _ is = refl

-- the one that is found stands among all rules too
found_least : (f : File) (v : Rule → Bool) (A : Type 0) → ((r : Rule) (i : ℕ) → slice_get all_rules i ≡ Some r → is_of_types r ≡ true → v r ≡ true → A) → is_some (least v (rules_of_types f)) ≡ true → A
found_least f v A found e =
    one rule.LiteralRange 0 refl refl (rule.UnknownName ∷ rule.CircularEquate ∷ rule.NotConstant ∷ rule.NotType ∷ rule.Real ∷ rule.Selectors ∷ rule.ParameterKind ∷ rule.CvtPlace ∷ [])
    (one rule.UnknownName 1 refl refl (rule.CircularEquate ∷ rule.NotConstant ∷ rule.NotType ∷ rule.Real ∷ rule.Selectors ∷ rule.ParameterKind ∷ rule.CvtPlace ∷ [])
    (one rule.CircularEquate 3 refl refl (rule.NotConstant ∷ rule.NotType ∷ rule.Real ∷ rule.Selectors ∷ rule.ParameterKind ∷ rule.CvtPlace ∷ [])
    (one rule.NotConstant 4 refl refl (rule.NotType ∷ rule.Real ∷ rule.Selectors ∷ rule.ParameterKind ∷ rule.CvtPlace ∷ [])
    (one rule.NotType 5 refl refl (rule.Real ∷ rule.Selectors ∷ rule.ParameterKind ∷ rule.CvtPlace ∷ [])
    (one rule.Real 6 refl refl (rule.Selectors ∷ rule.ParameterKind ∷ rule.CvtPlace ∷ [])
    (one rule.Selectors 13 refl refl (rule.ParameterKind ∷ rule.CvtPlace ∷ [])
    (one rule.ParameterKind 15 refl refl (rule.CvtPlace ∷ [])
    (one rule.CvtPlace 27 refl refl [] (λ none. absurd (true≢false (sym none)))))))))))
    e
  where
    one : (r : Rule) (i : ℕ) → slice_get all_rules i ≡ Some r → is_of_types r ≡ true → (rs : List Rule) → (is_some (least v rs) ≡ true → A) → is_some (least v (r ∷ rs)) ≡ true → A
    one r i at other rs later e = by (v r) refl e
      where
        by : (b : Bool) → v r ≡ b → is_some (elim b [ true ↦ Some r | false ↦ least v rs ]) ≡ true → A
        by true is e = found r i at other is
        by false is e = later e

-- ---- what is violated with fewer equates bad is with more

module _ (f : File) (b c : ℕ → Bool) (more : (e : ℕ) → b e ≡ true → c e ≡ true) (n : ℕ) where
  unless_more : (x : Bool) (e : ℕ) → bad_unless f b x e ≡ true → bad_unless f c x e ≡ true
  unless_more true e h = absurd (true≢false (sym h))
  unless_more false e h = more e h

  at_more : (o : Option ℕ) → is_bad_at f b o ≡ true → is_bad_at f c o ≡ true
  at_more None h = absurd (true≢false (sym h))
  at_more (Some e) h = unless_more (is_circular f e) e h

  pub name_more : (name : Identifier) → is_bad_name f b n name ≡ true → is_bad_name f c n name ≡ true
  name_more name h = at_more (equate_named f n name) h

  and_more : (x y z : Bool) → (x ≡ true → y ≡ true) → (x && z) ≡ true → (y && z) ≡ true
  and_more true y z goes h = ap (λ (d : Bool). d && z) (goes refl) ∙ h
  and_more false y z goes h = absurd (true≢false (sym h))

  and_behind : (x y z : Bool) → (y ≡ true → z ≡ true) → (x && y) ≡ true → (x && z) ≡ true
  and_behind true y z goes h = goes h
  and_behind false y z goes h = h

  constant_more : (k : NodeKind) → has_bad_constant f b k n ≡ true → has_bad_constant f c k n ≡ true
  constant_more kind.Name h = and_more (is_bad_name f b n (first_name_at f n)) (is_bad_name f c n (first_name_at f n)) (not (is_type_wanted f b (wanted f n) n)) (name_more (first_name_at f n)) h
  constant_more kind.File h = h
  constant_more _ h = absurd (true≢false (sym h))

  type_more : (k : NodeKind) → has_bad_type f b k n ≡ true → has_bad_type f c k n ≡ true
  type_more kind.Name h = and_more (is_bad_name f b n (first_name_at f n)) (is_bad_name f c n (first_name_at f n)) (is_type_wanted f b (wanted f n) n) (name_more (first_name_at f n)) h
  type_more kind.NameT h = name_more (first_name_at f n) h
  type_more kind.Simple h = and_behind (is_word simple.Rep (item f n).type) (is_bad_name f b n (codes "rep")) (is_bad_name f c n (codes "rep")) (name_more (codes "rep")) h
  type_more kind.Restrict h = names_more (is_bad_name f b n) (is_bad_name f c n) name_more (names f n) h
  type_more kind.File h = h
  type_more _ h = absurd (true≢false (sym h))

  or_more : (a x y e : Bool) → (x ≡ true → y ≡ true) → (a || x || e) ≡ true → (a || y || e) ≡ true
  or_more true x y e goes h = refl
  or_more false true y e goes h = ap (λ (d : Bool). d || e) (goes refl)
  or_more false false true e goes h = refl
  or_more false false false e goes h = h

  or_third : (a p q x y e : Bool) → (x ≡ true → y ≡ true) → (a || p || q || x || e) ≡ true → (a || p || q || y || e) ≡ true
  or_third true p q x y e goes h = refl
  or_third false true q x y e goes h = refl
  or_third false false true x y e goes h = refl
  or_third false false false true y e goes h = ap (λ (d : Bool). d || e) (goes refl)
  or_third false false false false true e goes h = refl
  or_third false false false false false e goes h = h

  pub violated_more : (r : Rule) → is_of_types r ≡ true → violates f b n r ≡ true → violates f c n r ≡ true
  violated_more rule.NotConstant is h = or_more (is_neither f n && not (wants_type f n)) (has_bad_constant f b (kind_in f n) n) (has_bad_constant f c (kind_in f n) n) (is_too_long f is_long_constant n) (constant_more (kind_in f n)) h
  violated_more rule.NotType is h = or_third (is_neither f n && wants_type f n) (is_bad_rep f n) (is_no_type f (kind_in f n) n) (has_bad_type f b (kind_in f n) n) (has_bad_type f c (kind_in f n) n) (is_too_long f is_long_type n) (type_more (kind_in f n)) h
  violated_more rule.LiteralRange is h = h
  violated_more rule.UnknownName is h = h
  violated_more rule.CircularEquate is h = h
  violated_more rule.Real is h = h
  violated_more rule.Selectors is h = h
  violated_more rule.ParameterKind is h = h
  violated_more rule.CvtPlace is h = h
  violated_more _ is h = absurd (true≢false (sym is))

-- ---- what is bad by rules of types is bad

module _ (f : File) where
  abbrev fault : List Rule → (ℕ → Bool) → ℕ → Bool
  fault rules bad n = is_some (least (violates f bad n) rules)

  pub fault_more : (b c : ℕ → Bool) → ((e : ℕ) → b e ≡ true → c e ≡ true) → (n : ℕ) → fault (rules_of_types f) b n ≡ true → fault all_rules c n ≡ true
  fault_more b c more n h =
      found_least f (violates f b n) (fault all_rules c n ≡ true)
      (λ r i at is v. some_least (violates f c n) all_rules i r at (violated_more f b c more n r is v)) h

  pub bad_more : (steps e : ℕ) → is_bad_by f (rules_of_types f) steps e ≡ true → is_bad_by f all_rules steps e ≡ true
  unfolding is_bad_by
  bad_more zero e h = h
  bad_more (suc steps) e h =
      any_more (fault (rules_of_types f) (is_bad_by f (rules_of_types f) steps)) (fault all_rules (is_bad_by f all_rules steps))
      (fault_more (is_bad_by f (rules_of_types f) steps) (is_bad_by f all_rules steps) (bad_more steps)) (right_side f e) h

-- ---- so the node is a fault

kept_least : (v keep : Rule → Bool) (rs : List Rule) (i : ℕ) (r : Rule) → slice_get rs i ≡ Some r → keep r ≡ true → v r ≡ true → is_some (least v (filter keep rs)) ≡ true
kept_least v keep [] i r at k e = absurd (none-some r at)
kept_least v keep (x ∷ xs) zero r at k e =
    ap (λ (b : Bool). is_some (least v (cond b (x ∷ filter keep xs) (filter keep xs)))) (ap keep (same_Some x r at) ∙ k)
    ∙ ap (λ (b : Bool). is_some (elim b [ true ↦ Some x | false ↦ least v (filter keep xs) ])) (ap v (same_Some x r at) ∙ e)
kept_least v keep (x ∷ xs) (suc i) r at k e = by (keep x) (v x) refl (kept_least v keep xs i r at k e)
  where
    by : (b c : Bool) → v x ≡ c → is_some (least v (filter keep xs)) ≡ true → is_some (least v (cond b (x ∷ filter keep xs) (filter keep xs))) ≡ true
    by true true is later = ap (λ (b : Bool). is_some (elim b [ true ↦ Some x | false ↦ least v (filter keep xs) ])) is
    by true false is later = ap (λ (b : Bool). is_some (elim b [ true ↦ Some x | false ↦ least v (filter keep xs) ])) is ∙ later
    by false c is later = later

asked_least : (v : Rule → Bool) (i : ℕ) (r : Rule) → slice_get all_rules i ≡ Some r → is_of_types r ≡ true → v r ≡ true → (k : NodeKind) (in_heading : Bool) → is_some (least v (rules_by k (walk_by (is_definition k) in_heading) in_heading)) ≡ true
asked_least v i r at is e kind.Module in_heading = kept_least v (λ s. not (is_of_names s)) all_rules i r at (none_of_names r is) e
asked_least v i r at is e kind.Routine in_heading = kept_least v (λ s. not (is_of_names s)) all_rules i r at (none_of_names r is) e
asked_least v i r at is e kind.Cluster in_heading = kept_least v (λ s. not (is_of_names s)) all_rules i r at (none_of_names r is) e
asked_least v i r at is e kind.File true = some_least v all_rules i r at e
asked_least v i r at is e kind.File false = some_least v all_rules i r at e
asked_least v i r at is e _ true = some_least v all_rules i r at e
asked_least v i r at is e _ false = some_least v all_rules i r at e

pub refused_faulty : (f : File) (n : ℕ) → is_no_type_at f n ≡ true → is_some (fault_at f (walk_of f n) n) ≡ true
refused_faulty f n h =
    found_least f (violates f (is_bad_of f (rules_of_types f)) n) (is_some (fault_at f (walk_of f n) n) ≡ true)
    (λ r i at is v. asked_least (violates f (is_bad f) n) i r at is
    (violated_more f (is_bad_of f (rules_of_types f)) (is_bad f) (bad_more f (length f.scope.declarations)) n r is v) (kind_in f n) (round f n).heading) h
