-- Selectors and tags by the numbers of types: those of the type there, and by how many they are.
use Rattle.std.proofs.Common.{◌≡◌, ◌∙◌, ◌⊎◌, ℕ, ◌+◌, ◌-◌, ◌<◌, ◌≤◌, nat_lt, not, Bool, true, false, ◌&&◌, ◌||◌, if◌then◌else◌, List, [], ◌∷◌, length, flat_map, bytes_eq, Option, Some, None, inl, inr, refl, sym, ap, arith}
use Rattle.std.specs.Prelude.{is_some}
use Rattle.std.specs.List.{list_any, list_all}
use Rattle.std.specs.Option.{option_map}
use Rattle.std.proofs.Math.Bool.{not-not}
use Rattle.std.proofs.lemmas.Bool.{cases_lt, lt-ltb, le-ltb}
use Rattle.std.proofs.lemmas.Cmp.{nat_list_eq_equiv}
use Rattle.std.proofs.lemmas.List.{length-append}
use Rattle.std.proofs.lemmas.List.Folds.{list_all-append}
use Rattle.clu_types.specs.CluType.{CluType}
use Rattle.clu_types.specs.declared.term.TypeId.{TypeId}
use Rattle.clu_types.specs.declared.term.Field.{Field}
use Rattle.clu_types.specs.Arena.{type_at, fields_at}
use Rattle.clu_syntax.specs.Syntax.{Identifier}
use Rattle.clu_checking.specs.Files.{File}
use Rattle.clu_checking.specs.NameRules.{stands_twice}
use Rattle.clu_checking.specs.ExpressionRules as checking
use Rattle.clu_checking.specs.StatementRules as statements
use Rattle.clu_name_rules.specs.Components.{component_type, is_selector_of, leaves_some}
use Rattle.clu_passes.specs.Counting.{has_all, names_of_fields}
use Rattle.clu_passes.proofs.Counting.{counted}

module _ (types : List CluType) where
  pub component_is : (fs : List Field) (name : Identifier) → checking.component_type (fields_at types fs) name ≡ option_map (type_at types) (component_type fs name)
  component_is [] name = refl
  component_is (f ∷ fs) name = by (bytes_eq f.name name) (component_is fs name)
    where
      by : (b : Bool) → checking.component_type (fields_at types fs) name ≡ option_map (type_at types) (component_type fs name)
          → (if b then Some (type_at types f.of) else checking.component_type (fields_at types fs) name) ≡ option_map (type_at types) (if b then Some f.of else component_type fs name)
      by true more = refl
      by false more = more

  some_mapped : (o : Option TypeId) → is_some (option_map (type_at types) o) ≡ is_some o
  some_mapped None = refl
  some_mapped (Some id) = refl

  pub selector_is : (fs : List Field) (name : Identifier) → checking.is_selector_of (fields_at types fs) name ≡ is_selector_of fs name
  selector_is fs name = ap (λ (o : Option CluType). is_some o) (component_is fs name) ∙ some_mapped (component_type fs name)

  pub selectors_are : (fs : List Field) (names : List Identifier) → list_all (checking.is_selector_of (fields_at types fs)) names ≡ list_all (is_selector_of fs) names
  selectors_are fs [] = refl
  selectors_are fs (name ∷ names) =
      ap (λ (b : Bool). b && list_all (checking.is_selector_of (fields_at types fs)) names) (selector_is fs name)
      ∙ ap (λ (b : Bool). is_selector_of fs name && b) (selectors_are fs names)

  pub each_is : (fs : List Field) (names : List Identifier) → checking.has_each (fields_at types fs) names ≡ has_all (names_of_fields fs) names
  each_is [] names = refl
  each_is (f ∷ fs) names = ap (λ (b : Bool). list_any (bytes_eq f.name) names && b) (each_is fs names)

-- a selector stands among the names
stands_among : (fs : List Field) (name : Identifier) → is_selector_of fs name ≡ list_any (bytes_eq name) (names_of_fields fs)
stands_among [] name = refl
stands_among (f ∷ fs) name = by (bytes_eq f.name name) (stands_among fs name) ∙ ap (λ (b : Bool). b || list_any (bytes_eq name) (names_of_fields fs)) (nat_list_eq_equiv.symm f.name name)
  where
    by : (b : Bool) → is_selector_of fs name ≡ list_any (bytes_eq name) (names_of_fields fs) → is_some (if b then Some f.of else component_type fs name) ≡ (b || list_any (bytes_eq name) (names_of_fields fs))
    by true more = refl
    by false more = more

all_among : (fs : List Field) (names : List Identifier) → list_all (is_selector_of fs) names ≡ has_all names (names_of_fields fs)
all_among fs [] = refl
all_among fs (name ∷ names) =
    ap (λ (b : Bool). b && list_all (is_selector_of fs) names) (stands_among fs name)
    ∙ ap (λ (b : Bool). list_any (bytes_eq name) (names_of_fields fs) && b) (all_among fs names)

length_names : (fs : List Field) → length (names_of_fields fs) ≡ length fs
length_names [] = refl
length_names (f ∷ fs) = omega (arith, length_names fs)

-- each selector of the type stands among the names just if they are no fewer, where all are selectors of it and none stands
-- twice
module _ (types : List CluType) (fs : List Field) (names : List Identifier) (once_in : stands_twice (names_of_fields fs) ≡ false) (once_of : stands_twice names ≡ false) where
  has_all_is : list_all (is_selector_of fs) names ≡ true → has_all (names_of_fields fs) names ≡ not (nat_lt (length names) (length fs))
  has_all_is within =
      counted (names_of_fields fs) names once_in once_of (sym (all_among fs names) ∙ within)
      ∙ ap (λ (n : ℕ). not (nat_lt (length names) n)) (length_names fs)

  pub other_selectors_are : (file : File) → checking.has_other_selectors file (Some (fields_at types fs)) names ≡ (not (list_all (is_selector_of fs) names) || nat_lt (length names) (length fs))
  other_selectors_are file =
      ap (λ (b : Bool). not (b && checking.has_each (fields_at types fs) names)) (selectors_are types fs names)
      ∙ ap (λ (b : Bool). not (list_all (is_selector_of fs) names && b)) (each_is types fs names)
      ∙ by (list_all (is_selector_of fs) names) has_all_is
    where
      by : (all : Bool) → (all ≡ true → has_all (names_of_fields fs) names ≡ not (nat_lt (length names) (length fs))) → not (all && has_all (names_of_fields fs) names) ≡ (not all || nat_lt (length names) (length fs))
      by true same = ap not (same refl) ∙ not-not (nat_lt (length names) (length fs))
      by false same = refl

-- ---- the names of several nodes, one after the other

taken_off : (a taken left : ℕ) → nat_lt a (left - taken) ≡ nat_lt (taken + a) left
taken_off a taken left = by (cases_lt (taken + a) left)
  where
    by : (taken + a < left) ⊎ (left ≤ taken + a) → nat_lt a (left - taken) ≡ nat_lt (taken + a) left
    by (inl less) = lt-ltb a (left - taken) (omega (arith, less)) ∙ sym (lt-ltb (taken + a) left less)
    by (inr more) = le-ltb a (left - taken) (omega (arith, more)) ∙ sym (le-ltb (taken + a) left more)

leaves_is : (names : ℕ → List Identifier) (left : ℕ) (cs : List ℕ) → leaves_some names left cs ≡ nat_lt (length (flat_map names cs)) left
leaves_is names left [] = refl
leaves_is names left (c ∷ cs) =
    leaves_is names (left - length (names c)) cs
    ∙ taken_off (length (flat_map names cs)) (length (names c)) left
    ∙ ap (λ (n : ℕ). nat_lt n left) (sym (length-append (names c) (flat_map names cs)))

all_flat : (test : Identifier → Bool) (names : ℕ → List Identifier) (cs : List ℕ) → list_all test (flat_map names cs) ≡ list_all (λ c. list_all test (names c)) cs
all_flat test names [] = refl
all_flat test names (c ∷ cs) = list_all-append test (names c) (flat_map names cs) ∙ ap (λ (b : Bool). list_all test (names c) && b) (all_flat test names cs)

module _ (types : List CluType) (fs : List Field) (names : ℕ → List Identifier) (cs : List ℕ) (once_in : stands_twice (names_of_fields fs) ≡ false) (once_of : stands_twice (flat_map names cs) ≡ false) where
  pub others_by_count : (file : File) → checking.has_other_selectors file (Some (fields_at types fs)) (flat_map names cs) ≡ (not (list_all (λ c. list_all (is_selector_of fs) (names c)) cs) || leaves_some names (length fs) cs)
  others_by_count file =
      other_selectors_are types fs (flat_map names cs) once_in once_of file
      ∙ ap (λ (b : Bool). not b || nat_lt (length (flat_map names cs)) (length fs)) (all_flat (is_selector_of fs) names cs)
      ∙ ap (λ (b : Bool). not (list_all (λ c. list_all (is_selector_of fs) (names c)) cs) || b) (sym (leaves_is names (length fs) cs))

-- fewer tags are named than the type has just if some of them are left
module _ (types : List CluType) where
  count_is : (fs : List Field) → statements.count_of (fields_at types fs) ≡ length fs
  count_is [] = refl
  count_is (f ∷ fs) = omega (arith, count_is fs)

  pub tags_by_count : (fs : List Field) (names : ℕ → List Identifier) (cs : List ℕ) → nat_lt (length (flat_map names cs)) (statements.count_of (fields_at types fs)) ≡ leaves_some names (length fs) cs
  tags_by_count fs names cs = ap (nat_lt (length (flat_map names cs))) (count_is fs) ∙ sym (leaves_is names (length fs) cs)
