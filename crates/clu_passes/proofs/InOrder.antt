-- The declarations of one node follow one another in the order of its names, so the names that are bound to a declaration before
-- their own are told by the place of the first.
use Rattle.std.proofs.Common.{◌≡◌, ◌∙◌, ℕ, suc, ◌+◌, ◌<◌, ◌==◌, Bool, true, false, ◌&&◌, ◌||◌, if◌then◌else◌, List, [], ◌∷◌, ◌++◌, length, map, slice_get, bytes_eq, Option, Some, refl, sym, ap, subst, arith, append_assoc, length-append, eq-eqb, lt-ltb}
use Rattle.std.specs.List.{AllByRecursion, list_any}
use Rattle.std.proofs.lemmas.Bool.{or_parts, and_from, and_right}
use Rattle.std.proofs.lemmas.Option.{slice_get_within}
use Rattle.std.proofs.lemmas.Slice.Eq.{bytes_eq-Decides}
use Rattle.clu_syntax.specs.Syntax.{Identifier}
use Rattle.clu_names.specs.declared.scopes.Declared.{Declared}
use Rattle.clu_names.specs.Denotes.{found}
use Rattle.clu_names.specs.Scopes.{declared_as}
use Rattle.clu_meaning.specs.Resolving.{declared_from}
use Rattle.clu_checking.specs.Files.{File}
use Rattle.clu_checking.specs.NameRules as rules_of
use Rattle.clu_checking.specs.NameRules.{stands_twice}
use Rattle.clu_name_rules.specs.NameRules.{is_redefined, has_redefined}
use Rattle.clu_passes.specs.Owns.{first_from}
use Rattle.clu_passes.specs.Tables.{OpenOfOne}
use Rattle.clu_passes.proofs.Redefined.{redefined_is}

-- ---- lists

any_false : (name : Identifier) (names : List Identifier) → list_any (bytes_eq name) names ≡ false → AllByRecursion (λ other. bytes_eq name other ≡ false) names
any_false name [] h = tt
any_false name (other ∷ names) h = let parts = or_parts (bytes_eq name other) (list_any (bytes_eq name) names) h in (parts.0, any_false name names parts.1)

in_middle : (xs : List Declared) (d : Declared) (ys : List Declared) → slice_get (xs ++ d ∷ ys) (length xs) ≡ Some d
in_middle [] d ys = refl
in_middle (x ∷ xs) d ys = in_middle xs d ys

-- none of them is of the node, or of the node by this name
abbrev pub NoneOf : ℕ → List Declared → Type 0
NoneOf n ds = AllByRecursion (λ (d : Declared). (d.node == n) ≡ false) ds

abbrev AreApart : ℕ → List Declared → Identifier → Type 0
AreApart n ds name = AllByRecursion (λ (d : Declared). (d.node == n && bytes_eq d.name name) ≡ false) ds

none_apart : (n : ℕ) (name : Identifier) (ds : List Declared) → NoneOf n ds → AreApart n ds name
none_apart n name [] ps = tt
none_apart n name (d ∷ ds) ps = (ap (λ (b : Bool). b && bytes_eq d.name name) ps.0, none_apart n name ds ps.1)

all_apart : (n : ℕ) (ds : List Declared) → NoneOf n ds → (names : List Identifier) → AllByRecursion (AreApart n ds) names
all_apart n ds ps [] = tt
all_apart n ds ps (name ∷ names) = (none_apart n name ds ps, all_apart n ds ps names)

one_more : (n : ℕ) (ds : List Declared) (d : Declared) (name : Identifier) → AreApart n ds name → bytes_eq d.name name ≡ false → AreApart n (ds ++ d ∷ []) name
one_more n [] d name ps other = (and_right (d.node == n) (bytes_eq d.name name) other, tt)
one_more n (x ∷ ds) d name ps other = (ps.0, one_more n ds d name ps.1 other)

all_more : (n : ℕ) (ds : List Declared) (d : Declared) (names : List Identifier) → AllByRecursion (AreApart n ds) names → AllByRecursion (λ name. bytes_eq d.name name ≡ false) names → AllByRecursion (AreApart n (ds ++ d ∷ [])) names
all_more n ds d [] ps others = tt
all_more n ds d (name ∷ names) ps others = (one_more n ds d name ps.0 others.0, all_more n ds d names ps.1 others.1)

-- ---- places

past : (n : ℕ) (name : Identifier) (k : ℕ) (xs ys : List Declared) → AreApart n xs name → declared_from k (xs ++ ys) n name ≡ declared_from (k + length xs) ys n name
past n name k [] ys ps = let same : k ≡ k + 0 = omega arith in ap (λ (m : ℕ). declared_from m ys n name) same
past n name k (x ∷ xs) ys ps =
    let same : suc k + length xs ≡ k + suc (length xs) = omega arith in
    ap (λ (b : Bool). if b then k else declared_from (suc k) (xs ++ ys) n name) ps.0
    ∙ past n name (suc k) xs ys ps.1
    ∙ ap (λ (m : ℕ). declared_from m ys n name) same

first_past : (n : ℕ) (k : ℕ) (xs ys : List Declared) (all : ℕ) → NoneOf n xs → first_from k (xs ++ ys) n all ≡ first_from (k + length xs) ys n all
first_past n k [] ys all ps = let same : k ≡ k + 0 = omega arith in ap (λ (m : ℕ). first_from m ys n all) same
first_past n k (x ∷ xs) ys all ps =
    let same : suc k + length xs ≡ k + suc (length xs) = omega arith in
    ap (λ (b : Bool). if b then k else first_from (suc k) (xs ++ ys) n all) ps.0
    ∙ first_past n (suc k) xs ys all ps.1
    ∙ ap (λ (m : ℕ). first_from m ys n all) same

module _ (f : File) (n : ℕ) where
  abbrev ds : List Declared
  ds = f.scope.declarations

  -- the declaration of the node by this name is the one at this place
  pub record IsAt (place : ℕ) (name : Identifier) : Type 0 where
    pub first : declared_from 0 f.scope.declarations n name ≡ place
    pub its : Declared
    pub there : slice_get f.scope.declarations place ≡ Some its
    pub own : its.node ≡ n

  -- those by these names follow one another from there on
  abbrev pub AreAt : ℕ → List Identifier → Type 0
  AreAt place [] = Unit {0}
  AreAt place (name ∷ names) = IsAt place name × AreAt (place + 1) names

  -- ---- from where they begin

  module _ (of_one : (name : Identifier) (own : ℕ) (e : Declared) → slice_get f.scope.declarations own ≡ Some e → e.node ≡ n → OpenOfOne f.scope.declarations n name e) where
    one_redefined : (place : ℕ) (name : Identifier) → IsAt place name → rules_of.is_redefined f n name ≡ is_redefined ds place (found ds name n)
    one_redefined place name at =
        ap (λ (k : ℕ). rules_of.is_redefined_at f n name k (slice_get ds k)) at.first
        ∙ ap (rules_of.is_redefined_at f n name place) at.there
        ∙ redefined_is n name place at.its ds at.there (of_one name place at.its at.there at.own)

    pub any_redefined : (place : ℕ) (names : List Identifier) → AreAt place names → list_any (rules_of.is_redefined f n) names ≡ has_redefined ds place (map (λ name. found ds name n) names)
    any_redefined place [] at = refl
    any_redefined place (name ∷ names) at =
        let inside : place < length ds = slice_get_within ds place at.0.its at.0.there in
        ap (λ (b : Bool). b || list_any (rules_of.is_redefined f n) names) (one_redefined place name at.0)
        ∙ ap (λ (b : Bool). is_redefined ds place (found ds name n) || b) (any_redefined (place + 1) names at.1)
        ∙ sym (ap (λ (b : Bool). b && (is_redefined ds place (found ds name n) || has_redefined ds (place + 1) (map (λ name. found ds name n) names))) (lt-ltb place (length ds) inside))

  -- ---- where they begin

  module _ (unit : Option ℕ) (scope : ℕ × ℕ) (ys : List Declared) where
    abbrev made : Identifier → Declared
    made name = record { name = name; node = n; from = scope.0; to = scope.1; unit = unit }

    abbrev own : List Identifier → List Declared
    own names = declared_as n unit (Some scope) names

    are_at : (xs : List Declared) (names : List Identifier) → ds ≡ xs ++ (own names ++ ys) → AllByRecursion (AreApart n xs) names → stands_twice names ≡ false → AreAt (length xs) names
    are_at xs [] e apart once = tt
    are_at xs (name ∷ names) e apart once =
        let parts = or_parts (list_any (bytes_eq name) names) (stands_twice names) once in
        let its : (n == n && bytes_eq name name) ≡ true = and_from (n == n) (bytes_eq name name) (eq-eqb n n refl) ((bytes_eq-Decides name name).1 refl) in
        let from : 0 + length xs ≡ length xs = omega arith in
        let size : length (xs ++ made name ∷ []) ≡ length xs + 1 = length-append xs (made name ∷ []) in
        let more : xs ++ (own (name ∷ names) ++ ys) ≡ (xs ++ made name ∷ []) ++ (own names ++ ys) = sym (append_assoc xs (made name ∷ []) (own names ++ ys)) in (
          record {
            first =
                ap (λ (l : List Declared). declared_from 0 l n name) e
                ∙ past n name 0 xs (own (name ∷ names) ++ ys) apart.0
                ∙ ap (λ (k : ℕ). declared_from k (own (name ∷ names) ++ ys) n name) from
                ∙ ap (λ (b : Bool). if b then length xs else declared_from (suc (length xs)) (own names ++ ys) n name) its;
            its = made name;
            there = ap (λ (l : List Declared). slice_get l (length xs)) e ∙ in_middle xs (made name) (own names ++ ys);
            own = refl;
          },
          subst (λ (k : ℕ). AreAt k names) size (are_at (xs ++ made name ∷ []) names (e ∙ more) (all_more n xs (made name) names apart.1 (any_false name names parts.0)) parts.1),
        )

    -- the first of them has the place that is noted
    first_is : (xs : List Declared) (name : Identifier) (names : List Identifier) → ds ≡ xs ++ (own (name ∷ names) ++ ys) → NoneOf n xs → first_from 0 ds n (length ds) ≡ length xs
    first_is xs name names e none =
        let from : 0 + length xs ≡ length xs = omega arith in
        ap (λ (l : List Declared). first_from 0 l n (length ds)) e
        ∙ first_past n 0 xs (own (name ∷ names) ++ ys) (length ds) none
        ∙ ap (λ (k : ℕ). first_from k (own (name ∷ names) ++ ys) n (length ds)) from
        ∙ ap (λ (b : Bool). if b then length xs else first_from (suc (length xs)) (own names ++ ys) n (length ds)) (eq-eqb n n refl)

    module _ (of_one : (name : Identifier) (own : ℕ) (e : Declared) → slice_get f.scope.declarations own ≡ Some e → e.node ≡ n → OpenOfOne f.scope.declarations n name e) where
      pub redefined_in_order : (xs : List Declared) (names : List Identifier) → ds ≡ xs ++ (own names ++ ys) → NoneOf n xs → stands_twice names ≡ false →
          list_any (rules_of.is_redefined f n) names ≡ has_redefined ds (first_from 0 ds n (length ds)) (map (λ name. found ds name n) names)
      redefined_in_order xs [] e none once = refl
      redefined_in_order xs (name ∷ names) e none once =
          any_redefined of_one (length xs) (name ∷ names) (are_at xs (name ∷ names) e (all_apart n xs none (name ∷ names)) once)
          ∙ ap (λ (k : ℕ). has_redefined ds k (map (λ name. found ds name n) (name ∷ names))) (sym (first_is xs name names e none))
