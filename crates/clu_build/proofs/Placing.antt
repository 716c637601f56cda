-- What a library keeps of a name once a body was entered.
use Rattle.std.proofs.Common.{◌≡◌, ◌⊎◌, inl, inr, ℕ, suc, Bool, true, false, not, List, [], ◌∷◌, Contains, find, option_map, Option, Some, refl, sym, ap, ◌∙◌, subst, true≢false, arith}
use Rattle.std.specs.List.{filter, list_any}
use Rattle.std.specs.Ordering.{is_eq}
use Rattle.std.specs.Str.{bytes_eq}
use Rattle.std.proofs.lemmas.List.Folds.{list_any_at}
use Rattle.std.proofs.lemmas.Map.Text.{is_eq-slice_cmp}
use Rattle.std.specs.declared.cmp.Ordering.{Ordering}
use Rattle.std.specs.declared.cmp.Ordering.TheVariants.{Less, Equal, Greater}
use Rattle.clu_base.proofs.Lists.{same_bytes, as_bytes}
use Rattle.clu_library.specs.ByName.{placed, with_item}
use Rattle.clu_library.specs.Contents.{Contents, body_of, checked_at, has, with_body}
use Rattle.clu_library.specs.Replacing.{AreLeft}
use Rattle.clu_library.specs.declared.body.Body.{Body}
use Rattle.clu_library.specs.declared.body.ModuleBody.{ModuleBody}
use Rattle.clu_library.specs.declared.program.Program.{Program}
use Rattle.clu_types.specs.Specs.{name_order}

-- the first item of a name
abbrev pub named : {X : Type 0} → (X → List ℕ) → List ℕ → List X → Option X
named name_of name xs = find (λ x. bytes_eq (name_of x) name) xs

same_name : (m n : List ℕ) → name_order m n ≡ Equal → m ≡ n
same_name m n e = same_bytes m n (sym (is_eq-slice_cmp m n) ∙ ap is_eq e)

module _ {X : Type 0} (name_of : X → List ℕ) (name : List ℕ) where
  -- of another name the same is found as before
  item_other : (xs : List X) (y : X) → bytes_eq (name_of y) name ≡ false → named name_of name (with_item name_of xs y) ≡ named name_of name xs
  item_other [] y other = rw other refl
  item_other (x ∷ xs) y other = by (name_order (name_of x) (name_of y)) refl (item_other xs y other)
    where
      further : (b : Bool) → bytes_eq (name_of x) name ≡ b → named name_of name (with_item name_of xs y) ≡ named name_of name xs → named name_of name (x ∷ with_item name_of xs y) ≡ named name_of name (x ∷ xs)
      further true e behind = rw e refl
      further false e behind = rw e behind

      by : (o : Ordering) → name_order (name_of x) (name_of y) ≡ o → named name_of name (with_item name_of xs y) ≡ named name_of name xs → named name_of name (placed o y x xs (with_item name_of xs y)) ≡ named name_of name (x ∷ xs)
      by Less e behind = further (bytes_eq (name_of x) name) refl behind
      by Equal e behind =
          let too : bytes_eq (name_of x) name ≡ false = ap (λ m. bytes_eq m name) (same_name (name_of x) (name_of y) e) ∙ other in
          rw other (rw too refl)
      by Greater e behind = rw other refl

  -- of its own name it is found
  item_this : (xs : List X) (y : X) → name_of y ≡ name → named name_of name (with_item name_of xs y) ≡ Some y
  item_this [] y this = rw (as_bytes (name_of y) name this) refl
  item_this (x ∷ xs) y this = by (name_order (name_of x) (name_of y)) refl (item_this xs y this)
    where
      here : bytes_eq (name_of y) name ≡ true
      here = as_bytes (name_of y) name this

      apart : name_order (name_of x) (name_of y) ≡ Less → (b : Bool) → bytes_eq (name_of x) name ≡ b → b ≡ false
      apart e true equal =
          let order : is_eq (name_order (name_of x) (name_of y)) ≡ true = is_eq-slice_cmp (name_of x) (name_of y) ∙ ap (bytes_eq (name_of x)) this ∙ equal in
          absurd (true≢false (sym order ∙ ap is_eq e))
      apart e false equal = refl

      by : (o : Ordering) → name_order (name_of x) (name_of y) ≡ o → named name_of name (with_item name_of xs y) ≡ Some y → named name_of name (placed o y x xs (with_item name_of xs y)) ≡ Some y
      by Less e behind = rw (apart e (bytes_eq (name_of x) name) refl) behind
      by Equal e behind = rw here refl
      by Greater e behind = rw here refl

pub body_this : (library : Contents) (name : List ℕ) (b : Body) → body_of (with_body library name b) name ≡ Some (checked_at library.revision b)
body_this library name b = ap (option_map (λ (x : ModuleBody). x.body)) (item_this (λ (x : ModuleBody). x.name) name library.bodies (record { name = name; body = checked_at library.revision b }) refl)

pub body_other : (library : Contents) (name q : List ℕ) (b : Body) → bytes_eq name q ≡ false → body_of (with_body library name b) q ≡ body_of library q
body_other library name q b other = ap (option_map (λ (x : ModuleBody). x.body)) (item_other (λ (x : ModuleBody). x.name) q library.bodies (record { name = name; body = checked_at library.revision b }) other)

-- whether a program has a module
pub has_listed : (p : Program) (name : List ℕ) → Contains p.modules name → has p name ≡ true
has_listed p name h = list_any_at (λ m. bytes_eq m name) p.modules h.0 name h.1 (as_bytes _ name h.2)

listed_in : (names : List (List ℕ)) (name : List ℕ) → list_any (λ m. bytes_eq m name) names ≡ true → Contains names name
listed_in [] name e = absurd (true≢false (sym e))
listed_in (x ∷ xs) name e = by (bytes_eq x name) refl (λ rest. listed_in xs name rest)
  where
    by : (b : Bool) → bytes_eq x name ≡ b → (list_any (λ m. bytes_eq m name) xs ≡ true → Contains xs name) → Contains (x ∷ xs) name
    by true this further = (0, omega arith, same_bytes x name this)
    by false other further = let it = further (sym (rw other refl) ∙ e) in (suc it.0, omega (arith, it.1), it.2)

pub listed_of : (p : Program) (name : List ℕ) → has p name ≡ true → Contains p.modules name
listed_of p name e = listed_in p.modules name e

-- what is left of programs, if a test leaves some of those out that are left
pub left_filtered : (P Q : Program → Type 0) (test : Program → Bool) → ((p : Program) → P p → Q p) → ((p : Program) → test p ≡ true → Q p) → ((p : Program) → Q p → P p ⊎ (test p ≡ true))
    → (ps left : List Program) → AreLeft P ps left → AreLeft Q ps (filter (λ p. not (test p)) left)
left_filtered P Q test more gone cases [] left none = ap (filter (λ p. not (test p))) none
left_filtered P Q test more gone cases (p ∷ ps) left (inl out) = inl (more p out.0, left_filtered P Q test more gone cases ps left out.1)
left_filtered P Q test more gone cases (p ∷ ps) left (inr stays) = by (test p) refl (left_filtered P Q test more gone cases ps stays.1.0 stays.1.2)
  where
    never : test p ≡ false → P p ⊎ (test p ≡ true) → ⊥
    never e (inl h) = stays.0 h
    never e (inr h) = true≢false (sym h ∙ e)

    by : (b : Bool) → test p ≡ b → AreLeft Q ps (filter (λ p. not (test p)) stays.1.0) → AreLeft Q (p ∷ ps) (filter (λ p. not (test p)) left)
    by true e behind =
        let is : filter (λ p. not (test p)) left ≡ filter (λ p. not (test p)) stays.1.0 = ap (filter (λ p. not (test p))) stays.1.1 ∙ rw e refl in
        inl (gone p e, subst (AreLeft Q ps) (sym is) behind)
    by false e behind =
        let is : filter (λ p. not (test p)) left ≡ p ∷ filter (λ p. not (test p)) stays.1.0 = ap (filter (λ p. not (test p))) stays.1.1 ∙ rw e refl in
        inr ((λ h. never e (cases p h)), (filter (λ p. not (test p)) stays.1.0, is, behind))

pub left_same : (P Q : Program → Type 0) → ((p : Program) → P p → Q p) → ((p : Program) → Q p → P p) → (ps left : List Program) → AreLeft P ps left → AreLeft Q ps left
left_same P Q more less [] left none = none
left_same P Q more less (p ∷ ps) left (inl out) = inl (more p out.0, left_same P Q more less ps left out.1)
left_same P Q more less (p ∷ ps) left (inr stays) = inr ((λ h. stays.0 (less p h)), (stays.1.0, stays.1.1, left_same P Q more less ps stays.1.0 stays.1.2))
