-- Rows of the grammar without the optional `;`: they are rows too.
use Rattle.std.proofs.Common.{◌≡◌, Bool, true, false, not, ◌&&◌, if◌then◌else◌, List, [], ◌∷◌, ◌++◌, refl, sym, ap, ◌∙◌, subst, inl, inr, rules}
use Rattle.std.specs.List.{list_all}
use Rattle.clu_lexer.specs.declared.symbols.Symbol.{Symbol}
use Rattle.clu_lexer.specs.declared.symbols.Symbol.TheVariants as s
use Rattle.clu_lexer.specs.contracts.symbols.Symbol.{the_type}
use Rattle.clu_grammar.specs.declared.items.Item.{Item}
use Rattle.clu_grammar.specs.declared.items.Item.TheVariants as item
use Rattle.clu_grammar.specs.declared.items.Nonterminal.{Nonterminal}
use Rattle.clu_grammar.specs.declared.items.Nonterminal.TheVariants as r
use Rattle.clu_grammar.specs.Choice.{has}
use Rattle.clu_grammar.specs.Grammar.{productions}
use Rattle.clu_grammar.specs.Language.{IsAlternative, IsOneOf}
use Rattle.clu_grammar.specs.Rows.{Production, take, peek, otherwise}
use Rattle.clu_grammar.proofs.Flags.{and_left, and_right, denied}
use Rattle.clu_printed.proofs.Kept.{is_optional}
use denote.Enum.Bare.{sameb, same_true}
use Rattle.std.proofs.lemmas.Bool.{cases_Bool}

abbrev pub stripped : List Item → List Item
stripped [] = []
stripped (item.Terminal x ∷ items) = if is_optional x then stripped items else item.Terminal x ∷ stripped items
stripped (item.Action a ∷ items) = item.Action a ∷ stripped items
stripped (item.Nonterminal n ∷ items) = item.Nonterminal n ∷ stripped items

pub stripped_gone : (x : Symbol) (items : List Item) → is_optional x ≡ true → stripped (item.Terminal x ∷ items) ≡ stripped items
stripped_gone x items gone = rw gone refl

pub stripped_left : (x : Symbol) (items : List Item) → is_optional x ≡ false → stripped (item.Terminal x ∷ items) ≡ item.Terminal x ∷ stripped items
stripped_left x items left = rw left refl

pub stripped-append : (xs ys : List Item) → stripped (xs ++ ys) ≡ stripped xs ++ stripped ys
stripped-append [] ys = refl
stripped-append (item.Terminal x ∷ xs) ys = elim (cases_Bool (is_optional x)) [
  | inl gone ↦ rw gone (stripped-append xs ys)
  | inr stays ↦ rw stays (ap (λ (zs : List Item). item.Terminal x ∷ zs) (stripped-append xs ys))
]
stripped-append (item.Action a ∷ xs) ys = ap (λ (zs : List Item). item.Action a ∷ zs) (stripped-append xs ys)
stripped-append (item.Nonterminal n ∷ xs) ys = ap (λ (zs : List Item). item.Nonterminal n ∷ zs) (stripped-append xs ys)

abbrev is_plain : List Item → Bool
is_plain [] = true
is_plain (item.Terminal x ∷ items) = not (is_optional x) && is_plain items
is_plain (item.Action a ∷ items) = is_plain items
is_plain (item.Nonterminal n ∷ items) = is_plain items

abbrev production_plain : Production → Bool
production_plain (take heads items) = not (has heads s.Semicolon) && is_plain items
production_plain (peek heads items) = is_plain items
production_plain (otherwise items) = is_plain items

pub semicolon_is : (x : Symbol) → is_optional x ≡ true → x ≡ s.Semicolon
semicolon_is x h = same_true the_type (search rules) x s.Semicolon h

plain_stripped : (items : List Item) → is_plain items ≡ true → stripped items ≡ items
plain_stripped [] h = refl
plain_stripped (item.Terminal x ∷ items) h = elim (cases_Bool (is_optional x)) [
  | inl gone ↦ absurd (denied (is_optional x) (and_left _ _ h) gone)
  | inr stays ↦ rw stays (ap (λ (zs : List Item). item.Terminal x ∷ zs) (plain_stripped items (and_right _ _ h)))
]
plain_stripped (item.Action a ∷ items) h = ap (λ (zs : List Item). item.Action a ∷ zs) (plain_stripped items h)
plain_stripped (item.Nonterminal n ∷ items) h = ap (λ (zs : List Item). item.Nonterminal n ∷ zs) (plain_stripped items h)

taken_stripped : (heads : List Symbol) (x : Symbol) (row : List Item) → (not (has heads s.Semicolon) && is_plain row) ≡ true → has heads x ≡ true → stripped (item.Terminal x ∷ row) ≡ item.Terminal x ∷ row
taken_stripped heads x row h one = elim (cases_Bool (is_optional x)) [
  | inl gone ↦ absurd (denied (has heads s.Semicolon) (and_left _ _ h) (subst (λ (y : Symbol). has heads y ≡ true) (semicolon_is x gone) one))
  | inr stays ↦ rw stays (ap (λ (zs : List Item). item.Terminal x ∷ zs) (plain_stripped row (and_right _ _ h)))
]

alternative_stripped : (p : Production) (alternative : List Item) → production_plain p ≡ true → IsAlternative p alternative → stripped alternative ≡ alternative
alternative_stripped (take heads row) alternative h is = subst (λ (y : List Item). stripped y ≡ y) (sym is.2) (taken_stripped heads is.0 row h is.1)
alternative_stripped (peek heads row) alternative h is = subst (λ (y : List Item). stripped y ≡ y) (sym is) (plain_stripped row h)
alternative_stripped (otherwise row) alternative h is = subst (λ (y : List Item). stripped y ≡ y) (sym is) (plain_stripped row h)

same_stripped : (ps : List Production) (alternative : List Item) → list_all production_plain ps ≡ true → IsOneOf ps alternative → stripped alternative ≡ alternative
same_stripped [] alternative h one = absurd one
same_stripped (p ∷ ps) alternative h (inl is) = alternative_stripped p alternative (and_left _ _ h) is
same_stripped (p ∷ ps) alternative h (inr one) = same_stripped ps alternative (and_right _ _ h) one

has_semicolon : (x : Symbol) → has (s.Semicolon ∷ []) x ≡ true → is_optional x ≡ true
has_semicolon x h = next (sameb the_type s.Semicolon x) refl h
  where
    next : (b : Bool) → sameb the_type s.Semicolon x ≡ b → has (s.Semicolon ∷ []) x ≡ true → is_optional x ≡ true
    next true is h = subst (λ (y : Symbol). is_optional y ≡ true) (same_true the_type (search rules) s.Semicolon x is) refl
    next false is h = let h' : false ≡ true = rw is at h in absurd (cc)

pub one_stripped : (n : Nonterminal) (alternative : List Item) → IsOneOf (productions n) alternative → IsOneOf (productions n) (stripped alternative)
one_stripped r.Semicolon alternative (inl is) =
    let gone : stripped (item.Terminal is.0 ∷ []) ≡ [] = rw (has_semicolon is.0 is.1) refl in
    inr (inl (ap stripped is.2 ∙ gone))
one_stripped r.Semicolon alternative (inr (inl is)) = inr (inl (ap stripped is))
one_stripped r.Semicolon alternative (inr (inr none)) = absurd none
one_stripped r.AfterStmt alternative (inl is) =
    let gone : stripped (item.Terminal is.0 ∷ item.Nonterminal r.AfterSemicolon ∷ []) ≡ item.Nonterminal r.AfterSemicolon ∷ [] = rw (has_semicolon is.0 is.1) refl in
    inr (inl (ap stripped is.2 ∙ gone))
one_stripped r.AfterStmt alternative (inr (inl is)) = inr (inl (ap stripped is))
one_stripped r.AfterStmt alternative (inr (inr none)) = absurd none
one_stripped n alternative one = subst (IsOneOf (productions n)) (sym (same_stripped (productions n) alternative refl one)) one
