-- Where a node begins, and where a name, a value or a base is noted, the last token is no optional `;`: a test of the
-- grammar's table.
use Rattle.std.proofs.Common.{◌≡◌, Bool, true, false, not, ◌&&◌, List, [], ◌∷◌, ◌++◌, refl, sym, subst, inl, inr}
use Rattle.std.specs.List.{list_all}
use Rattle.std.proofs.lemmas.Bool.{and_from}
use Rattle.clu_grammar.specs.declared.items.Action.{Action}
use Rattle.clu_grammar.specs.declared.items.Action.TheVariants as action
use Rattle.clu_grammar.specs.declared.items.Item.{Item}
use Rattle.clu_grammar.specs.declared.items.Item.TheVariants as item
use Rattle.clu_grammar.specs.declared.items.Nonterminal.{Nonterminal}
use Rattle.clu_grammar.specs.declared.items.Nonterminal.TheVariants as r
use Rattle.clu_grammar.specs.Grammar.{productions}
use Rattle.clu_grammar.specs.Language.{IsOneOf}
use Rattle.clu_grammar.specs.Rows.{Production, take, peek, otherwise}
use Rattle.clu_grammar.proofs.Flags.{and_left, and_right, implied}
use Rattle.clu_grammar.proofs.Tests.{implies}
use Rattle.clu_printed.proofs.Neighbours.{all_has}
use Rattle.clu_printed.proofs.Kept.{is_optional}

abbrev pub asks : Action → Bool
asks action.Open = true
asks action.Note = true
asks action.Base = true
asks _ = false

abbrev wants : Nonterminal → Bool
wants r.OperIdn = true
wants _ = false

-- whenever an action asks, a token that is left was the last one; before the items it is known to be so, or not
abbrev pub quiet : Bool → List Item → Bool
quiet known [] = true
quiet known (item.Terminal x ∷ items) = quiet (not (is_optional x)) items
quiet known (item.Action a ∷ items) = implies (asks a) known && quiet known items
quiet known (item.Nonterminal n ∷ items) = implies (wants n) known && quiet false items

abbrev production_quiet : Bool → Production → Bool
production_quiet known (take heads items) = list_all (λ x. quiet (not (is_optional x)) items) heads
production_quiet known (peek heads items) = quiet known items
production_quiet known (otherwise items) = quiet known items

all_quiet : (n : Nonterminal) → list_all (production_quiet (wants n)) (productions n) ≡ true
all_quiet r.File = refl
all_quiet _ = refl

implied_more : (a b : Bool) → implies a false ≡ true → implies a b ≡ true
implied_more true b h = absurd (cc)
implied_more false b h = refl

quiet_more : (known : Bool) (items : List Item) → quiet false items ≡ true → quiet known items ≡ true
quiet_more known [] h = refl
quiet_more known (item.Terminal x ∷ items) h = h
quiet_more known (item.Action a ∷ items) h = and_from _ _ (implied_more (asks a) known (and_left _ _ h)) (quiet_more known items (and_right _ _ h))
quiet_more known (item.Nonterminal n ∷ items) h = and_from _ _ (implied_more (wants n) known (and_left _ _ h)) (and_right _ _ h)

quiet_known : (want known : Bool) (items : List Item) → implies want known ≡ true → quiet want items ≡ true → quiet known items ≡ true
quiet_known true known items h k = subst (λ (b : Bool). quiet b items ≡ true) (sym (implied true known h refl)) k
quiet_known false known items h k = quiet_more known items k

quiet-append : (known : Bool) (row items : List Item) → quiet known row ≡ true → quiet false items ≡ true → quiet known (row ++ items) ≡ true
quiet-append known [] items h k = quiet_more known items k
quiet-append known (item.Terminal x ∷ row) items h k = quiet-append (not (is_optional x)) row items h k
quiet-append known (item.Action a ∷ row) items h k = and_from _ _ (and_left _ _ h) (quiet-append known row items (and_right _ _ h) k)
quiet-append known (item.Nonterminal n ∷ row) items h k = and_from _ _ (and_left _ _ h) (quiet-append false row items (and_right _ _ h) k)

alternative_quiet : (known : Bool) (ps : List Production) (alternative : List Item) → list_all (production_quiet known) ps ≡ true → IsOneOf ps alternative → quiet known alternative ≡ true
alternative_quiet known [] alternative h one = absurd one
alternative_quiet known (p ∷ ps) alternative h (inr one) = alternative_quiet known ps alternative (and_right _ _ h) one
alternative_quiet known (take heads row ∷ ps) alternative h (inl is) =
    subst (λ (y : List Item). quiet known y ≡ true) (sym is.2) (all_has (λ x. quiet (not (is_optional x)) row) heads is.0 (and_left _ _ h) is.1)
alternative_quiet known (peek heads row ∷ ps) alternative h (inl is) = subst (λ (y : List Item). quiet known y ≡ true) (sym is) (and_left _ _ h)
alternative_quiet known (otherwise row ∷ ps) alternative h (inl is) = subst (λ (y : List Item). quiet known y ≡ true) (sym is) (and_left _ _ h)

pub row_quiet : (n : Nonterminal) (known : Bool) (alternative items : List Item) → IsOneOf (productions n) alternative → quiet known (item.Nonterminal n ∷ items) ≡ true → quiet known (alternative ++ items) ≡ true
row_quiet n known alternative items one h =
    quiet-append known alternative items (quiet_known (wants n) known alternative (and_left _ _ h) (alternative_quiet (wants n) (productions n) alternative (all_quiet n) one)) (and_right _ _ h)
