-- The stack of the reader, whose first item is the last of the list.
use Rattle.std.proofs.Common.{◌≡◌, Bool, true, IsTrue, List, [], ◌∷◌, ◌++◌, Some, reverse, sym, ap, ◌∙◌, append_assoc}
use Rattle.std.proofs.lemmas.List.{reverse-append}
use Rattle.clu_lexer.specs.declared.symbols.Symbol.{Symbol}

pub some_is : (a b : Symbol) → Some a ≡ Some b → a ≡ b
some_is a b h = cc

pub flag_is : (b : Bool) → IsTrue b → b ≡ true
flag_is b h = h

-- the last of the row goes on the stack
pub pushed : {X : Type 0} (left rest stack : List X) (last : X) → left ≡ rest ++ last ∷ [] → rest ++ reverse (stack ++ last ∷ []) ≡ left ++ reverse stack
pushed left rest stack last is =
    ap (λ x. rest ++ x) (reverse-append stack (last ∷ [])) ∙ sym (append_assoc rest (last ∷ []) (reverse stack)) ∙ ap (λ x. x ++ reverse stack) (sym is)

-- the top of the stack comes first
pub popped : {X : Type 0} (old new : List X) (top : X) → old ≡ new ++ top ∷ [] → reverse old ≡ top ∷ reverse new
popped old new top is = ap reverse is ∙ reverse-append new (top ∷ [])
