-- An abstract run of the grammar: what the items make of the forms of the nodes that have begun, the innermost first.
-- The last form is what is known of the end of a node's form.
use Rattle.std.proofs.Common.{ℕ, ◌&&◌, ◌==◌, not, Bool, true, false, cond, List, [], ◌∷◌, ◌++◌, map, Option, Some, None}
use Rattle.std.specs.List.{list_all, list_any}
use Rattle.clu_lexer.specs.declared.symbols.Symbol.{Symbol}
use Rattle.clu_lexer.specs.declared.symbols.Symbol.TheVariants as s
use Rattle.clu_lexer.specs.contracts.symbols.Symbol.{the_type}
use Rattle.clu_tree.specs.declared.node.NodeKind.{NodeKind}
use Rattle.clu_tree.specs.declared.node.NodeKind.TheVariants as k
use Rattle.clu_tree.specs.contracts.node.NodeKind.{the_type as kind_type}
use Rattle.clu_grammar.specs.declared.items.Action.{Action}
use Rattle.clu_grammar.specs.declared.items.Action.TheVariants as action
use Rattle.clu_grammar.specs.declared.items.Nonterminal.{Nonterminal}
use Rattle.clu_grammar.specs.declared.items.Nonterminal.TheVariants as r
use Rattle.clu_parser.specs.Shape.{one, Part, token, name, value, child, many, maybe, parts_of, forms}
use Rattle.clu_parser.proofs.Words.{Ended, last_token, Parted, last_child}
use Rattle.clu_parser.proofs.Fits.{fits}
use denote.Enum.Bare.{sameb}

-- what is known of the tokens to come: nothing; whether the square bracket that is open closes before a `$`; whether a
-- `$` comes next
pub data Known : Type 0 where
  nothing_known : Known
  in_bracket : Bool → Known
  at_dollar : Bool → Known

-- what a nonterminal needs and does: the forms of the innermost nodes, which end in it; what the form of the node round
-- them ends with, from its last child on; and what is there instead, in one of these ways
pub record Typing : Type 0 where
  pub when : Known
  pub takes : List (List Part)
  pub from : List Part
  pub gives : List (List Part)

-- how many more square brackets a nonterminal closes than it opens
abbrev pub shuts : Nonterminal → ℕ
shuts r.IndexStmt = 1
shuts r.IndexTypeStmt = 1
shuts r.IndexOneStmt = 1
shuts r.BaseIndexStmt = 1
shuts r.BaseIndexTypeStmt = 1
shuts r.BaseIndexOneStmt = 1
shuts _ = 0

abbrev pub deep : ℕ
deep = 60

abbrev pub is_one_of : List Part → List (List Part) → Bool
is_one_of ps goals = list_any (λ g. fits deep ps g) goals

abbrev pub same_flag : Bool → Bool → Bool
same_flag true b = b
same_flag false b = not b

-- what is asked for is known
abbrev pub is_known : Known → Known → Bool
is_known nothing_known _ = true
is_known (in_bracket a) (in_bracket b) = same_flag a b
is_known (at_dollar a) (at_dollar b) = same_flag a b
is_known _ _ = false

-- what is known after a token
abbrev pub passed : Symbol → Known → Known
passed x (in_bracket b) = cond (sameb the_type x s.LeftBracket) nothing_known (cond (sameb the_type x s.RightBracket) (at_dollar b) (in_bracket b))
passed x _ = nothing_known

-- and after a nonterminal
abbrev pub kept : Nonterminal → Known → Known
kept n (in_bracket b) = cond (shuts n == 0) (in_bracket b) nothing_known
kept n _ = nothing_known

abbrev pub push : Part → List (List Part) → List (List Part)
push p [] = []
push p (a ∷ forms) = (a ++ p ∷ []) ∷ forms

-- the form has a token, a name, a value or a child
abbrev pub has_letter_in : Part → Bool
has_letter_in (many g) = false
has_letter_in (maybe g) = false
has_letter_in _ = true

abbrev pub has_letter : List Part → Bool
has_letter ps = list_any has_letter_in ps

abbrev pub is_childless_part : Part → Bool
is_childless_part (token x) = true
is_childless_part name = true
is_childless_part (value xs) = true
is_childless_part _ = false

-- the form has no child
abbrev pub is_childless : List Part → Bool
is_childless ps = list_all is_childless_part ps

abbrev pub last_is_child : List Part → Bool
last_is_child [] = false
last_is_child (child c ∷ []) = true
last_is_child (p ∷ []) = false
last_is_child (p ∷ q ∷ ps) = last_is_child (q ∷ ps)

-- the words end with a child, if what stands before does or does not
abbrev pub ends_with_child : List Part → Bool → Bool
ends_with_child [] b = b
ends_with_child (child c ∷ ps) b = ends_with_child ps true
ends_with_child (many g ∷ ps) b = ends_with_child ps (b && last_is_child (parts_of g))
ends_with_child (_ ∷ ps) b = ends_with_child ps false

-- the form without the tokens at its end, and these
pub record Cut : Type 0 where
  pub whole : List Part
  pub rest : List Part

abbrev pub cut_under : Part → List Part → List Part → Cut
cut_under (token x) [] rest = record { whole = []; rest = token x ∷ rest }
cut_under p whole rest = record { whole = p ∷ whole; rest = rest }

abbrev pub cut : List Part → Cut
cut [] = record { whole = []; rest = [] }
cut (p ∷ ps) = cut_under p (cut ps).whole (cut ps).rest

abbrev pub is_silent_part : Part → Bool
is_silent_part (token x) = true
is_silent_part name = true
is_silent_part (child c) = true
is_silent_part _ = false

abbrev pub is_silent_in : Part → Bool
is_silent_in (many g) = list_all is_silent_part (parts_of g)
is_silent_in p = is_silent_part p

-- the form has no value, and nothing that may have one
abbrev pub is_silent : List Part → Bool
is_silent ps = list_all is_silent_in ps

abbrev pub noted : List Part → Symbol → List Part
noted front x = front ++ cond (sameb the_type x s.Idn) name (value (x ∷ [])) ∷ []

abbrev pub opened : Option Ended → List (List Part) → Option (List (List Part))
opened None forms = None
opened (Some e) forms = Some ((token e.last ∷ []) ∷ e.before ∷ forms)

abbrev pub noted_in : Option Ended → List (List Part) → Option (List (List Part))
noted_in None forms = None
noted_in (Some e) forms = Some (noted e.before e.last ∷ forms)

abbrev pub wrapped : Option Parted → List (List Part) → Option (List (List Part))
wrapped None forms = None
wrapped (Some e) forms = Some ((child e.last ∷ e.after) ∷ e.before ∷ forms)

-- a node that ends with its last child leaves the tokens after it to the node round it
abbrev pub is_whole : NodeKind → List Part → Bool
is_whole kind ps = is_one_of ps (forms kind) && has_letter ps

abbrev pub closed : NodeKind → List Part → List Part → List (List Part) → Option (List (List Part))
closed kind a b rest = cond (is_whole kind a) (Some ((b ++ child (one kind) ∷ []) ∷ rest)) None

abbrev pub closed_after : List Part → List Part → List (List Part) → Cut → Option (List (List Part))
closed_after a b rest c =
    cond (is_childless a) (closed k.Restrict a b rest)
    (cond (is_whole k.Restrict c.whole && ends_with_child c.whole false) (Some ((b ++ child (one k.Restrict) ∷ c.rest) ∷ rest)) None)

abbrev pub given : List Part → List Part → List (List Part) → Option (List (List Part))
given a b rest = cond (is_silent a) (Some ((b ++ a) ∷ rest)) None

-- what an action does to the forms; Base apart
abbrev pub acted : Action → List (List Part) → Option (List (List Part))
acted action.Open [] = None
acted action.Open (a ∷ rest) = opened (last_token a) rest
acted action.Note [] = None
acted action.Note (a ∷ rest) = noted_in (last_token a) rest
acted action.Wrap [] = None
acted action.Wrap (a ∷ rest) = wrapped (last_child a) rest
acted (action.Close kind) [] = None
acted (action.Close kind) (a ∷ []) = None
acted (action.Close kind) (a ∷ b ∷ rest) = cond (sameb kind_type kind k.Restrict) (closed_after a b rest (cut a)) (closed kind a b rest)
acted action.Give [] = None
acted action.Give (a ∷ []) = None
acted action.Give (a ∷ b ∷ rest) = given a b rest
acted action.Base _ = None

abbrev pub named_before : Option Ended → List (List Part) → Option (List (List Part))
named_before None rest = None
named_before (Some e) rest = cond (fits deep e.before (name ∷ []) && sameb the_type e.last s.LeftBracket) (Some ((child (one k.Name) ∷ token e.last ∷ []) ∷ rest)) None

-- the name before a bracket becomes a node that the innermost one holds
abbrev pub based : List (List Part) → Option (List (List Part))
based [] = None
based (a ∷ []) = None
based (a ∷ b ∷ rest) = named_before (last_token a) (b ∷ rest)

abbrev pub joined : List Part → List (List Part) → List (List Part) → Option (List (List (List Part)))
joined front gives rest = Some (map (λ g. (front ++ g) ∷ rest) gives)

abbrev pub parted_from : List Part → Option Parted → List (List Part) → List (List Part) → Option (List (List (List Part)))
parted_from from None gives rest = None
parted_from from (Some e) gives rest = cond (fits deep (child e.last ∷ e.after) from) (joined e.before gives rest) None

abbrev pub below : List Part → List Part → List (List Part) → List (List Part) → Option (List (List (List Part)))
below [] a gives rest = joined a gives rest
below (p ∷ ps) a gives rest = parted_from (p ∷ ps) (last_child a) gives rest

-- what a nonterminal makes of the forms, in one of these ways
abbrev pub applied_to : List (List Part) → List Part → List (List Part) → List (List Part) → Option (List (List (List Part)))
applied_to _ from gives [] = None
applied_to [] from gives (a ∷ rest) = below from a gives rest
applied_to (t ∷ takes) from gives (a ∷ rest) = let more : Option (List (List (List Part))) = applied_to takes from gives rest in cond (fits deep a t) more None

abbrev pub applied : Typing → Known → List (List Part) → Option (List (List (List Part)))
applied t known forms = cond (is_known t.when known) (applied_to t.takes t.from t.gives forms) None

abbrev pub or_else : Option (List (List (List Part))) → Option (List (List (List Part))) → Option (List (List (List Part)))
or_else (Some x) other = Some x
or_else None other = other

abbrev pub applied_one : List Typing → Known → List (List Part) → Option (List (List (List Part)))
applied_one [] known forms = None
applied_one (t ∷ ts) known forms = let other : Option (List (List (List Part))) = applied_one ts known forms in or_else (applied t known forms) other
