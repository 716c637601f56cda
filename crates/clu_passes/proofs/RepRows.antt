-- In which rows of the grammar an equate may end without a name: what the items make of what is known of the nodes that have begun, and
-- the test that each row does so, which computes. Nothing rests on how the tables were found.
use Rattle.std.proofs.Common.{◌≡◌, ◌∙◌, ℕ, zero, suc, ◌&&◌, ◌==◌, not, cond, if◌then◌else◌, Bool, true, false, List, [], ◌∷◌, ◌++◌, Option, Some, None, refl, ap, sym, subst, inl, inr, rules}
use Rattle.std.specs.List.{list_all}
use Rattle.clu_lexer.specs.declared.symbols.Symbol.{Symbol}
use Rattle.clu_lexer.specs.contracts.symbols.Symbol.{the_type}
use Rattle.clu_tree.specs.declared.node.Node.{Node}
use Rattle.clu_grammar.specs.declared.items.Item.{Item}
use Rattle.clu_grammar.specs.declared.items.Item.TheVariants as item
use Rattle.clu_grammar.specs.declared.items.Nonterminal.{Nonterminal}
use Rattle.clu_grammar.specs.declared.items.Nonterminal.TheVariants as r
use Rattle.clu_grammar.specs.Choice.{has}
use Rattle.clu_grammar.specs.Grammar.{productions}
use Rattle.clu_grammar.specs.Language.{IsOneOf}
use Rattle.clu_grammar.specs.Rows.{Production, take, peek, otherwise}
use Rattle.clu_grammar.proofs.Flags.{and_left, and_right, implied}
use Rattle.clu_grammar.proofs.Tests.{implies}
use Rattle.clu_parser.specs.declared.begun.Begun.{Begun}
use Rattle.clu_parser.specs.Spellings.{is_idn}
use Rattle.clu_parser.proofs.Effects.{ends, tops_before}
use Rattle.clu_passes.proofs.RepNodes.{AreLevels, IsLevel, Level, stepped}
use denote.Enum.Bare.{sameb, same_true}

-- ---- what a nonterminal needs and does

-- the innermost node has a name
abbrev wants_name : Nonterminal → Bool
wants_name r.EquateRest = true
wants_name r.Definition = true
wants_name r.RoutineBodyIdn = true
wants_name r.BodyIdn = true
wants_name _ = false

-- the node round those that end has a whole one then, as far as a row rests on it
abbrev fills : Nonterminal → Bool
fills r.WordType = true
fills r.Operand = true
fills r.Atom = true
fills r.Primary = true
fills r.Unary = true
fills r.Dollar = true
fills r.AfterDollar = true
fills r.IdnExpr = true
fills r.BaseExpr = true
fills r.PostfixExpr = true
fills r.SelectorExpr = true
fills r.Pow = true
fills r.Mul = true
fills r.Add = true
fills r.Compare = true
fills r.And = true
fills _ = false

-- it may stand in a cluster
abbrev stands_in_cluster : Nonterminal → Bool
stands_in_cluster r.EquateRest = true
stands_in_cluster r.Semicolon = true
stands_in_cluster r.ClusterBody = true
stands_in_cluster r.ClusterDefinition = true
stands_in_cluster r.ClusterOwns = true
stands_in_cluster r.Routines = true
stands_in_cluster r.Routine = true
stands_in_cluster r.Proc = true
stands_in_cluster r.Iter = true
stands_in_cluster r.OwnRest = true
stands_in_cluster r.OwnOne = true
stands_in_cluster r.OwnMany = true
stands_in_cluster r.OwnEnd = true
stands_in_cluster _ = false

-- it makes equates of a cluster, which may have no name
abbrev makes_equates : Nonterminal → Bool
makes_equates r.ClusterBody = true
makes_equates r.ClusterDefinition = true
makes_equates _ = false

-- inside a cluster, or elsewhere
abbrev goes : Nonterminal → Bool → Bool
goes n true = stands_in_cluster n
goes n false = not (makes_equates n)

abbrev starting : ℕ → Bool → Bool → Bool → Bool → List Level
starting zero clean full wanted named = record { clean = clean; full = full; named = named } ∷ []
starting (suc k) clean full wanted named = record { clean = true; full = full; named = wanted } ∷ starting k clean false false named

-- before it: the nodes that end, and the one round them, which has a name or not
abbrev pub start : Nonterminal → Bool → Bool → List Level
start n in_cluster named = starting (ends n) (not in_cluster) (tops_before n == 1) (wants_name n && not in_cluster) named

-- that one after it
abbrev pub left : Nonterminal → Bool → Bool → Level
left n in_cluster named = record { clean = not in_cluster; full = fills n; named = named }

-- ---- what the items do

abbrev is_enough : Level → Level → Bool
is_enough l g = implies g.clean l.clean && (implies g.full l.full && implies g.named l.named)

-- what is known begins with what is asked for: the rest of it
abbrev pub behind : List Level → List Level → Option (List Level)
behind ls [] = Some ls
behind [] (g ∷ gs) = None
behind (l ∷ ls) (g ∷ gs) = let more : Option (List Level) = behind ls gs in cond (is_enough l g) more None

abbrev put : Level → Option (List Level) → Option (List Level)
put l None = None
put l (Some ls) = Some (l ∷ ls)

abbrev named_at : ℕ → List Level → Bool
named_at k [] = false
named_at zero (l ∷ ls) = l.named
named_at (suc k) (l ∷ ls) = named_at k ls

abbrev passed_so : Nonterminal → Bool → Bool → List Level → Option (List Level)
passed_so n in_cluster named ls = cond (goes n in_cluster) (put (left n in_cluster named) (behind ls (start n in_cluster named))) None

abbrev or_else : Option (List Level) → Option (List Level) → Option (List Level)
or_else (Some x) other = Some x
or_else None other = other

abbrev pub passed : Nonterminal → List Level → Option (List Level)
passed n ls = or_else (passed_so n false (named_at (ends n) ls) ls) (passed_so n true (named_at (ends n) ls) ls)

abbrev pub goes_on : Option (List Level) → (List Level → Bool) → Bool
goes_on None f = false
goes_on (Some ls) f = f ls

abbrev pub is_all : Option (List Level) → Bool
is_all (Some []) = true
is_all _ = false

abbrev pub leads : List Item → Bool → List Level → List Level → Bool
leads [] is_name ls goal = is_all (behind ls goal)
leads (item.Terminal x ∷ items) is_name ls goal = leads items (is_idn (Some x)) ls goal
leads (item.Action a ∷ items) is_name ls goal = goes_on (stepped a is_name ls) (λ next. leads items is_name next goal)
leads (item.Nonterminal n ∷ items) is_name ls goal = goes_on (passed n ls) (λ next. leads items false next goal)

abbrev rows_lead : List Level → List Level → List Production → Bool
rows_lead from goal [] = true
rows_lead from goal (take heads items ∷ ps) = list_all (λ x. leads items (is_idn (Some x)) from goal) heads && rows_lead from goal ps
rows_lead from goal (peek heads items ∷ ps) = leads items false from goal && rows_lead from goal ps
rows_lead from goal (otherwise items ∷ ps) = leads items false from goal && rows_lead from goal ps

abbrev leads_so : Nonterminal → Bool → Bool → Bool
leads_so n in_cluster named = implies (goes n in_cluster) (rows_lead (start n in_cluster named) (left n in_cluster named ∷ []) (productions n))

all_lead : (n : Nonterminal) → ((leads_so n false false && leads_so n false true) && (leads_so n true false && leads_so n true true)) ≡ true
all_lead r.File = refl
all_lead _ = refl

lead_so : (n : Nonterminal) (in_cluster named : Bool) → leads_so n in_cluster named ≡ true
lead_so n false false = and_left (leads_so n false false) (leads_so n false true) (and_left (leads_so n false false && leads_so n false true) (leads_so n true false && leads_so n true true) (all_lead n))
lead_so n false true = and_right (leads_so n false false) (leads_so n false true) (and_left (leads_so n false false && leads_so n false true) (leads_so n true false && leads_so n true true) (all_lead n))
lead_so n true false = and_left (leads_so n true false) (leads_so n true true) (and_right (leads_so n false false && leads_so n false true) (leads_so n true false && leads_so n true true) (all_lead n))
lead_so n true true = and_right (leads_so n true false) (leads_so n true true) (and_right (leads_so n false false && leads_so n false true) (leads_so n true false && leads_so n true true) (all_lead n))

-- ---- each row

head_all : (f : Symbol → Bool) (heads : List Symbol) (x : Symbol) → list_all f heads ≡ true → has heads x ≡ true → f x ≡ true
head_all f [] x h among = absurd (cc)
head_all f (y ∷ heads) x h among = by (sameb the_type y x) refl (head_all f heads x (and_right (f y) (list_all f heads) h))
  where
    by : (same : Bool) → sameb the_type y x ≡ same → (has heads x ≡ true → f x ≡ true) → f x ≡ true
    by true is later = subst (λ (z : Symbol). f z ≡ true) (same_true the_type (search rules) y x is) (and_left (f y) (list_all f heads) h)
    by false is later = later (sym (ap (λ (b : Bool). if b then true else has heads x) is) ∙ among)

row_of : (from goal : List Level) (ps : List Production) (row : List Item) → rows_lead from goal ps ≡ true → IsOneOf ps row → leads row false from goal ≡ true
row_of from goal [] row h one = absurd one
row_of from goal (take heads items ∷ ps) row h (inl is) =
    subst (λ (xs : List Item). leads xs false from goal ≡ true) (sym is.2)
    (head_all (λ x. leads items (is_idn (Some x)) from goal) heads is.0 (and_left (list_all (λ x. leads items (is_idn (Some x)) from goal) heads) (rows_lead from goal ps) h) is.1)
row_of from goal (take heads items ∷ ps) row h (inr one) = row_of from goal ps row (and_right (list_all (λ x. leads items (is_idn (Some x)) from goal) heads) (rows_lead from goal ps) h) one
row_of from goal (peek heads items ∷ ps) row h (inl is) = subst (λ (xs : List Item). leads xs false from goal ≡ true) (sym is) (and_left (leads items false from goal) (rows_lead from goal ps) h)
row_of from goal (peek heads items ∷ ps) row h (inr one) = row_of from goal ps row (and_right (leads items false from goal) (rows_lead from goal ps) h) one
row_of from goal (otherwise items ∷ ps) row h (inl is) = subst (λ (xs : List Item). leads xs false from goal ≡ true) (sym is) (and_left (leads items false from goal) (rows_lead from goal ps) h)
row_of from goal (otherwise items ∷ ps) row h (inr one) = row_of from goal ps row (and_right (leads items false from goal) (rows_lead from goal ps) h) one

-- what is known before a nonterminal, and after it
pub record IsPassed (n : Nonterminal) (ls next : List Level) : Type 0 where
  pub in_cluster : Bool
  pub named : Bool
  pub more : List Level
  pub fits : behind ls (start n in_cluster named) ≡ Some more
  pub is : left n in_cluster named ∷ more ≡ next
  pub rows : (row : List Item) → IsOneOf (productions n) row → leads row false (start n in_cluster named) (left n in_cluster named ∷ []) ≡ true

pub is_passed : (n : Nonterminal) (ls next : List Level) → passed n ls ≡ Some next → IsPassed n ls next
is_passed n ls next is = either (passed_so n false (named_at (ends n) ls) ls) refl is
  where
    there : (in_cluster named : Bool) (o : Option (List Level)) → goes n in_cluster ≡ true → behind ls (start n in_cluster named) ≡ o → put (left n in_cluster named) o ≡ Some next → IsPassed n ls next
    there in_cluster named None may was is = absurd (cc)
    there in_cluster named (Some more) may was is =
        record {
          in_cluster = in_cluster;
          named = named;
          more = more;
          fits = was;
          is = cc;
          rows = λ row. row_of (start n in_cluster named) (left n in_cluster named ∷ []) (productions n) row
              (implied (goes n in_cluster) (rows_lead (start n in_cluster named) (left n in_cluster named ∷ []) (productions n)) (lead_so n in_cluster named) may);
        }

    may_go : (in_cluster named : Bool) (test : Bool) → goes n in_cluster ≡ test → cond test (put (left n in_cluster named) (behind ls (start n in_cluster named))) None ≡ Some next → IsPassed n ls next
    may_go in_cluster named true may is = there in_cluster named (behind ls (start n in_cluster named)) may refl is
    may_go in_cluster named false may is = absurd (cc)

    either : (o : Option (List Level)) → passed_so n false (named_at (ends n) ls) ls ≡ o → or_else o (passed_so n true (named_at (ends n) ls) ls) ≡ Some next → IsPassed n ls next
    either (Some x) was is = may_go false (named_at (ends n) ls) (goes n false) refl (was ∙ is)
    either None was is = may_go true (named_at (ends n) ls) (goes n true) refl is

-- ---- what is known is enough

turned : (nodes : List Node) (l g : Level) (o : Begun) (own : List ℕ) → is_enough l g ≡ true → IsLevel nodes l o own → IsLevel nodes g o own
turned nodes l g o own enough x =
    let rest : (implies g.full l.full && implies g.named l.named) ≡ true = and_right (implies g.clean l.clean) (implies g.full l.full && implies g.named l.named) enough in
    record {
      clean = λ e. x.clean (implied g.clean l.clean (and_left (implies g.clean l.clean) (implies g.full l.full && implies g.named l.named) enough) e);
      full = λ e. x.full (implied g.full l.full (and_left (implies g.full l.full) (implies g.named l.named) rest) e);
      named = λ e. x.named (implied g.named l.named (and_right (implies g.full l.full) (implies g.named l.named) rest) e);
    }

pub behind_is : (nodes : List Node) (ls gs more rest : List Level) (all : List Begun) (tops : List ℕ) → behind ls gs ≡ Some more → AreLevels nodes (ls ++ rest) all tops → AreLevels nodes (gs ++ (more ++ rest)) all tops
behind_is nodes ls [] more rest all tops is known = let same : ls ≡ more = cc in subst (λ (xs : List Level). AreLevels nodes (xs ++ rest) all tops) same known
behind_is nodes [] (g ∷ gs) more rest all tops is known = absurd (cc)
behind_is nodes (l ∷ ls) (g ∷ gs) more rest [] tops is known = absurd known
behind_is nodes (l ∷ ls) (g ∷ gs) more rest (o ∷ os) tops is known = by (is_enough l g) refl is (λ e. behind_is nodes ls gs more rest os known.0 e known.5)
  where
    by : (test : Bool) → is_enough l g ≡ test → cond test (behind ls gs) None ≡ Some more → (behind ls gs ≡ Some more → AreLevels nodes (gs ++ (more ++ rest)) os known.0) → AreLevels nodes (g ∷ (gs ++ (more ++ rest))) (o ∷ os) tops
    by true enough is later = (known.0, known.1, known.2, known.3, turned nodes l g o known.1 enough known.4, later is)
    by false enough is later = absurd (cc)
