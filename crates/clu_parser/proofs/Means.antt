-- What the reader has and what reading the rest will take: no action is asked for more than there is.
use Rattle.std.proofs.Common.{◌≡◌, ℕ, ◌+◌, ◌-◌, ◌<◌, ◌≤◌, ◌⊎◌, Bool, true, false, not, ◌||◌, cond, List, [], ◌∷◌, ◌++◌, length, Option, Some, slice_get, refl, sym, subst, inl, inr, arith}
use Rattle.std.proofs.lemmas.Bool.{cases_Bool}
use Rattle.clu_lexer.specs.declared.symbols.Symbol.{Symbol}
use Rattle.clu_grammar.specs.declared.items.Action.{Action}
use Rattle.clu_grammar.specs.declared.items.Item.{Item}
use Rattle.clu_grammar.specs.declared.items.Item.TheVariants as item
use Rattle.clu_grammar.specs.declared.items.Nonterminal.{Nonterminal}
use Rattle.clu_grammar.specs.declared.items.Nonterminal.TheVariants as r
use Rattle.clu_lexer.specs.declared.symbols.Symbol.TheVariants as symbol
use Rattle.clu_tree.specs.declared.node.NodeKind.TheVariants as k
use Rattle.clu_grammar.specs.Choice.{step, Take, Go, is_among}
use Rattle.clu_grammar.specs.Rows.{begin, note, close, t as t', n as n'}
use Rattle.clu_grammar.specs.Grammar.{productions}
use Rattle.clu_grammar.specs.Language.{whole}
use Rattle.clu_grammar.proofs.Flags.{and_left, and_right}
use Rattle.clu_grammar.proofs.Tests.{implies}
use Rattle.clu_grammar.proofs.Weights.{measure, smaller_terminal, smaller_action, smaller_take, smaller_go}
use Rattle.clu_parser.specs.Steps.{spent, allowance}
use Rattle.clu_parser.specs.Trees.{Text, Built, acted, nothing_built}
use Rattle.clu_parser.proofs.Acting.{acted_costs}
use Rattle.clu_parser.proofs.Reading.{CanRead, can_read_row, tops_after, tops_after-keeps, notes, may_note, once, once_row, notes_row, held_step}
use Rattle.clu_parser.proofs.Sizes.{token_len, bytes_left, bytes_left_more}

-- the bytes of the symbol taken last, if it may be noted
abbrev pub owed : Text → List Item → ℕ → ℕ
owed s items at = cond (may_note items) (token_len s (at - 1)) 0

pub record HasMeans (s : Text) (items : List Item) (at : ℕ) (b : Built) : Type 0 where
  -- one, once there has been a whole node
  pub tops : ℕ
  pub small : tops ≤ 1
  pub there : tops ≤ length b.tops
  pub reads : CanRead items (length b.begun) tops
  pub once_noted : once items ≡ true
  pub taken : (items ≡ whole) ⊎ (0 < at)
  pub nodes_paid : length b.nodes + measure s.symbols at items ≤ allowance s
  pub paid : spent s b + measure s.symbols at items + bytes_left s at + owed s items at ≤ allowance s

pub means_none : (s : Text) → HasMeans s whole 0 nothing_built
means_none s =
    record {
      tops = 0;
      small = omega arith;
      there = omega arith;
      reads = (omega arith, omega arith, tt);
      once_noted = refl;
      taken = inl refl;
      nodes_paid = omega arith;
      paid = omega arith;
    }

owed-le : (s : Text) (items : List Item) (at : ℕ) → owed s items (at + 1) ≤ token_len s at
owed-le s items at = let same : at + 1 - 1 ≡ at = omega arith in subst (λ (k : ℕ). cond (may_note items) (token_len s k) 0 ≤ token_len s at) (sym same) (pick (may_note items) (token_len s at))
  where
    pick : (b : Bool) (n : ℕ) → cond b n 0 ≤ n
    pick true n = omega arith
    pick false n = omega arith

-- one symbol more
pub means_terminal : (s : Text) (x : Symbol) (items : List Item) (at : ℕ) (b : Built) → HasMeans s (item.Terminal x ∷ items) at b → slice_get s.symbols at ≡ Some x → HasMeans s items (at + 1) b
means_terminal s x items at b known is =
    record {
      tops = known.tops;
      small = known.small;
      there = known.there;
      reads = known.reads;
      once_noted = known.once_noted;
      taken = inr (omega arith);
      nodes_paid = omega (arith, known.nodes_paid, smaller_terminal s.symbols at x items is);
      paid = omega (arith, known.paid, smaller_terminal s.symbols at x items is, bytes_left_more s at, owed-le s items at);
    }

pub means_take : (s : Text) (n : Nonterminal) (items row : List Item) (at : ℕ) (b : Built) → HasMeans s (item.Nonterminal n ∷ items) at b → at < length s.symbols → step (productions n) (slice_get s.symbols at) ≡ Take row → HasMeans s (row ++ items) (at + 1) b
means_take s n items row at b known below is =
    let holds = held_step n (slice_get s.symbols at) (Take row) is in
    record {
      tops = known.tops;
      small = known.small;
      there = known.there;
      reads = can_read_row n row items (length b.begun) known.tops known.small holds known.reads;
      once_noted = once_row n row items holds known.once_noted;
      taken = inr (omega arith);
      nodes_paid = omega (arith, known.nodes_paid, smaller_take s.symbols at n items row below is);
      paid = omega (arith, known.paid, smaller_take s.symbols at n items row below is, bytes_left_more s at, owed-le s (row ++ items) at);
    }

owed_go : (s : Text) (xs ys : List Item) (at : ℕ) → (may_note xs ≡ true → may_note ys ≡ true) → owed s xs at ≤ owed s ys at
owed_go s xs ys at only = pick (may_note xs) (may_note ys) (token_len s (at - 1)) only
  where
    pick : (a b : Bool) (n : ℕ) → (a ≡ true → b ≡ true) → cond a n 0 ≤ cond b n 0
    pick false b n only = omega arith
    pick true true n only = omega arith
    pick true false n only = let no = only refl in absurd (cc)

-- a file's row begins with a symbol
not_whole : (s : Text) (n : Nonterminal) (items row : List Item) (at : ℕ) → (item.Nonterminal n ∷ items ≡ whole) ⊎ (0 < at) → step (productions n) (slice_get s.symbols at) ≡ Go row → 0 < at
not_whole s n items row at (inr more) is = more
not_whole s n items row at (inl same) is = absurd (no_go (slice_get s.symbols at) row (subst (λ (m : Nonterminal). step (productions m) (slice_get s.symbols at) ≡ Go row) (head same) is))
  where
    head : {n : Nonterminal} {items : List Item} → item.Nonterminal n ∷ items ≡ whole → n ≡ r.File
    head h = cc

    take_go : (xs ys : List Item) → Take xs ≡ Go ys → ⊥
    take_go xs ys h = cc

    no_go : (t : Option Symbol) (row : List Item) → step (productions r.File) t ≡ Go row → ⊥
    no_go t row h = elim (cases_Bool (is_among t (symbol.Idn ∷ []))) [
      | inl suits ↦ take_go (begin ∷ begin ∷ begin ∷ note ∷ t' symbol.Equal ∷ n' r.Definition ∷ n' r.Modules ∷ close k.File ∷ []) row (rw suits at h)
      | inr passes ↦ (let h' = rw passes at h in cc)
    ]

pub means_go : (s : Text) (n : Nonterminal) (items row : List Item) (at : ℕ) (b : Built) → HasMeans s (item.Nonterminal n ∷ items) at b → step (productions n) (slice_get s.symbols at) ≡ Go row → HasMeans s (row ++ items) at b
means_go s n items row at b known is =
    let test = held_step n (slice_get s.symbols at) (Go row) is in
    record {
      tops = known.tops;
      small = known.small;
      there = known.there;
      reads = can_read_row n row items (length b.begun) known.tops known.small test.0 known.reads;
      once_noted = once_row n row items test.0 known.once_noted;
      taken = inr (not_whole s n items row at known.taken is);
      nodes_paid = omega (arith, known.nodes_paid, smaller_go s.symbols at n items row is);
      paid = omega (arith, known.paid, smaller_go s.symbols at n items row is, owed_go s (row ++ items) (item.Nonterminal n ∷ items) at (notes_row n row items test.1 known.once_noted));
    }

-- what is to be noted is paid for
noted_owed : (p q : Bool) (n : ℕ) → implies p (not q) ≡ true → cond p n 0 + cond q n 0 ≤ cond (p || q) n 0
noted_owed true true n h = absurd (cc)
noted_owed true false n h = omega arith
noted_owed false q n h = omega arith

pub means_action : (s : Text) (a : Action) (items : List Item) (at : ℕ) (b c : Built) → HasMeans s (item.Action a ∷ items) at b → acted s a (at - 1) b ≡ Some c → HasMeans s items at c
means_action s a items at b c known is =
    let costs = acted_costs s a (at - 1) known.tops b c known.small known.there known.reads.0 is in
    let owes = noted_owed (notes a) (may_note items) (token_len s (at - 1)) (and_left (implies (notes a) (not (may_note items))) (once items) known.once_noted) in
    record {
      tops = tops_after a known.tops;
      small = (tops_after-keeps a known.tops known.small).1;
      there = costs.tops_are;
      reads = subst (λ (k : ℕ). CanRead items k (tops_after a known.tops)) (sym costs.begun_are) known.reads.2;
      once_noted = and_right (implies (notes a) (not (may_note items))) (once items) known.once_noted;
      taken = inr (behind known.taken);
      nodes_paid = omega (arith, known.nodes_paid, costs.nodes_are, smaller_action s.symbols at a items);
      paid = omega (arith, known.paid, costs.spent_is, owes, smaller_action s.symbols at a items);
    }
  where
    behind : {a : Action} {items : List Item} {at : ℕ} → (item.Action a ∷ items ≡ whole) ⊎ (0 < at) → 0 < at
    behind (inl same) = absurd (cc)
    behind (inr more) = more
