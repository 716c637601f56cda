-- The tests of the table, which are computed.
use Rattle.std.proofs.Common.{◌≡◌, ℕ, ◌/◌, ◌%◌, ◌^◌, suc, Bool, true, false, not, ◌&&◌, ◌||◌, ◌==◌, cond, List, [], ◌∷◌, Option, Some, None, refl, slice_get}
use Rattle.std.specs.List.{list_all}
use Rattle.clu_lexer.specs.declared.symbols.Symbol.{Symbol}
use Rattle.clu_lexer.specs.declared.symbols.Symbol.TheVariants as s
use Rattle.clu_lexer.specs.contracts.symbols.Symbol.{the_type}
use Rattle.clu_grammar.specs.declared.items.Item.{Item}
use Rattle.clu_grammar.specs.declared.items.Item.TheVariants as item
use Rattle.clu_grammar.specs.declared.items.Nonterminal.{Nonterminal}
use Rattle.clu_grammar.specs.declared.items.Nonterminal.TheVariants as r
use Rattle.clu_grammar.specs.Choice.{is_among}
use Rattle.clu_grammar.specs.Grammar.{productions}
use Rattle.clu_grammar.specs.Rows.{Production, take, peek, otherwise}
use Rattle.clu_grammar.proofs.Lookahead.{starts, after, nothing}
use denote.Enum.Bare.{sameb}
use denote.Enum.Declared.{tag_of}

-- the number of a symbol, or of the end
abbrev pub code : Option Symbol → ℕ
code None = 0
code (Some s) = suc (tag_of the_type s)

abbrev pub in_set : ℕ → Option Symbol → Bool
in_set set t = (set / 2 ^ code t) % 2 == 1

abbrev pub implies : Bool → Bool → Bool
implies a b = not a || b

-- t may come first where the items stand and `rest` follows
abbrev pub begins : List Item → (Option Symbol → Bool) → Option Symbol → Bool
begins [] rest t = rest t
begins (item.Terminal s ∷ items) rest None = false
begins (item.Terminal s ∷ items) rest (Some x) = sameb the_type s x
begins (item.Action a ∷ items) rest t = begins items rest t
begins (item.Nonterminal n ∷ items) rest t = in_set (starts n) t || (nothing n && begins items rest t)

-- `starts` and `nothing` are large enough for the production
abbrev pub starts_hold_for : Nonterminal → Option Symbol → List Item → Bool
starts_hold_for n t items =
    implies (begins items (λ _. false) t) (in_set (starts n) t) && implies (begins items (λ _. true) t) (in_set (starts n) t || nothing n)

abbrev pub starts_hold : Nonterminal → Option Symbol → Production → Bool
starts_hold n t (take symbols items) = implies (is_among t symbols) (in_set (starts n) t)
starts_hold n t (peek symbols items) = starts_hold_for n t items
starts_hold n t (otherwise items) = starts_hold_for n t items

-- `after` is large enough for each nonterminal of the items, of which `set` follows
abbrev pub after_holds : ℕ → Option Symbol → List Item → Bool
after_holds set t [] = true
after_holds set t (item.Terminal s ∷ items) = after_holds set t items
after_holds set t (item.Action a ∷ items) = after_holds set t items
after_holds set t (item.Nonterminal n ∷ items) = implies (begins items (in_set set) t) (in_set (after n) t) && after_holds set t items

abbrev pub items_of : Production → List Item
items_of (take symbols items) = items
items_of (peek symbols items) = items
items_of (otherwise items) = items

-- t may come first in what the production reads, of which `set` follows
abbrev pub may_begin : ℕ → Option Symbol → Production → Bool
may_begin set t (take symbols items) = is_among t symbols
may_begin set t (peek symbols items) = begins items (in_set set) t
may_begin set t (otherwise items) = begins items (in_set set) t

-- the production is the choice at t
abbrev pub suits : Option Symbol → Production → Bool
suits t (take symbols items) = is_among t symbols
suits t (peek symbols items) = is_among t symbols
suits t (otherwise items) = true

-- at most the production that is chosen at t may begin with it
abbrev pub choice_holds : ℕ → Option Symbol → List Production → Bool
choice_holds set t [] = true
choice_holds set t (p ∷ ps) = cond (suits t p) (list_all (λ q. not (may_begin set t q)) ps) (not (may_begin set t p) && choice_holds set t ps)

-- all of it, for the nonterminal and the symbol
abbrev pub sound_at : Nonterminal → Option Symbol → Bool
sound_at n t =
    (list_all (starts_hold n t) (productions n) && list_all (λ p. after_holds (after n) t (items_of p)) (productions n)) &&
    choice_holds (after n) t (productions n)

abbrev pub symbols : List (Option Symbol)
symbols =
    None ∷ Some s.Any ∷ Some s.Array ∷ Some s.Begin ∷ Some s.Bool ∷ Some s.Break ∷ Some s.Cand ∷ Some s.Char ∷ Some s.Cluster ∷ Some s.Continue ∷ Some s.Cor ∷ Some s.Cvt ∷ Some s.Do ∷ Some s.Down ∷ Some s.Else ∷ Some s.Elseif ∷ Some s.End ∷ Some s.Except ∷ Some s.Exit ∷ Some s.False ∷ Some s.For ∷ Some s.Force ∷ Some s.Has ∷ Some s.If ∷ Some s.In ∷ Some s.Int ∷ Some s.Is ∷ Some s.Iter ∷ Some s.Itertype ∷ Some s.Nil ∷ Some s.Null ∷ Some s.Oneof ∷ Some s.Others ∷ Some s.Own ∷ Some s.Proc ∷ Some s.Proctype ∷ Some s.Real ∷ Some s.Record ∷ Some s.Rep ∷ Some s.Resignal ∷ Some s.Return ∷ Some s.Returns ∷ Some s.Sequence ∷ Some s.Signal ∷ Some s.Signals ∷ Some s.String ∷ Some s.Struct ∷ Some s.Tag ∷ Some s.Tagcase ∷ Some s.Then ∷ Some s.True ∷ Some s.TypeWord ∷ Some s.Up ∷ Some s.Variant ∷ Some s.When ∷ Some s.Where ∷ Some s.While ∷ Some s.Yield ∷ Some s.Yields ∷ Some s.LeftParen ∷ Some s.RightParen ∷ Some s.LeftBracket ∷ Some s.RightBracket ∷ Some s.LeftBrace ∷ Some s.RightBrace ∷ Some s.Comma ∷ Some s.Colon ∷ Some s.Semicolon ∷ Some s.Point ∷ Some s.Dollar ∷ Some s.Assign ∷ Some s.Equal ∷ Some s.Less ∷ Some s.AtMost ∷ Some s.Greater ∷ Some s.AtLeast ∷ Some s.Tilde ∷ Some s.NotEqual ∷ Some s.NotLess ∷ Some s.NotAtMost ∷ Some s.NotGreater ∷ Some s.NotAtLeast ∷ Some s.Plus ∷ Some s.Minus ∷ Some s.Star ∷ Some s.Power ∷ Some s.Slash ∷ Some s.Remainder ∷ Some s.Concat ∷ Some s.Bar ∷ Some s.And ∷ Some s.Idn ∷ Some s.IntLiteral ∷ Some s.RealLiteral ∷ Some s.CharLiteral ∷ Some s.StringLiteral ∷ Some s.Unknown ∷ []

pub place_of : (t : Option Symbol) → slice_get symbols (code t) ≡ Some t
place_of None = refl
place_of (Some s.Any) = refl
place_of (Some _) = refl

pub sound : (n : Nonterminal) → list_all (sound_at n) symbols ≡ true
sound r.File = refl
sound _ = refl
