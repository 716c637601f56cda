-- A derivation as a tree, in which each row is the choice of the next symbol.
use Rattle.std.proofs.Common.{◌≡◌, ℕ, ◌+◌, ◌-◌, true, List, [], ◌∷◌, ◌++◌, length, Option, Some, None, slice_get, refl, sym, ◌∙◌, subst}
use Rattle.clu_lexer.specs.declared.symbols.Symbol.{Symbol}
use Rattle.clu_grammar.specs.declared.items.Action.{Action}
use Rattle.clu_grammar.specs.declared.items.Item.{Item}
use Rattle.clu_grammar.specs.declared.items.Item.TheVariants as item
use Rattle.clu_grammar.specs.declared.items.Nonterminal.{Nonterminal}
use Rattle.clu_grammar.specs.declared.items.Nonterminal.TheVariants as r
use Rattle.clu_grammar.specs.Grammar.{productions}
use Rattle.clu_grammar.specs.Language.{IsOneOf, Derives, done, symbol, action, choice, whole}
use Rattle.clu_grammar.proofs.Lookahead.{after}
use Rattle.clu_grammar.proofs.Tests.{in_set, begins}
use Rattle.clu_parser.specs.Trees.{Text, Built, acted, Builds, finished, terminal, act, chosen, IsBuilt, nothing_built}
use Rattle.clu_grammar.proofs.Deterministic.{IsChosen, chosen as chosen_at, begun, through, begins-append, at_end, Followed, alternative_followed, after_sound, choice_sound}

pub data Ran (t : Text) : List Item → ℕ → Built → ℕ → Built → Type 0 where
  stopped : (at : ℕ) (b : Built) → Ran t [] at b at b
  took : (x : Symbol) (items : List Item) (at : ℕ) (b : Built) (to : ℕ) (z : Built) → slice_get t.symbols at ≡ Some x → Ran t items (at + 1) b to z → Ran t (item.Terminal x ∷ items) at b to z
  did : (a : Action) (items : List Item) (at : ℕ) (b c : Built) (to : ℕ) (z : Built) → acted t a (at - 1) b ≡ Some c → Ran t items at c to z → Ran t (item.Action a ∷ items) at b to z
  chose : (n : Nonterminal) (items row : List Item) (at : ℕ) (b : Built) (mid : ℕ) (c : Built) (to : ℕ) (z : Built) → IsOneOf (productions n) row → IsChosen (productions n) (slice_get t.symbols at) row → Ran t row at b mid c → Ran t items mid c to z → Ran t (item.Nonterminal n ∷ items) at b to z

record Both (t : Text) (row items : List Item) (at : ℕ) (b : Built) (to : ℕ) (z : Built) : Type 0 where
  mid : ℕ
  middle : Built
  first : Ran t row at b mid middle
  rest : Ran t items mid middle to z

both : (t : Text) (row items xs : List Item) (at : ℕ) (b : Built) (to : ℕ) (z : Built) → Ran t xs at b to z → xs ≡ row ++ items → Both t row items at b to z
both t [] items xs at b to z d same = record { mid = at; middle = b; first = stopped at b; rest = subst (λ (x : List Item). Ran t x at b to z) same d }
both t (i ∷ row) items _ at b _ _ (stopped _ _) same = absurd (cc)
both t (i ∷ row) items _ at b to z (took x xs _ _ _ _ is d) same =
    let head : item.Terminal x ≡ i = cc in
    let h = both t row items xs (at + 1) b to z d (cc) in
    record { mid = h.mid; middle = h.middle; first = subst (λ (j : Item). Ran t (j ∷ row) at b h.mid h.middle) head (took x row at b h.mid h.middle is h.first); rest = h.rest }
both t (i ∷ row) items _ at b to z (did a xs _ _ c _ _ is d) same =
    let head : item.Action a ≡ i = cc in
    let h = both t row items xs at c to z d (cc) in
    record { mid = h.mid; middle = h.middle; first = subst (λ (j : Item). Ran t (j ∷ row) at b h.mid h.middle) head (did a row at b c h.mid h.middle is h.first); rest = h.rest }
both t (i ∷ row) items _ at b to z (chose n xs inside _ _ m c _ _ one it d e) same =
    let head : item.Nonterminal n ≡ i = cc in
    let h = both t row items xs m c to z e (cc) in
    record { mid = h.mid; middle = h.middle; first = subst (λ (j : Item). Ran t (j ∷ row) at b h.mid h.middle) head (chose n row inside at b m c h.mid h.middle one it d h.first); rest = h.rest }

derives : (t : Text) (items : List Item) (at : ℕ) (b : Built) (to : ℕ) (z : Built) → Builds t items at b to z → Derives t.symbols items at to
derives t _ at b _ _ (finished _ _) = done at
derives t _ at b to z (terminal x items _ _ _ _ is d) = symbol x items at to is (derives t items (at + 1) b to z d)
derives t _ at b to z (act a items _ _ c _ _ is d) = action a items at to (derives t items at c to z d)
derives t _ at b to z (chosen n items alternative _ _ _ _ one d) = choice n items alternative at to one (derives t (alternative ++ items) at b to z d)

pub ran : (t : Text) (items : List Item) (at : ℕ) (b : Built) (to : ℕ) (z : Built) → Builds t items at b to z → to ≡ length t.symbols → Followed items at_end → Ran t items at b to z
ran t _ at b _ _ (finished _ _) last known = stopped at b
ran t _ at b to z (terminal x items _ _ _ _ is d) last known = took x items at b to z is (ran t items (at + 1) b to z d last known)
ran t _ at b to z (act a items _ _ c _ _ is d) last known = did a items at b c to z is (ran t items at c to z d last known)
ran t _ at b to z (chosen n items alternative _ _ _ _ one d) last known =
    let whole' = ran t (alternative ++ items) at b to z d last (alternative_followed (after n) (productions n) alternative items (after_sound n) one known.0 known.1) in
    let h = both t alternative items (alternative ++ items) at b to z whole' refl in
    let first = through alternative (begins items at_end) (in_set (after n)) (slice_get t.symbols at) (known.0 (slice_get t.symbols at)) (sym (begins-append alternative items at_end (slice_get t.symbols at)) ∙ begun t.symbols (alternative ++ items) at to (derives t (alternative ++ items) at b to z d) last) in
    chose n items alternative at b h.mid h.middle to z one (chosen_at (after n) (slice_get t.symbols at) (productions n) alternative (choice_sound n (slice_get t.symbols at)) one first) h.first h.rest

whole_followed : Followed whole at_end
whole_followed = (λ x h. end_follows x h, tt)
  where
    end_follows : (x : Option Symbol) → at_end x ≡ true → in_set (after r.File) x ≡ true
    end_follows None h = refl
    end_follows (Some s) h = absurd (cc)

pub ran_whole : (t : Text) (z : Built) → IsBuilt t z → Ran t whole 0 nothing_built (length t.symbols) z
ran_whole t z d = ran t whole 0 nothing_built (length t.symbols) z d refl whole_followed
