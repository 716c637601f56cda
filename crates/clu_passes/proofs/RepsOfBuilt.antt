-- What the grammar says of the word `rep` holds in the tree of a text.
use Rattle.std.proofs.Common.{◌≡◌, ◌∙◌, ℕ, ◌+◌, ◌-◌, ◌==◌, ◌&&◌, Bool, true, false, List, [], ◌∷◌, ◌++◌, length, Option, Some, None, slice_get, refl, ap, ap₂, sym, subst, inl, inr, arith, eqb-true}
use Rattle.std.proofs.lemmas.Bool.{true≢false, or_cases}
use Rattle.std.proofs.lemmas.Option.{same_Some}
use Rattle.clu_base.specs.declared.tokens.Token.{Token}
use Rattle.clu_lexer.specs.Tokens.{Tokens}
use Rattle.clu_tree.specs.declared.node.Node.{Node}
use Rattle.clu_tree.specs.declared.node.NodeKind.{NodeKind}
use Rattle.clu_tree.specs.declared.node.NodeKind.TheVariants as kind
use Rattle.clu_grammar.specs.declared.items.Item.{Item}
use Rattle.clu_grammar.specs.declared.items.Nonterminal.TheVariants as r
use Rattle.clu_grammar.specs.Language.{whole}
use Rattle.clu_parser.specs.Parsing.{IsTreeOf, text_of}
use Rattle.clu_parser.specs.Shape.{IsShaped}
use Rattle.clu_parser.specs.Spellings.{is_idn}
use Rattle.clu_parser.specs.Trees.{Text, Built, IsBuilt, nothing_built}
use Rattle.clu_parser.proofs.Deriving.{Ran, stopped, took, did, chose, ran_whole}
use Rattle.clu_parser.proofs.Shaped.{built_shaped}
use Rattle.clu_syntax.specs.Roles.{has_no_name}
use Rattle.clu_syntax.specs.Splits.{is_of}
use Rattle.clu_passes.specs.Notes.{has}
use Rattle.clu_passes.specs.RepsOfTree.{HaveReps}
use Rattle.clu_passes.proofs.RepNodes.{AreClean, HoldClean, IsClean, IsKept, Level, acted_kept, fresh, ground, stepped}
use Rattle.clu_passes.proofs.RepRows.{IsPassed, behind, behind_is, goes_on, is_all, is_passed, leads, left, passed, start}
use Rattle.clu_passes.proofs.ReservedNames.{names_reserved}

-- ---- along the derivation

record HasNext (o : Option (List Level)) (f : List Level → Bool) : Type 0 where
  next : List Level
  is : o ≡ Some next
  holds : f next ≡ true

has_next : (o : Option (List Level)) (f : List Level → Bool) → goes_on o f ≡ true → HasNext o f
has_next None f h = absurd (cc)
has_next (Some ls) f h = record { next = ls; is = refl; holds = h }

at_end : (ls goal rest : List Level) (b : Built) (o : Option (List Level)) → behind ls goal ≡ o → is_all o ≡ true → IsKept (ls ++ rest) b → IsKept (goal ++ rest) b
at_end ls goal rest b None was e x = absurd (cc)
at_end ls goal rest b (Some []) was e x = record { holds = x.holds; levels = behind_is b.nodes ls goal [] rest (b.begun ++ ground ∷ []) b.tops was x.levels }
at_end ls goal rest b (Some (l ∷ more)) was e x = absurd (cc)

read_kept : (t : Text) (items : List Item) (at : ℕ) (b : Built) (to : ℕ) (z : Built) (is_name : Bool) (ls goal rest : List Level) → Ran t items at b to z → leads items is_name ls goal ≡ true → (is_name ≡ true → is_idn (slice_get t.symbols (at - 1)) ≡ true) → IsKept (ls ++ rest) b → IsKept (goal ++ rest) z
read_kept t _ at b _ _ is_name ls goal rest (stopped _ _) h tells x = at_end ls goal rest b (behind ls goal) refl h x
read_kept t _ at b to z is_name ls goal rest (took s items _ _ _ _ is d) h tells x =
    let before : at ≡ at + 1 - 1 = omega arith in
    read_kept t items (at + 1) b to z (is_idn (Some s)) ls goal rest d h (λ e. ap is_idn (subst (λ (k : ℕ). slice_get t.symbols k ≡ Some s) before is) ∙ e) x
read_kept t _ at b to z is_name ls goal rest (did a items _ _ c _ _ is d) h tells x =
    let n : HasNext (stepped a is_name ls) (λ next. leads items is_name next goal) = has_next (stepped a is_name ls) (λ next. leads items is_name next goal) h in
    read_kept t items at c to z is_name n.next goal rest d n.holds tells (acted_kept t (at - 1) b c is_name tells n.next rest a ls is n.is x)
read_kept t _ at b to z is_name ls goal rest (chose s items row _ _ mid c _ _ one it d e) h tells x =
    let n : HasNext (passed s ls) (λ next. leads items false next goal) = has_next (passed s ls) (λ next. leads items false next goal) h in
    let p : IsPassed s ls n.next = is_passed s ls n.next n.is in
    let first : IsKept (start s p.in_cluster p.named ++ (p.more ++ rest)) b = record { holds = x.holds; levels = behind_is b.nodes ls (start s p.in_cluster p.named) p.more rest (b.begun ++ ground ∷ []) b.tops p.fits x.levels } in
    let then_so : IsKept (left s p.in_cluster p.named ∷ (p.more ++ rest)) c = read_kept t row at b mid c false (start s p.in_cluster p.named) (left s p.in_cluster p.named ∷ []) (p.more ++ rest) d (p.rows row one) (λ e. absurd (cc)) first in
    read_kept t items mid c to z false n.next goal rest e n.holds (λ e. absurd (cc)) (subst (λ (xs : List Level). IsKept (xs ++ rest) c) p.is then_so)

built_clean : (t : Text) (z : Built) → IsBuilt t z → HoldClean z.nodes
built_clean t z built =
    let first : IsKept ((fresh ∷ []) ++ []) nothing_built = record { holds = λ i n at. absurd (cc); levels = ([], [], refl, refl, record { clean = λ e. tt; full = λ e. absurd (cc); named = λ e. absurd (cc) }, tt) } in
    let last : IsKept ((left r.File false false ∷ []) ++ []) z = read_kept t whole 0 nothing_built (length t.symbols) z false (fresh ∷ []) (left r.File false false ∷ []) [] (ran_whole t z built) refl (λ e. absurd (cc)) first in
    last.holds

-- ---- the tree of a text

clean_child : (nodes : List Node) (n : ℕ) (cs : List ℕ) → AreClean nodes cs → has n cs ≡ true → IsClean nodes n
clean_child nodes n [] known h = absurd (cc)
clean_child nodes n (c ∷ cs) known h = elim (or_cases (c == n) (has n cs) h) [
  | inl here ↦ subst (IsClean nodes) (eqb-true c n here) known.0
  | inr later ↦ clean_child nodes n cs known.1 later
]

module _ (nodes : List Node) (known : HoldClean nodes) where
  in_clusters : (p : ℕ) (outer : Node) → slice_get nodes p ≡ Some outer → (n : ℕ) (node : Node) → has n outer.children ≡ true → slice_get nodes n ≡ Some node → node.kind ≡ kind.Equate → has_no_name node.names ≡ true → outer.kind ≡ kind.Cluster
  in_clusters p outer there n node child at equate bare = elim (known p outer there) [
    | inl cluster ↦ cluster
    | inr all_clean ↦
        (let x : IsClean nodes n = clean_child nodes n outer.children all_clean child in
        let same : x.node ≡ node = same_Some x.node node (sym x.at ∙ at) in
        let its : (is_of kind.Equate node.kind && has_no_name node.names) ≡ true = ap₂ (λ (k : NodeKind) (b : Bool). is_of kind.Equate k && b) equate bare in
        absurd (true≢false (sym its ∙ sym (ap (λ (m : Node). is_of kind.Equate m.kind && has_no_name m.names) same) ∙ x.is)))
  ]

pub reps_of_built : (bytes : List ℕ) (tokens : List Token) (nodes : List Node) → Tokens bytes tokens → IsTreeOf bytes tokens nodes → HaveReps nodes
reps_of_built bytes tokens nodes are tree =
    let shaped : IsShaped (text_of bytes tokens) nodes = subst (IsShaped (text_of bytes tokens)) tree.2 (built_shaped (text_of bytes tokens) tree.0 tree.1) in
    let clean : HoldClean nodes = subst HoldClean tree.2 (built_clean (text_of bytes tokens) tree.0 tree.1) in
    record { reserved = names_reserved bytes tokens are nodes shaped; clusters = in_clusters nodes clean }
