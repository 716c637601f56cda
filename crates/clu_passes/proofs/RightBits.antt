-- The bits that come of asking equates in their order are right, if at each node of an equate the rules over tables say what the
-- definitions say where the bits of the equates that it names are right and no fault is found in the equate before it.
use Rattle.std.proofs.Common.{◌≡◌, ◌∙◌, ℕ, zero, suc, ◌-◌, ◌<◌, ◌≤◌, Bool, true, false, List, [], ◌∷◌, length, is_some, ap, sym, arith}
use Rattle.std.specs.Prelude.{find}
use Rattle.std.specs.List.{AllByRecursion, list_any}
use Rattle.std.proofs.lemmas.Bool.{true≢false}
use Rattle.clu_base.specs.declared.rules.Rule.{Rule}
use Rattle.clu_tree.specs.declared.node.NodeKind.TheVariants as kind
use Rattle.clu_syntax.specs.Syntax.{Identifier}
use Rattle.clu_names.specs.declared.binding.Names.{Names}
use Rattle.clu_checking.specs.Files.{File, below, is_kind, kind_in, round}
use Rattle.clu_checking.specs.Equates.{is_bad_name, is_circular, leads_far, names_unfolded}
use Rattle.clu_checking.specs.Rules as definition
use Rattle.clu_checking.specs.Rules.{least}
use Rattle.clu_checking.specs.Refusals.{is_bad_of}
use Rattle.clu_type_rules.specs.Asked.{rules_at}
use Rattle.clu_passes.specs.Refusing.{AgreeInEquates, AgreeOn, IsOrder, bits_in}
use Rattle.clu_passes.specs.Trees.{IsFileOfTree}
use Rattle.clu_passes.specs.Turns.{ReadsAlone, bit}
use Rattle.clu_passes.proofs.Apart.{equate_right}
use Rattle.clu_passes.proofs.BadEquates.{least_same, names_are, names_same, none_in, violates_same}
use Rattle.clu_passes.proofs.DeclaredOnce.{declare_once}
use Rattle.clu_passes.proofs.FaultsFound.{any_until, first_found}
use Rattle.clu_passes.proofs.StepsEnough.{bad_unfolds, in_equate, leads_in}

-- of two readings by which the same rules are violated the same is said
pub agree_same : (found v w : Rule → Bool) → ((r : Rule) → v r ≡ w r) → (rs : List Rule) → AgreeOn found v rs → AgreeOn found w rs
agree_same found v w same [] agree = tt
agree_same found v w same (r ∷ rs) agree = (agree.0 ∙ same r, λ none. agree_same found v w same rs (agree.1 (same r ∙ none)))

module _ (f : File) (of : IsFileOfTree f) (names : Names) (order : List ℕ) (circular : List Bool) (its_order : IsOrder f names order circular)
    (fault : List Bool → ℕ → Bool) (alone : ReadsAlone f.nodes names fault)
    (found : ℕ → Rule → Bool) (is : (n : ℕ) → fault (bits_in f order fault) n ≡ is_some (find (found n) (rules_at (kind_in f n))))
    (its_rules : List Rule) (violated : (ℕ → Bool) → ℕ → Rule → Bool)
    (asked : (bad : ℕ → Bool) (n : ℕ) → least (violated bad n) (rules_at (kind_in f n)) ≡ least (definition.violates f bad n) its_rules)
    (lifts : (b c : ℕ → Bool) (n : ℕ) → ((r : Rule) → definition.violates f b n r ≡ definition.violates f c n r) → (r : Rule) → violated b n r ≡ violated c n r) where
  abbrev bits : List Bool
  bits = bits_in f order fault

  abbrev bad : ℕ → Bool
  bad = is_bad_of f its_rules

  abbrev has_one : (ℕ → Bool) → ℕ → Bool
  has_one b n = is_some (least (definition.violates f b n) its_rules)

  abbrev pub AreRead : ℕ → Type 0
  AreRead n = AllByRecursion (λ (name : Identifier). is_bad_name f (bit bits) n name ≡ is_bad_name f bad n name) (names_unfolded f (kind_in f n) n)

  abbrev pub AgreeOnce : Type 0
  AgreeOnce =
      (e : ℕ) → is_kind f kind.Equate e ≡ true → ((m : ℕ) → (round f e).first ≤ m → m < e → AreRead m) →
      (n : ℕ) → (round f e).first ≤ n → n < e → ((m : ℕ) → (round f e).first ≤ m → m < n → has_one bad m ≡ false) → AgreeOn (found n) (violated bad n) (rules_at (kind_in f n))

  module _ (once : AgreeOnce) where
    abbrev IsRight : ℕ → Type 0
    IsRight s = (e : ℕ) → is_kind f kind.Equate e ≡ true → is_circular f e ≡ false → leads_far f s e ≡ false → bit bits e ≡ bad e

    read_in : (s : ℕ) → IsRight s → (n : ℕ) → leads_in f of s n ≡ false → AreRead n
    read_in s had n never = names_same f (bit bits) bad (leads_far f s) (λ e equate far circle. had e equate circle far) n (names_unfolded f (kind_in f n) n) never

    step : (s : ℕ) → IsRight s → (e : ℕ) → is_kind f kind.Equate e ≡ true → is_circular f e ≡ false → list_any (leads_in f of s) (below f e) ≡ false → bit bits e ≡ bad e
    step s had e equate circle never =
        equate_right f of names its_order.named (declare_once f.nodes f.rounds f.scope.declarations of.shaped its_order.all) order circular its_order.circles fault alone its_order.all its_order.marks e equate circle
        ∙ any_until (fault bits) (has_one bad) (round f e).first (e - (round f e).first) (λ n l u before.
        let inside : n < e = omega (arith, l, u) in
        is n
        ∙ ap is_some (first_found (found n) (violated bad n) (rules_at (kind_in f n))
        (once e equate (λ m from less. read_in s had m (none_in (leads_in f of s) (round f e).first (suc e - (round f e).first) never m from (omega (arith, less, from)))) n l inside before)
        ∙ asked bad n))
        ∙ sym (bad_unfolds f of its_rules e equate circle)

    right : (s : ℕ) → IsRight s
    unfolding leads_far
    right zero e equate circle far = absurd (true≢false far)
    right (suc s) e equate circle far = step s (right s) e equate circle far

    pub bits_are : (e : ℕ) → is_kind f kind.Equate e ≡ true → is_circular f e ≡ false → bit bits e ≡ bad e
    bits_are e equate circle = right (length f.scope.declarations) e equate circle circle

    -- ---- so the rules agree by these bits too

    pub all_read : (n : ℕ) (its : List Identifier) → AllByRecursion (λ (name : Identifier). is_bad_name f (bit bits) n name ≡ is_bad_name f bad n name) its
    all_read n [] = tt
    all_read n (name ∷ its) = (names_are f (bit bits) bad bits_are n name, all_read n its)

    same_at : (e : ℕ) → is_kind f kind.Equate e ≡ true → (n : ℕ) → (round f e).first ≤ n → n < e → (r : Rule) → definition.violates f (bit bits) n r ≡ definition.violates f bad n r
    same_at e equate n l inside = violates_same f of (bit bits) bad n (in_equate f of e equate n l inside) (all_read n (names_unfolded f (kind_in f n) n))

    pub agree_in : AgreeInEquates f found (violated (bit bits))
    agree_in e equate circle n l inside before =
        agree_same (found n) (violated bad n) (violated (bit bits) n) (lifts bad (bit bits) n (λ r. sym (same_at e equate n l inside r))) (rules_at (kind_in f n))
        (once e equate (λ m from less. all_read m (names_unfolded f (kind_in f m) m)) n l inside (λ m from below.
        let here : m < e = omega (arith, below, inside) in
        ap is_some (sym (least_same (definition.violates f (bit bits) m) (definition.violates f bad m) (same_at e equate m from here) its_rules) ∙ sym (asked (bit bits) m) ∙ before m from below)))
