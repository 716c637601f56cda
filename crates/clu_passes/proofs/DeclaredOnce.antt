-- Each Equate declares one name: a node declares by itself, or for its parent if that opens a body or a type set.
use Rattle.std.proofs.Common.{◌≡◌, ◌∙◌, ◌⊎◌, ℕ, zero, suc, ◌+◌, ◌-◌, ◌<◌, ◌≤◌, if◌then◌else◌, Bool, true, false, List, [], ◌∷◌, ◌++◌, length, Option, Some, None, inl, inr, refl, sym, ap, subst, arith}
use Rattle.std.specs.Prelude.{slice_get}
use Rattle.std.proofs.lemmas.Bool.{true≢false, cases_eq}
use Rattle.std.proofs.lemmas.Option.{none-some, same_Some}
use Rattle.clu_base.proofs.Lists.{split}
use Rattle.clu_tree.specs.declared.node.Node.{Node}
use Rattle.clu_tree.specs.declared.node.NodeKind.{NodeKind}
use Rattle.clu_tree.specs.declared.node.NodeKind.TheVariants as kind
use Rattle.clu_parser.specs.Shape.{Part, token, name, value, child, many, maybe, Letter, forms, IsWord, nothing, token_is, name_is, value_is, child_is, no_more, one_more, without, with_one, IsFormOf, names_in, HasForm, HaveForms}
use Rattle.clu_syntax.specs.Kinds.{kind_of}
use Rattle.clu_syntax.specs.declared.round.Round.{Round}
use Rattle.clu_syntax.specs.Rounds.{round_at}
use Rattle.clu_names.specs.declared.scopes.Declared.{Declared}
use Rattle.clu_names.specs.Scopes.{node_at, kind_at_parent, scope_of, equate_names, own_names, declared_as, own_at, is_module, module_named, module_at, opens, variable_of, declared_at, declared_to, declarations}
use Rattle.clu_head.specs.There.{is_there}
use Rattle.clu_passes.specs.Turns.{DeclareOnce}
use Rattle.clu_passes.proofs.Units.{AllOf, VariablesAre, all_here, all_to, at_node, of_variables}
use Rattle.clu_passes.proofs.Apart.{node_there}

-- ---- an Equate has one name, or the word `rep`

abbrev names_of : List Part → ℕ
names_of [] = 0
names_of (name ∷ ps) = names_of ps + 1
names_of (_ ∷ ps) = names_of ps

abbrev is_plain : List Part → Bool
is_plain [] = true
is_plain (many g ∷ ps) = false
is_plain (maybe g ∷ ps) = false
is_plain (_ ∷ ps) = is_plain ps

counted : (form : List Part) (w : List Letter) → IsWord form w → is_plain form ≡ true → names_in w ≡ names_of form
counted _ _ nothing e = refl
counted _ _ (token_is x ps w d) e = counted ps w d e
counted _ _ (name_is ps w d) e = ap (λ (k : ℕ). k + 1) (counted ps w d e)
counted _ _ (value_is xs x ps w h d) e = counted ps w d e
counted _ _ (child_is c k ps w h d) e = counted ps w d e
counted _ _ (no_more g ps w d) e = absurd (true≢false (sym e))
counted _ _ (one_more g ps v w u dv dw same) e = absurd (true≢false (sym e))
counted _ _ (without g ps w d) e = absurd (true≢false (sym e))
counted _ _ (with_one g ps v w u dv dw same) e = absurd (true≢false (sym e))

abbrev HasOne : List Part → Type 0
HasOne form = (is_plain form ≡ true) × (names_of form ≤ 1)

has_one : (form : List Part) → IsFormOf form (forms kind.Equate) → HasOne form
has_one form (inl same) = subst HasOne (sym same) (refl, omega arith)
has_one form (inr (inl same)) = subst HasOne (sym same) (refl, omega arith)
has_one form (inr (inr (inl same))) = subst HasOne (sym same) (refl, omega arith)
has_one form (inr (inr (inr (inl same)))) = subst HasOne (sym same) (refl, omega arith)
has_one form (inr (inr (inr (inr none)))) = absurd none

few_names : (nodes : List Node) → HaveForms nodes → (e : ℕ) (its : Node) → slice_get nodes e ≡ Some its → its.kind ≡ kind.Equate → length its.names ≤ 1
few_names nodes shaped e its at is =
    let h : HasForm nodes its = shaped e its at in
    let one : HasOne h.form = has_one h.form (subst (λ (k : NodeKind). IsFormOf h.form (forms k)) is h.of_kind) in
    let few : names_of h.form ≤ 1 = one.1 in
    let same : names_in h.word ≡ names_of h.form = counted h.form h.word h.is_word one.0 in
    let all : length its.names ≡ names_in h.word = h.names_are in
    omega (arith, few, same, all)

-- ---- one declaration of a node in a list

module _ (e : ℕ) where
  abbrev Apart : Declared → Type 0
  Apart d = d.node ≡ e → ⊥

  abbrev OnceIn : List Declared → Type 0
  OnceIn xs = (p q : ℕ) (d c : Declared) → slice_get xs p ≡ Some d → slice_get xs q ≡ Some c → d.node ≡ e → c.node ≡ e → p ≡ q

  is_first : (x d : Declared) → Some x ≡ Some d → d.node ≡ e → x.node ≡ e
  is_first x d same is = ap (λ (y : Declared). y.node) (same_Some x d same) ∙ is

  none_then : (xs ys : List Declared) → AllOf Apart xs → OnceIn ys → OnceIn (xs ++ ys)
  none_then [] ys none once p q d c a b i j = once p q d c a b i j
  none_then (x ∷ xs) ys none once zero q d c a b i j = absurd (none.0 (is_first x d a i))
  none_then (x ∷ xs) ys none once (suc p) zero d c a b i j = absurd (none.0 (is_first x c b j))
  none_then (x ∷ xs) ys none once (suc p) (suc q) d c a b i j = ap suc (none_then xs ys none.1 once p q d c a b i j)

  then_none : (xs ys : List Declared) → OnceIn xs → AllOf Apart ys → OnceIn (xs ++ ys)
  then_none xs ys once none p q d c a b i j = by (split xs ys p d a) (split xs ys q c b)
    where
      by : (slice_get xs p ≡ Some d) ⊎ ((k : ℕ) × (p ≡ length xs + k) × (slice_get ys k ≡ Some d)) → (slice_get xs q ≡ Some c) ⊎ ((k : ℕ) × (q ≡ length xs + k) × (slice_get ys k ≡ Some c)) → p ≡ q
      by (inl x) (inl y) = once p q d c x y i j
      by (inr x) other = absurd (all_here Apart ys none x.0 d x.2 i)
      by (inl x) (inr y) = absurd (all_here Apart ys none y.0 c y.2 j)

  once_alone : (x : Declared) → OnceIn (x ∷ [])
  once_alone x zero zero d c a b i j = refl
  once_alone x zero (suc q) d c a b i j = absurd (none-some c b)
  once_alone x (suc p) q d c a b i j = absurd (none-some d a)

  once_never : OnceIn []
  once_never p q d c a b i j = absurd (none-some d a)

  one_name : (n : ℕ) (unit : Option ℕ) (scope : ℕ × ℕ) (names : List (List ℕ)) (word : List ℕ) → length names ≤ 1 → OnceIn (declared_as n unit (Some scope) (equate_names names word))
  one_name n unit scope [] word few = once_alone (record { name = word; node = n; from = scope.0; to = scope.1; unit = unit })
  one_name n unit scope (first ∷ []) word few = once_alone (record { name = first; node = n; from = scope.0; to = scope.1; unit = unit })
  one_name n unit scope (first ∷ second ∷ names) word few = absurd (omega (arith, few))

no_module : (outer : NodeKind) → is_module outer kind.Equate ≡ false
no_module kind.Module = refl
no_module _ = refl

module _ (nodes : List Node) (rounds : List Round) (shaped : HaveForms nodes) (e : ℕ) (its : Node) (at : slice_get nodes e ≡ Some its) (is : its.kind ≡ kind.Equate) where
  abbrev round : Round
  round = round_at rounds e

  abbrev outer : NodeKind
  outer = kind_at_parent nodes round.parent

  no_variable : (m : ℕ) → VariablesAre nodes rounds (Apart e) m
  no_variable m p above k parent there kinded opened first its_name same =
      let one : above ≡ its = same_Some above its (sym there ∙ ap (slice_get nodes) same ∙ at) in
      true≢false (sym opened ∙ ap (λ (node : Node). opens node.kind k) one ∙ ap (λ (j : NodeKind). opens j k) is)

  elsewhere : (m : ℕ) → (m ≡ e → ⊥) → AllOf (Apart e) (declared_at nodes rounds m (slice_get nodes m))
  elsewhere m other = at_node nodes rounds (Apart e) m (no_variable m) (λ node there scope says its_name. other) (λ node there says its_name. other)

  own_once : (k : NodeKind) → k ≡ kind.Equate → OnceIn e (declared_as e round.unit (scope_of k outer e round) (own_names k its))
  own_once k same =
      subst (λ (k : NodeKind). OnceIn e (declared_as e round.unit (scope_of k outer e round) (own_names k its))) (sym same)
      (one_name e e round.unit (round.body_first, round.body_last) its.names its.value (few_names nodes shaped e its at is))

  no_module_here : AllOf (Apart e) (module_at outer e its)
  no_module_here = subst (λ (b : Bool). AllOf (Apart e) (if b then module_named e its.names else [])) (sym (ap (is_module outer) is ∙ no_module outer)) tt

  once_here : OnceIn e (declared_at nodes rounds e (slice_get nodes e))
  once_here =
      let variables : List Declared = variable_of e its.kind round round.parent (node_at nodes round.parent) in
      let owns : List Declared = own_at outer e its round in
      subst (λ (o : Option Node). OnceIn e (declared_at nodes rounds e o)) (sym at)
      (then_none e (variables ++ owns) (module_at outer e its)
      (none_then e variables owns (of_variables nodes rounds (Apart e) e (no_variable e) its.kind (ap kind_of at) round.parent refl (node_at nodes round.parent) refl) (own_once its.kind is))
      no_module_here)

  once_to : (n : ℕ) → OnceIn e (declared_to nodes rounds n)
  unfolding declared_to
  once_to zero = once_never e
  once_to (suc n) = elim (cases_eq n e) [
    | inl same ↦
        subst (λ (i : ℕ). OnceIn e (declared_to nodes rounds i ++ declared_at nodes rounds i (slice_get nodes i))) (sym same)
        (none_then e (declared_to nodes rounds e) (declared_at nodes rounds e (slice_get nodes e))
        (all_to nodes rounds (Apart e) e (λ m less. elsewhere m (λ one. absurd (omega (arith, one, less))))) once_here)
    | inr other ↦
        then_none e (declared_to nodes rounds n) (declared_at nodes rounds n (slice_get nodes n)) (once_to n)
        (elsewhere n other)
  ]

pub declare_once : (nodes : List Node) (rounds : List Round) (ds : List Declared) → HaveForms nodes → ds ≡ declarations nodes rounds → DeclareOnce nodes ds
declare_once nodes rounds ds shaped all p q d c a b equate same =
    let its = node_there kind.Equate (slice_get nodes d.node) equate in
    once_to nodes rounds shaped d.node its.node its.there its.its (length nodes) p q d c
    (ap (λ (xs : List Declared). slice_get xs p) (sym all) ∙ a) (ap (λ (xs : List Declared). slice_get xs q) (sym all) ∙ b) refl (sym same)
