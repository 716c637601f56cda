-- Which nodes stand first in a Declare and last in a Module.
use Rattle.std.proofs.Common.{◌≡◌, ◌∙◌, ◌⊎◌, ℕ, zero, suc, ◌+◌, ◌-◌, Bool, true, false, ◌&&◌, List, [], ◌∷◌, ◌++◌, length, get_or, Option, Some, None, slice_get, append_assoc, refl, ap, sym, subst, inl, inr, rules, arith}
use Rattle.clu_tree.specs.declared.node.Node.{Node}
use Rattle.clu_tree.specs.declared.node.NodeKind.{NodeKind}
use Rattle.clu_tree.specs.declared.node.NodeKind.TheVariants as k
use Rattle.clu_tree.specs.contracts.node.NodeKind.{the_type as kind_type}
use Rattle.clu_parser.specs.Shape.{Child, one, is_child, Part, token, name, value, child, many, maybe, Letter, own, named, valued, node, IsWord, nothing, token_is, name_is, value_is, child_is, no_more, one_more, without, with_one, IsFormOf, forms, kinds_in, HaveKinds, HasForm, HaveForms}
use Rattle.clu_syntax.specs.Kinds.{kind_of, kind_at}
use Rattle.clu_syntax.specs.Splits.{child as child_at, last_child}
use Rattle.clu_syntax.proofs.Enough.{kinds_append}
use denote.Enum.Bare.{sameb, same_true}

-- the child that stands first in a form, if no group stands before it
first_in : List Part → Option Child
first_in [] = None
first_in (token x ∷ ps) = first_in ps
first_in (name ∷ ps) = first_in ps
first_in (value xs ∷ ps) = first_in ps
first_in (child c ∷ ps) = Some c
first_in (many g ∷ ps) = None
first_in (maybe g ∷ ps) = None

-- no child and no group
is_plain : List Part → Bool
is_plain [] = true
is_plain (token x ∷ ps) = is_plain ps
is_plain (name ∷ ps) = is_plain ps
is_plain (value xs ∷ ps) = is_plain ps
is_plain (child c ∷ ps) = false
is_plain (many g ∷ ps) = false
is_plain (maybe g ∷ ps) = false

-- the child with which a form ends, if no group stands after it
abbrev last_with : Bool → Child → Option Child → Option Child
last_with true c later = Some c
last_with false c later = later

last_in : List Part → Option Child
last_in [] = None
last_in (child c ∷ ps) = last_with (is_plain ps) c (last_in ps)
last_in (_ ∷ ps) = last_in ps

record BeginsWith (c : Child) (kinds : List NodeKind) : Type 0 where
  kind : NodeKind
  rest : List NodeKind
  is : kinds ≡ kind ∷ rest
  fits : is_child c kind ≡ true

record EndsWith (c : Child) (kinds : List NodeKind) : Type 0 where
  before : List NodeKind
  kind : NodeKind
  is : kinds ≡ before ++ kind ∷ []
  fits : is_child c kind ≡ true

same_some : (c d : Child) → Some c ≡ Some d → c ≡ d
same_some c d e = cc

begins : (c : Child) (form : List Part) (w : List Letter) → IsWord form w → first_in form ≡ Some c → BeginsWith c (kinds_in w)
unfolding first_in
begins c _ _ nothing e = absurd (cc)
begins c _ _ (token_is x ps w d) e = begins c ps w d e
begins c _ _ (name_is ps w d) e = begins c ps w d e
begins c _ _ (value_is xs x ps w h d) e = begins c ps w d e
begins c _ _ (child_is b kind ps w h d) e = record { kind = kind; rest = kinds_in w; is = refl; fits = subst (λ (a : Child). is_child a kind ≡ true) (same_some b c e) h }
begins c _ _ (no_more g ps w d) e = absurd (cc)
begins c _ _ (one_more g ps v w u dv dw same) e = absurd (cc)
begins c _ _ (without g ps w d) e = absurd (cc)
begins c _ _ (with_one g ps v w u dv dw same) e = absurd (cc)

plain_none : (form : List Part) (w : List Letter) → IsWord form w → is_plain form ≡ true → kinds_in w ≡ []
unfolding is_plain
plain_none _ _ nothing e = refl
plain_none _ _ (token_is x ps w d) e = plain_none ps w d e
plain_none _ _ (name_is ps w d) e = plain_none ps w d e
plain_none _ _ (value_is xs x ps w h d) e = plain_none ps w d e
plain_none _ _ (child_is b kind ps w h d) e = absurd (cc)
plain_none _ _ (no_more g ps w d) e = absurd (cc)
plain_none _ _ (one_more g ps v w u dv dw same) e = absurd (cc)
plain_none _ _ (without g ps w d) e = absurd (cc)
plain_none _ _ (with_one g ps v w u dv dw same) e = absurd (cc)

later : (c : Child) (v w u : List Letter) → u ≡ v ++ w → EndsWith c (kinds_in w) → EndsWith c (kinds_in u)
later c v w u e h = record {
  before = kinds_in v ++ h.before;
  kind = h.kind;
  is = ap kinds_in e ∙ kinds_append v w ∙ rw h.is (sym (append_assoc (kinds_in v) h.before (h.kind ∷ [])));
  fits = h.fits;
}

after_kind : (c : Child) (kind : NodeKind) (kinds : List NodeKind) → EndsWith c kinds → EndsWith c (kind ∷ kinds)
after_kind c kind kinds h = record { before = kind ∷ h.before; kind = h.kind; is = ap (λ ks. kind ∷ ks) h.is; fits = h.fits }

before_end : (c b : Child) (kind : NodeKind) (ps : List Part) (w : List Letter) → is_child b kind ≡ true → IsWord ps w → last_with (is_plain ps) b (last_in ps) ≡ Some c → (last_in ps ≡ Some c → EndsWith c (kinds_in w)) → EndsWith c (kind ∷ kinds_in w)
before_end c b kind ps w h d e more = at (is_plain ps) refl e
  where
    at : (plain : Bool) → is_plain ps ≡ plain → last_with plain b (last_in ps) ≡ Some c → EndsWith c (kind ∷ kinds_in w)
    at true p e = record { before = []; kind = kind; is = ap (λ ks. kind ∷ ks) (plain_none ps w d p); fits = subst (λ (a : Child). is_child a kind ≡ true) (same_some b c e) h }
    at false p e = after_kind c kind (kinds_in w) (more e)

ends : (c : Child) (form : List Part) (w : List Letter) → IsWord form w → last_in form ≡ Some c → EndsWith c (kinds_in w)
unfolding last_in
ends c _ _ nothing e = absurd (cc)
ends c _ _ (token_is x ps w d) e = ends c ps w d e
ends c _ _ (name_is ps w d) e = ends c ps w d e
ends c _ _ (value_is xs x ps w h d) e = ends c ps w d e
ends c _ _ (child_is b kind ps w h d) e = before_end c b kind ps w h d e (ends c ps w d)
ends c _ _ (no_more g ps w d) e = ends c ps w d e
ends c _ _ (one_more g ps v w u dv dw same) e = later c v w u same (ends c (many g ∷ ps) w dw e)
ends c _ _ (without g ps w d) e = ends c ps w d e
ends c _ _ (with_one g ps v w u dv dw same) e = later c v w u same (ends c ps w dw e)

kind_from : (nodes : List Node) (c : ℕ) (n : Node) (kind : NodeKind) → slice_get nodes c ≡ Some n → n.kind ≡ kind → kind_at nodes c ≡ kind
kind_from nodes c n kind there is = ap kind_of there ∙ is

first_at : (nodes : List Node) (cs : List ℕ) (kind : NodeKind) (rest : List NodeKind) → HaveKinds nodes cs (kind ∷ rest) → kind_at nodes (get_or cs 0 0) ≡ kind
first_at nodes [] kind rest h = absurd h
first_at nodes (c ∷ cs) kind rest h = kind_from nodes c h.0 kind h.1 h.2

last_at : (nodes : List Node) (cs : List ℕ) (before : List NodeKind) (kind : NodeKind) → HaveKinds nodes cs (before ++ kind ∷ []) → kind_at nodes (get_or cs (length cs - 1) 0) ≡ kind
last_at nodes [] [] kind h = absurd h
last_at nodes [] (b ∷ before) kind h = absurd h
last_at nodes (c ∷ []) [] kind h = kind_from nodes c h.0 kind h.1 h.2
last_at nodes (c ∷ d ∷ cs) [] kind h = absurd h.3
last_at nodes (c ∷ []) (b ∷ []) kind h = absurd h.3
last_at nodes (c ∷ []) (b ∷ a ∷ before) kind h = absurd h.3
last_at nodes (c ∷ d ∷ cs) (b ∷ before) kind h =
    let e : length (c ∷ d ∷ cs) - 1 ≡ suc (length (d ∷ cs) - 1) = omega arith in
    ap (λ (i : ℕ). kind_at nodes (get_or (c ∷ d ∷ cs) i 0)) e ∙ last_at nodes (d ∷ cs) before kind h.3

same_kind : (a b : NodeKind) → sameb kind_type a b ≡ true → a ≡ b
same_kind a b h = same_true kind_type (search rules) a b h

first_class : (nodes : List Node) (n : Node) (kind : NodeKind) (f : HasForm nodes n) → first_in f.form ≡ Some (one kind) → kind_at nodes (child_at 0 n) ≡ kind
first_class nodes n kind f e =
    let first : BeginsWith (one kind) (kinds_in f.word) = begins (one kind) f.form f.word f.is_word e in
    let children : HaveKinds nodes n.children (first.kind ∷ first.rest) = subst (λ (ks : List NodeKind). HaveKinds nodes n.children ks) first.is f.children_are in
    first_at nodes n.children first.kind first.rest children ∙ sym (same_kind kind first.kind first.fits)

last_class : (nodes : List Node) (n : Node) (kind : NodeKind) (f : HasForm nodes n) → last_in f.form ≡ Some (one kind) → kind_at nodes (last_child n) ≡ kind
last_class nodes n kind f e =
    let end : EndsWith (one kind) (kinds_in f.word) = ends (one kind) f.form f.word f.is_word e in
    let children : HaveKinds nodes n.children (end.before ++ end.kind ∷ []) = subst (λ (ks : List NodeKind). HaveKinds nodes n.children ks) end.is f.children_are in
    last_at nodes n.children end.before end.kind children ∙ sym (same_kind kind end.kind end.fits)

-- the child of a Declare is a Decl
pub declared_kind : (nodes : List Node) → HaveForms nodes → (i : ℕ) (n : Node) → slice_get nodes i ≡ Some n → n.kind ≡ k.Declare → kind_at nodes (child_at 0 n) ≡ k.Decl
unfolding first_in
declared_kind nodes shaped i n at is =
    let f : HasForm nodes n = shaped i n at in
    let of_kind : IsFormOf f.form (forms k.Declare) = subst (λ (kind : NodeKind). IsFormOf f.form (forms kind)) is f.of_kind in
    elim of_kind [ inl e ↦ first_class nodes n k.Decl f (ap first_in e) | inr none ↦ absurd none ]

-- the last child of a Module is a Routine or a Cluster
pub defined_kind : (nodes : List Node) → HaveForms nodes → (i : ℕ) (n : Node) → slice_get nodes i ≡ Some n → n.kind ≡ k.Module → (kind_at nodes (last_child n) ≡ k.Routine) ⊎ (kind_at nodes (last_child n) ≡ k.Cluster)
unfolding last_in is_plain
defined_kind nodes shaped i n at is =
    let f : HasForm nodes n = shaped i n at in
    let of_kind : IsFormOf f.form (forms k.Module) = subst (λ (kind : NodeKind). IsFormOf f.form (forms kind)) is f.of_kind in
    elim of_kind [
      | inl e ↦ inl (last_class nodes n k.Routine f (ap last_in e))
      | inr more ↦ elim more [ inl e ↦ inr (last_class nodes n k.Cluster f (ap last_in e)) | inr none ↦ absurd none ]
    ]
