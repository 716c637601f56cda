-- The modules of a file are the children of its root, and each is declared by its name.
use Rattle.std.proofs.Common.{◌≡◌, ◌∙◌, ◌⊎◌, ℕ, zero, suc, ◌+◌, ◌-◌, ◌<◌, ◌≤◌, ◌&&◌, Bool, true, false, cond, if◌then◌else◌, List, [], ◌∷◌, ◌++◌, length, map, find, Option, Some, None, slice_get, refl, ap, ap₂, sym, subst, inl, inr, arith}
use Rattle.std.specs.Prelude.{bytes_eq}
use Rattle.std.proofs.lemmas.Bool.{true≢false, cases_Bool, cases_lt, cases_eq, and_from}
use Rattle.std.proofs.lemmas.Option.{none-some, same_Some, slice_get_within}
use Rattle.std.proofs.lemmas.Slice.Eq.{bytes_eq-Decides}
use Rattle.clu_base.proofs.Lists.{got_front}
use Rattle.clu_tree.specs.declared.node.Node.{Node}
use Rattle.clu_tree.specs.declared.node.NodeKind.{NodeKind}
use Rattle.clu_tree.specs.declared.node.NodeKind.TheVariants as kind
use Rattle.clu_tree.specs.Nodes.{modules, modules_from, module_at}
use Rattle.clu_parser.specs.Trees.{Text}
use Rattle.clu_syntax.specs.declared.round.Round.{Round}
use Rattle.clu_syntax.specs.Rounds.{AreRounds, round_at}
use Rattle.clu_syntax.specs.Enough.{least_names, HasEnough}
use Rattle.clu_syntax.specs.Kinds.{kind_at, kind_of}
use Rattle.clu_syntax.specs.Splits.{is_of, first_name}
use Rattle.clu_syntax.specs.Syntax.{Identifier, Module}
use Rattle.clu_syntax.specs.Items.{modules_at}
use Rattle.clu_syntax.specs.Nodes.{item_at, file_of}
use Rattle.clu_syntax.proofs.Enough.{enough}
use Rattle.clu_names.specs.declared.scopes.Declared.{Declared}
use Rattle.clu_names.specs.Scopes as scopes
use Rattle.clu_names.specs.Scopes.{kind_at_parent, node_at, is_stream, is_module, module_named, variable_of, own_at, declared_at, declared_to, declarations}
use Rattle.clu_names.specs.Denotes.{found, is_open, stands_in}
use Rattle.clu_names.specs.Latest.{IsBest}
use Rattle.clu_names.proofs.Best.{found_is}
use Rattle.clu_checking.specs.Specifications.{Specification, specification_in}
use Rattle.clu_checking.specs.Headings.{specification_of}
use Rattle.clu_settle.specs.Names.{names_of}
use Rattle.clu_parts.proofs.Fitting.{IsPart, AreParts}
use Rattle.clu_declares.specs.Declares.{IsParsed}
use Rattle.clu_declares.proofs.Below.{same_kind}
use Rattle.clu_declares.proofs.Facts.{There, there, ModuleIs, module_at as module_is, root_parts, top}
use Rattle.clu_declares.proofs.Modules.{Ascends, children_ascend, above}
use Rattle.clu_declares.proofs.Parents.{IsIn, in_either, HasParent, has_parent, never_file, file_of_module}

-- ---- lists in ascending order

ascends_later : (a b : ℕ) (cs : List ℕ) → a ≤ b → Ascends b cs → Ascends a cs
ascends_later a b [] l s = tt
ascends_later a b (c ∷ cs) l s = let m : b ≤ c = s.0 in (omega (arith, l, m), s.1)

-- two of the same numbers are one
ascends_same : (a : ℕ) (xs ys : List ℕ) → Ascends a xs → Ascends a ys → ((n : ℕ) → IsIn n xs → IsIn n ys) → ((n : ℕ) → IsIn n ys → IsIn n xs) → xs ≡ ys
ascends_same a [] [] s t to back = refl
ascends_same a [] (y ∷ ys) s t to back = absurd (back y (inl refl))
ascends_same a (x ∷ xs) [] s t to back = absurd (to x (inl refl))
ascends_same a (x ∷ xs) (y ∷ ys) s t to back =
    ap₂ (λ (z : ℕ) (zs : List ℕ). z ∷ zs) same
    (ascends_same (x + 1) xs ys s.1 (subst (λ (k : ℕ). Ascends (k + 1) ys) (sym same) t.1)
    (λ n i. elim (to n (inr i)) [ inl e ↦ absurd (let l : x + 1 ≤ n = above (x + 1) n xs s.1 i in omega (arith, l, e, same)) | inr j ↦ j ])
    (λ n i. elim (back n (inr i)) [ inl e ↦ absurd (let l : y + 1 ≤ n = above (y + 1) n ys t.1 i in omega (arith, l, e, same)) | inr j ↦ j ]))
  where
    same : x ≡ y
    same = elim (to x (inl refl)) [
      | inl e ↦ sym e
      | inr i ↦ elim (back y (inl refl)) [
        | inl e ↦ e
        | inr j ↦ absurd (let l : y + 1 ≤ x = above (y + 1) x ys t.1 i in let m : x + 1 ≤ y = above (x + 1) y xs s.1 j in omega (arith, l, m))
      ]
    ]

in_back : (c : ℕ) (xs ys : List ℕ) → IsIn c ys → IsIn c (xs ++ ys)
in_back c [] ys i = i
in_back c (x ∷ xs) ys i = inr (in_back c xs ys i)

-- ---- the Module nodes

one_ascends : (at : ℕ) (k : NodeKind) (rest : List ℕ) → Ascends (at + 1) rest → Ascends at (module_at at k ++ rest)
one_ascends at kind.Module rest s = (omega arith, s)
one_ascends at kind.File rest s = ascends_later at (at + 1) rest (omega arith) s
one_ascends at _ rest s = ascends_later at (at + 1) rest (omega arith) s

modules_ascend : (at : ℕ) (ns : List Node) → Ascends at (modules_from at ns)
modules_ascend at [] = tt
modules_ascend at (n ∷ ns) = one_ascends at n.kind (modules_from (at + 1) ns) (modules_ascend (at + 1) ns)

in_modules : (at : ℕ) (ns : List Node) (i : ℕ) (node : Node) → slice_get ns i ≡ Some node → node.kind ≡ kind.Module → IsIn (at + i) (modules_from at ns)
in_modules at [] i node e is = absurd (none-some node e)
in_modules at (n ∷ ns) zero node e is =
    let same : at ≡ at + 0 = omega arith in
    subst (λ (k : NodeKind). IsIn (at + 0) (module_at at k ++ modules_from (at + 1) ns)) (sym (ap (λ (n : Node). n.kind) (same_Some n node e) ∙ is)) (inl same)
in_modules at (n ∷ ns) (suc i) node e is =
    let same : at + 1 + i ≡ at + suc i = omega arith in
    in_back (at + suc i) (module_at at n.kind) (modules_from (at + 1) ns) (subst (λ (k : ℕ). IsIn k (modules_from (at + 1) ns)) same (in_modules (at + 1) ns i node e is))

-- a Module at a place of the list, of which the first has the number `at`
record IsModuleOf (ns : List Node) (at n : ℕ) : Type 0 where
  pub place : ℕ
  pub node : Node
  pub there : slice_get ns place ≡ Some node
  pub is : node.kind ≡ kind.Module
  pub number : n ≡ at + place

its_own : (at n : ℕ) (k : NodeKind) → IsIn n (module_at at k) → (k ≡ kind.Module) × (n ≡ at)
its_own at n kind.Module (inl e) = (refl, sym e)
its_own at n kind.Module (inr i) = absurd i
its_own at n kind.File i = absurd i
its_own at n _ i = absurd i

of_modules : (at : ℕ) (ns : List Node) (n : ℕ) → IsIn n (modules_from at ns) → IsModuleOf ns at n
of_modules at [] n i = absurd i
of_modules at (x ∷ ns) n i = elim (in_either n (module_at at x.kind) (modules_from (at + 1) ns) i) [
  | inl own ↦ (let e = its_own at n x.kind own in let number : n ≡ at = e.1 in record { place = 0; node = x; there = refl; is = e.0; number = omega (arith, number) })
  | inr more ↦ (let m : IsModuleOf ns (at + 1) n = of_modules (at + 1) ns n more in let number : n ≡ at + 1 + m.place = m.number in record { place = suc m.place; node = m.node; there = m.there; is = m.is; number = omega (arith, number) })
]

part_of : (nodes : List Node) (p : NodeKind → Bool) (n c : ℕ) (cs : List ℕ) → AreParts nodes p n cs → IsIn c cs → p (kind_at nodes c) ≡ true
part_of nodes p n c [] ps i = absurd i
part_of nodes p n c (x ∷ cs) ps (inl e) = subst (λ (x : ℕ). p (kind_at nodes x) ≡ true) e ps.0.1
part_of nodes p n c (x ∷ cs) ps (inr i) = part_of nodes p n c cs ps.1 i

-- ---- declarations of a name

pub record Has (name : Identifier) (ds : List Declared) : Type 0 where
  pub place : ℕ
  pub its : Declared
  pub there : slice_get ds place ≡ Some its
  pub named : its.name ≡ name
  pub of_none : its.unit ≡ None

has_front : (name : Identifier) (xs ys : List Declared) → Has name xs → Has name (xs ++ ys)
has_front name xs ys h = record { place = h.place; its = h.its; there = got_front xs ys h.place h.its h.there; named = h.named; of_none = h.of_none }

has_back : (name : Identifier) (xs ys : List Declared) → Has name ys → Has name (xs ++ ys)
has_back name [] ys h = h
has_back name (x ∷ xs) ys h = let more : Has name (xs ++ ys) = has_back name xs ys h in record { place = suc more.place; its = more.its; there = more.there; named = more.named; of_none = more.of_none }

module _ (nodes : List Node) (rounds : List Round) (name : Identifier) (n : ℕ) (here : Has name (declared_at nodes rounds n (slice_get nodes n))) where
  has_to : (m : ℕ) → n < m → Has name (declared_to nodes rounds m)
  unfolding declared_to
  has_to zero l = absurd (omega (arith, l))
  has_to (suc m) l = elim (cases_eq n m) [
    | inl same ↦ has_back name (declared_to nodes rounds m) (declared_at nodes rounds m (slice_get nodes m)) (subst (λ (i : ℕ). Has name (declared_at nodes rounds i (slice_get nodes i))) same here)
    | inr apart ↦ has_front name (declared_to nodes rounds m) (declared_at nodes rounds m (slice_get nodes m)) (has_to m (omega (arith, l, apart)))
  ]

-- a module is open everywhere
pub not_found : (ds : List Declared) (name : Identifier) (n : ℕ) → found ds name n ≡ None → Has name ds → ⊥
not_found ds name n e h =
    let best : IsBest (λ j d. is_open name n d ≡ true) ds None = subst (IsBest (λ j d. is_open name n d ≡ true) ds) e (found_is ds name n) in
    best h.place h.its h.there
    (and_from (bytes_eq h.its.name name) (stands_in h.its.unit h.its.from h.its.to n) ((bytes_eq-Decides h.its.name name).1 h.named) (ap (λ (unit : Option ℕ). stands_in unit h.its.from h.its.to n) h.of_none))

pub names_there : (names : List Identifier) → 1 ≤ length names → (rest : List Identifier) × (names ≡ first_name names ∷ rest)
names_there [] l = absurd (omega (arith, l))
names_there (name ∷ rest) l = (rest, refl)

module _ (t : Text) (nodes : List Node) (rounds : List Round) (parsed : IsParsed t nodes) (are : AreRounds nodes rounds) where
  -- ---- of the root

  abbrev pub root : Node
  root = parsed.file.0

  -- a Module is a child of the root
  pub of_root : (n : ℕ) (node : Node) → slice_get nodes n ≡ Some node → node.kind ≡ kind.Module → IsIn n root.children
  of_root n node at is = elim (cases_lt n (length nodes - 1)) [
    | inl less ↦ by (has_parent nodes parsed.order n less)
    | inr more ↦
        (let l : n < length nodes = slice_get_within nodes n node at in
        let last : n ≡ length nodes - 1 = omega (arith, more, l) in
        let same : node ≡ root = same_Some node root (sym at ∙ ap (slice_get nodes) last ∙ parsed.file.1) in
        absurd (let never : kind.Module ≡ kind.File = sym is ∙ ap (λ (n : Node). n.kind) same ∙ parsed.file.2 in cc))
  ]
    where
      by : HasParent nodes n → IsIn n root.children
      by q = elim (cases_lt q.parent (length nodes - 1)) [
        | inl less ↦
            (let p : HasParent nodes q.parent = has_parent nodes parsed.order q.parent less in
            let file : is_of kind.File q.node.kind ≡ true = file_of_module nodes parsed.tree q.parent q.node q.at (parsed.forms q.parent q.node q.at) n q.child (ap kind_of at ∙ is) in
            absurd (never_file nodes parsed.tree p.parent p.node p.at (parsed.forms p.parent p.node p.at) q.parent p.child (ap kind_of q.at ∙ same_kind kind.File q.node.kind file)))
        | inr more ↦
            (let l : q.parent < length nodes = slice_get_within nodes q.parent q.node q.at in
            let last : q.parent ≡ length nodes - 1 = omega (arith, more, l) in
            subst (λ (x : Node). IsIn n x.children) (same_Some q.node root (sym q.at ∙ ap (slice_get nodes) last ∙ parsed.file.1)) q.child)
      ]

  pub modules_are : modules nodes ≡ root.children
  modules_are =
      ascends_same 0 (modules nodes) root.children (modules_ascend 0 nodes) (children_ascend nodes parsed.order (length nodes - 1) root parsed.file.1)
      (λ n i. (let m : IsModuleOf nodes 0 n = of_modules 0 nodes n i in
      let number : n ≡ 0 + m.place = m.number in
      let same : m.place ≡ n = omega (arith, number) in
      of_root n m.node (ap (slice_get nodes) (sym same) ∙ m.there) m.is))
      (λ n i. (let th : There nodes n kind.Module = there nodes n kind.Module refl (same_kind kind.Module (kind_at nodes n) (part_of nodes (is_of kind.Module) (top t nodes rounds parsed are) n root.children (root_parts t nodes rounds parsed are).0 i)) in
      let same : 0 + n ≡ n = omega arith in
      subst (λ (k : ℕ). IsIn k (modules nodes)) same (in_modules 0 nodes n th.node th.at th.is)))

  -- ---- each is declared

  module _ (u : ℕ) (node : Node) (at : slice_get nodes u ≡ Some node) (is : node.kind ≡ kind.Module) where
    abbrev its : ModuleIs t nodes rounds parsed are u node
    its = module_is t nodes rounds parsed are u node at is

    stands : kind_at_parent nodes (round_at rounds its.last).parent ≡ kind.Module
    stands = ap (kind_at_parent nodes) its.round.parent ∙ ap kind_of at ∙ is

    named_one : (n : ℕ) (name : Identifier) (rest : List Identifier) → is_stream name ≡ false → Has name (module_named n (name ∷ rest))
    named_one n name rest e =
        subst (λ (b : Bool). Has name (if b then [] else record { name = name; node = n; from = 0; to = 4294967295; unit = None } ∷ [])) (sym e)
        (record { place = 0; its = record { name = name; node = n; from = 0; to = 4294967295; unit = None }; there = refl; named = refl; of_none = refl })

    declares_so : (k : NodeKind) (th : There nodes its.last k) → is_module kind.Module k ≡ true → 1 ≤ least_names k → is_stream (first_name th.node.names) ≡ false → Has (first_name th.node.names) (declarations nodes rounds)
    declares_so k th defines least e =
        has_to nodes rounds (first_name th.node.names) its.last
        (subst (λ (o : Option Node). Has (first_name th.node.names) (declared_at nodes rounds its.last o)) (sym th.at)
        (has_back (first_name th.node.names) (variable_of its.last th.node.kind (round_at rounds its.last) (round_at rounds its.last).parent (node_at nodes (round_at rounds its.last).parent) ++ own_at (kind_at_parent nodes (round_at rounds its.last).parent) its.last th.node (round_at rounds its.last))
        (scopes.module_at (kind_at_parent nodes (round_at rounds its.last).parent) its.last th.node) here))
        (length nodes) (slice_get_within nodes its.last th.node th.at)
      where
        many : 1 ≤ length th.node.names
        many =
            let some : least_names th.node.kind ≤ length th.node.names = (enough nodes parsed.forms its.last th.node th.at).names in
            let same : least_names th.node.kind ≡ least_names k = ap least_names th.is in
            omega (arith, least, some, same)

        here : Has (first_name th.node.names) (scopes.module_at (kind_at_parent nodes (round_at rounds its.last).parent) its.last th.node)
        here =
            let x = names_there th.node.names many in
            subst (λ (b : Bool). Has (first_name th.node.names) (if b then module_named its.last th.node.names else [])) (sym (ap₂ is_module stands th.is ∙ defines))
            (subst (λ (names : List Identifier). Has (first_name th.node.names) (module_named its.last names)) (sym x.1) (named_one its.last (first_name th.node.names) x.0 e))

    pub declares : is_stream (first_name (names_of (slice_get nodes its.last))) ≡ false → Has (first_name (names_of (slice_get nodes its.last))) (declarations nodes rounds)
    declares e = elim its.defines [
      | inl d ↦ by kind.Routine (there nodes its.last kind.Routine refl d.0) refl (omega arith)
      | inr d ↦ by kind.Cluster (there nodes its.last kind.Cluster refl d.0) refl (omega arith)
    ]
      where
        by : (k : NodeKind) (th : There nodes its.last k) → is_module kind.Module k ≡ true → 1 ≤ least_names k → Has (first_name (names_of (slice_get nodes its.last))) (declarations nodes rounds)
        by k th defines least =
            subst (λ (o : Option Node). Has (first_name (names_of o)) (declarations nodes rounds)) (sym th.at)
            (declares_so k th defines least (sym (ap (λ (o : Option Node). is_stream (first_name (names_of o))) th.at) ∙ e))
