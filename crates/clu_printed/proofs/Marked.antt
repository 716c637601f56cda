-- The marks of a layout: there is one for each token, and prefix operators are signs.
use Rattle.std.proofs.Common.{◌≡◌, ℕ, zero, suc, ◌+◌, ◌-◌, Bool, true, false, not, ◌&&◌, if◌then◌else◌, List, [], ◌∷◌, length, set, replicate, get_or, Option, Some, None, slice_get, refl, sym, ap, ◌∙◌, subst, inl, inr, ◌⊎◌, length-set}
use Rattle.std.proofs.lemmas.List.{length-replicate}
use Rattle.clu_lexer.specs.declared.symbols.Symbol.{Symbol}
use Rattle.clu_tree.specs.declared.node.Node.{Node}
use Rattle.clu_tree.specs.declared.node.NodeKind.{NodeKind}
use Rattle.clu_tree.specs.declared.node.NodeKind.TheVariants as kind
use Rattle.clu_grammar.specs.Choice.{has}
use Rattle.clu_grammar.specs.Grammar.{signs}
use Rattle.clu_parser.specs.Shape.{Letter, valued, IsWord, value_is, Spelled, a_value, IsShaped, value, child, expression, Part, forms, IsFormOf}
use Rattle.clu_parser.specs.Trees.{Text}
use Rattle.clu_printer.specs.Lines.{begins_line, inner_indent, is_type_set, is_prefix, next, word_at, with_word, with_words, with_child, last_of, before_child, with_children, Marked, with_prefix, with_node, with_nodes, no_lines, lines_of}
use Rattle.clu_printer.specs.Printed.{prefix_at}

-- as many marks as before
if_length : {X : Type 0} (test : Bool) (xs ys : List X) (n : ℕ) → length xs ≡ n → length ys ≡ n → length (if test then xs else ys) ≡ n
if_length true xs ys n h k = h
if_length false xs ys n h k = k

word_length : (symbols : List Symbol) (indent at : ℕ) (begins : List (Option ℕ)) → length (with_word symbols indent begins at) ≡ length begins
word_length symbols indent at begins = if_length (word_at (slice_get symbols at)) (set begins at (Some indent)) begins (length begins) (length-set begins at (Some indent)) refl

words_length : (symbols : List Symbol) (indent count at : ℕ) (begins : List (Option ℕ)) → length (with_words symbols indent count at begins) ≡ length begins
unfolding with_words
words_length symbols indent zero at begins = refl
words_length symbols indent (suc count) at begins = words_length symbols indent count (at + 1) (with_word symbols indent begins at) ∙ word_length symbols indent at begins

child_length : (k : NodeKind) (indent : ℕ) (m : Node) (begins : List (Option ℕ)) → length (with_child k indent m begins) ≡ length begins
child_length k indent m begins =
    if_length (begins_line m.kind && not (is_type_set k)) (set begins m.first (Some (inner_indent k m.kind indent))) begins (length begins) (length-set begins m.first (Some (inner_indent k m.kind indent))) refl

before_length : (symbols : List Symbol) (k : NodeKind) (indent from : ℕ) (o : Option Node) (begins : List (Option ℕ)) → length (before_child symbols k indent from o begins) ≡ length begins
before_length symbols k indent from None begins = refl
before_length symbols k indent from (Some m) begins =
    child_length k indent m (with_words symbols indent (m.first - from) from begins) ∙ words_length symbols indent (m.first - from) from begins

children_length : (nodes : List Node) (symbols : List Symbol) (m : Node) (indent from : ℕ) (cs : List ℕ) (begins : List (Option ℕ)) → length (with_children nodes symbols m indent from cs begins) ≡ length begins
unfolding with_children
children_length nodes symbols m indent from [] begins = words_length symbols indent (next m.last - from) from begins
children_length nodes symbols m indent from (c ∷ cs) begins =
    children_length nodes symbols m indent (last_of (slice_get nodes c) from) cs (before_child symbols m.kind indent from (slice_get nodes c) begins)
    ∙ before_length symbols m.kind indent from (slice_get nodes c) begins

prefix_length : (m : Node) (prefix : List Bool) → length (with_prefix m prefix) ≡ length prefix
prefix_length m prefix = if_length (is_prefix m.kind) (set prefix m.first true) prefix (length prefix) (length-set prefix m.first true) refl

abbrev pub HaveLength : Marked → ℕ → Type 0
HaveLength m n = (length m.lines.begins ≡ n) × (length m.lines.prefix ≡ n)

node_length : (nodes : List Node) (symbols : List Symbol) (i : ℕ) (o : Option Node) (m : Marked) (n : ℕ) → HaveLength m n → HaveLength (with_node nodes symbols i o m) n
node_length nodes symbols i None m n h = h
node_length nodes symbols i (Some it) m n h =
    (children_length nodes symbols it (get_or m.indents i 0) it.first it.children m.lines.begins ∙ h.0, prefix_length it m.lines.prefix ∙ h.1)

nodes_length : (nodes : List Node) (symbols : List Symbol) (i : ℕ) (m : Marked) (n : ℕ) → HaveLength m n → HaveLength (with_nodes nodes symbols i m) n
unfolding with_nodes
nodes_length nodes symbols zero m n h = h
nodes_length nodes symbols (suc i) m n h = nodes_length nodes symbols i (with_node nodes symbols i (slice_get nodes i) m) n (node_length nodes symbols i (slice_get nodes i) m n h)

pub lines_length : (symbols : List Symbol) (nodes : List Node) → (length (lines_of symbols nodes).begins ≡ length symbols) × (length (lines_of symbols nodes).prefix ≡ length symbols)
lines_length symbols nodes =
    nodes_length nodes symbols (length nodes) (no_lines symbols nodes) (length symbols)
    (length-set (replicate (length symbols) None) 0 (Some 0) ∙ length-replicate (length symbols) None, length-replicate (length symbols) false)

-- prefix operators
abbrev pub IsSign : List Symbol → ℕ → Type 0
IsSign symbols k = (x : Symbol) × (slice_get symbols k ≡ Some x) × (has signs x ≡ true)

abbrev AreSigns : List Symbol → List Bool → Type 0
AreSigns symbols prefix = (k : ℕ) → prefix_at prefix k ≡ true → IsSign symbols k

set_cases : (prefix : List Bool) (i k : ℕ) → prefix_at (set prefix i true) k ≡ true → (k ≡ i) ⊎ (prefix_at prefix k ≡ true)
set_cases [] i k h = inr h
set_cases (x ∷ prefix) zero zero h = inl refl
set_cases (x ∷ prefix) zero (suc k) h = inr h
set_cases (x ∷ prefix) (suc i) zero h = inr h
set_cases (x ∷ prefix) (suc i) (suc k) h = elim (set_cases prefix i k h) [ inl e ↦ inl (ap suc e) | inr other ↦ inr other ]

none_set : (n k : ℕ) → prefix_at (replicate n false) k ≡ true → ⊥
none_set zero k h = cc
none_set (suc n) zero h = cc
none_set (suc n) (suc k) h = none_set n k h

abbrev pub ArePrefixed : List Symbol → List Node → Type 0
ArePrefixed symbols nodes = (i : ℕ) (n : Node) → slice_get nodes i ≡ Some n → is_prefix n.kind ≡ true → IsSign symbols n.first

node_signs : (nodes : List Node) (symbols : List Symbol) (n : Node) (prefix : List Bool) → (is_prefix n.kind ≡ true → IsSign symbols n.first) → AreSigns symbols prefix → AreSigns symbols (with_prefix n prefix)
node_signs nodes symbols n prefix sign known = by_test (is_prefix n.kind) refl
  where
    by_test : (test : Bool) → is_prefix n.kind ≡ test → AreSigns symbols (if test then set prefix n.first true else prefix)
    by_test true is k h = elim (set_cases prefix n.first k h) [ inl e ↦ subst (IsSign symbols) (sym e) (sign is) | inr other ↦ known k other ]
    by_test false is k h = known k h

step_signs : (nodes : List Node) (symbols : List Symbol) (i : ℕ) (m : Marked) → ArePrefixed symbols nodes → AreSigns symbols m.lines.prefix → AreSigns symbols (with_node nodes symbols i (slice_get nodes i) m).lines.prefix
step_signs nodes symbols i m all known = by_node (slice_get nodes i) refl
  where
    by_node : (o : Option Node) → slice_get nodes i ≡ o → AreSigns symbols (with_node nodes symbols i o m).lines.prefix
    by_node None is = known
    by_node (Some n) is = node_signs nodes symbols n m.lines.prefix (all i n is) known

nodes_signs : (nodes : List Node) (symbols : List Symbol) (i : ℕ) (m : Marked) → ArePrefixed symbols nodes → AreSigns symbols m.lines.prefix → AreSigns symbols (with_nodes nodes symbols i m).lines.prefix
unfolding with_nodes
nodes_signs nodes symbols zero m all known = known
nodes_signs nodes symbols (suc i) m all known = nodes_signs nodes symbols i (with_node nodes symbols i (slice_get nodes i) m) all (step_signs nodes symbols i m all known)

pub lines_signs : (symbols : List Symbol) (nodes : List Node) → ArePrefixed symbols nodes → (k : ℕ) → prefix_at (lines_of symbols nodes).prefix k ≡ true → IsSign symbols k
lines_signs symbols nodes all = nodes_signs nodes symbols (length nodes) (no_lines symbols nodes) all (λ k h. absurd (none_set (length symbols) k h))

-- a Prefix begins with a sign
prefix_word : (form : List Part) (w : List Letter) → IsWord form w → form ≡ value signs ∷ child expression ∷ [] → (x : Symbol) × (ws : List Letter) × (w ≡ valued x ∷ ws) × (has signs x ≡ true)
prefix_word _ _ (value_is xs x ps w h d) same = (let e : xs ≡ signs = cc in (x, w, refl, subst (λ (ys : List Symbol). has ys x ≡ true) e h))
prefix_word _ _ d same = absurd (cc)

prefix_spelled : (t : Text) (nodes : List Node) (at to : ℕ) (w ws : List Letter) (x : Symbol) (children names values : List ℕ) → Spelled t nodes at w children names values to → w ≡ valued x ∷ ws → slice_get t.symbols at ≡ Some x
prefix_spelled t nodes _ to _ ws x children names _ (a_value y at w _ _ values _ is d) same = (let e : y ≡ x = cc in is ∙ ap Some e)
prefix_spelled t nodes at to w ws x children names values d same = absurd (cc)

is_prefix_kind : (k : NodeKind) → is_prefix k ≡ true → k ≡ kind.Prefix
is_prefix_kind kind.Prefix h = refl
is_prefix_kind _ h = absurd (cc)

pub are_prefixed : (t : Text) (nodes : List Node) → IsShaped t nodes → ArePrefixed t.symbols nodes
are_prefixed t nodes shaped i n is h =
    let p = shaped i n is in
    let k = is_prefix_kind n.kind h in
    let of_kind : IsFormOf p.form (forms kind.Prefix) = subst (λ (k : NodeKind). IsFormOf p.form (forms k)) k p.of_kind in
    sign p.form p.word p.names p.values of_kind p.is_word p.spelled
  where
    sign : (form : List Part) (w : List Letter) (names values : List ℕ) → IsFormOf form (forms kind.Prefix) → IsWord form w → Spelled t nodes n.first w n.children names values (n.last + 1) → IsSign t.symbols n.first
    sign form w names values (inl same) word spelled =
        let f = prefix_word form w word same in
        (f.0, prefix_spelled t nodes n.first (n.last + 1) w f.1 f.0 n.children names values spelled f.2, f.3)
    sign form w names values (inr none) word spelled = absurd none
