-- Where lines begin and how far they are indented, by the tree: a line begins at each equate, own declaration, routine,
-- cluster, statement and arm, and at certain words; it is indented by one step for each body that holds it.
use Rattle.std.specs.Prelude.{ℕ, zero, suc, ◌+◌, ◌-◌, ◌^◌, ◌||◌, ◌&&◌, not, min, if◌then◌else◌, Bool, true, false, List, [], ◌∷◌, length, set, replicate, slice_get, get_or, Option, Some, None}
use Rattle.clu_lexer.specs.declared.symbols.Symbol.{Symbol}
use Rattle.clu_lexer.specs.declared.symbols.Symbol.TheVariants as symbol
use Rattle.clu_tree.specs.declared.node.Node.{Node}
use Rattle.clu_tree.specs.declared.node.NodeKind.{NodeKind}
use Rattle.clu_tree.specs.declared.node.NodeKind.TheVariants as kind
use Rattle.clu_grammar.specs.Kinds.{is_statement}

-- nodes that begin a line
abbrev pub begins_line : NodeKind → Bool
begins_line kind.Equate = true
begins_line kind.Own = true
begins_line kind.Routine = true
begins_line kind.Cluster = true
begins_line kind.When = true
begins_line kind.Others = true
begins_line kind.TagArm = true
begins_line k = is_statement k

-- words that begin a line if they stand directly in a node
abbrev pub word_begins_line : Symbol → Bool
word_begins_line symbol.Except = true
word_begins_line symbol.Elseif = true
word_begins_line symbol.Else = true
word_begins_line symbol.Others = true
word_begins_line symbol.End = true
word_begins_line _ = false

abbrev pub is_arm : NodeKind → Bool
is_arm kind.TagArm = true
is_arm _ = false

-- whether a child's lines stand in a body of the node; in a Tagcase these are the statements after `others`
abbrev pub is_in_body : NodeKind → NodeKind → Bool
is_in_body kind.Routine child = true
is_in_body kind.Cluster child = true
is_in_body kind.While child = true
is_in_body kind.For child = true
is_in_body kind.If child = true
is_in_body kind.Begin child = true
is_in_body kind.TagArm child = true
is_in_body kind.When child = true
is_in_body kind.Others child = true
is_in_body kind.Tagcase child = not (is_arm child)
is_in_body _ child = false

-- the next number, if it has 32 bits
abbrev pub next : ℕ → ℕ
next n = min (n + 1) (2 ^ 32 - 1)

abbrev pub inner_indent : NodeKind → NodeKind → ℕ → ℕ
inner_indent node child indent = if is_in_body node child then next indent else indent

-- a type set stands on one line
abbrev pub is_type_set : NodeKind → Bool
is_type_set kind.TypeSet = true
is_type_set _ = false

abbrev pub is_prefix : NodeKind → Bool
is_prefix kind.Prefix = true
is_prefix _ = false

abbrev pub word_at : Option Symbol → Bool
word_at (Some s) = word_begins_line s
word_at None = false

-- the indentation of the line that each token begins, where the token of this number may be a word that begins one
abbrev pub with_word : List Symbol → ℕ → List (Option ℕ) → ℕ → List (Option ℕ)
with_word symbols indent begins at = if word_at (slice_get symbols at) then set begins at (Some indent) else begins

-- the same for so many tokens from one on
unfoldable pub with_words : List Symbol → ℕ → ℕ → ℕ → List (Option ℕ) → List (Option ℕ)
with_words symbols indent zero at begins = begins
with_words symbols indent (suc count) at begins = with_words symbols indent count (at + 1) (with_word symbols indent begins at)

-- the child begins a line
abbrev pub with_child : NodeKind → ℕ → Node → List (Option ℕ) → List (Option ℕ)
with_child kind indent child begins =
    if begins_line child.kind && not (is_type_set kind) then set begins child.first (Some (inner_indent kind child.kind indent)) else begins

abbrev pub last_of : Option Node → ℕ → ℕ
last_of (Some child) from = next child.last
last_of None from = from

-- the tokens of the node from one on before the child, and the child
abbrev pub before_child : List Symbol → NodeKind → ℕ → ℕ → Option Node → List (Option ℕ) → List (Option ℕ)
before_child symbols kind indent from (Some child) begins = with_child kind indent child (with_words symbols indent (child.first - from) from begins)
before_child symbols kind indent from None begins = begins

-- the tokens of a node from one on, with these children, up to its last
unfoldable pub with_children : List Node → List Symbol → Node → ℕ → ℕ → List ℕ → List (Option ℕ) → List (Option ℕ)
with_children nodes symbols node indent from [] begins = with_words symbols indent (next node.last - from) from begins
with_children nodes symbols node indent from (c ∷ cs) begins =
    with_children nodes symbols node indent (last_of (slice_get nodes c) from) cs (before_child symbols node.kind indent from (slice_get nodes c) begins)

abbrev pub child_indent : NodeKind → ℕ → Option Node → ℕ
child_indent kind indent (Some child) = inner_indent kind child.kind indent
child_indent kind indent None = indent

-- how far the lines of each node are indented, once a node has told its children
unfoldable pub with_indents : List Node → NodeKind → ℕ → List ℕ → List ℕ → List ℕ
with_indents nodes kind indent [] indents = indents
with_indents nodes kind indent (c ∷ cs) indents = with_indents nodes kind indent cs (set indents c (child_indent kind indent (slice_get nodes c)))

-- where lines begin and how far they are indented, and which tokens are prefix operators; and the indentation of nodes
pub record Lines : Type 0 where
  pub begins : List (Option ℕ)
  pub prefix : List Bool

pub record Marked : Type 0 where
  pub lines : Lines
  pub indents : List ℕ

abbrev pub with_prefix : Node → List Bool → List Bool
with_prefix node prefix = if is_prefix node.kind then set prefix node.first true else prefix

abbrev pub lines_with : List Node → List Symbol → Node → ℕ → Lines → Lines
lines_with nodes symbols node indent lines = record {
  begins = with_children nodes symbols node indent node.first node.children lines.begins;
  prefix = with_prefix node lines.prefix;
}

-- a node says it of its tokens and its children
abbrev pub with_node : List Node → List Symbol → ℕ → Option Node → Marked → Marked
with_node nodes symbols n None marked = marked
with_node nodes symbols n (Some node) marked = record {
  lines = lines_with nodes symbols node (get_or marked.indents n 0) marked.lines;
  indents = with_indents nodes node.kind (get_or marked.indents n 0) node.children marked.indents;
}

-- the nodes before this number say it, from the last down, since a node stands after its children
unfoldable pub with_nodes : List Node → List Symbol → ℕ → Marked → Marked
with_nodes nodes symbols zero marked = marked
with_nodes nodes symbols (suc n) marked = with_nodes nodes symbols n (with_node nodes symbols n (slice_get nodes n) marked)

-- the first token begins a line
abbrev pub no_lines : List Symbol → List Node → Marked
no_lines symbols nodes = record {
  lines = record { begins = set (replicate (length symbols) None) 0 (Some 0); prefix = replicate (length symbols) false };
  indents = replicate (length nodes) 0;
}

-- the lines of a tree, whose tokens are these
abbrev pub lines_of : List Symbol → List Node → Lines
lines_of symbols nodes = (with_nodes nodes symbols (length nodes) (no_lines symbols nodes)).lines
