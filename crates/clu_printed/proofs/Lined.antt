-- The lines of the second tree are those of the first, without what stands at an optional `;`.
use Rattle.std.proofs.Common.{◌≡◌, ℕ, zero, suc, ◌+◌, ◌-◌, ◌<◌, ◌≤◌, Bool, true, false, not, ◌&&◌, if◌then◌else◌, ◌^◌, List, [], ◌∷◌, length, set, replicate, get_or, Option, Some, None, slice_get, refl, sym, ap, ◌∙◌, subst, inl, inr, arith}
use Rattle.std.specs.List.{AllZip}
use Rattle.std.proofs.lemmas.Bool.{cases_lt, cases_Bool}
use Rattle.std.proofs.lemmas.Slice.Zip.{AllZip-long}
use Rattle.clu_lexer.specs.declared.symbols.Symbol.{Symbol}
use Rattle.clu_tree.specs.declared.node.Node.{Node}
use Rattle.clu_tree.specs.declared.node.NodeKind.{NodeKind}
use Rattle.clu_printer.specs.Lines.{begins_line, word_begins_line, inner_indent, is_type_set, is_prefix, next, word_at, with_word, with_words, with_child, last_of, before_child, with_children, child_indent, with_indents, Lines, Marked, with_prefix, with_node, with_nodes, no_lines, lines_of}
use Rattle.clu_printed.proofs.Kept.{is_optional, kept, place_of, got_kept, set_kept, place_kept, place_gone, place_past, place_up, place_small, place_behind, replicate_kept}
use Rattle.clu_printed.proofs.Rebuilt.{IsMoved, zip_got, zip_past}
use Rattle.clu_printed.proofs.Stripped.{semicolon_is}

module _ (symbols : List Symbol) where
  -- words that begin lines
  word_kept : (indent at : ℕ) (begins : List (Option ℕ)) (x : Symbol) → slice_get symbols at ≡ Some x → is_optional x ≡ false → kept symbols (with_word symbols indent begins at) ≡ with_word (kept symbols symbols) indent (kept symbols begins) (place_of symbols at)
  word_kept indent at begins x is left =
      let found : slice_get (kept symbols symbols) (place_of symbols at) ≡ Some x = got_kept symbols symbols at x is left ∙ is in
      let first : with_word symbols indent begins at ≡ (if word_begins_line x then set begins at (Some indent) else begins) = rw is refl in
      let second : with_word (kept symbols symbols) indent (kept symbols begins) (place_of symbols at) ≡ (if word_begins_line x then set (kept symbols begins) (place_of symbols at) (Some indent) else kept symbols begins) = rw found refl in
      ap (kept symbols) first ∙ by_test (word_begins_line x) ∙ sym second
    where
      by_test : (test : Bool) → kept symbols (if test then set begins at (Some indent) else begins) ≡ (if test then set (kept symbols begins) (place_of symbols at) (Some indent) else kept symbols begins)
      by_test true = set_kept symbols begins at (Some indent) x is left
      by_test false = refl

  no_word : (indent at : ℕ) (begins : List (Option ℕ)) → word_at (slice_get symbols at) ≡ false → with_word symbols indent begins at ≡ begins
  no_word indent at begins h = rw h refl

  gone_word : (x : Symbol) → is_optional x ≡ true → word_begins_line x ≡ false
  gone_word x gone = subst (λ (y : Symbol). word_begins_line y ≡ false) (sym (semicolon_is x gone)) refl

  words_kept : (indent count at to : ℕ) (begins : List (Option ℕ)) → at + count ≡ to → kept symbols (with_words symbols indent count at begins) ≡ with_words (kept symbols symbols) indent (place_of symbols to - place_of symbols at) (place_of symbols at) (kept symbols begins)
  unfolding with_words
  words_kept indent zero at to begins e =
      let same : to ≡ at = omega (arith, e) in
      let none : place_of symbols to - place_of symbols at ≡ 0 = omega (arith, ap (place_of symbols) same) in
      ap (λ (count : ℕ). with_words (kept symbols symbols) indent count (place_of symbols at) (kept symbols begins)) (sym none)
  words_kept indent (suc count) at to begins e =
      by_symbol (slice_get symbols at) refl (words_kept indent count (at + 1) to (with_word symbols indent begins at) (omega (arith, e)))
    where
      rest : kept symbols (with_words symbols indent count (at + 1) (with_word symbols indent begins at)) ≡ with_words (kept symbols symbols) indent (place_of symbols to - place_of symbols (at + 1)) (place_of symbols (at + 1)) (kept symbols (with_word symbols indent begins at)) → place_of symbols (at + 1) ≡ place_of symbols at → word_at (slice_get symbols at) ≡ false → kept symbols (with_words symbols indent count (at + 1) (with_word symbols indent begins at)) ≡ with_words (kept symbols symbols) indent (place_of symbols to - place_of symbols at) (place_of symbols at) (kept symbols begins)
      rest h p none =
          h ∙ ap (λ (k : ℕ). with_words (kept symbols symbols) indent (place_of symbols to - k) k (kept symbols (with_word symbols indent begins at))) p
          ∙ ap (λ (bs : List (Option ℕ)). with_words (kept symbols symbols) indent (place_of symbols to - place_of symbols at) (place_of symbols at) (kept symbols bs)) (no_word indent at begins none)

      by_symbol : (o : Option Symbol) → slice_get symbols at ≡ o → kept symbols (with_words symbols indent count (at + 1) (with_word symbols indent begins at)) ≡ with_words (kept symbols symbols) indent (place_of symbols to - place_of symbols (at + 1)) (place_of symbols (at + 1)) (kept symbols (with_word symbols indent begins at)) → kept symbols (with_words symbols indent count (at + 1) (with_word symbols indent begins at)) ≡ with_words (kept symbols symbols) indent (place_of symbols to - place_of symbols at) (place_of symbols at) (kept symbols begins)
      by_symbol None is h = rest h (place_past symbols at is) (ap word_at is)
      by_symbol (Some x) is h = elim (cases_Bool (is_optional x)) [
        | inl gone ↦ rest h (place_gone symbols at x is gone) (ap word_at is ∙ gone_word x gone)
        | inr left ↦ (
            let p : place_of symbols (at + 1) ≡ place_of symbols at + 1 = place_kept symbols at x is left in
            let below : place_of symbols (at + 1) ≤ place_of symbols to = place_up symbols (at + 1) to (omega (arith, e)) in
            let n : place_of symbols to - place_of symbols at ≡ suc (place_of symbols to - (place_of symbols at + 1)) = omega (arith, p, below) in
            h ∙ ap (λ (k : ℕ). with_words (kept symbols symbols) indent (place_of symbols to - k) k (kept symbols (with_word symbols indent begins at))) p
            ∙ ap (λ (bs : List (Option ℕ)). with_words (kept symbols symbols) indent (place_of symbols to - (place_of symbols at + 1)) (place_of symbols at + 1) bs) (word_kept indent at begins x is left)
            ∙ ap (λ (c : ℕ). with_words (kept symbols symbols) indent c (place_of symbols at) (kept symbols begins)) (sym n)
            )
      ]

  words_span : (indent from to : ℕ) (begins : List (Option ℕ)) → kept symbols (with_words symbols indent (to - from) from begins) ≡ with_words (kept symbols symbols) indent (place_of symbols to - place_of symbols from) (place_of symbols from) (kept symbols begins)
  unfolding with_words
  words_span indent from to begins = elim (cases_lt to from) [
    | inl less ↦ (
        let none : to - from ≡ 0 = omega arith in
        let none' : place_of symbols to - place_of symbols from ≡ 0 = omega (arith, place_up symbols to from (omega arith)) in
        ap (λ (count : ℕ). kept symbols (with_words symbols indent count from begins)) none
        ∙ ap (λ (count : ℕ). with_words (kept symbols symbols) indent count (place_of symbols from) (kept symbols begins)) (sym none')
        )
    | inr more ↦ words_kept indent (to - from) from to begins (omega arith)
  ]

  -- children that begin lines
  child_kept : (kind : NodeKind) (indent : ℕ) (m n : Node) (begins : List (Option ℕ)) → IsMoved symbols m n → kept symbols (with_child kind indent m begins) ≡ with_child kind indent n (kept symbols begins)
  child_kept kind indent m n begins h =
      by_test (begins_line m.kind && not (is_type_set kind)) ∙ sym second
    where
      second : with_child kind indent n (kept symbols begins) ≡ (if begins_line m.kind && not (is_type_set kind) then set (kept symbols begins) (place_of symbols m.first) (Some (inner_indent kind m.kind indent)) else kept symbols begins)
      second =
          ap (λ (k : NodeKind). if begins_line k && not (is_type_set kind) then set (kept symbols begins) n.first (Some (inner_indent kind k indent)) else kept symbols begins) h.kind_is
          ∙ ap (λ (k : ℕ). if begins_line m.kind && not (is_type_set kind) then set (kept symbols begins) k (Some (inner_indent kind m.kind indent)) else kept symbols begins) h.first_is

      by_test : (test : Bool) → kept symbols (if test then set begins m.first (Some (inner_indent kind m.kind indent)) else begins) ≡ (if test then set (kept symbols begins) (place_of symbols m.first) (Some (inner_indent kind m.kind indent)) else kept symbols begins)
      by_test true = set_kept symbols begins m.first (Some (inner_indent kind m.kind indent)) h.first_kept.0 h.first_kept.1 h.first_kept.2
      by_test false = refl

  prefix_kept : (m n : Node) (prefix : List Bool) → IsMoved symbols m n → kept symbols (with_prefix m prefix) ≡ with_prefix n (kept symbols prefix)
  prefix_kept m n prefix h = by_test (is_prefix m.kind) ∙ sym second
    where
      second : with_prefix n (kept symbols prefix) ≡ (if is_prefix m.kind then set (kept symbols prefix) (place_of symbols m.first) true else kept symbols prefix)
      second =
          ap (λ (k : NodeKind). if is_prefix k then set (kept symbols prefix) n.first true else kept symbols prefix) h.kind_is
          ∙ ap (λ (k : ℕ). if is_prefix m.kind then set (kept symbols prefix) k true else kept symbols prefix) h.first_is

      by_test : (test : Bool) → kept symbols (if test then set prefix m.first true else prefix) ≡ (if test then set (kept symbols prefix) (place_of symbols m.first) true else kept symbols prefix)
      by_test true = set_kept symbols prefix m.first true h.first_kept.0 h.first_kept.1 h.first_kept.2
      by_test false = refl

module _ (symbols : List Symbol) (nodes again : List Node) (moved : AllZip (IsMoved symbols) nodes again) (first : Symbol) (is_first : slice_get symbols 0 ≡ Some first) (first_left : is_optional first ≡ false) (few : length symbols + 2 < 2 ^ 32) where
  -- what comes behind a node
  record Behind (m n : Node) : Type 0 where
    one : next m.last ≡ m.last + 1
    other : next n.last ≡ place_of symbols (m.last + 1)

  behind : (m n : Node) → IsMoved symbols m n → Behind m n
  behind m n h =
      let some : 1 ≤ place_of symbols (m.last + 1) = place_behind symbols first m.last is_first first_left in
      let small : place_of symbols (m.last + 1) ≤ m.last + 1 = place_small symbols (m.last + 1) in
      let last : n.last + 1 ≡ place_of symbols (m.last + 1) = omega (arith, h.last_is, some) in
      record { one = omega (arith, h.small, few); other = omega (arith, last, small, h.small, few) }

  -- the tokens of a node
  children_kept : (m n : Node) (indent from : ℕ) (cs : List ℕ) (begins : List (Option ℕ)) → IsMoved symbols m n → kept symbols (with_children nodes symbols m indent from cs begins) ≡ with_children again (kept symbols symbols) n indent (place_of symbols from) cs (kept symbols begins)
  unfolding with_children
  children_kept m n indent from [] begins h =
      let b = behind m n h in
      ap (λ (k : ℕ). kept symbols (with_words symbols indent (k - from) from begins)) b.one
      ∙ words_span symbols indent from (m.last + 1) begins
      ∙ ap (λ (k : ℕ). with_words (kept symbols symbols) indent (k - place_of symbols from) (place_of symbols from) (kept symbols begins)) (sym b.other)
  children_kept m n indent from (c ∷ cs) begins h =
      by_child (slice_get nodes c) refl (λ from' begins'. children_kept m n indent from' cs begins' h)
    where
      by_child : (o : Option Node) → slice_get nodes c ≡ o → ((from' : ℕ) (begins' : List (Option ℕ)) → kept symbols (with_children nodes symbols m indent from' cs begins') ≡ with_children again (kept symbols symbols) n indent (place_of symbols from') cs (kept symbols begins')) → kept symbols (with_children nodes symbols m indent (last_of (slice_get nodes c) from) cs (before_child symbols m.kind indent from (slice_get nodes c) begins)) ≡ with_children again (kept symbols symbols) n indent (last_of (slice_get again c) (place_of symbols from)) cs (before_child (kept symbols symbols) n.kind indent (place_of symbols from) (slice_get again c) (kept symbols begins))
      by_child None is rest =
          let none : slice_get again c ≡ None = zip_past (IsMoved symbols) nodes again c moved is in
          rw (is, none) (rest from begins)
      by_child (Some k) is rest =
          let z = zip_got (IsMoved symbols) nodes again c k moved is in
          let b = behind k z.0 z.2 in
          let words = with_words symbols indent (k.first - from) from begins in
          let made = with_child m.kind indent k words in
          let here : kept symbols made ≡ with_child n.kind indent z.0 (with_words (kept symbols symbols) indent (z.0.first - place_of symbols from) (place_of symbols from) (kept symbols begins)) =
          child_kept symbols m.kind indent k z.0 words z.2
          ∙ ap (λ (bs : List (Option ℕ)). with_child m.kind indent z.0 bs) (words_span symbols indent from k.first begins ∙ ap (λ (f : ℕ). with_words (kept symbols symbols) indent (f - place_of symbols from) (place_of symbols from) (kept symbols begins)) (sym z.2.first_is))
          ∙ ap (λ (kind : NodeKind). with_child kind indent z.0 (with_words (kept symbols symbols) indent (z.0.first - place_of symbols from) (place_of symbols from) (kept symbols begins))) (sym h.kind_is) in
          let left : with_children nodes symbols m indent (last_of (slice_get nodes c) from) cs (before_child symbols m.kind indent from (slice_get nodes c) begins) ≡ with_children nodes symbols m indent (next k.last) cs made = rw is refl in
          let right : with_children again (kept symbols symbols) n indent (last_of (slice_get again c) (place_of symbols from)) cs (before_child (kept symbols symbols) n.kind indent (place_of symbols from) (slice_get again c) (kept symbols begins)) ≡ with_children again (kept symbols symbols) n indent (next z.0.last) cs (with_child n.kind indent z.0 (with_words (kept symbols symbols) indent (z.0.first - place_of symbols from) (place_of symbols from) (kept symbols begins))) = rw z.1 refl in
          let end : place_of symbols (next k.last) ≡ next z.0.last = ap (place_of symbols) b.one ∙ sym b.other in
          ap (kept symbols) left ∙ rest (next k.last) made
          ∙ ap (λ (f : ℕ). with_children again (kept symbols symbols) n indent f cs (kept symbols made)) end
          ∙ ap (λ (bs : List (Option ℕ)). with_children again (kept symbols symbols) n indent (next z.0.last) cs bs) here
          ∙ sym right

  indents_same : (m n : Node) (indent : ℕ) (cs indents : List ℕ) → IsMoved symbols m n → with_indents again n.kind indent cs indents ≡ with_indents nodes m.kind indent cs indents
  unfolding with_indents
  indents_same m n indent [] indents h = refl
  indents_same m n indent (c ∷ cs) indents h =
      ap (λ (k : ℕ). with_indents again n.kind indent cs (set indents c k)) (by_child (slice_get nodes c) refl) ∙ indents_same m n indent cs (set indents c (child_indent m.kind indent (slice_get nodes c))) h
    where
      by_child : (o : Option Node) → slice_get nodes c ≡ o → child_indent n.kind indent (slice_get again c) ≡ child_indent m.kind indent (slice_get nodes c)
      by_child None is = let none : slice_get again c ≡ None = zip_past (IsMoved symbols) nodes again c moved is in rw (is, none) refl
      by_child (Some k) is = let z = zip_got (IsMoved symbols) nodes again c k moved is in rw (is, z.1, z.2.kind_is, h.kind_is) refl

  record AreMarked (a b : Marked) : Type 0 where
    begins : b.lines.begins ≡ kept symbols a.lines.begins
    prefix : b.lines.prefix ≡ kept symbols a.lines.prefix
    indents : b.indents ≡ a.indents

  node_marked : (n : ℕ) (a b : Marked) → AreMarked a b → AreMarked (with_node nodes symbols n (slice_get nodes n) a) (with_node again (kept symbols symbols) n (slice_get again n) b)
  node_marked n a b known = by_node (slice_get nodes n) refl
    where
      by_node : (o : Option Node) → slice_get nodes n ≡ o → AreMarked (with_node nodes symbols n o a) (with_node again (kept symbols symbols) n (slice_get again n) b)
      by_node None is = rw (zip_past (IsMoved symbols) nodes again n moved is) known
      by_node (Some m) is =
          let z = zip_got (IsMoved symbols) nodes again n m moved is in
          let indent = get_or a.indents n 0 in
          rw z.1 (record {
            begins =
                ap (λ (i : ℕ). with_children again (kept symbols symbols) z.0 i z.0.first z.0.children b.lines.begins) (ap (λ (xs : List ℕ). get_or xs n 0) known.indents)
                ∙ ap (λ (bs : List (Option ℕ)). with_children again (kept symbols symbols) z.0 indent z.0.first z.0.children bs) known.begins
                ∙ ap (λ (f : ℕ). with_children again (kept symbols symbols) z.0 indent f z.0.children (kept symbols a.lines.begins)) z.2.first_is
                ∙ ap (λ (cs : List ℕ). with_children again (kept symbols symbols) z.0 indent (place_of symbols m.first) cs (kept symbols a.lines.begins)) z.2.children_are
                ∙ sym (children_kept m z.0 indent m.first m.children a.lines.begins z.2);
            prefix = ap (with_prefix z.0) known.prefix ∙ sym (prefix_kept symbols m z.0 a.lines.prefix z.2);
            indents =
                ap (λ (i : ℕ). with_indents again z.0.kind i z.0.children b.indents) (ap (λ (xs : List ℕ). get_or xs n 0) known.indents)
                ∙ ap (λ (xs : List ℕ). with_indents again z.0.kind indent z.0.children xs) known.indents
                ∙ ap (λ (cs : List ℕ). with_indents again z.0.kind indent cs a.indents) z.2.children_are
                ∙ indents_same m z.0 indent m.children a.indents z.2;
          })

  nodes_marked : (n : ℕ) (a b : Marked) → AreMarked a b → AreMarked (with_nodes nodes symbols n a) (with_nodes again (kept symbols symbols) n b)
  unfolding with_nodes
  nodes_marked zero a b known = known
  nodes_marked (suc n) a b known = nodes_marked n (with_node nodes symbols n (slice_get nodes n) a) (with_node again (kept symbols symbols) n (slice_get again n) b) (node_marked n a b known)

  pub record AreLined : Type 0 where
    pub begins : (lines_of (kept symbols symbols) again).begins ≡ kept symbols (lines_of symbols nodes).begins
    pub prefix : (lines_of (kept symbols symbols) again).prefix ≡ kept symbols (lines_of symbols nodes).prefix

  start : AreMarked (no_lines symbols nodes) (no_lines (kept symbols symbols) again)
  start = record {
    begins = ap (λ (bs : List (Option ℕ)). set bs 0 (Some 0)) (sym (replicate_kept symbols None)) ∙ sym (set_kept symbols (replicate (length symbols) None) 0 (Some 0) first is_first first_left);
    prefix = sym (replicate_kept symbols false);
    indents = ap (λ (n : ℕ). replicate n 0) (AllZip-long (IsMoved symbols) nodes again moved);
  }

  pub lined : AreLined
  lined =
      let all = nodes_marked (length nodes) (no_lines symbols nodes) (no_lines (kept symbols symbols) again) start in
      let same : lines_of (kept symbols symbols) again ≡ (with_nodes again (kept symbols symbols) (length nodes) (no_lines (kept symbols symbols) again)).lines =
      ap (λ (n : ℕ). (with_nodes again (kept symbols symbols) n (no_lines (kept symbols symbols) again)).lines) (AllZip-long (IsMoved symbols) nodes again moved) in
      record { begins = ap (λ (l : Lines). l.begins) same ∙ all.begins; prefix = ap (λ (l : Lines). l.prefix) same ∙ all.prefix }
