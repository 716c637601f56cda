-- Nodes that become whole, that begin over the last child, and that are given up.
use Rattle.std.proofs.Common.{◌≡◌, ℕ, ◌+◌, ◌-◌, ◌<◌, ◌≤◌, true, List, [], ◌∷◌, ◌++◌, length, take, drop, Some, None, slice_get, refl, sym, ap, ◌∙◌, subst, append_assoc, append-nil, arith}
use Rattle.std.specs.List.{list_all}
use Rattle.std.proofs.lemmas.List.{length_push, length-append, length-take-le, drop-append-le, take-append-drop, take-take}
use Rattle.std.proofs.Math.Seq.{drop-append_seam, take-append_seam}
use Rattle.clu_tree.specs.declared.node.Node.{Node}
use Rattle.clu_tree.specs.declared.node.NodeKind.{NodeKind}
use Rattle.clu_parser.specs.declared.begun.Begun.{Begun}
use Rattle.clu_parser.specs.Trees.{Text, node_of}
use Rattle.clu_parser.proofs.Forest.{got_last}
use Rattle.clu_parser.specs.Shape.{Part, forms, Letter, node, IsWord, Spelled, ended, own_token, a_name, a_value, a_child, IsFormOf, IsProduction, IsShaped}
use Rattle.clu_parser.proofs.Words.{is_own}
use Rattle.clu_parser.proofs.Spelling.{spelled_append, spelled_split, plain_spelled, spelled_more, spelled_onward}
use Rattle.clu_parser.proofs.Standing.{IsStack, push_child, append_plain, stack_more}

module _ (t : Text) (nodes : List Node) where
  -- the letters of the innermost node, without the tokens after it
  record IsInner (o : Begun) (tops : List ℕ) (w ts : List Letter) (vs : List ℕ) (at : ℕ) : Type 0 where
    mid : ℕ
    inner : Spelled t nodes o.first w (drop o.height tops) o.names vs mid
    after : Spelled t nodes mid ts [] [] [] at

  inner_of : (o : Begun) (tops : List ℕ) (w ts : List Letter) (vs : List ℕ) (at : ℕ) → list_all is_own ts ≡ true → Spelled t nodes o.first (w ++ ts) (drop o.height tops) o.names vs at → IsInner o tops w ts vs at
  inner_of o tops w ts vs at plain known =
      let h = spelled_split t nodes o.first at w ts (drop o.height tops) o.names vs known in
      let e = plain_spelled t nodes h.mid at ts h.ds h.ns h.us plain h.right in
      let cs : h.cs ≡ drop o.height tops = sym (h.children_are ∙ ap (λ (y : List ℕ). h.cs ++ y) e.no_child ∙ append-nil h.cs) in
      let ms : h.ms ≡ o.names = sym (h.names_are ∙ ap (λ (y : List ℕ). h.ms ++ y) e.no_name ∙ append-nil h.ms) in
      let us : h.vs ≡ vs = sym (h.values_are ∙ ap (λ (y : List ℕ). h.vs ++ y) e.no_value ∙ append-nil h.vs) in
      record {
        mid = h.mid;
        inner = subst (λ (y : List ℕ). Spelled t nodes o.first w y o.names vs h.mid) cs (subst (λ (y : List ℕ). Spelled t nodes o.first w h.cs y vs h.mid) ms (subst (λ (y : List ℕ). Spelled t nodes o.first w h.cs h.ms y h.mid) us h.left));
        after = subst (λ (y : List ℕ). Spelled t nodes h.mid ts y [] [] at) e.no_child (subst (λ (y : List ℕ). Spelled t nodes h.mid ts h.ds y [] at) e.no_name (subst (λ (y : List ℕ). Spelled t nodes h.mid ts h.ds h.ns y at) e.no_value h.right));
      }

  -- the innermost node is whole
  pub record IsMade (o : Begun) (tops : List ℕ) (os : List Begun) (v ts : List Letter) (ws : List (List Letter)) (kind : NodeKind) (n : Node) (at : ℕ) : Type 0 where
    pub production : IsProduction t nodes n
    pub stack : IsStack t (nodes ++ n ∷ []) (take o.height tops ++ length nodes ∷ []) os ((v ++ node kind ∷ ts) ∷ ws) at

  pub close_node : (o : Begun) (tops : List ℕ) (os : List Begun) (l : Letter) (w v ts : List Letter) (ws : List (List Letter)) (kind : NodeKind) (last at : ℕ) (form : List Part)
      → IsShaped t nodes → list_all is_own ts ≡ true → IsWord form (l ∷ w) → IsFormOf form (forms kind)
      → IsStack t nodes tops (o ∷ os) (((l ∷ w) ++ ts) ∷ v ∷ ws) at
      → ((mid : ℕ) (vs : List ℕ) → o.first < mid → Spelled t nodes o.first (l ∷ w) (drop o.height tops) o.names vs mid → Spelled t nodes mid ts [] [] [] at → (node_of t kind last nodes (drop o.height tops) o).last + 1 ≡ mid)
      → IsMade o tops os v ts ws kind (node_of t kind last nodes (drop o.height tops) o) at
  close_node o tops os l w v ts ws kind last at form shaped plain word of_kind known ends =
      let n : Node = node_of t kind last nodes (drop o.height tops) o in
      let e = inner_of o tops (l ∷ w) ts known.0 at plain known.2 in
      let on : o.first < e.mid = spelled_onward t nodes o.first e.mid l w (drop o.height tops) o.names known.0 shaped e.inner in
      let here : n.last + 1 ≡ e.mid = ends e.mid known.0 on e.inner e.after in
      let child = push_child t (nodes ++ n ∷ []) (take o.height tops) os v ws o.first (length nodes) n (stack_more t nodes n (take o.height tops) os (v ∷ ws) o.first known.4) (got_last nodes n) refl in
      record {
        production = record {
          form = form;
          word = l ∷ w;
          names = o.names;
          values = known.0;
          of_kind = of_kind;
          is_word = word;
          spelled = subst (λ (k : ℕ). Spelled t nodes o.first (l ∷ w) (drop o.height tops) o.names known.0 k) (sym here) e.inner;
          names_are = refl;
          token_is = known.3;
          value_is = refl;
          ordered = omega arith;
        };
        stack = subst (λ (y : List Letter). IsStack t (nodes ++ n ∷ []) (take o.height tops ++ length nodes ∷ []) os (y ∷ ws) at) (append_assoc v (node kind ∷ []) ts)
            (append_plain t (nodes ++ n ∷ []) (take o.height tops ++ length nodes ∷ []) os (v ++ node kind ∷ []) ts ws (n.last + 1) at child (subst (λ (k : ℕ). Spelled t (nodes ++ n ∷ []) k ts [] [] [] at) (sym here) (spelled_more t nodes n e.mid at ts [] [] [] e.after)));
      }

  -- letters that begin with a child
  record IsFirst (at : ℕ) (kind : NodeKind) (w : List Letter) (cs ns vs : List ℕ) (to : ℕ) : Type 0 where
    number : ℕ
    child : Node
    more : List ℕ
    got : slice_get nodes number ≡ Some child
    kind_is : child.kind ≡ kind
    here : child.first ≡ at
    children_are : cs ≡ number ∷ more
    rest : Spelled t nodes (child.last + 1) w more ns vs to

  first_child : (at to : ℕ) (u : List Letter) (kind : NodeKind) (w : List Letter) (cs ns vs : List ℕ) → Spelled t nodes at u cs ns vs to → u ≡ node kind ∷ w → IsFirst at kind w cs ns vs to
  first_child at _ _ kind w _ _ _ (ended _) same = absurd (cc)
  first_child at to _ kind w cs ns vs (own_token _ _ _ _ _ _ _ _ _) same = absurd (cc)
  first_child at to _ kind w cs _ vs (a_name _ _ _ _ _ _ _ _) same = absurd (cc)
  first_child at to _ kind w cs ns _ (a_value _ _ _ _ _ _ _ _ _) same = absurd (cc)
  first_child _ to _ kind w _ ns vs (a_child c n u more _ _ _ is d) same =
      record { number = c; child = n; more = more; got = is; kind_is = cc; here = refl; children_are = refl; rest = (let e : u ≡ w = cc in subst (λ (y : List Letter). Spelled t nodes (n.last + 1) y more ns vs to) e d) }

  got_end : (xs : List ℕ) (x : ℕ) → slice_get (xs ++ x ∷ []) (length xs) ≡ Some x
  got_end [] x = refl
  got_end (y ∷ xs) x = got_end xs x

  -- a list with its last number apart
  pub record IsLast (tops rest : List ℕ) (c : ℕ) : Type 0 where
    pub got : slice_get tops (length tops - 1) ≡ Some c
    pub dropped : drop (length tops - 1) tops ≡ c ∷ []
    pub taken : take (length tops - 1) tops ≡ rest

  pub last_of : (tops rest : List ℕ) (c : ℕ) → tops ≡ rest ++ c ∷ [] → IsLast tops rest c
  last_of tops rest c same =
      let size : length (rest ++ c ∷ []) - 1 ≡ length rest = omega (arith, length_push rest c) in
      let it : IsLast (rest ++ c ∷ []) rest c = record {
        got = subst (λ (k : ℕ). slice_get (rest ++ c ∷ []) k ≡ Some c) (sym size) (got_end rest c);
        dropped = subst (λ (k : ℕ). drop k (rest ++ c ∷ []) ≡ c ∷ []) (sym size) (drop-append_seam rest (c ∷ []));
        taken = subst (λ (k : ℕ). take k (rest ++ c ∷ []) ≡ rest) (sym size) (take-append_seam rest (c ∷ []));
      } in subst (λ (y : List ℕ). IsLast y rest c) (sym same) it

  -- a node begins that holds the last whole one
  pub record IsWrapped (tops : List ℕ) (os : List Begun) (w ts : List Letter) (ws : List (List Letter)) (kind : NodeKind) (mark at : ℕ) : Type 0 where
    pub number : ℕ
    pub child : Node
    pub top : slice_get tops (length tops - 1) ≡ Some number
    pub got : slice_get nodes number ≡ Some child
    pub stack : IsStack t nodes tops (record { first = child.first; mark = mark; height = length tops - 1; names = []; value = None } ∷ os) ((node kind ∷ ts) ∷ w ∷ ws) at

  wrapped_frame : (tops rest : List ℕ) (os : List Begun) (w ts : List Letter) (ws : List (List Letter)) (kind : NodeKind) (mark at c : ℕ) (n : Node) → tops ≡ rest ++ c ∷ [] → slice_get nodes c ≡ Some n → n.kind ≡ kind → Spelled t nodes (n.last + 1) ts [] [] [] at → IsStack t nodes rest os (w ∷ ws) n.first → IsWrapped tops os w ts ws kind mark at
  wrapped_frame tops rest os w ts ws kind mark at c n same got kind_is after known =
      let e = last_of tops rest c same in
      record {
        number = c;
        child = n;
        top = e.got;
        got = got;
        stack = (
          [],
          omega arith,
          subst (λ (y : List ℕ). Spelled t nodes n.first (node kind ∷ ts) y [] [] at) (sym e.dropped) (subst (λ (y : NodeKind). Spelled t nodes n.first (node y ∷ ts) (c ∷ []) [] [] at) kind_is (a_child c n ts [] [] [] at got after)),
          refl,
          subst (λ (y : List ℕ). IsStack t nodes y os (w ∷ ws) n.first) (sym e.taken) known,
        );
      }

  -- the last child, and the tokens after it
  pub record IsEnd (at : ℕ) (kind : NodeKind) (w ts : List Letter) (children names values : List ℕ) (to : ℕ) : Type 0 where
    pub number : ℕ
    pub child : Node
    pub cs : List ℕ
    pub got : slice_get nodes number ≡ Some child
    pub kind_is : child.kind ≡ kind
    pub front : Spelled t nodes at w cs names values child.first
    pub children_are : children ≡ cs ++ number ∷ []
    pub after : Spelled t nodes (child.last + 1) ts [] [] [] to

  pub end_of : (at to : ℕ) (kind : NodeKind) (w ts : List Letter) (children names values : List ℕ) → list_all is_own ts ≡ true → Spelled t nodes at (w ++ node kind ∷ ts) children names values to → IsEnd at kind w ts children names values to
  end_of at to kind w ts children names values plain known =
      let h = spelled_split t nodes at to w (node kind ∷ ts) children names values known in
      let f = first_child h.mid to (node kind ∷ ts) kind ts h.ds h.ns h.us h.right refl in
      let e = plain_spelled t nodes (f.child.last + 1) to ts f.more h.ns h.us plain f.rest in
      let ms : h.ms ≡ names = sym (h.names_are ∙ ap (λ (y : List ℕ). h.ms ++ y) e.no_name ∙ append-nil h.ms) in
      let us : h.vs ≡ values = sym (h.values_are ∙ ap (λ (y : List ℕ). h.vs ++ y) e.no_value ∙ append-nil h.vs) in
      record {
        number = f.number;
        child = f.child;
        cs = h.cs;
        got = f.got;
        kind_is = f.kind_is;
        front = subst (λ (k : ℕ). Spelled t nodes at w h.cs names values k) (sym f.here) (subst (λ (y : List ℕ). Spelled t nodes at w h.cs y values h.mid) ms (subst (λ (y : List ℕ). Spelled t nodes at w h.cs h.ms y h.mid) us h.left));
        children_are = h.children_are ∙ ap (λ (y : List ℕ). h.cs ++ y) (f.children_are ∙ ap (λ (y : List ℕ). f.number ∷ y) e.no_child);
        after = subst (λ (y : List ℕ). Spelled t nodes (f.child.last + 1) ts y [] [] to) e.no_child (subst (λ (y : List ℕ). Spelled t nodes (f.child.last + 1) ts f.more y [] to) e.no_name (subst (λ (y : List ℕ). Spelled t nodes (f.child.last + 1) ts f.more h.ns y to) e.no_value f.rest));
      }

  pub wrap_node : (tops : List ℕ) (os : List Begun) (w ts : List Letter) (ws : List (List Letter)) (kind : NodeKind) (mark at : ℕ) → list_all is_own ts ≡ true → IsStack t nodes tops os ((w ++ node kind ∷ ts) ∷ ws) at → IsWrapped tops os w ts ws kind mark at
  wrap_node tops [] w ts [] kind mark at plain known =
      let e = end_of 0 at kind w ts tops [] [] plain known in
      wrapped_frame tops e.cs [] w ts [] kind mark at e.number e.child e.children_are e.got e.kind_is e.after e.front
  wrap_node tops [] w ts (v ∷ ws) kind mark at plain known = absurd known
  wrap_node tops (o ∷ os) w ts ws kind mark at plain known =
      let e = end_of o.first at kind w ts (drop o.height tops) o.names known.0 plain known.2 in
      let rest : List ℕ = take o.height tops ++ e.cs in
      let size : length (take o.height tops) ≡ o.height = length-take-le o.height tops known.1 in
      let same : tops ≡ rest ++ e.number ∷ [] = sym (take-append-drop o.height tops) ∙ ap (λ (y : List ℕ). take o.height tops ++ y) e.children_are ∙ sym (append_assoc (take o.height tops) e.cs (e.number ∷ [])) in
      let dropped : drop o.height rest ≡ e.cs = subst (λ (k : ℕ). drop k (take o.height tops ++ e.cs) ≡ e.cs) size (drop-append_seam (take o.height tops) e.cs) in
      let taken : take o.height rest ≡ take o.height tops = subst (λ (k : ℕ). take k (take o.height tops ++ e.cs) ≡ take o.height tops) size (take-append_seam (take o.height tops) e.cs) in
      wrapped_frame tops rest (o ∷ os) w ts ws kind mark at e.number e.child same e.got e.kind_is e.after (
        known.0,
        omega (arith, size, length-append (take o.height tops) e.cs),
        subst (λ (y : List ℕ). Spelled t nodes o.first w y o.names known.0 e.child.first) (sym dropped) e.front,
        known.3,
        subst (λ (y : List ℕ). IsStack t nodes y os ws o.first) (sym taken) known.4,
      )

  -- what the innermost node has is the outer one's, which has the value if there is one
  pub give_node : (tops : List ℕ) (o p : Begun) (os : List Begun) (w v : List Letter) (ws : List (List Letter)) (at : ℕ)
      → ((vs : List ℕ) → Spelled t nodes o.first w (drop o.height tops) o.names vs at → vs ≡ [])
      → IsStack t nodes tops (o ∷ p ∷ os) (w ∷ v ∷ ws) at
      → IsStack t nodes tops (record { first = p.first; mark = p.mark; height = p.height; names = p.names ++ o.names; value = p.value } ∷ os) ((v ++ w) ∷ ws) at
  give_node tops o p os w v ws at silent known =
      let outer = known.4 in
      let none : known.0 ≡ [] = silent known.0 known.2 in
      let size : length (take o.height tops) ≡ o.height = length-take-le o.height tops known.1 in
      let both = spelled_append t nodes p.first o.first at v w (drop p.height (take o.height tops)) (drop o.height tops) p.names o.names outer.0 known.0 outer.2 known.2 in
      let children : drop p.height (take o.height tops) ++ drop o.height tops ≡ drop p.height tops =
      sym (drop-append-le p.height (take o.height tops) (drop o.height tops) outer.1) ∙ ap (drop p.height) (take-append-drop o.height tops) in
      let values : outer.0 ++ known.0 ≡ outer.0 = ap (λ (y : List ℕ). outer.0 ++ y) none ∙ append-nil outer.0 in
      let less : p.height ≤ o.height = omega (arith, outer.1, size) in (
        outer.0,
        omega (arith, known.1),
        subst (λ (y : List ℕ). Spelled t nodes p.first (v ++ w) y (p.names ++ o.names) outer.0 at) children (subst (λ (y : List ℕ). Spelled t nodes p.first (v ++ w) (drop p.height (take o.height tops) ++ drop o.height tops) (p.names ++ o.names) y at) values both),
        outer.3,
        subst (λ (y : List ℕ). IsStack t nodes y os ws p.first) (take-take p.height o.height tops less) outer.4,
      )
