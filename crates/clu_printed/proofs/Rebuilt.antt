-- The tokens without the optional `;` are a file with the same tree: the same rows are read, and each action does the
-- same to trees whose tokens have moved.
use Rattle.std.proofs.Common.{◌≡◌, ℕ, zero, suc, ◌+◌, ◌-◌, ◌<◌, ◌≤◌, Bool, true, false, not, List, [], ◌∷◌, ◌++◌, length, map, take, drop, Option, Some, None, slice_get, refl, sym, ap, ◌∙◌, subst, inl, inr, arith}
use Rattle.std.specs.List.{AllZip}
use Rattle.std.proofs.lemmas.List.Elements.{AllZip-push}
use Rattle.std.proofs.lemmas.Bool.{not-true, cases_Bool}
use Rattle.std.proofs.lemmas.Option.{slice_get_within, same_Some}
use Rattle.std.proofs.lemmas.Slice.Zip.{AllZip-long}
use Rattle.clu_lexer.specs.declared.symbols.Symbol.{Symbol}
use Rattle.clu_tree.specs.declared.node.Node.{Node}
use Rattle.clu_tree.specs.declared.node.NodeKind.{NodeKind}
use Rattle.clu_tree.specs.declared.node.NodeKind.TheVariants as kind
use Rattle.clu_grammar.specs.declared.items.Action.{Action}
use Rattle.clu_grammar.specs.declared.items.Action.TheVariants as action
use Rattle.clu_grammar.specs.declared.items.Item.{Item}
use Rattle.clu_grammar.proofs.Flags.{and_left, and_right, implied}
use Rattle.clu_parser.specs.declared.begun.Begun.{Begun}
use Rattle.clu_parser.specs.Spellings.{is_idn, closes}
use Rattle.clu_parser.specs.Trees.{Text, Built, spelling_at, value_of, end_at, end_in, last_of, node_of, closed_in, closed, opened, wrapped_on, wrapped_in, wrapped, noted, noted_in, given_in, then_wrapped, acted, Builds, finished, terminal, act, chosen, nothing_built}
use Rattle.clu_printed.proofs.Fitting.{Fitting, drop_fitting, closes_kept}
use Rattle.clu_printed.proofs.Kept.{is_optional, kept, place_of, IsKept, got_kept, place_kept, place_gone, place_small, drop_kept}
use Rattle.clu_printed.proofs.Quiet.{asks, quiet, row_quiet}
use Rattle.clu_printed.proofs.Stripped.{stripped, stripped_gone, stripped_left, stripped-append, one_stripped}

-- items of two lists, pair by pair
pub zip_got : {A B : Type 0} (R : A → B → Type 0) (xs : List A) (ys : List B) (i : ℕ) (x : A) → AllZip R xs ys → slice_get xs i ≡ Some x → (y : B) × (slice_get ys i ≡ Some y) × R x y
zip_got R [] ys i x z is = absurd (cc)
zip_got R (a ∷ xs) [] i x z is = absurd z
zip_got R (a ∷ xs) (b ∷ ys) zero x z is = let same : a ≡ x = cc in (b, refl, subst (λ e. R e b) same z.0)
zip_got R (a ∷ xs) (b ∷ ys) (suc i) x z is = zip_got R xs ys i x z.1 is

pub zip_past : {A B : Type 0} (R : A → B → Type 0) (xs : List A) (ys : List B) (i : ℕ) → AllZip R xs ys → slice_get xs i ≡ None → slice_get ys i ≡ None
zip_past R [] [] i z is = refl
zip_past R [] (b ∷ ys) i z is = absurd z
zip_past R (a ∷ xs) [] i z is = refl
zip_past R (a ∷ xs) (b ∷ ys) zero z is = absurd (cc)
zip_past R (a ∷ xs) (b ∷ ys) (suc i) z is = zip_past R xs ys i z.1 is

-- a node of the first tree, and of the second
pub record IsMoved (symbols : List Symbol) (m n : Node) : Type 0 where
  pub kind_is : n.kind ≡ m.kind
  pub children_are : n.children ≡ m.children
  pub names_are : n.names ≡ m.names
  pub value_is : n.value ≡ m.value
  pub first_is : n.first ≡ place_of symbols m.first
  pub last_is : n.last ≡ place_of symbols (m.last + 1) - 1
  pub first_kept : IsKept symbols m.first
  pub small : m.last ≤ length symbols

module _ (s t : Text) (without : t.symbols ≡ kept s.symbols s.symbols) (spelled_so : (k : ℕ) → IsKept s.symbols k → spelling_at t (place_of s.symbols k) ≡ spelling_at s k) (fitting : Fitting s.symbols) where
  -- a node that has begun
  record IsBegun (o p : Begun) : Type 0 where
    first_is : p.first ≡ place_of s.symbols o.first
    first_kept : IsKept s.symbols o.first
    height_is : p.height ≡ o.height
    names_are : map (spelling_at t) p.names ≡ map (spelling_at s) o.names
    value_is : value_of t p.value ≡ value_of s o.value

  pub record AreMoved (b c : Built) : Type 0 where
    pub nodes : AllZip (IsMoved s.symbols) b.nodes c.nodes
    pub tops : c.tops ≡ b.tops
    begun : AllZip IsBegun b.begun c.begun

  pub nothing_moved : AreMoved nothing_built nothing_built
  nothing_moved = record { nodes = tt; tops = refl; begun = tt }

  -- what the step makes of the second tree
  record Made (after : Option Built) (b : Built) : Type 0 where
    made : Built
    is : after ≡ Some made
    moved : AreMoved b made

  -- the token taken last
  last_place : (at : ℕ) → place_of s.symbols at - 1 ≡ place_of s.symbols (at - 1 + 1) - 1
  last_place zero = omega (arith, place_small s.symbols (zero - 1 + 1))
  last_place (suc n) = let e : suc n - 1 + 1 ≡ suc n = omega arith in rw e refl

  taken_place : (at : ℕ) → IsKept s.symbols (at - 1) → place_of s.symbols at - 1 ≡ place_of s.symbols (at - 1)
  taken_place zero h = refl
  taken_place (suc n) h =
      let e : suc n - 1 ≡ n = omega arith in
      let k : IsKept s.symbols n = subst (IsKept s.symbols) e h in
      let up : place_of s.symbols (n + 1) ≡ place_of s.symbols n + 1 = place_kept s.symbols n k.0 k.1 k.2 in
      let f : suc n ≡ n + 1 = omega arith in
      let g : place_of s.symbols (suc n) ≡ place_of s.symbols n + 1 = ap (place_of s.symbols) f ∙ up in
      let h' : place_of s.symbols (suc n) - 1 ≡ place_of s.symbols n = omega (arith, g) in
      h' ∙ ap (place_of s.symbols) (sym e)

  got : (k : ℕ) → IsKept s.symbols k → slice_get t.symbols (place_of s.symbols k) ≡ slice_get s.symbols k
  got k h = ap (λ (xs : List Symbol). slice_get xs (place_of s.symbols k)) without ∙ got_kept s.symbols s.symbols k h.0 h.1 h.2

  open_moved : (first mark first' mark' : ℕ) (b c : Built) (height height' : ℕ) → AreMoved b c → first' ≡ place_of s.symbols first → IsKept s.symbols first → height' ≡ height → AreMoved (opened first mark height b) (opened first' mark' height' c)
  open_moved first mark first' mark' b c height height' known is left same =
      record { nodes = known.nodes; tops = known.tops; begun = (record { first_is = is; first_kept = left; height_is = same; names_are = refl; value_is = refl }, known.begun) }

  wrap_moved : (taken taken' : ℕ) (b c b' : Built) → AreMoved b c → wrapped taken b ≡ Some b' → Made (wrapped taken' c) b'
  wrap_moved taken taken' b c b' known h = at_top (slice_get b.tops (length b.tops - 1)) refl h
    where
      tops_same : slice_get c.tops (length c.tops - 1) ≡ slice_get b.tops (length b.tops - 1)
      tops_same = ap (λ (xs : List ℕ). slice_get xs (length xs - 1)) known.tops

      at_node : (top : ℕ) (o : Option Node) → slice_get b.tops (length b.tops - 1) ≡ Some top → slice_get b.nodes top ≡ o → wrapped_on taken b o ≡ Some b' → Made (wrapped taken' c) b'
      at_node top None is found h = absurd (cc)
      at_node top (Some n) is found h =
          let m = zip_got (IsMoved s.symbols) b.nodes c.nodes top n known.nodes found in
          let e : opened n.first taken (length b.tops - 1) b ≡ b' = same_Some _ _ h in
          record {
            made = opened m.0.first taken' (length c.tops - 1) c;
            is = ap (wrapped_in taken' c) (tops_same ∙ is) ∙ ap (wrapped_on taken' c) m.1;
            moved = subst (λ (y : Built). AreMoved y (opened m.0.first taken' (length c.tops - 1) c)) e
                (open_moved n.first taken m.0.first taken' b c (length b.tops - 1) (length c.tops - 1) known m.2.first_is m.2.first_kept (ap (λ (xs : List ℕ). length xs - 1) known.tops));
          }

      at_top : (o : Option ℕ) → slice_get b.tops (length b.tops - 1) ≡ o → wrapped_in taken b o ≡ Some b' → Made (wrapped taken' c) b'
      at_top None is h = absurd (cc)
      at_top (Some top) is h = at_node top (slice_get b.nodes top) is refl h

  -- where a node ends
  record Ends (last last' : ℕ) : Type 0 where
    is : last' ≡ place_of s.symbols (last + 1) - 1
    small : last ≤ length s.symbols

  ends_at : (b c : Built) (children : List ℕ) (last last' : ℕ) → AreMoved b c → Ends last last' → Ends (end_in b.nodes (slice_get children (length children - 1)) last) (end_in c.nodes (slice_get children (length children - 1)) last')
  ends_at b c children last last' known known' = in_child (slice_get children (length children - 1))
    where
      at_child : (child : ℕ) (o : Option Node) → slice_get b.nodes child ≡ o → Ends (end_at o last) (end_at (slice_get c.nodes child) last')
      at_child child None is = rw (zip_past (IsMoved s.symbols) b.nodes c.nodes child known.nodes is) known'
      at_child child (Some n) is = let m = zip_got (IsMoved s.symbols) b.nodes c.nodes child n known.nodes is in rw m.1 (record { is = m.2.last_is; small = m.2.small })

      in_child : (o : Option ℕ) → Ends (end_in b.nodes o last) (end_in c.nodes o last')
      in_child None = known'
      in_child (Some child) = at_child child (slice_get b.nodes child) refl

  ends : (k : NodeKind) (b c : Built) (children : List ℕ) (last last' : ℕ) → AreMoved b c → Ends last last' → Ends (last_of k b.nodes children last) (last_of k c.nodes children last')
  ends kind.Restrict b c children last last' known known' = ends_at b c children last last' known known'
  ends _ b c children last last' known known' = known'

  close_moved : (k : NodeKind) (last last' : ℕ) (b c b' : Built) → AreMoved b c → Ends last last' → closed s k last b ≡ Some b' → Made (closed t k last' c) b'
  close_moved k last last' b c b' known ended h = on b.begun c.begun refl refl known.begun h
    where
      on : (os ps : List Begun) → b.begun ≡ os → c.begun ≡ ps → AllZip IsBegun os ps → closed_in s k last b os ≡ Some b' → Made (closed t k last' c) b'
      on [] ps is is' z h = absurd (cc)
      on (o ∷ os) [] is is' z h = absurd z
      on (o ∷ os) (p ∷ ps) is is' z h =
          let children : drop p.height c.tops ≡ drop o.height b.tops = rw (z.0.height_is, known.tops) refl in
          let e : record { nodes = b.nodes ++ node_of s k last b.nodes (drop o.height b.tops) o ∷ []; tops = take o.height b.tops ++ length b.nodes ∷ []; begun = os } ≡ b' = same_Some _ _ h in
          let end = subst (λ (ds : List ℕ). Ends (last_of k b.nodes (drop o.height b.tops) last) (last_of k c.nodes ds last')) (sym children) (ends k b c (drop o.height b.tops) last last' known ended) in
          let node : IsMoved s.symbols (node_of s k last b.nodes (drop o.height b.tops) o) (node_of t k last' c.nodes (drop p.height c.tops) p) =
          record {
            kind_is = refl;
            children_are = children;
            names_are = z.0.names_are;
            value_is = z.0.value_is;
            first_is = z.0.first_is;
            last_is = end.is;
            first_kept = z.0.first_kept;
            small = end.small;
          } in
          record {
            made = record { nodes = c.nodes ++ node_of t k last' c.nodes (drop p.height c.tops) p ∷ []; tops = take p.height c.tops ++ length c.nodes ∷ []; begun = ps };
            is = ap (closed_in t k last' c) is';
            moved = subst (λ (y : Built). AreMoved y (record { nodes = c.nodes ++ node_of t k last' c.nodes (drop p.height c.tops) p ∷ []; tops = take p.height c.tops ++ length c.nodes ∷ []; begun = ps })) e (record {
              nodes = AllZip-push (IsMoved s.symbols) b.nodes c.nodes _ _ known.nodes node;
              tops = rw (z.0.height_is, known.tops, AllZip-long (IsMoved s.symbols) b.nodes c.nodes known.nodes) refl;
              begun = z.1;
            });
          }

  note_moved : (is_name is_name' : Bool) (taken taken' : ℕ) (b c b' : Built) → AreMoved b c → is_name' ≡ is_name → spelling_at t taken' ≡ spelling_at s taken → noted_in is_name taken b b.begun ≡ Some b' → Made (noted_in is_name' taken' c c.begun) b'
  note_moved is_name is_name' taken taken' b c b' known same spelt h = on b.begun c.begun refl known.begun h
    where
      noted_so : (is_it : Bool) (o p : Begun) → IsBegun o p → IsBegun (noted is_it taken o) (noted is_it taken' p)
      noted_so true o p z =
          record { first_is = z.first_is; first_kept = z.first_kept; height_is = z.height_is; names_are = with_name o.names p.names z.names_are; value_is = z.value_is }
        where
          with_name : (xs ys : List ℕ) → map (spelling_at t) ys ≡ map (spelling_at s) xs → map (spelling_at t) (ys ++ taken' ∷ []) ≡ map (spelling_at s) (xs ++ taken ∷ [])
          with_name [] [] e = ap (λ (n : List ℕ). n ∷ []) spelt
          with_name [] (y ∷ ys) e = absurd (cc)
          with_name (x ∷ xs) [] e = absurd (cc)
          with_name (x ∷ xs) (y ∷ ys) e =
              let head : spelling_at t y ≡ spelling_at s x = cc in
              let rest = with_name xs ys (cc) in
              rw (head, rest) refl
      noted_so false o p z = record { first_is = z.first_is; first_kept = z.first_kept; height_is = z.height_is; names_are = z.names_are; value_is = spelt }

      on : (os ps : List Begun) → c.begun ≡ ps → AllZip IsBegun os ps → noted_in is_name taken b os ≡ Some b' → Made (noted_in is_name' taken' c c.begun) b'
      on [] ps is z h = absurd (cc)
      on (o ∷ os) [] is z h = absurd z
      on (o ∷ os) (p ∷ ps) is z h =
          let e : record { nodes = b.nodes; tops = b.tops; begun = noted is_name taken o ∷ os } ≡ b' = same_Some _ _ h in
          record {
            made = record { nodes = c.nodes; tops = c.tops; begun = noted is_name taken' p ∷ ps };
            is = rw (is, same) refl;
            moved = subst (λ (y : Built). AreMoved y (record { nodes = c.nodes; tops = c.tops; begun = noted is_name taken' p ∷ ps })) e
                (record { nodes = known.nodes; tops = known.tops; begun = (noted_so is_name o p z.0, z.1) });
          }

  names_append : (xs ys us vs : List ℕ) → map (spelling_at t) ys ≡ map (spelling_at s) xs → map (spelling_at t) vs ≡ map (spelling_at s) us → map (spelling_at t) (ys ++ vs) ≡ map (spelling_at s) (xs ++ us)
  names_append [] [] us vs e f = f
  names_append [] (y ∷ ys) us vs e f = absurd (cc)
  names_append (x ∷ xs) [] us vs e f = absurd (cc)
  names_append (x ∷ xs) (y ∷ ys) us vs e f =
      let head : spelling_at t y ≡ spelling_at s x = cc in
      let rest = names_append xs ys us vs (cc) f in
      rw (head, rest) refl

  give_moved : (b c b' : Built) → AreMoved b c → given_in b b.begun ≡ Some b' → Made (given_in c c.begun) b'
  give_moved b c b' known h = on b.begun c.begun refl known.begun h
    where
      on : (os ps : List Begun) → c.begun ≡ ps → AllZip IsBegun os ps → given_in b os ≡ Some b' → Made (given_in c c.begun) b'
      on [] ps is z h = absurd (cc)
      on (o ∷ []) ps is z h = absurd (cc)
      on (o ∷ o' ∷ os) [] is z h = absurd z
      on (o ∷ o' ∷ os) (p ∷ []) is z h = absurd z.1
      on (o ∷ o' ∷ os) (p ∷ p' ∷ ps) is z h =
          let e : record { nodes = b.nodes; tops = b.tops; begun = record { first = o'.first; mark = o'.mark; height = o'.height; names = o'.names ++ o.names; value = o'.value } ∷ os } ≡ b' = same_Some _ _ h in
          let w = z.1.0 in
          let one : IsBegun (record { first = o'.first; mark = o'.mark; height = o'.height; names = o'.names ++ o.names; value = o'.value }) (record { first = p'.first; mark = p'.mark; height = p'.height; names = p'.names ++ p.names; value = p'.value }) =
          record { first_is = w.first_is; first_kept = w.first_kept; height_is = w.height_is; names_are = names_append o'.names p'.names o.names p.names w.names_are z.0.names_are; value_is = w.value_is } in
          record {
            made = record { nodes = c.nodes; tops = c.tops; begun = record { first = p'.first; mark = p'.mark; height = p'.height; names = p'.names ++ p.names; value = p'.value } ∷ ps };
            is = ap (given_in c) is;
            moved = subst (λ (y : Built). AreMoved y (record { nodes = c.nodes; tops = c.tops; begun = record { first = p'.first; mark = p'.mark; height = p'.height; names = p'.names ++ p.names; value = p'.value } ∷ ps })) e
                (record { nodes = known.nodes; tops = known.tops; begun = (one, z.1.1) });
          }

  -- a bracket that closes before a $ does so
  closes_same : (at : ℕ) → IsKept s.symbols (at - 1) → closes 0 (drop (place_of s.symbols at - 1 + 1) t.symbols) ≡ closes 0 (drop (at - 1 + 1) s.symbols)
  closes_same at h =
      let e : place_of s.symbols at - 1 + 1 ≡ place_of s.symbols (at - 1 + 1) = ap (λ (k : ℕ). k + 1) (taken_place at h) ∙ sym (place_kept s.symbols (at - 1) h.0 h.1 h.2) in
      ap (λ (k : ℕ). closes 0 (drop k t.symbols)) e
      ∙ ap (λ (xs : List Symbol). closes 0 (drop (place_of s.symbols (at - 1 + 1)) xs)) without
      ∙ ap (closes 0) (drop_kept s.symbols (at - 1 + 1))
      ∙ closes_kept 0 (drop (at - 1 + 1) s.symbols) (drop_fitting (at - 1 + 1) s.symbols fitting)

  base_moved : (at : ℕ) (b c b' : Built) → AreMoved b c → IsKept s.symbols (at - 1) → at ≤ length s.symbols → acted s action.Base (at - 1) b ≡ Some b' → Made (acted t action.Base (place_of s.symbols at - 1) c) b'
  base_moved at b c b' known left within h = on (closes 0 (drop (at - 1 + 1) s.symbols)) refl
    where
      wrap_after : (o : Option Built) → closed s kind.Name (at - 1 - 1) b ≡ o → then_wrapped (at - 1) o ≡ Some b' → Made (then_wrapped (place_of s.symbols at - 1) (closed t kind.Name (place_of s.symbols at - 1 - 1) c)) b'
      wrap_after None is h = absurd (cc)
      wrap_after (Some d) is h =
          let ended : Ends (at - 1 - 1) (place_of s.symbols at - 1 - 1) = record { is = ap (λ (k : ℕ). k - 1) (taken_place at left) ∙ last_place (at - 1); small = omega arith } in
          let first = close_moved kind.Name (at - 1 - 1) (place_of s.symbols at - 1 - 1) b c d known ended is in
          let then = wrap_moved (at - 1) (place_of s.symbols at - 1) d first.made b' first.moved h in
          record { made = then.made; is = ap (then_wrapped (place_of s.symbols at - 1)) first.is ∙ then.is; moved = then.moved }

      on : (test : Bool) → closes 0 (drop (at - 1 + 1) s.symbols) ≡ test → Made (acted t action.Base (place_of s.symbols at - 1) c) b'
      on true is =
          let e : b ≡ b' = same_Some _ _ (rw is at h) in
          let same : closes 0 (drop (place_of s.symbols at - 1 + 1) t.symbols) ≡ true = closes_same at left ∙ is in
          record { made = c; is = rw same refl; moved = subst (λ (y : Built). AreMoved y c) e known }
      on false is =
          let same : closes 0 (drop (place_of s.symbols at - 1 + 1) t.symbols) ≡ false = closes_same at left ∙ is in
          let r = wrap_after (closed s kind.Name (at - 1 - 1) b) refl (rw is at h) in
          record { made = r.made; is = rw same r.is; moved = r.moved }

  act_moved : (a : Action) (at : ℕ) (b c b' : Built) → AreMoved b c → (asks a ≡ true → IsKept s.symbols (at - 1)) → at ≤ length s.symbols → acted s a (at - 1) b ≡ Some b' → Made (acted t a (place_of s.symbols at - 1) c) b'
  act_moved action.Open at b c b' known left within h =
      let e : opened (at - 1) (at - 1) (length b.tops) b ≡ b' = same_Some _ _ h in
      let p = place_of s.symbols at - 1 in
      record {
        made = opened p p (length c.tops) c;
        is = refl;
        moved = subst (λ (y : Built). AreMoved y (opened p p (length c.tops) c)) e (open_moved (at - 1) (at - 1) p p b c (length b.tops) (length c.tops) known (taken_place at (left refl)) (left refl) (ap length known.tops));
      }
  act_moved action.Wrap at b c b' known left within h = wrap_moved (at - 1) (place_of s.symbols at - 1) b c b' known h
  act_moved action.Note at b c b' known left within h =
      let k = left refl in
      let e = taken_place at k in
      note_moved (is_idn (slice_get s.symbols (at - 1))) (is_idn (slice_get t.symbols (place_of s.symbols at - 1))) (at - 1) (place_of s.symbols at - 1) b c b' known
      (ap is_idn (ap (slice_get t.symbols) e ∙ got (at - 1) k)) (ap (spelling_at t) e ∙ spelled_so (at - 1) k) h
  act_moved (action.Close k) at b c b' known left within h =
      close_moved k (at - 1) (place_of s.symbols at - 1) b c b' known (record { is = last_place at; small = omega arith }) h
  act_moved action.Base at b c b' known left within h = base_moved at b c b' known (left refl) within h
  act_moved action.Give at b c b' known left within h = give_moved b c b' known h

  pub record IsRebuilt (items : List Item) (at : ℕ) (c : Built) (to : ℕ) (z : Built) : Type 0 where
    pub made : Built
    pub builds : Builds t (stripped items) (place_of s.symbols at) c (place_of s.symbols to) made
    pub moved : AreMoved z made

  pub rebuilt : (known : Bool) (items : List Item) (at : ℕ) (b : Built) (to : ℕ) (z : Built) → Builds s items at b to z → (c : Built) → AreMoved b c → quiet known items ≡ true → (known ≡ true → IsKept s.symbols (at - 1)) → at ≤ length s.symbols → IsRebuilt items at c to z
  rebuilt known _ at b _ _ (finished _ _) c moved still left within = record { made = c; builds = finished (place_of s.symbols at) c; moved = moved }
  rebuilt known _ at b to z (terminal x items _ _ _ _ is d) c moved still left within =
      let inside : at < length s.symbols = slice_get_within s.symbols at x is in
      let e : at + 1 - 1 ≡ at = omega arith in
      let h = rebuilt (not (is_optional x)) items (at + 1) b to z d c moved still (λ stays. subst (IsKept s.symbols) (sym e) (x, is, not-true (is_optional x) stays)) (omega arith) in
      elim (cases_Bool (is_optional x)) [
        | inl gone ↦ (
            let p = place_gone s.symbols at x is gone in
            record { made = h.made; builds = subst (λ (xs : List Item). Builds t xs (place_of s.symbols at) c (place_of s.symbols to) h.made) (sym (stripped_gone x items gone)) (subst (λ (k : ℕ). Builds t (stripped items) k c (place_of s.symbols to) h.made) p h.builds); moved = h.moved }
            )
        | inr stays ↦ (
            let p = place_kept s.symbols at x is stays in
            let found : slice_get t.symbols (place_of s.symbols at) ≡ Some x = got at (x, is, stays) ∙ is in
            record { made = h.made; builds = subst (λ (xs : List Item). Builds t xs (place_of s.symbols at) c (place_of s.symbols to) h.made) (sym (stripped_left x items stays)) (terminal x (stripped items) (place_of s.symbols at) c (place_of s.symbols to) h.made found (subst (λ (k : ℕ). Builds t (stripped items) k c (place_of s.symbols to) h.made) p h.builds)); moved = h.moved }
            )
      ]
  rebuilt known _ at b to z (act a items _ _ d _ _ is e) c moved still left within =
      let r = act_moved a at b c d moved (λ asked. left (implied _ _ (and_left _ _ still) asked)) within is in
      let h = rebuilt known items at d to z e r.made r.moved (and_right _ _ still) left within in
      record { made = h.made; builds = act a (stripped items) (place_of s.symbols at) c r.made (place_of s.symbols to) h.made r.is h.builds; moved = h.moved }
  rebuilt known _ at b to z (chosen n items row _ _ _ _ one d) c moved still left within =
      let h = rebuilt known (row ++ items) at b to z d c moved (row_quiet n known row items one still) left within in
      record {
        made = h.made;
        builds = chosen n (stripped items) (stripped row) (place_of s.symbols at) c (place_of s.symbols to) h.made (one_stripped n row one) (subst (λ (xs : List Item). Builds t xs (place_of s.symbols at) c (place_of s.symbols to) h.made) (stripped-append row items) h.builds);
        moved = h.moved;
      }
