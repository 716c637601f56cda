-- Each node of the tree that reading builds is one production of its kind.
use Rattle.std.proofs.Common.{◌≡◌, ℕ, ◌+◌, ◌-◌, ◌&&◌, ◌||◌, Bool, true, false, cond, List, [], ◌∷◌, ◌++◌, length, take, drop, Option, Some, None, slice_get, refl, sym, ap, ◌∙◌, subst, inl, inr, ◌⊎◌, append_assoc, arith, rules}
use Rattle.std.specs.List.{list_all, list_any}
use Rattle.clu_lexer.specs.declared.symbols.Symbol.{Symbol}
use Rattle.clu_lexer.specs.declared.symbols.Symbol.TheVariants as s
use Rattle.clu_lexer.specs.contracts.symbols.Symbol.{the_type}
use Rattle.clu_tree.specs.declared.node.Node.{Node}
use Rattle.clu_tree.specs.declared.node.NodeKind.{NodeKind}
use Rattle.clu_tree.specs.declared.node.NodeKind.TheVariants as k
use Rattle.clu_tree.specs.contracts.node.NodeKind.{the_type as kind_type}
use Rattle.clu_grammar.specs.declared.items.Action.TheVariants as action
use Rattle.clu_grammar.specs.declared.items.Item.{Item}
use Rattle.clu_grammar.specs.declared.items.Item.TheVariants as item
use Rattle.clu_grammar.specs.declared.items.Nonterminal.{Nonterminal}
use Rattle.clu_grammar.specs.Choice.{Take, Go, has, is_among, step}
use Rattle.clu_grammar.specs.Grammar.{productions}
use Rattle.clu_grammar.specs.Language.{whole}
use Rattle.clu_grammar.specs.Rows.{Production, take as takes, peek, otherwise}
use Rattle.clu_grammar.proofs.Flags.{and_left, and_right}
use Rattle.clu_parser.specs.declared.begun.Begun.{Begun}
use Rattle.clu_parser.specs.Spellings.{closes}
use Rattle.clu_parser.specs.Trees.{Text, Built, acted as built_by, IsBuilt, nothing_built, closed as closed_by, closed_in as closing, then_wrapped, wrapped_in as holding, wrapped_on as holding_on, opened as begun_at, node_of}
use Rattle.clu_parser.specs.Shape.{one, Part, token, name, child, Letter, own, node, IsWord, nothing, token_is, child_is, Spelled, ended, own_token, IsFormOf, IsShaped}
use Rattle.clu_parser.proofs.Words.{Ended, last_token, last_child, word_append}
use Rattle.clu_parser.proofs.Fits.{fits, fits_is}
use Rattle.clu_parser.proofs.Sketch.{deep, Known, nothing_known, in_bracket, Typing, passed, kept, push, acted, based, named_before, applied_one}
use Rattle.clu_parser.proofs.Typings.{typings, ends_as, makes, may_come, is_last, start, row_makes, taken_makes, peeked_makes, rows_make}
use Rattle.clu_parser.proofs.Tested.{made}
use Rattle.clu_parser.proofs.Standing.{IsStack, push_own, pop_own, shaped_more}
use Rattle.clu_parser.proofs.Making.{close_node, wrap_node}
use Rattle.clu_grammar.proofs.Deterministic.{IsChosen}
use Rattle.clu_parser.proofs.Deriving.{Ran, stopped, took, did, chose, ran_whole}
use Rattle.clu_parser.proofs.Matching.{Matches, top, one_matches, way_all, one_form, applied_is, typing_all, one_applied}
use Rattle.clu_parser.proofs.Closing.{all_has, Holds, passed_holds, kept_holds, known_holds, comes, last_comes}
use Rattle.clu_parser.proofs.Acts.{IsActed, ending, act_open, act_note, act_wrap, ended_word}
use Rattle.clu_parser.proofs.Closes.{letter_of, act_close, act_close_restrict, act_give}
use denote.Enum.Bare.{sameb, same_true}
use Rattle.std.proofs.lemmas.Bool.{cases_Bool}
use Rattle.std.proofs.lemmas.Option.{same_Some}

-- a row that is chosen does what the typing says
go_take : (xs ys : List Item) → Go xs ≡ Take ys → ⊥
go_take xs ys h = cc

when_true : (test it : Bool) → elim test [ false ↦ true | true ↦ it ] ≡ true → test ≡ true → it ≡ true
when_true true it h is = h
when_true false it h is = absurd (cc)

unless_true : (test it : Bool) → elim test [ true ↦ true | false ↦ it ] ≡ true → test ≡ false → it ≡ true
unless_true true it h is = absurd (cc)
unless_true false it h is = h

among_has : (o : Option Symbol) (heads : List Symbol) (x : Symbol) → o ≡ Some x → is_among o heads ≡ true → has heads x ≡ true
among_has o heads x is h = subst (λ (y : Option Symbol). is_among y heads ≡ true) is h

any_has : (f : Symbol → Bool) (heads : List Symbol) (x : Symbol) → has heads x ≡ true → f x ≡ true → list_any f heads ≡ true
any_has f [] x h e = absurd (cc)
any_has f (y ∷ heads) x h e = elim (cases_Bool (sameb the_type y x)) [
  | inl same ↦ (let here : f y ≡ true = subst (λ (z : Symbol). f z ≡ true) (sym (same_true the_type (search rules) y x same)) e in rw here refl)
  | inr other ↦ later (f y) (any_has f heads x (rw other at h) e)
]
  where
    later : (b : Bool) → list_any f heads ≡ true → (b || list_any f heads) ≡ true
    later true it = refl
    later false it = it

not_last : (t : Typing) (o : Option Symbol) (heads : List Symbol) → (is_last t.when heads ≡ true → is_among o heads ≡ true) → is_among o heads ≡ false → is_last t.when heads ≡ false
not_last t o heads known passes = elim (cases_Bool (is_last t.when heads)) [
  | inl yes' ↦ (let h = known yes' in absurd (let e : true ≡ false = sym h ∙ passes in cc))
  | inr no' ↦ no'
]

taken_row : (t : Typing) (ps : List Production) (o : Option Symbol) (row : List Item) (x : Symbol) → rows_make t ps ≡ true → o ≡ Some x → may_come t.when x ≡ true → ((heads : List Symbol) → is_last t.when heads ≡ true → is_among o heads ≡ true) → step ps o ≡ Take row → row_makes t (item.Terminal x ∷ row) ≡ true
taken_row t [] o row x h is may last it = absurd (cc)
taken_row t (takes heads items ∷ ps) o row x h is may last it = elim (cases_Bool (is_among o heads)) [
  | inl suits ↦ (let same : items ≡ row = (let e = rw suits at it in cc) in
      let one' = all_has (taken_makes t items) heads x (and_left (list_all (taken_makes t items) heads) _ h) (among_has o heads x is suits) in
      subst (λ (y : List Item). row_makes t (item.Terminal x ∷ y) ≡ true) same (when_true (may_come t.when x) (row_makes t (item.Terminal x ∷ items)) one' may))
  | inr passes ↦ taken_row t ps o row x (unless_true (is_last t.when heads) (rows_make t ps) (and_right (list_all (taken_makes t items) heads) _ h) (not_last t o heads (last heads) passes)) is may last (rw passes at it)
]
taken_row t (peek heads items ∷ ps) o row x h is may last it = elim (cases_Bool (is_among o heads)) [
  | inl suits ↦ absurd (go_take items row (rw suits at it))
  | inr passes ↦ taken_row t ps o row x (unless_true (is_last t.when heads) (rows_make t ps) (and_right (peeked_makes t heads items) _ h) (not_last t o heads (last heads) passes)) is may last (rw passes at it)
]
taken_row t (otherwise items ∷ ps) o row x h is may last it = absurd (go_take items row it)

among_some : (o : Option Symbol) (heads : List Symbol) → is_among o heads ≡ true → (x : Symbol) × (o ≡ Some x) × (has heads x ≡ true)
among_some None heads h = absurd (cc)
among_some (Some x) heads h = (x, refl, h)

gone_row : (t : Typing) (ps : List Production) (o : Option Symbol) (row : List Item) → rows_make t ps ≡ true → ((x : Symbol) → o ≡ Some x → may_come t.when x ≡ true) → ((heads : List Symbol) → is_last t.when heads ≡ true → is_among o heads ≡ true) → step ps o ≡ Go row → row_makes t row ≡ true
gone_row t [] o row h may last it = absurd (cc)
gone_row t (takes heads items ∷ ps) o row h may last it = elim (cases_Bool (is_among o heads)) [
  | inl suits ↦ absurd (go_take row items (sym (rw suits at it)))
  | inr passes ↦ gone_row t ps o row (unless_true (is_last t.when heads) (rows_make t ps) (and_right (list_all (taken_makes t items) heads) _ h) (not_last t o heads (last heads) passes)) may last (rw passes at it)
]
gone_row t (peek heads items ∷ ps) o row h may last it = elim (cases_Bool (is_among o heads)) [
  | inl suits ↦ (let same : items ≡ row = (let e = rw suits at it in cc) in
      let x = among_some o heads suits in
      subst (λ (y : List Item). row_makes t y ≡ true) same (when_true (list_any (may_come t.when) heads) (row_makes t items) (and_left (peeked_makes t heads items) _ h) (any_has (may_come t.when) heads x.0 x.2 (may x.0 x.1))))
  | inr passes ↦ gone_row t ps o row (unless_true (is_last t.when heads) (rows_make t ps) (and_right (peeked_makes t heads items) _ h) (not_last t o heads (last heads) passes)) may last (rw passes at it)
]
gone_row t (otherwise items ∷ ps) o row h may last it = let same : items ≡ row = cc in subst (λ (y : List Item). row_makes t y ≡ true) same h

first_token : (t : Text) (x : Symbol) (row xs : List Item) (at : ℕ) (b : Built) (mid : ℕ) (c : Built) → Ran t xs at b mid c → xs ≡ item.Terminal x ∷ row → slice_get t.symbols at ≡ Some x
first_token t x row _ at b _ _ (stopped _ _) same = absurd (cc)
first_token t x row _ at b mid c (took y _ _ _ _ _ is _) same = let e : y ≡ x = cc in is ∙ ap Some e
first_token t x row _ at b mid c (did _ _ _ _ _ _ _ _ _) same = absurd (cc)
first_token t x row _ at b mid c (chose _ _ _ _ _ _ _ _ _ _ _ _ _) same = absurd (cc)

chosen_row : (t : Text) (ty : Typing) (n : Nonterminal) (row : List Item) (at : ℕ) (b : Built) (mid : ℕ) (c : Built) → rows_make ty (productions n) ≡ true → Holds ty.when t at → IsChosen (productions n) (slice_get t.symbols at) row → Ran t row at b mid c → row_makes ty row ≡ true
chosen_row t ty n row at b mid c h holds (inr gone) d = gone_row ty (productions n) (slice_get t.symbols at) row h (λ x is. comes t at x ty.when holds is) (λ heads it. last_comes t at heads ty.when holds it) gone
chosen_row t ty n row at b mid c h holds (inl taken) d =
    let got = first_token t taken.1 taken.0 row at b mid c d taken.3 in
    subst (λ (y : List Item). row_makes ty y ≡ true) (sym taken.3) (taken_row ty (productions n) (slice_get t.symbols at) taken.0 taken.1 h got (comes t at taken.1 ty.when holds got) (λ heads it. last_comes t at heads ty.when holds it) taken.2)

-- what stands there when the items are read
record IsRun (t : Text) (goals : List (List Part)) (p : List Letter) (rest : List (List Letter)) (to : ℕ) (z : Built) : Type 0 where
  form : List Part
  word : List Letter
  of_goal : IsFormOf form goals
  is_word : IsWord form word
  stack : IsStack t z.nodes z.tops z.begun ((p ++ word) ∷ rest) to
  shaped : IsShaped t z.nodes

ended_run : (t : Text) (at : ℕ) (b : Built) (forms' goals : List (List Part)) (p : List Letter) (rest words : List (List Letter)) → ends_as forms' goals ≡ true → Matches forms' p rest words → IsStack t b.nodes b.tops b.begun words at → IsShaped t b.nodes → IsRun t goals p rest at b
ended_run t at b [] goals p rest words h known stack shaped = absurd known
ended_run t at b (a ∷ []) goals p rest words h known stack shaped =
    let f = one_form a goals h in
    record { form = f.form; word = known.0; of_goal = f.one; is_word = fits_is deep a f.form known.0 f.fits_it known.1; stack = subst (λ (x : List (List Letter)). IsStack t b.nodes b.tops b.begun x at) known.2 stack; shaped = shaped }
ended_run t at b (a ∷ a' ∷ more) goals p rest words h known stack shaped = absurd (cc)

-- what goes on with a value that is there
some_goes : {X : Type 0} (o : Option X) (f : X → Bool) → elim o [ None ↦ false | Some x ↦ f x ] ≡ true → (x : X) × (o ≡ Some x) × (f x ≡ true)
some_goes None f h = absurd (cc)
some_goes (Some x) f h = (x, refl, h)

pushed : (t : Text) (x : Symbol) (at : ℕ) (b : Built) (forms' : List (List Part)) (p : List Letter) (rest words : List (List Letter)) → slice_get t.symbols at ≡ Some x → Matches forms' p rest words → IsStack t b.nodes b.tops b.begun words at → IsShaped t b.nodes → IsActed t (push (token x) forms') p rest (at + 1) b
pushed t x at b [] p rest words is known stack shaped = absurd known
pushed t x at b (a ∷ forms') p rest words is known stack shaped =
    let v = top a forms' p rest words known in
    record {
      words = (v.front ++ (v.word ++ own x ∷ [])) ∷ v.others;
      matches = v.again (a ++ token x ∷ []) (v.word ++ own x ∷ []) (word_append a (token x ∷ []) v.word (own x ∷ []) v.is_word (token_is x [] [] nothing));
      stack = subst (λ (y : List Letter). IsStack t b.nodes b.tops b.begun (y ∷ v.others) (at + 1)) (append_assoc v.front v.word (own x ∷ [])) (push_own t b.nodes b.tops b.begun (v.front ++ v.word) v.others at x (subst (λ (y : List (List Letter)). IsStack t b.nodes b.tops b.begun y at) v.is stack) is);
      shaped = shaped;
    }

close_any : (t : Text) (at : ℕ) (b c : Built) (kind : NodeKind) (forms' made' : List (List Part)) (p : List Letter) (rest words : List (List Letter)) → acted (action.Close kind) forms' ≡ Some made' → closing t kind (at - 1) b b.begun ≡ Some c → Matches forms' p rest words → IsStack t b.nodes b.tops b.begun words at → IsShaped t b.nodes → IsActed t made' p rest at c
close_any t at b c kind [] made' p rest words is built known stack shaped = absurd (cc)
close_any t at b c kind (a ∷ []) made' p rest words is built known stack shaped = absurd (cc)
close_any t at b c kind (a ∷ outer ∷ more) made' p rest words is built known stack shaped = elim (cases_Bool (sameb kind_type kind k.Restrict)) [
  | inl same ↦ (let restrict : kind ≡ k.Restrict = same_true kind_type (search rules) kind k.Restrict same in
      act_close_restrict t at b c a outer more made' p rest words (rw same at is) (subst (λ (x : NodeKind). closing t x (at - 1) b b.begun ≡ Some c) restrict built) known stack shaped)
  | inr other ↦ act_close t at b c kind a outer more made' p rest words other (rw other at is) built known stack shaped
]

-- a token by itself
one_on : (t : Text) (nodes : List Node) (x : Symbol) (mid at : ℕ) (cs ns vs : List ℕ) → Spelled t nodes mid (own x ∷ []) cs ns vs at → at ≡ mid + 1
one_on t nodes x mid at cs ns vs (own_token _ _ _ _ _ _ _ is d) = none (mid + 1) at cs ns vs d
  where
    none : (from to : ℕ) (cs ns vs : List ℕ) → Spelled t nodes from [] cs ns vs to → to ≡ from
    none from _ _ _ _ (ended _) = refl

-- the name before a bracket becomes a node, which the next one holds
name_held : (t : Text) (at : ℕ) (b c : Built) (os : List Begun) (d : Option Built) (e : Ended) (a outer : List Part) (more made' : List (List Part)) (p : List Letter) (rest words : List (List Letter)) (test : Bool)
    → (fits deep e.before (name ∷ []) && sameb the_type e.last s.LeftBracket) ≡ test
    → cond test (Some ((child (one k.Name) ∷ token e.last ∷ []) ∷ outer ∷ more)) None ≡ Some made'
    → last_token a ≡ Some e → closing t k.Name (at - 1 - 1) b os ≡ d → then_wrapped (at - 1) d ≡ Some c
    → Matches (a ∷ outer ∷ more) p rest words → IsStack t b.nodes b.tops os words at → IsShaped t b.nodes → IsActed t made' p rest at c
name_held t at b c os d e a outer more made' p rest words false h made_is was closed' built known stack shaped = absurd (cc)
name_held t at b c [] d e a outer more made' p rest words true h made_is was closed' built known stack shaped =
    let none : None ≡ d = closed' in let bad : then_wrapped (at - 1) None ≡ Some c = subst (λ (x : Option Built). then_wrapped (at - 1) x ≡ Some c) (sym none) built in absurd (cc)
name_held t at b c (o ∷ os) d e a outer more made' p rest words true h made_is was closed' built known stack shaped =
    let w = ended_word a e known.0 was known.2 in
    let dw = fits_is deep e.before (name ∷ []) w.before (and_left (fits deep e.before (name ∷ [])) (sameb the_type e.last s.LeftBracket) h) w.is_word in
    let l = letter_of (name ∷ []) w.before refl dw in
    let v = top outer more p rest known.1 known.4 in
    let word_is : known.0 ≡ (l.head ∷ l.tail) ++ own e.last ∷ [] = w.is ∙ ap (λ (x : List Letter). x ++ own e.last ∷ []) l.is in
    let stack' = subst (λ (x : List Letter). IsStack t b.nodes b.tops (o ∷ os) (x ∷ (v.front ++ v.word) ∷ v.others) at) word_is (subst (λ (x : List (List Letter)). IsStack t b.nodes b.tops (o ∷ os) (known.0 ∷ x) at) v.is (subst (λ (x : List (List Letter)). IsStack t b.nodes b.tops (o ∷ os) x at) known.3 stack)) in
    let m = close_node t b.nodes o b.tops os l.head l.tail (v.front ++ v.word) (own e.last ∷ []) v.others k.Name (at - 1 - 1) at (name ∷ []) shaped refl (subst (IsWord (name ∷ [])) l.is dw) (inl refl) stack'
    (λ mid vs less inner after. omega (arith, one_on t b.nodes e.last mid at [] [] [] after, less)) in
    let n : Node = node_of t k.Name (at - 1 - 1) b.nodes (drop o.height b.tops) o in
    let whole' : Built = record { nodes = b.nodes ++ n ∷ []; tops = take o.height b.tops ++ length b.nodes ∷ []; begun = os } in
    let x = wrap_node t whole'.nodes whole'.tops os (v.front ++ v.word) (own e.last ∷ []) v.others k.Name (at - 1) at refl m.stack in
    let new : Built = begun_at x.child.first (at - 1) (length whole'.tops - 1) whole' in
    let wrapped' : then_wrapped (at - 1) (Some whole') ≡ Some c = subst (λ (y : Option Built). then_wrapped (at - 1) y ≡ Some c) (sym closed') built in
    let held : Some new ≡ Some c = subst (λ (y : Option Node). holding_on (at - 1) whole' y ≡ Some c) x.got (subst (λ (y : Option ℕ). holding (at - 1) whole' y ≡ Some c) x.top wrapped') in
    subst (λ (y : Built). IsActed t made' p rest at y) (same_Some new c held)
    (subst (λ (y : List (List Part)). IsActed t y p rest at new) (same_Some ((child (one k.Name) ∷ token e.last ∷ []) ∷ outer ∷ more) made' made_is)
    (record {
      words = (node k.Name ∷ own e.last ∷ []) ∷ (v.front ++ v.word) ∷ v.others;
      matches = one_matches (child (one k.Name) ∷ token e.last ∷ []) (outer ∷ more) p rest ((v.front ++ v.word) ∷ v.others) (node k.Name ∷ own e.last ∷ []) (child_is (one k.Name) k.Name (token e.last ∷ []) (own e.last ∷ []) refl (token_is e.last [] [] nothing)) (v.again outer v.word v.is_word);
      stack = x.stack;
      shaped = shaped_more t b.nodes n shaped m.production;
    }))

-- a bracket after a name: it closes before a `$`, and nothing is done, or not
abbrev IsBased : Text → List (List Part) → List (List Part) → List Letter → List (List Letter) → ℕ → Built → Type 0
IsBased t forms' made' p rest at c = (Holds (in_bracket true) t at × IsActed t forms' p rest at c) ⊎ (Holds (in_bracket false) t at × IsActed t made' p rest at c)

base_is : (t : Text) (at : ℕ) (b c : Built) (a outer : List Part) (more made' : List (List Part)) (p : List Letter) (rest words : List (List Letter)) (o : Option Ended) → last_token a ≡ o → named_before o (outer ∷ more) ≡ Some made' → built_by t action.Base (at - 1) b ≡ Some c → Matches (a ∷ outer ∷ more) p rest words → IsStack t b.nodes b.tops b.begun words at → IsShaped t b.nodes → IsBased t (a ∷ outer ∷ more) made' p rest at c
base_is t at b c a outer more made' p rest words None was is built known stack shaped = absurd (cc)
base_is t at b c a outer more made' p rest words (Some e) was is built known stack shaped =
    let l = ending a (outer ∷ more) p rest words e was known in
    let taken = pop_own t b.nodes b.tops b.begun (l.front ++ l.before) l.others at e.last (subst (λ (x : List (List Letter)). IsStack t b.nodes b.tops b.begun x at) l.is stack) in
    let here : at - 1 + 1 ≡ at = omega (arith, taken.last) in
    by (closes 0 (drop (at - 1 + 1) t.symbols)) refl (subst (λ (n : ℕ). (f : Bool) → closes 0 (drop (at - 1 + 1) t.symbols) ≡ f → closes 0 (drop n t.symbols) ≡ f) here (λ f h. h)) built
  where
    by : (type : Bool) → closes 0 (drop (at - 1 + 1) t.symbols) ≡ type → ((f : Bool) → closes 0 (drop (at - 1 + 1) t.symbols) ≡ f → closes 0 (drop at t.symbols) ≡ f) → cond type (Some b) (then_wrapped (at - 1) (closed_by t k.Name (at - 1 - 1) b)) ≡ Some c → IsBased t (a ∷ outer ∷ more) made' p rest at c
    by true h moved built = inl (moved true h, subst (λ (x : Built). IsActed t (a ∷ outer ∷ more) p rest at x) (same_Some b c built) (record { words = words; matches = known; stack = stack; shaped = shaped }))
    by false h moved built =
        inr (moved false h, name_held t at b c b.begun (closing t k.Name (at - 1 - 1) b b.begun) e a outer more made' p rest words (fits deep e.before (name ∷ []) && sameb the_type e.last s.LeftBracket) refl is was refl built known stack shaped)

base_any : (t : Text) (at : ℕ) (b c : Built) (forms' made' : List (List Part)) (p : List Letter) (rest words : List (List Letter)) → based forms' ≡ Some made' → built_by t action.Base (at - 1) b ≡ Some c → Matches forms' p rest words → IsStack t b.nodes b.tops b.begun words at → IsShaped t b.nodes → IsBased t forms' made' p rest at c
base_any t at b c [] made' p rest words is built known stack shaped = absurd (cc)
base_any t at b c (a ∷ []) made' p rest words is built known stack shaped = absurd (cc)
base_any t at b c (a ∷ outer ∷ more) made' p rest words is built known stack shaped = base_is t at b c a outer more made' p rest words (last_token a) refl is built known stack shaped

open_any : (t : Text) (at : ℕ) (b c : Built) (forms' made' : List (List Part)) (p : List Letter) (rest words : List (List Letter)) → acted action.Open forms' ≡ Some made' → built_by t action.Open (at - 1) b ≡ Some c → Matches forms' p rest words → IsStack t b.nodes b.tops b.begun words at → IsShaped t b.nodes → IsActed t made' p rest at c
open_any t at b c [] made' p rest words is built known stack shaped = absurd known
open_any t at b c (a ∷ more) made' p rest words is built known stack shaped = act_open t at b c a more made' p rest words is built known stack shaped

note_any : (t : Text) (at : ℕ) (b c : Built) (forms' made' : List (List Part)) (p : List Letter) (rest words : List (List Letter)) → acted action.Note forms' ≡ Some made' → built_by t action.Note (at - 1) b ≡ Some c → Matches forms' p rest words → IsStack t b.nodes b.tops b.begun words at → IsShaped t b.nodes → IsActed t made' p rest at c
note_any t at b c [] made' p rest words is built known stack shaped = absurd known
note_any t at b c (a ∷ more) made' p rest words is built known stack shaped = act_note t at b c b.begun a more made' p rest words (last_token a) refl is built known stack shaped

wrap_any : (t : Text) (at : ℕ) (b c : Built) (forms' made' : List (List Part)) (p : List Letter) (rest words : List (List Letter)) → acted action.Wrap forms' ≡ Some made' → built_by t action.Wrap (at - 1) b ≡ Some c → Matches forms' p rest words → IsStack t b.nodes b.tops b.begun words at → IsShaped t b.nodes → IsActed t made' p rest at c
wrap_any t at b c [] made' p rest words is built known stack shaped = absurd known
wrap_any t at b c (a ∷ more) made' p rest words is built known stack shaped = act_wrap t at b c a more made' p rest words (last_child a) refl is built known stack shaped

give_any : (t : Text) (at : ℕ) (b c : Built) (forms' made' : List (List Part)) (p : List Letter) (rest words : List (List Letter)) → acted action.Give forms' ≡ Some made' → built_by t action.Give (at - 1) b ≡ Some c → Matches forms' p rest words → IsStack t b.nodes b.tops b.begun words at → IsShaped t b.nodes → IsActed t made' p rest at c
give_any t at b c [] made' p rest words is built known stack shaped = absurd (cc)
give_any t at b c (a ∷ []) made' p rest words is built known stack shaped = absurd (cc)
give_any t at b c (a ∷ outer ∷ more) made' p rest words is built known stack shaped = act_give t at b c a outer more made' p rest words is built known stack shaped

-- reading the items makes of the nodes what it makes of their forms
run : (t : Text) (items : List Item) (at : ℕ) (b : Built) (to : ℕ) (z : Built) → Ran t items at b to z → (known : Known) (forms' goals : List (List Part)) (p : List Letter) (rest words : List (List Letter)) → makes items known forms' goals ≡ true → Matches forms' p rest words → IsStack t b.nodes b.tops b.begun words at → IsShaped t b.nodes → Holds known t at → IsRun t goals p rest to z
run t _ at b _ _ (stopped _ _) known forms' goals p rest words h matches stack shaped holds = ended_run t at b forms' goals p rest words h matches stack shaped
run t _ at b to z (took x items _ _ _ _ is d) known forms' goals p rest words h matches stack shaped holds =
    let e = pushed t x at b forms' p rest words is matches stack shaped in
    run t items (at + 1) b to z d (passed x known) (push (token x) forms') goals p rest e.words h e.matches e.stack e.shaped (passed_holds t at x known is holds)
run t _ at b to z (did action.Open items _ _ c _ _ is d) known forms' goals p rest words h matches stack shaped holds =
    let next = some_goes (acted action.Open forms') (λ next. makes items known next goals) h in
    let e = open_any t at b c forms' next.0 p rest words next.1 is matches stack shaped in
    run t items at c to z d known next.0 goals p rest e.words next.2 e.matches e.stack e.shaped holds
run t _ at b to z (did action.Wrap items _ _ c _ _ is d) known forms' goals p rest words h matches stack shaped holds =
    let next = some_goes (acted action.Wrap forms') (λ next. makes items known next goals) h in
    let e = wrap_any t at b c forms' next.0 p rest words next.1 is matches stack shaped in
    run t items at c to z d known next.0 goals p rest e.words next.2 e.matches e.stack e.shaped holds
run t _ at b to z (did action.Note items _ _ c _ _ is d) known forms' goals p rest words h matches stack shaped holds =
    let next = some_goes (acted action.Note forms') (λ next. makes items known next goals) h in
    let e = note_any t at b c forms' next.0 p rest words next.1 is matches stack shaped in
    run t items at c to z d known next.0 goals p rest e.words next.2 e.matches e.stack e.shaped holds
run t _ at b to z (did (action.Close kind) items _ _ c _ _ is d) known forms' goals p rest words h matches stack shaped holds =
    let next = some_goes (acted (action.Close kind) forms') (λ next. makes items known next goals) h in
    let e = close_any t at b c kind forms' next.0 p rest words next.1 is matches stack shaped in
    run t items at c to z d known next.0 goals p rest e.words next.2 e.matches e.stack e.shaped holds
run t _ at b to z (did action.Give items _ _ c _ _ is d) known forms' goals p rest words h matches stack shaped holds =
    let next = some_goes (acted action.Give forms') (λ next. makes items known next goals) h in
    let e = give_any t at b c forms' next.0 p rest words next.1 is matches stack shaped in
    run t items at c to z d known next.0 goals p rest e.words next.2 e.matches e.stack e.shaped holds
run t _ at b to z (did action.Base items _ _ c _ _ is d) known forms' goals p rest words h matches stack shaped holds =
    let next = some_goes (based forms') (λ next. makes items (in_bracket true) forms' goals && makes items (in_bracket false) next goals) h in
    elim (base_any t at b c forms' next.0 p rest words next.1 is matches stack shaped) [
      | inl e ↦ run t items at c to z d (in_bracket true) forms' goals p rest e.1.words (and_left (makes items (in_bracket true) forms' goals) (makes items (in_bracket false) next.0 goals) next.2) e.1.matches e.1.stack e.1.shaped e.0
      | inr e ↦ run t items at c to z d (in_bracket false) next.0 goals p rest e.1.words (and_right (makes items (in_bracket true) forms' goals) (makes items (in_bracket false) next.0 goals) next.2) e.1.matches e.1.stack e.1.shaped e.0
    ]
run t _ at b to z (chose n items row _ _ mid c _ _ one' it d e) known forms' goals p rest words h matches stack shaped holds =
    let ways = some_goes (applied_one (typings n) known forms') (λ ways. list_all (λ way. makes items (kept n known) way goals) ways) h in
    let ty = one_applied (typings n) known forms' ways.0 ways.1 in
    let a = applied_is ty.typing.takes ty.typing.from ty.typing.gives forms' ways.0 p rest words ty.applies matches in
    let holds' = known_holds t at ty.typing.when known ty.asked holds in
    let rows = typing_all (λ x. rows_make x (productions n)) (typings n) ty.typing (made n) ty.one in
    let inner = run t row at b mid c d ty.typing.when (start ty.typing) ty.typing.gives a.front a.others words (chosen_row t ty.typing n row at b mid c rows holds' it d) a.start stack shaped holds' in
    let way = a.ends inner.form inner.word inner.of_goal inner.is_word in
    run t items mid c to z e (kept n known) way.0 goals p rest ((a.front ++ inner.word) ∷ a.others) (way_all (λ x. makes items (kept n known) x goals) ways.0 way.0 ways.2 way.1) way.2 inner.stack inner.shaped (kept_holds t n row at b mid c known one' d holds)

-- the tree that reading a whole source builds
pub built_shaped : (t : Text) (z : Built) → IsBuilt t z → IsShaped t z.nodes
built_shaped t z d =
    (run t whole 0 nothing_built (length t.symbols) z (ran_whole t z d) nothing_known ([] ∷ []) ((child (one k.File) ∷ []) ∷ []) [] [] ([] ∷ []) refl ([], nothing, refl) (ended 0) (λ i n at. absurd (cc)) tt).shaped
