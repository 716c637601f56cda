-- What an action makes of the nodes that have begun is what it makes of their forms.
use Rattle.std.proofs.Common.{◌≡◌, ℕ, ◌-◌, Bool, true, false, cond, List, [], ◌∷◌, ◌++◌, length, Option, Some, None, slice_get, refl, sym, ap, ◌∙◌, subst, append_assoc, arith, rules}
use Rattle.clu_lexer.specs.declared.symbols.Symbol.{Symbol}
use Rattle.clu_lexer.specs.declared.symbols.Symbol.TheVariants as s
use Rattle.clu_lexer.specs.contracts.symbols.Symbol.{the_type}
use Rattle.clu_tree.specs.declared.node.Node.{Node}
use Rattle.clu_tree.specs.declared.node.NodeKind.{NodeKind}
use Rattle.clu_parser.specs.declared.begun.Begun.{Begun}
use Rattle.clu_parser.specs.Spellings.{is_idn}
use Rattle.clu_parser.specs.Trees.{Text, Built, opened as begun_at, noted as noted_by, wrapped_in as holding, wrapped_on as holding_on, noted_in as noting}
use Rattle.clu_parser.specs.Shape.{Child, is_child, Part, token, name, value, child, Letter, own, named, valued, node, IsWord, nothing, token_is, name_is, value_is, child_is, no_more, one_more, without, with_one, IsShaped}
use Rattle.clu_parser.proofs.Words.{Ended, last_token, last_token_is, Parted, last_child, last_child_is, plain_own, word_append, word_split}
use Rattle.clu_parser.proofs.Sketch.{noted, opened, noted_in, wrapped}
use Rattle.clu_parser.proofs.Standing.{IsStack, pop_own, open_node, note_name, note_value}
use Rattle.clu_parser.proofs.Making.{wrap_node}
use Rattle.clu_parser.proofs.Matching.{Matches, top, one_matches}
use denote.Enum.Bare.{sameb, same_true, true_same}
use Rattle.std.proofs.lemmas.Option.{same_Some}

-- what stands there after it
pub record IsActed (t : Text) (made : List (List Part)) (p : List Letter) (rest : List (List Letter)) (at : ℕ) (c : Built) : Type 0 where
  pub words : List (List Letter)
  pub matches : Matches made p rest words
  pub stack : IsStack t c.nodes c.tops c.begun words at
  pub shaped : IsShaped t c.nodes

-- a word that ends with a token
pub record IsLastToken (a : List Part) (e : Ended) (w : List Letter) : Type 0 where
  pub before : List Letter
  pub is : w ≡ before ++ own e.last ∷ []
  pub is_word : IsWord e.before before

only_token : (x : Symbol) (w : List Letter) (ps : List Part) → IsWord ps w → ps ≡ token x ∷ [] → w ≡ own x ∷ []
only_token x _ _ nothing same = absurd (cc)
only_token x _ _ (token_is y ps w d) same = let one' : y ≡ x = cc in let none : ps ≡ [] = cc in ap (λ (z : Symbol). own z ∷ w) one' ∙ ap (λ (v : List Letter). own x ∷ v) (empty ps w d none)
  where
    empty : (ps : List Part) (w : List Letter) → IsWord ps w → ps ≡ [] → w ≡ []
    empty _ _ nothing same = refl
    empty _ _ (token_is _ _ _ _) same = absurd (cc)
    empty _ _ (name_is _ _ _) same = absurd (cc)
    empty _ _ (value_is _ _ _ _ _ _) same = absurd (cc)
    empty _ _ (child_is _ _ _ _ _ _) same = absurd (cc)
    empty _ _ (no_more _ _ _ _) same = absurd (cc)
    empty _ _ (one_more _ _ _ _ _ _ _ _) same = absurd (cc)
    empty _ _ (without _ _ _ _) same = absurd (cc)
    empty _ _ (with_one _ _ _ _ _ _ _ _) same = absurd (cc)
only_token x _ _ (name_is _ _ _) same = absurd (cc)
only_token x _ _ (value_is _ _ _ _ _ _) same = absurd (cc)
only_token x _ _ (child_is _ _ _ _ _ _) same = absurd (cc)
only_token x _ _ (no_more _ _ _ _) same = absurd (cc)
only_token x _ _ (one_more _ _ _ _ _ _ _ _) same = absurd (cc)
only_token x _ _ (without _ _ _ _) same = absurd (cc)
only_token x _ _ (with_one _ _ _ _ _ _ _ _) same = absurd (cc)

pub ended_word : (a : List Part) (e : Ended) (w : List Letter) → last_token a ≡ Some e → IsWord a w → IsLastToken a e w
ended_word a e w is d =
    let both = word_split e.before (token e.last ∷ []) w (subst (λ (x : List Part). IsWord x w) (last_token_is a e is) d) in
    record { before = both.left; is = both.is ∙ ap (λ (v : List Letter). both.left ++ v) (only_token e.last both.right (token e.last ∷ []) both.right_is refl); is_word = both.left_is }

token_word : (x : Symbol) → IsWord (token x ∷ []) (own x ∷ [])
token_word x = token_is x [] [] nothing

-- a node begins
pub act_open : (t : Text) (at : ℕ) (b c : Built) (a : List Part) (rest_forms made : List (List Part)) (p : List Letter) (rest words : List (List Letter)) → opened (last_token a) rest_forms ≡ Some made → Some (begun_at (at - 1) (at - 1) (length b.tops) b) ≡ Some c → Matches (a ∷ rest_forms) p rest words → IsStack t b.nodes b.tops b.begun words at → IsShaped t b.nodes → IsActed t made p rest at c
act_open t at b c a rest_forms made p rest words is built known stack shaped = go (last_token a) refl is
  where
    go : (o : Option Ended) → last_token a ≡ o → opened o rest_forms ≡ Some made → IsActed t made p rest at c
    go None was is = absurd (cc)
    go (Some e) was is =
        let v = top a rest_forms p rest words known in
        let l = ended_word a e v.word was v.is_word in
        let words_are : words ≡ ((v.front ++ l.before) ++ own e.last ∷ []) ∷ v.others = v.is ∙ ap (λ (x : List Letter). x ∷ v.others) (ap (λ (x : List Letter). v.front ++ x) l.is ∙ sym (append_assoc v.front l.before (own e.last ∷ []))) in
        let new : Built = begun_at (at - 1) (at - 1) (length b.tops) b in
        subst (λ (x : Built). IsActed t made p rest at x) (same_Some new c built)
        (subst (λ (m : List (List Part)). IsActed t m p rest at new) (same_Some ((token e.last ∷ []) ∷ e.before ∷ rest_forms) made is)
        (record {
          words = (own e.last ∷ []) ∷ (v.front ++ l.before) ∷ v.others;
          matches = one_matches (token e.last ∷ []) (e.before ∷ rest_forms) p rest ((v.front ++ l.before) ∷ v.others) (own e.last ∷ []) (token_word e.last) (v.again e.before l.before l.is_word);
          stack = open_node t b.nodes b.tops b.begun (v.front ++ l.before) v.others at e.last (subst (λ (x : List (List Letter)). IsStack t b.nodes b.tops b.begun x at) words_are stack);
          shaped = shaped;
        }))

has_itself : (x : Symbol) → sameb the_type x x ≡ true
has_itself x = true_same the_type x x refl

-- a name or a value
note_as : (t : Text) (at : ℕ) (b c : Built) (o : Begun) (os : List Begun) (x : Symbol) (parts : List Part) (front before : List Letter) (others : List (List Letter)) (rest_forms : List (List Part)) (p : List Letter) (rest : List (List Letter)) (test : Bool) → sameb the_type x s.Idn ≡ test → IsWord parts before → noting test (at - 1) b (o ∷ os) ≡ Some c → IsStack t b.nodes b.tops (o ∷ os) (((front ++ before) ++ own x ∷ []) ∷ others) at → ((q : List Part) (v : List Letter) → IsWord q v → Matches (q ∷ rest_forms) p rest ((front ++ v) ∷ others)) → IsShaped t b.nodes → IsActed t ((parts ++ cond test name (value (x ∷ [])) ∷ []) ∷ rest_forms) p rest at c
note_as t at b c o os x parts front before others rest_forms p rest true same d built stack again shaped =
    let idn : x ≡ s.Idn = same_true the_type (search rules) x s.Idn same in
    let new : Built = record { nodes = b.nodes; tops = b.tops; begun = noted_by true (at - 1) o ∷ os } in
    let stack' = note_name t b.nodes b.tops o os (front ++ before) others at (subst (λ (y : Symbol). IsStack t b.nodes b.tops (o ∷ os) (((front ++ before) ++ own y ∷ []) ∷ others) at) idn stack) in
    subst (λ (y : Built). IsActed t ((parts ++ name ∷ []) ∷ rest_forms) p rest at y) (same_Some new c built)
    (record {
      words = (front ++ (before ++ named ∷ [])) ∷ others;
      matches = again (parts ++ name ∷ []) (before ++ named ∷ []) (word_append parts (name ∷ []) before (named ∷ []) d (name_is [] [] nothing));
      stack = subst (λ (y : List Letter). IsStack t b.nodes b.tops (noted_by true (at - 1) o ∷ os) (y ∷ others) at) (append_assoc front before (named ∷ [])) stack';
      shaped = shaped;
    })
note_as t at b c o os x parts front before others rest_forms p rest false same d built stack again shaped =
    let new : Built = record { nodes = b.nodes; tops = b.tops; begun = noted_by false (at - 1) o ∷ os } in
    let stack' = note_value t b.nodes b.tops o os (front ++ before) others at x stack in
    subst (λ (y : Built). IsActed t ((parts ++ value (x ∷ []) ∷ []) ∷ rest_forms) p rest at y) (same_Some new c built)
    (record {
      words = (front ++ (before ++ valued x ∷ [])) ∷ others;
      matches = again (parts ++ value (x ∷ []) ∷ []) (before ++ valued x ∷ []) (word_append parts (value (x ∷ []) ∷ []) before (valued x ∷ []) d (value_is (x ∷ []) x [] [] (rw (has_itself x) refl) nothing));
      stack = subst (λ (y : List Letter). IsStack t b.nodes b.tops (noted_by false (at - 1) o ∷ os) (y ∷ others) at) (append_assoc front before (valued x ∷ [])) stack';
      shaped = shaped;
    })

-- letters that end with a token
pub record IsEnding (a : List Part) (rest_forms : List (List Part)) (p : List Letter) (rest words : List (List Letter)) (e : Ended) : Type 0 where
  pub front : List Letter
  pub before : List Letter
  pub others : List (List Letter)
  pub is : words ≡ ((front ++ before) ++ own e.last ∷ []) ∷ others
  pub is_word : IsWord e.before before
  pub again : (q : List Part) (v : List Letter) → IsWord q v → Matches (q ∷ rest_forms) p rest ((front ++ v) ∷ others)

pub ending : (a : List Part) (rest_forms : List (List Part)) (p : List Letter) (rest words : List (List Letter)) (e : Ended) → last_token a ≡ Some e → Matches (a ∷ rest_forms) p rest words → IsEnding a rest_forms p rest words e
ending a rest_forms p rest words e was known =
    let v = top a rest_forms p rest words known in
    let l = ended_word a e v.word was v.is_word in
    record {
      front = v.front;
      before = l.before;
      others = v.others;
      is = v.is ∙ ap (λ (x : List Letter). x ∷ v.others) (ap (λ (x : List Letter). v.front ++ x) l.is ∙ sym (append_assoc v.front l.before (own e.last ∷ [])));
      is_word = l.is_word;
      again = v.again;
    }

pub act_note : (t : Text) (at : ℕ) (b c : Built) (os : List Begun) (a : List Part) (rest_forms made : List (List Part)) (p : List Letter) (rest words : List (List Letter)) (e : Option Ended) → last_token a ≡ e → noted_in e rest_forms ≡ Some made → noting (is_idn (slice_get t.symbols (at - 1))) (at - 1) b os ≡ Some c → Matches (a ∷ rest_forms) p rest words → IsStack t b.nodes b.tops os words at → IsShaped t b.nodes → IsActed t made p rest at c
act_note t at b c os a rest_forms made p rest words None was is built known stack shaped = absurd (cc)
act_note t at b c [] a rest_forms made p rest words (Some e) was is built known stack shaped = absurd (cc)
act_note t at b c (o ∷ os) a rest_forms made p rest words (Some e) was is built known stack shaped =
    let l = ending a rest_forms p rest words e was known in
    let stack' = subst (λ (x : List (List Letter)). IsStack t b.nodes b.tops (o ∷ os) x at) l.is stack in
    let taken = pop_own t b.nodes b.tops (o ∷ os) (l.front ++ l.before) l.others at e.last stack' in
    let here : taken.mid ≡ at - 1 = omega (arith, taken.last) in
    let got : slice_get t.symbols (at - 1) ≡ Some e.last = subst (λ (n : ℕ). slice_get t.symbols n ≡ Some e.last) here taken.is in
    let built' : noting (sameb the_type e.last s.Idn) (at - 1) b (o ∷ os) ≡ Some c = subst (λ (x : Option Symbol). noting (is_idn x) (at - 1) b (o ∷ os) ≡ Some c) got built in
    subst (λ (m : List (List Part)). IsActed t m p rest at c) (same_Some (noted e.before e.last ∷ rest_forms) made is)
    (note_as t at b c o os e.last e.before l.front l.before l.others rest_forms p rest (sameb the_type e.last s.Idn) refl l.is_word built' stack' l.again shaped)

-- a node begins over the last child
record IsChildFirst (c : Child) (after : List Part) (w : List Letter) : Type 0 where
  kind : NodeKind
  of_child : is_child c kind ≡ true
  rest : List Letter
  is : w ≡ node kind ∷ rest
  is_word : IsWord after rest

child_front : (c : Child) (after ps : List Part) (w : List Letter) → IsWord ps w → ps ≡ child c ∷ after → IsChildFirst c after w
child_front c after _ _ nothing same = absurd (cc)
child_front c after _ _ (token_is _ _ _ _) same = absurd (cc)
child_front c after _ _ (name_is _ _ _) same = absurd (cc)
child_front c after _ _ (value_is _ _ _ _ _ _) same = absurd (cc)
child_front c after _ _ (child_is d kind ps w h e) same =
    let one' : d ≡ c = cc in
    let tail : ps ≡ after = cc in
    record { kind = kind; of_child = subst (λ (x : Child). is_child x kind ≡ true) one' h; rest = w; is = refl; is_word = subst (λ (x : List Part). IsWord x w) tail e }
child_front c after _ _ (no_more _ _ _ _) same = absurd (cc)
child_front c after _ _ (one_more _ _ _ _ _ _ _ _) same = absurd (cc)
child_front c after _ _ (without _ _ _ _) same = absurd (cc)
child_front c after _ _ (with_one _ _ _ _ _ _ _ _) same = absurd (cc)

pub act_wrap : (t : Text) (at : ℕ) (b c : Built) (a : List Part) (rest_forms made : List (List Part)) (p : List Letter) (rest words : List (List Letter)) (e : Option Parted) → last_child a ≡ e → wrapped e rest_forms ≡ Some made → holding (at - 1) b (slice_get b.tops (length b.tops - 1)) ≡ Some c → Matches (a ∷ rest_forms) p rest words → IsStack t b.nodes b.tops b.begun words at → IsShaped t b.nodes → IsActed t made p rest at c
act_wrap t at b c a rest_forms made p rest words None was is built known stack shaped = absurd (cc)
act_wrap t at b c a rest_forms made p rest words (Some e) was is built known stack shaped =
    let v = top a rest_forms p rest words known in
    let parted = last_child_is a e was in
    let both = word_split e.before (child e.last ∷ e.after) v.word (subst (λ (x : List Part). IsWord x v.word) parted.is v.is_word) in
    let f = child_front e.last e.after (child e.last ∷ e.after) both.right both.right_is refl in
    let words_are : words ≡ ((v.front ++ both.left) ++ node f.kind ∷ f.rest) ∷ v.others =
    v.is ∙ ap (λ (x : List Letter). x ∷ v.others) (ap (λ (x : List Letter). v.front ++ x) (both.is ∙ ap (λ (x : List Letter). both.left ++ x) f.is) ∙ sym (append_assoc v.front both.left (node f.kind ∷ f.rest))) in
    let w = wrap_node t b.nodes b.tops b.begun (v.front ++ both.left) f.rest v.others f.kind (at - 1) at (plain_own e.after f.rest parted.plain f.is_word) (subst (λ (x : List (List Letter)). IsStack t b.nodes b.tops b.begun x at) words_are stack) in
    let new : Built = begun_at w.child.first (at - 1) (length b.tops - 1) b in
    let built' : Some new ≡ Some c = subst (λ (x : Option Node). holding_on (at - 1) b x ≡ Some c) w.got (subst (λ (x : Option ℕ). holding (at - 1) b x ≡ Some c) w.top built) in
    subst (λ (x : Built). IsActed t made p rest at x) (same_Some new c built')
    (subst (λ (m : List (List Part)). IsActed t m p rest at new) (same_Some ((child e.last ∷ e.after) ∷ e.before ∷ rest_forms) made is)
    (record {
      words = (node f.kind ∷ f.rest) ∷ (v.front ++ both.left) ∷ v.others;
      matches = one_matches (child e.last ∷ e.after) (e.before ∷ rest_forms) p rest ((v.front ++ both.left) ∷ v.others) (node f.kind ∷ f.rest) (child_is e.last f.kind e.after f.rest f.of_child f.is_word) (v.again e.before both.left both.left_is);
      stack = w.stack;
      shaped = shaped;
    }))
