-- Words of a form: put together, taken apart, and their last parts.
use Rattle.std.proofs.Common.{◌≡◌, Bool, true, false, cond, List, [], ◌∷◌, ◌++◌, Option, Some, None, refl, sym, ap, ◌∙◌, subst, append_assoc}
use Rattle.std.specs.List.{list_all}
use Rattle.std.proofs.lemmas.Bool.{and_from}
use Rattle.std.proofs.lemmas.Option.{same_Some}
use Rattle.clu_lexer.specs.declared.symbols.Symbol.{Symbol}
use Rattle.clu_lexer.specs.declared.symbols.Symbol.TheVariants as s
use Rattle.clu_grammar.proofs.Flags.{and_left, and_right}
use Rattle.clu_parser.specs.Shape.{Child, Group, semicolon, Part, token, name, value, child, many, maybe, parts_of, Letter, own, named, valued, node, IsWord, nothing, token_is, name_is, value_is, child_is, no_more, one_more, without, with_one}

pub word_append : (ps qs : List Part) (v w : List Letter) → IsWord ps v → IsWord qs w → IsWord (ps ++ qs) (v ++ w)
word_append _ qs _ w nothing e = e
word_append _ qs _ w (token_is x ps v d) e = token_is x (ps ++ qs) (v ++ w) (word_append ps qs v w d e)
word_append _ qs _ w (name_is ps v d) e = name_is (ps ++ qs) (v ++ w) (word_append ps qs v w d e)
word_append _ qs _ w (value_is xs x ps v h d) e = value_is xs x (ps ++ qs) (v ++ w) h (word_append ps qs v w d e)
word_append _ qs _ w (child_is c kind ps v h d) e = child_is c kind (ps ++ qs) (v ++ w) h (word_append ps qs v w d e)
word_append _ qs _ w (no_more g ps v d) e = no_more g (ps ++ qs) (v ++ w) (word_append ps qs v w d e)
word_append _ qs _ w (one_more g ps a b v first d is) e = one_more g (ps ++ qs) a (b ++ w) (v ++ w) first (word_append (many g ∷ ps) qs b w d e) (ap (λ (x : List Letter). x ++ w) is ∙ append_assoc a b w)
word_append _ qs _ w (without g ps v d) e = without g (ps ++ qs) (v ++ w) (word_append ps qs v w d e)
word_append _ qs _ w (with_one g ps a b v first d is) e = with_one g (ps ++ qs) a (b ++ w) (v ++ w) first (word_append ps qs b w d e) (ap (λ (x : List Letter). x ++ w) is ∙ append_assoc a b w)

-- a word of two forms, one after the other
pub record Split (ps qs : List Part) (w : List Letter) : Type 0 where
  pub left : List Letter
  pub right : List Letter
  pub is : w ≡ left ++ right
  pub left_is : IsWord ps left
  pub right_is : IsWord qs right

split : (ps qs xs : List Part) (w : List Letter) → IsWord xs w → xs ≡ ps ++ qs → Split ps qs w
split [] qs xs w d same = record { left = []; right = w; is = refl; left_is = nothing; right_is = subst (λ (x : List Part). IsWord x w) same d }
split (p ∷ ps) qs _ _ nothing same = absurd (cc)
split (p ∷ ps) qs _ _ (token_is x xs w d) same =
    let head : token x ≡ p = cc in
    let r = split ps qs xs w d (cc) in
    record { left = own x ∷ r.left; right = r.right; is = ap (λ (u : List Letter). own x ∷ u) r.is; left_is = subst (λ (q : Part). IsWord (q ∷ ps) (own x ∷ r.left)) head (token_is x ps r.left r.left_is); right_is = r.right_is }
split (p ∷ ps) qs _ _ (name_is xs w d) same =
    let head : name ≡ p = cc in
    let r = split ps qs xs w d (cc) in
    record { left = named ∷ r.left; right = r.right; is = ap (λ (u : List Letter). named ∷ u) r.is; left_is = subst (λ (q : Part). IsWord (q ∷ ps) (named ∷ r.left)) head (name_is ps r.left r.left_is); right_is = r.right_is }
split (p ∷ ps) qs _ _ (value_is vs x xs w h d) same =
    let head : value vs ≡ p = cc in
    let r = split ps qs xs w d (cc) in
    record { left = valued x ∷ r.left; right = r.right; is = ap (λ (u : List Letter). valued x ∷ u) r.is; left_is = subst (λ (q : Part). IsWord (q ∷ ps) (valued x ∷ r.left)) head (value_is vs x ps r.left h r.left_is); right_is = r.right_is }
split (p ∷ ps) qs _ _ (child_is c kind xs w h d) same =
    let head : child c ≡ p = cc in
    let r = split ps qs xs w d (cc) in
    record { left = node kind ∷ r.left; right = r.right; is = ap (λ (u : List Letter). node kind ∷ u) r.is; left_is = subst (λ (q : Part). IsWord (q ∷ ps) (node kind ∷ r.left)) head (child_is c kind ps r.left h r.left_is); right_is = r.right_is }
split (p ∷ ps) qs _ w (no_more g xs _ d) same =
    let head : many g ≡ p = cc in
    let r = split ps qs xs w d (cc) in
    record { left = r.left; right = r.right; is = r.is; left_is = subst (λ (q : Part). IsWord (q ∷ ps) r.left) head (no_more g ps r.left r.left_is); right_is = r.right_is }
split (p ∷ ps) qs _ w (one_more g xs a b _ first d is) same =
    let head : many g ≡ p = cc in
    let r = split (p ∷ ps) qs (many g ∷ xs) b d same in
    let again : IsWord (many g ∷ ps) r.left = subst (λ (q : Part). IsWord (q ∷ ps) r.left) (sym head) r.left_is in
    record { left = a ++ r.left; right = r.right; is = is ∙ ap (λ (u : List Letter). a ++ u) r.is ∙ sym (append_assoc a r.left r.right); left_is = subst (λ (q : Part). IsWord (q ∷ ps) (a ++ r.left)) head (one_more g ps a r.left (a ++ r.left) first again refl); right_is = r.right_is }
split (p ∷ ps) qs _ w (without g xs _ d) same =
    let head : maybe g ≡ p = cc in
    let r = split ps qs xs w d (cc) in
    record { left = r.left; right = r.right; is = r.is; left_is = subst (λ (q : Part). IsWord (q ∷ ps) r.left) head (without g ps r.left r.left_is); right_is = r.right_is }
split (p ∷ ps) qs _ w (with_one g xs a b _ first d is) same =
    let head : maybe g ≡ p = cc in
    let r = split ps qs xs b d (cc) in
    record { left = a ++ r.left; right = r.right; is = is ∙ ap (λ (u : List Letter). a ++ u) r.is ∙ sym (append_assoc a r.left r.right); left_is = subst (λ (q : Part). IsWord (q ∷ ps) (a ++ r.left)) head (with_one g ps a r.left (a ++ r.left) first r.left_is refl); right_is = r.right_is }

pub word_split : (ps qs : List Part) (w : List Letter) → IsWord (ps ++ qs) w → Split ps qs w
word_split ps qs w d = split ps qs (ps ++ qs) w d refl

-- the token with which a form ends, and what stands before it
pub record Ended : Type 0 where
  pub before : List Part
  pub last : Symbol

abbrev only : Part → Option Ended
only (token x) = Some (record { before = []; last = x })
only _ = None

abbrev under : Part → Option Ended → Option Ended
under p None = None
under p (Some e) = Some (record { before = p ∷ e.before; last = e.last })

abbrev last_from : Part → List Part → Option Ended
last_from p [] = only p
last_from p (q ∷ ps) = under p (last_from q ps)

abbrev pub last_token : List Part → Option Ended
last_token [] = None
last_token (p ∷ ps) = last_from p ps

only_is : (p : Part) (e : Ended) → only p ≡ Some e → p ∷ [] ≡ e.before ++ token e.last ∷ []
only_is (token x) e h = subst (λ (f : Ended). token x ∷ [] ≡ f.before ++ token f.last ∷ []) (same_Some (record { before = []; last = x }) e h) refl
only_is name e h = absurd (cc)
only_is (value xs) e h = absurd (cc)
only_is (child c) e h = absurd (cc)
only_is (many g) e h = absurd (cc)
only_is (maybe g) e h = absurd (cc)

under_is : (p q : Part) (ps : List Part) (o : Option Ended) (e : Ended) → ((f : Ended) → o ≡ Some f → q ∷ ps ≡ f.before ++ token f.last ∷ []) → under p o ≡ Some e → p ∷ q ∷ ps ≡ e.before ++ token e.last ∷ []
under_is p q ps None e known h = absurd (cc)
under_is p q ps (Some f) e known h =
    subst (λ (g : Ended). p ∷ q ∷ ps ≡ g.before ++ token g.last ∷ []) (same_Some (record { before = p ∷ f.before; last = f.last }) e h) (ap (λ (x : List Part). p ∷ x) (known f refl))

last_from_is : (p : Part) (ps : List Part) (e : Ended) → last_from p ps ≡ Some e → p ∷ ps ≡ e.before ++ token e.last ∷ []
last_from_is p [] e h = only_is p e h
last_from_is p (q ∷ ps) e h = under_is p q ps (last_from q ps) e (λ f is. last_from_is q ps f is) h

pub last_token_is : (ps : List Part) (e : Ended) → last_token ps ≡ Some e → ps ≡ e.before ++ token e.last ∷ []
last_token_is [] e h = absurd (cc)
last_token_is (p ∷ ps) e h = last_from_is p ps e h

-- tokens of the node alone, which are neither names nor its value
abbrev is_semicolon : Group → Bool
is_semicolon semicolon = true
is_semicolon _ = false

abbrev is_plain : Part → Bool
is_plain (token x) = true
is_plain (maybe g) = is_semicolon g
is_plain _ = false

abbrev pub is_own : Letter → Bool
is_own (own x) = true
is_own _ = false

abbrev pub all_plain : List Part → Bool
all_plain ps = list_all is_plain ps

-- the last child of a form, with what stands before and after it
pub record Parted : Type 0 where
  pub before : List Part
  pub last : Child
  pub after : List Part

abbrev child_in : Part → List Part → Option Parted → Option Parted
child_in p ps (Some e) = Some (record { before = p ∷ e.before; last = e.last; after = e.after })
child_in (child c) ps None = cond (all_plain ps) (Some (record { before = []; last = c; after = ps })) None
child_in _ ps None = None

abbrev pub last_child : List Part → Option Parted
last_child [] = None
last_child (p ∷ ps) = child_in p ps (last_child ps)

pub record IsParted (ps : List Part) (e : Parted) : Type 0 where
  pub is : ps ≡ e.before ++ child e.last ∷ e.after
  pub plain : all_plain e.after ≡ true

here : (c : Child) (ps : List Part) (test : Bool) (e : Parted) → all_plain ps ≡ test → cond test (Some (record { before = []; last = c; after = ps })) None ≡ Some e → IsParted (child c ∷ ps) e
here c ps true e plain h = subst (IsParted (child c ∷ ps)) (same_Some (record { before = []; last = c; after = ps }) e h) (record { is = refl; plain = plain })
here c ps false e plain h = absurd (cc)

in_is : (p : Part) (ps : List Part) (o : Option Parted) (e : Parted) → ((f : Parted) → o ≡ Some f → IsParted ps f) → child_in p ps o ≡ Some e → IsParted (p ∷ ps) e
in_is p ps (Some f) e known h =
    subst (IsParted (p ∷ ps)) (same_Some (record { before = p ∷ f.before; last = f.last; after = f.after }) e h) (record { is = ap (λ (x : List Part). p ∷ x) (known f refl).is; plain = (known f refl).plain })
in_is (child c) ps None e known h = here c ps (all_plain ps) e refl h
in_is (token x) ps None e known h = absurd (cc)
in_is name ps None e known h = absurd (cc)
in_is (value xs) ps None e known h = absurd (cc)
in_is (many g) ps None e known h = absurd (cc)
in_is (maybe g) ps None e known h = absurd (cc)

pub last_child_is : (ps : List Part) (e : Parted) → last_child ps ≡ Some e → IsParted ps e
last_child_is [] e h = absurd (cc)
last_child_is (p ∷ ps) e h = in_is p ps (last_child ps) e (λ f is. last_child_is ps f is) h

all_append : (v w : List Letter) → list_all is_own v ≡ true → list_all is_own w ≡ true → list_all is_own (v ++ w) ≡ true
all_append [] w h k = k
all_append (x ∷ v) w h k = and_from (is_own x) (list_all is_own (v ++ w)) (and_left (is_own x) (list_all is_own v) h) (all_append v w (and_right (is_own x) (list_all is_own v) h) k)

one_own : (v : List Letter) (ps : List Part) → IsWord ps v → ps ≡ token s.Semicolon ∷ [] → list_all is_own v ≡ true
one_own _ _ nothing same = absurd (cc)
one_own _ _ (token_is x ps w d) same = let none : ps ≡ [] = cc in empty ps w d none
  where
    empty : (ps : List Part) (w : List Letter) → IsWord ps w → ps ≡ [] → list_all is_own w ≡ true
    empty _ _ nothing same = refl
    empty _ _ (token_is _ _ _ _) same = absurd (cc)
    empty _ _ (name_is _ _ _) same = absurd (cc)
    empty _ _ (value_is _ _ _ _ _ _) same = absurd (cc)
    empty _ _ (child_is _ _ _ _ _ _) same = absurd (cc)
    empty _ _ (no_more _ _ _ _) same = absurd (cc)
    empty _ _ (one_more _ _ _ _ _ _ _ _) same = absurd (cc)
    empty _ _ (without _ _ _ _) same = absurd (cc)
    empty _ _ (with_one _ _ _ _ _ _ _ _) same = absurd (cc)
one_own _ _ (name_is _ _ _) same = absurd (cc)
one_own _ _ (value_is _ _ _ _ _ _) same = absurd (cc)
one_own _ _ (child_is _ _ _ _ _ _) same = absurd (cc)
one_own _ _ (no_more _ _ _ _) same = absurd (cc)
one_own _ _ (one_more _ _ _ _ _ _ _ _) same = absurd (cc)
one_own _ _ (without _ _ _ _) same = absurd (cc)
one_own _ _ (with_one _ _ _ _ _ _ _ _) same = absurd (cc)

semicolon_own : (g : Group) (v : List Letter) → is_semicolon g ≡ true → IsWord (parts_of g) v → list_all is_own v ≡ true
semicolon_own semicolon v h d = one_own v (token s.Semicolon ∷ []) d refl
semicolon_own _ v h d = absurd (cc)

-- a plain form has tokens alone
pub plain_own : (ps : List Part) (w : List Letter) → all_plain ps ≡ true → IsWord ps w → list_all is_own w ≡ true
plain_own _ _ h nothing = refl
plain_own _ _ h (token_is x ps w d) = plain_own ps w h d
plain_own _ _ h (name_is ps w d) = absurd (cc)
plain_own _ _ h (value_is xs x ps w k d) = absurd (cc)
plain_own _ _ h (child_is c kind ps w k d) = absurd (cc)
plain_own _ _ h (no_more g ps w d) = absurd (cc)
plain_own _ _ h (one_more g ps a b w first d is) = absurd (cc)
plain_own _ _ h (without g ps w d) = plain_own ps w (and_right (is_semicolon g) (all_plain ps) h) d
plain_own _ _ h (with_one g ps a b w first d is) =
    subst (λ (u : List Letter). list_all is_own u ≡ true) (sym is) (all_append a b (semicolon_own g a (and_left (is_semicolon g) (all_plain ps) h) first) (plain_own ps b (and_right (is_semicolon g) (all_plain ps) h) d))
