-- One more that was found, and what the list of those that were found has then.
use Rattle.std.proofs.Common.{◌≡◌, ◌∙◌, ℕ, ◌+◌, ◌-◌, ◌≤◌, ◌&&◌, nat_le, Bool, true, false, true≢false, if◌then◌else◌, List, [], ◌∷◌, ◌++◌, length, map, take, drop, slice_get, option_map, vec_items, Option, Some, None, Result, Ok, Err, IfOk, OnOk, refl, sym, ap, subst, arith, le-leb, length-append, take_all, drop_at, ap₂}
use Rattle.std.proofs.lemmas.Bool.{and_from}
use Rattle.clu_base.proofs.Lists.{get_last}
use Rattle.clu_types.specs.CluType.{CluType}
use Rattle.clu_types.specs.Arena.{type_at, types_of, Grows}
use Rattle.clu_types.specs.declared.term.Term.{Term}
use Rattle.clu_types.specs.declared.term.TypeId.{TypeId}
use Rattle.clu_types.proofs.Carrying.{length_grows}
use Rattle.clu_bindings.specs.Tables.{between}
use Rattle.clu_operations.specs.declared.finding.Finding.{Finding}
use Rattle.clu_operations.specs.declared.found.Asked.{Asked}
use Rattle.clu_operations.specs.declared.found.Found.{Found}
use Rattle.clu_operations.specs.declared.found.FoundId.{FoundId}
use Rattle.clu_operations.specs.Asked.{AsksMore}
use Rattle.clu_operations.specs.Finding.{found_or_none, found_at, asked_by, IsOneMore, IsBelowIf, AreFoundBelow, AreAskedBelow, AreWithin, Extends, Follows}
use Rattle.clu_operations.specs.Found.{Finds}
use Rattle.clu_operations.specs.Told.{Ask, Told, ask_told, told}
use Rattle.clu_operations.specs.Words.{AreOnce}
use Rattle.clu_operations.proofs.Bundling.{option_more}
use Rattle.clu_operations.proofs.Naming.{extends_self, length_extends}
use Rattle.clu_operations.proofs.Asks.{asked_more, asked_behind}

-- ---- parts of lists

if_true : {A : Type 0} (b : Bool) (x y : A) → b ≡ true → (if b then x else y) ≡ x
if_true true x y e = refl
if_true false x y e = absurd (true≢false (sym e))

pub between_there : {A : Type 0} (items : List A) (from to : ℕ) → from ≤ to → to ≤ length items → between items from to ≡ take (to - from) (drop from items)
between_there items from to le in_it = if_true (nat_le from to && nat_le to (length items)) _ _ (and_from _ _ (le-leb from to le) (le-leb to (length items) in_it))

-- what stands behind the first items
between_behind : {A : Type 0} (xs ys : List A) (from to : ℕ) → from ≡ length xs → to ≡ length (xs ++ ys) → between (xs ++ ys) from to ≡ ys
between_behind {A} xs ys from to is all =
    let long : length (xs ++ ys) ≡ length xs + length ys = length-append xs ys in
    between_there (xs ++ ys) from to (omega (arith, is, all, long)) (omega (arith, all)) ∙ ap (λ (l : List A). take (to - from) l) (drop_at xs ys from (sym is)) ∙ take_all (to - from) ys (omega (arith, is, all, long))

pub nothing_between : {A : Type 0} (items : List A) (at : ℕ) → between items at at ≡ []
nothing_between {A} items at = by (nat_le at at && nat_le at (length items))
  where
    by : (b : Bool) → (if b then take (at - at) (drop at items) else []) ≡ []
    by true = let none : at - at ≡ 0 = omega arith in ap (λ (n : ℕ). take n (drop at items)) none
    by false = refl

pub last_found : (founds : List Found) (one : Found) (id : FoundId) → id.0 ≡ length founds → found_at (founds ++ one ∷ []) id ≡ one
last_found founds one id e = ap (λ (n : ℕ). found_or_none (slice_get (founds ++ one ∷ []) n)) e ∙ ap found_or_none (get_last founds one)

-- ---- what is there

pub founds_more : (m n p q : ℕ) → m ≤ n → p ≤ q → (founds : List Found) → AreFoundBelow m p founds → AreFoundBelow n q founds
founds_more m n p q le few [] b = tt
founds_more m n p q le few (x ∷ founds) b = ((option_more m n le x.of b.0.0, omega (arith, b.0.1)), founds_more m n p q le few founds b.1)

pub founds_behind : (n p : ℕ) (founds : List Found) (one : Found) → AreFoundBelow n p founds → IsBelowIf n one.of → one.to ≤ p → AreFoundBelow n p (founds ++ one ∷ [])
founds_behind n p [] one b of to = ((of, to), tt)
founds_behind n p (x ∷ founds) one b of to = (b.0, founds_behind n p founds one b.1 of to)

-- ---- one more, of which it is known what it asks

module _ (before terms : List Term) (grows : Grows before terms) (f g h : Finding) (asks : List Ask) (more : AsksMore terms f g asks) (of : Option TypeId) (from : ℕ) (id : FoundId) (from_is : from ≡ length f.asked.items) (one : IsOneMore g h of from id) where
  abbrev this : Found
  this = record { of = of; from = from; to = length g.asked.items }

  founds_are : h.founds.items ≡ f.founds.items ++ this ∷ []
  founds_are = one.founds ∙ ap (λ (l : List Found). l ++ this ∷ []) more.founds

  asked_are : h.asked.items ≡ f.asked.items ++ more.more
  asked_are = ap vec_items one.asked ∙ more.asked

  found_is : found_at h.founds.items id ≡ this
  found_is = ap (λ (l : List Found). found_at l id) one.founds ∙ last_found g.founds.items this id one.number

  asked_is : asked_by h id ≡ more.more
  asked_is =
      ap (λ (x : Found). between h.asked.items x.from x.to) found_is
      ∙ ap (λ (l : List Asked). between l from (length g.asked.items)) asked_are
      ∙ between_behind f.asked.items more.more from (length g.asked.items) from_is (ap (λ (l : List Asked). length l) more.asked)

  told_is : (type : Option CluType) → option_map (type_at (types_of terms)) of ≡ type → told (types_of terms) h id ≡ record { type = type; asks = asks }
  told_is type of_type =
      ap₂ (λ (t : Option CluType) (a : List Ask). let n : Told = record { type = t; asks = a } in n) (ap (λ (x : Found). option_map (type_at (types_of terms)) x.of) found_is ∙ of_type)
      (ap (λ (l : List Asked). map (ask_told (types_of terms) h.words) l) asked_is ∙ ap (λ (ws : List (List ℕ)). map (ask_told (types_of terms) ws) more.more) one.words ∙ more.told)

  follows : Follows f h
  follows = record {
    words = subst (λ (ws : List (List ℕ)). Extends f.words ws) (sym one.words) more.words;
    once = λ once. subst (λ (ws : List (List ℕ)). AreOnce ws) (sym one.words) (more.once once);
    founds = (this ∷ [], founds_are);
    asked = (more.more, asked_are);
    given = one.given ∙ more.given;
  }

  all_within : IsBelowIf (length terms) of → AreWithin (length before) f → AreWithin (length terms) h
  all_within of_in w =
      let le : length before ≤ length terms = length_grows before terms grows in
      let longer : length f.asked.items ≤ length h.asked.items = length_extends f.asked.items h.asked.items follows.asked in
      let last_in : length g.asked.items ≤ length h.asked.items = omega (arith, ap (λ (l : List Asked). length l) (ap vec_items one.asked)) in
      let names : length f.words ≤ length h.words = length_extends f.words h.words follows.words in
      let below : AreAskedBelow (length terms) (length h.words) more.more = subst (λ (ws : List (List ℕ)). AreAskedBelow (length terms) (length ws) more.more) (sym one.words) more.below in
      let first : AreAskedBelow (length terms) (length h.words) f.asked.items = asked_more (length before) (length terms) (length f.words) (length h.words) le names f.asked.items w.asked in
      let kept : AreFoundBelow (length terms) (length h.asked.items) f.founds.items = founds_more (length before) (length terms) (length f.asked.items) (length h.asked.items) le longer f.founds.items w.founds in
      record {
        founds = subst (λ (l : List Found). AreFoundBelow (length terms) (length h.asked.items) l) (sym founds_are) (founds_behind (length terms) (length h.asked.items) f.founds.items this kept of_in last_in);
        asked = subst (λ (l : List Asked). AreAskedBelow (length terms) (length h.words) l) (sym asked_are) (asked_behind (length terms) (length h.words) f.asked.items more.more first below);
      }

  pub found_one : (type : Option CluType) → option_map (type_at (types_of terms)) of ≡ type → IsBelowIf (length terms) of → Finds (length before) terms f h (Some (record { type = type; asks = asks })) (Some id)
  found_one type of_type of_in = record {
    tells = ap Some (told_is type of_type);
    there = omega (arith, one.number, ap (λ (l : List Found). length l) one.founds, length-append g.founds.items (this ∷ []));
    follows = follows;
    within = all_within of_in;
    wished = one.wished ∙ more.wished;
  }

-- ---- as a call that keeps it says so

module _ {E : Type 0} where
  pub found_in : (r : Result FoundId E) (before terms : List Term) → Grows before terms → (f g h : Finding) (asks : List Ask) (of : Option TypeId) (from : ℕ) (type : Option CluType) → from ≡ length f.asked.items → AsksMore terms f g asks
      → option_map (type_at (types_of terms)) of ≡ type → IsBelowIf (length terms) of → IfOk r (IsOneMore g h of from) → IfOk r (λ id. Finds (length before) terms f h (Some (record { type = type; asks = asks })) (Some id))
  found_in (Ok id) before terms grows f g h asks of from type from_is more of_type of_in one = found_one before terms grows f g h asks more of from id from_is one type of_type of_in
  found_in (Err m) before terms grows f g h asks of from type from_is more of_type of_in one = tt

  pub shown_stays : (r : Result FoundId E) (terms : List Term) (f g h : Finding) (asks : List Ask) (of : Option TypeId) (from : ℕ) → AsksMore terms f g asks → IfOk r (IsOneMore g h of from) → OnOk r (h.shown ≡ f.shown)
  shown_stays (Ok id) terms f g h asks of from more one = one.shown ∙ more.shown
  shown_stays (Err m) terms f g h asks of from more one = tt

-- ---- what was found behind a step that finds nothing

pub finds_after : (old now terms : List Term) → Grows old now → (f g h : Finding) → g.words ≡ f.words → g.founds ≡ f.founds → g.asked ≡ f.asked → g.given ≡ f.given → g.wished ≡ f.wished → (it : Option Told) (found : Option FoundId)
    → Finds (length now) terms g h it found → Finds (length old) terms f h it found
finds_after old now terms grows f g h words founds asked given wished it found step = record {
  tells = step.tells;
  there = step.there;
  follows = record {
    words = subst (λ (ws : List (List ℕ)). Extends ws h.words) words step.follows.words;
    once = λ once. step.follows.once (subst (λ (ws : List (List ℕ)). AreOnce ws) (sym words) once);
    founds = subst (λ (xs : List Found). Extends xs h.founds.items) (ap vec_items founds) step.follows.founds;
    asked = subst (λ (xs : List Asked). Extends xs h.asked.items) (ap vec_items asked) step.follows.asked;
    given = step.follows.given ∙ given;
  };
  within = λ w. step.within (more w);
  wished = step.wished ∙ wished;
}
  where
    more : AreWithin (length old) f → AreWithin (length now) g
    more w =
        let le : length old ≤ length now = length_grows old now grows in
        let count : length f.asked.items ≤ length g.asked.items = omega (arith, ap (λ (l : List Asked). length l) (ap vec_items asked)) in
        let names : length f.words ≤ length g.words = omega (arith, ap (λ (l : List (List ℕ)). length l) words) in
        record {
          founds = subst (λ (xs : List Found). AreFoundBelow (length now) (length g.asked.items) xs) (sym (ap vec_items founds)) (founds_more (length old) (length now) (length f.asked.items) (length g.asked.items) le count f.founds.items w.founds);
          asked = subst (λ (xs : List Asked). AreAskedBelow (length now) (length g.words) xs) (sym (ap vec_items asked)) (asked_more (length old) (length now) (length f.words) (length g.words) le names f.asked.items w.asked);
        }

pub finds_nothing : (old terms : List Term) → Grows old terms → (f g : Finding) → g.words ≡ f.words → g.founds ≡ f.founds → g.asked ≡ f.asked → g.given ≡ f.given → g.wished ≡ f.wished → (it : Option Told) → None ≡ it → Finds (length old) terms f g it None
finds_nothing old terms grows f g words founds asked given wished it none = finds_after old terms terms grows f g g words founds asked given wished it None (record {
  tells = none;
  there = tt;
  follows = record { words = extends_self g.words; once = λ once. once; founds = extends_self g.founds.items; asked = extends_self g.asked.items; given = refl };
  within = λ w. w;
  wished = refl;
})
