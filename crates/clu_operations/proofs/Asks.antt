-- What is asked one behind the other, while types, names and what is asked grow.
use Rattle.std.proofs.Common.{◌≡◌, ◌∙◌, ℕ, ◌+◌, ◌<◌, ◌≤◌, Bool, List, [], ◌∷◌, ◌++◌, length, map, take, get_or, flat_map, OnOk, Result, Ok, Err, Some, refl, sym, ap, subst, arith, append_assoc, append-nil, ap₂}
use Rattle.std.proofs.lemmas.List.{map-append, take_more, flat_map_more}
use Rattle.clu_types.specs.CluType.{CluType, Actuals}
use Rattle.clu_types.specs.Arena.{type_at, types_of, Grows}
use Rattle.clu_types.specs.Substituted.{type_put}
use Rattle.clu_types.specs.declared.term.Term.{Term}
use Rattle.clu_types.specs.declared.term.TypeId.{TypeId}
use Rattle.clu_types.proofs.Arenas.{types_grown}
use Rattle.clu_types.proofs.Carrying.{length_grows}
use Rattle.clu_types.proofs.Equality.{join3}
use Rattle.clu_operations.specs.declared.finding.Finding.{Finding}
use Rattle.clu_operations.specs.declared.found.Asked.{Asked}
use Rattle.clu_operations.specs.Asked.{AsksMore}
use Rattle.clu_operations.specs.Asking.{Asks, asks_of, with_asked}
use Rattle.clu_operations.specs.Finding.{Extends, IsAskedBelow, AreAskedBelow}
use Rattle.clu_operations.specs.Told.{Ask, ask_told, asked_of}
use Rattle.clu_operations.specs.Words.{with_name, number_with, AreOnce}
use Rattle.clu_operations.proofs.Naming.{extends_self, extends_on, length_extends, name_stays, kept_extends, number_named, number_below}
use Rattle.clu_operations.proofs.Once.{once_with}

-- ---- what is there

asked_one : (m n p q : ℕ) → m ≤ n → p ≤ q → (a : Asked) → IsAskedBelow m p a → IsAskedBelow n q a
asked_one m n p q le few a b = (omega (arith, b.0), omega (arith, b.1), omega (arith, b.2))

pub asked_more : (m n p q : ℕ) → m ≤ n → p ≤ q → (asked : List Asked) → AreAskedBelow m p asked → AreAskedBelow n q asked
asked_more m n p q le few [] b = tt
asked_more m n p q le few (a ∷ asked) b = (asked_one m n p q le few a b.0, asked_more m n p q le few asked b.1)

pub asked_behind : (n p : ℕ) (xs ys : List Asked) → AreAskedBelow n p xs → AreAskedBelow n p ys → AreAskedBelow n p (xs ++ ys)
asked_behind n p [] ys b h = h
asked_behind n p (a ∷ xs) ys b h = (b.0, asked_behind n p xs ys b.1 h)

-- ---- what they are stays

module _ (old new : List Term) (g : Grows old new) (names newer : List (List ℕ)) (more : Extends names newer) where
  one_stays : (a : Asked) → IsAskedBelow (length old) (length names) a → ask_told (types_of new) newer a ≡ ask_told (types_of old) names a
  one_stays a b =
      join3 (λ (t : CluType) (o : List ℕ) (w : CluType). let n : Ask = record { of = t; operation = o; wanted = w; in_set = a.in_set } in n) (types_grown old new g a.of b.0) (name_stays names newer more a.operation.0 b.2) (types_grown old new g a.wanted b.1)

  pub asks_stay : (asked : List Asked) → AreAskedBelow (length old) (length names) asked → map (ask_told (types_of new) newer) asked ≡ map (ask_told (types_of old) names) asked
  asks_stay [] b = refl
  asks_stay (a ∷ asked) b = ap₂ (λ (x : Ask) (xs : List Ask). x ∷ xs) (one_stays a b.0) (asks_stay asked b.1)

-- ---- none, one, and one behind the other

pub asks_none : (terms : List Term) (f : Finding) → AsksMore terms f f []
asks_none terms f = record {
  words = extends_self f.words;
  once = λ once. once;
  more = [];
  asked = sym (append-nil f.asked.items);
  told = refl;
  below = tt;
  founds = refl;
  wished = refl;
  given = refl;
  shown = refl;
}

pub asks_one : {X E : Type 0} (r : Result X E) (old new : List Term) (f g : Finding) (of wanted : TypeId) (name : List ℕ) (in_set : Bool) (parameter : ℕ) (given : Actuals) → Grows old new
    → g.founds.items ≡ f.founds.items → g.wished ≡ f.wished → g.given ≡ f.given → g.shown ≡ f.shown → type_at (types_of new) of ≡ type_put given parameter → of.0 < length new → wanted.0 < length old
    → OnOk r (asks_of g.words g.asked.items ≡ with_asked of name wanted in_set (asks_of f.words f.asked.items)) → OnOk r (AsksMore new f g (asked_of given parameter name in_set (Some (type_at (types_of old) wanted))))
asks_one (Ok x) old new f g of wanted name in_set parameter given grows founds wished given_is shown typed of_in wanted_in e =
    let names : g.words ≡ with_name f.words name = ap (λ (a : Asks). a.names) e in
    let one : Asked = record { of = of; operation = number_with f.words name; wanted = wanted; in_set = in_set } in
    let named : get_or g.words (number_with f.words name).0 [] ≡ name = ap (λ (ws : List (List ℕ)). get_or ws (number_with f.words name).0 []) names ∙ number_named f.words name in
    let there : (number_with f.words name).0 < length g.words = subst (λ (ws : List (List ℕ)). (number_with f.words name).0 < length ws) (sym names) (number_below f.words name) in
    record {
      words = subst (λ (ws : List (List ℕ)). Extends f.words ws) (sym names) (kept_extends f.words name);
      once = λ once. subst (λ (ws : List (List ℕ)). AreOnce ws) (sym names) (once_with f.words name once);
      more = one ∷ [];
      asked = ap (λ (a : Asks). a.asked) e;
      told = join3 (λ (t : CluType) (o : List ℕ) (w : CluType). (let n : Ask = record { of = t; operation = o; wanted = w; in_set = in_set } in n) ∷ []) typed named (types_grown old new grows wanted wanted_in);
      below = ((of_in, omega (arith, wanted_in, length_grows old new grows), there), tt);
      founds = founds;
      wished = wished;
      given = given_is;
      shown = shown;
    }
asks_one (Err x) old new f g of wanted name in_set parameter given grows founds wished given_is shown typed of_in wanted_in e = tt

pub asks_on : (a b : List Term) (f g h : Finding) (xs ys : List Ask) → Grows a b → AsksMore a f g xs → AsksMore b g h ys → AsksMore b f h (xs ++ ys)
asks_on a b f g h xs ys grows m n =
    let before : AreAskedBelow (length b) (length h.words) m.more =
    asked_more (length a) (length b) (length g.words) (length h.words) (length_grows a b grows) (length_extends g.words h.words n.words) m.more m.below in
    let kept : map (ask_told (types_of b) h.words) m.more ≡ xs = asks_stay a b grows g.words h.words n.words m.more m.below ∙ m.told in
    record {
      words = extends_on f.words g.words h.words m.words n.words;
      once = λ once. n.once (m.once once);
      more = m.more ++ n.more;
      asked = n.asked ∙ ap (λ (l : List Asked). l ++ n.more) m.asked ∙ append_assoc f.asked.items m.more n.more;
      told = map-append (ask_told (types_of b) h.words) m.more n.more ∙ ap₂ (λ (p q : List Ask). p ++ q) kept n.told;
      below = asked_behind (length b) (length h.words) m.more n.more before n.below;
      founds = n.founds ∙ m.founds;
      wished = n.wished ∙ m.wished;
      given = n.given ∙ m.given;
      shown = n.shown ∙ m.shown;
    }

-- what is asked by the next item of a list
pub next_asks : {D : Type 0} (f : D → List Ask) (items : List D) (i : ℕ) (d : D) → i < length items → d ≡ get_or items i d → flat_map f (take i items) ++ f d ≡ flat_map f (take (i + 1) items)
next_asks {D} f items i d lt is =
    let longer : take (i + 1) items ≡ take i items ++ d ∷ [] = take_more items i d lt ∙ ap (λ (x : D). take i items ++ x ∷ []) (sym is) in
    flat_map_more f [] (take i items) d ∙ sym (ap (λ (l : List D). flat_map f l) longer)
