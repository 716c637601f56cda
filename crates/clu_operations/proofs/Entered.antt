-- What nodes ask, entered one demand behind the other.
use Rattle.std.proofs.Common.{◌≡◌, ◌∙◌, ℕ, zero, suc, ◌+◌, ◌<◌, ◌≤◌, ◌&&◌, ◌==◌, cond, ltb, Bool, true, false, true≢false, if◌then◌else◌, is_some, List, [], ◌∷◌, ◌++◌, length, map, take, get_or, slice_get, bytes_eq, option_map, option_and_then, vec_items, Option, Some, None, IfSome, refl, sym, ap, subst, arith, append-nil, append_assoc, length-append, ltb-true, ltb-false, lt-ltb, le-ltb, ap₂}
use Rattle.std.specs.HashMap.{get, Updates}
use Rattle.std.specs.Option.{option_or}
use Rattle.std.proofs.lemmas.Bool.{and_parts}
use Rattle.std.proofs.lemmas.Bool.Decides.{Decides-eqb}
use Rattle.std.proofs.lemmas.List.{take_more, take_all}
use Rattle.std.proofs.lemmas.Option.{same_Some}
use Rattle.std.proofs.lemmas.Slice.Eq.{bytes_eq-Decides}
use Rattle.clu_base.proofs.Lists.{none_is_not}
use Rattle.clu_types.specs.CluType.{CluType}
use Rattle.clu_types.specs.Arena.{type_at, types_of}
use Rattle.clu_types.specs.declared.term.Term.{Term}
use Rattle.clu_types.specs.declared.term.TypeId.{TypeId}
use Rattle.clu_head.specs.declared.head.Demanded.{Demanded}
use Rattle.clu_bindings.specs.Tables.{between}
use Rattle.clu_bindings.specs.declared.file.Headed.{Headed}
use Rattle.clu_bindings.specs.declared.meaning.ModuleId.{ModuleId}
use Rattle.clu_operations.specs.declared.finding.Finding.{Finding}
use Rattle.clu_operations.specs.declared.found.Asked.{Asked}
use Rattle.clu_operations.specs.declared.found.Found.{Found}
use Rattle.clu_operations.specs.declared.found.FoundId.{FoundId}
use Rattle.clu_operations.specs.declared.found.Given.{Given}
use Rattle.clu_operations.specs.declared.words.NameId.{NameId}
use Rattle.clu_operations.specs.Bundles.{WantedBelow, shown_in}
use Rattle.clu_operations.specs.Clauses.{same, given_by}
use Rattle.clu_operations.specs.Entering.{PutsOne, IsEntering, also, asked_below}
use Rattle.clu_operations.specs.Finding.{found_at, asked_by, IsOneMore, IsBelowIf, AreFoundBelow, AreAskedBelow, Extends, Follows}
use Rattle.clu_operations.specs.Found.{IsModuleShown}
use Rattle.clu_operations.specs.Given.{is_asked, first_asked, asked_in, entry}
use Rattle.clu_operations.specs.Modules.{Module, own, kept}
use Rattle.clu_operations.specs.Told.{Ask, Told, ask_told, told, given_told}
use Rattle.clu_operations.specs.Wished.{AreHeads, same_wished, IsFinding, FindsNothing}
use Rattle.clu_operations.specs.Words.{named, with_name, number_with, AreOnce}
use Rattle.clu_operations.proofs.Asks.{asked_more}
use Rattle.clu_operations.proofs.Founds.{founds_more, founds_behind, last_found, nothing_between}
use Rattle.clu_operations.proofs.Lasting.{told_if}
use Rattle.clu_operations.proofs.Looking.{same_given, follows_named, entered_stays, within_like}
use Rattle.clu_operations.proofs.Naming.{extends_self, extends_on, kept_extends}
use Rattle.clu_operations.proofs.Once.{named_item, named_within, number_of_name}

-- ---- what a node asks, with one demand more

first_behind : (parameter : ℕ) (name : List ℕ) (demands : List Demanded) (d : Demanded) → first_asked parameter name (demands ++ d ∷ []) ≡ option_or (first_asked parameter name demands) (if is_asked parameter name d then Some d else None)
first_behind parameter name [] d = refl
first_behind parameter name (x ∷ demands) d = by (is_asked parameter name x) (first_behind parameter name demands d)
  where
    by : (b : Bool) → first_asked parameter name (demands ++ d ∷ []) ≡ option_or (first_asked parameter name demands) (if is_asked parameter name d then Some d else None)
        → (if b then Some x else first_asked parameter name (demands ++ d ∷ [])) ≡ option_or (if b then Some x else first_asked parameter name demands) (if is_asked parameter name d then Some d else None)
    by true rest = refl
    by false rest = rest

asked_same : (parameter : ℕ) (name : List ℕ) (d : Demanded) → is_asked parameter name d ≡ true → (d.parameter ≡ parameter) × (name ≡ d.operation)
asked_same parameter name d e =
    let both = and_parts (d.parameter == parameter) (bytes_eq name d.operation) e in
    ((Decides-eqb d.parameter parameter).0 both.0, (bytes_eq-Decides name d.operation).0 both.1)

-- nothing is asked first where nothing is told
no_first : (types : List CluType) (o : Option Demanded) → None ≡ option_map (given_told types) o → o ≡ None
no_first types (Some d) e = none_is_not (given_told types d) e
no_first types None e = refl

module _ (asked : ℕ → List Demanded) (n : ℕ) (d : Demanded) where
  abbrev more : ℕ → List Demanded
  more m = also n (d ∷ []) asked m

  -- elsewhere, and of another name, the first stays
  first_other : (m parameter : ℕ) (name : List ℕ) → (m ≡ n → is_asked parameter name d ≡ true → ⊥) → first_asked parameter name (more m) ≡ first_asked parameter name (asked m)
  first_other m parameter name other = by (m == n) refl
    where
      last : (b : Bool) → is_asked parameter name d ≡ b → m ≡ n → option_or (first_asked parameter name (asked m)) (if b then Some d else None) ≡ first_asked parameter name (asked m)
      last true t e = absurd (other e t)
      last false t e = or_none (first_asked parameter name (asked m))
        where
          or_none : (o : Option Demanded) → option_or o None ≡ o
          or_none (Some x) = refl
          or_none None = refl

      by : (b : Bool) → (m == n) ≡ b → first_asked parameter name (if b then asked m ++ d ∷ [] else asked m) ≡ first_asked parameter name (asked m)
      by true e = first_behind parameter name (asked m) d ∙ last (is_asked parameter name d) refl ((Decides-eqb m n).0 e)
      by false e = refl

  -- if there was none, this one is the first
  first_this : (parameter : ℕ) (name : List ℕ) → is_asked parameter name d ≡ true → first_asked parameter name (asked n) ≡ None → first_asked parameter name (more n) ≡ Some d
  first_this parameter name t none =
      ap (λ (b : Bool). first_asked parameter name (if b then asked n ++ d ∷ [] else asked n)) ((Decides-eqb n n).1 refl)
      ∙ first_behind parameter name (asked n) d
      ∙ ap (λ (o : Option Demanded). option_or o (if is_asked parameter name d then Some d else None)) none
      ∙ ap (λ (b : Bool). if b then Some d else None) t

  -- if there was one, it stays the first
  first_before : (parameter : ℕ) (name : List ℕ) (x : Demanded) → first_asked parameter name (asked n) ≡ Some x → first_asked parameter name (more n) ≡ Some x
  first_before parameter name x some =
      ap (λ (b : Bool). first_asked parameter name (if b then asked n ++ d ∷ [] else asked n)) ((Decides-eqb n n).1 refl)
      ∙ first_behind parameter name (asked n) d
      ∙ ap (λ (o : Option Demanded). option_or o (if is_asked parameter name d then Some d else None)) some

wanted_behind : (types : ℕ) (demands : List Demanded) (d : Demanded) → WantedBelow types demands → IsBelowIf types d.wanted → WantedBelow types (demands ++ d ∷ [])
wanted_behind types [] d b lt = (lt, tt)
wanted_behind types (x ∷ demands) d b lt = (b.0, wanted_behind types demands d b.1 lt)

wanted_also : (asked : ℕ → List Demanded) (n : ℕ) (d : Demanded) (types : ℕ) → IsBelowIf types d.wanted → ((m : ℕ) → WantedBelow types (asked m)) → (m : ℕ) → WantedBelow types (also n (d ∷ []) asked m)
wanted_also asked n d types lt wanted m = by (m == n)
  where
    by : (b : Bool) → WantedBelow types (if b then asked m ++ d ∷ [] else asked m)
    by true = wanted_behind types (asked m) d (wanted m) lt
    by false = wanted m

-- ---- one demand

abbrev key_of : ℕ → ℕ → NameId → Given
key_of n parameter id = record { node = n; parameter = parameter; operation = id }

module _ (asked : ℕ → List Demanded) (terms : List Term) where
  -- its name is kept
  pub name_entered : (f g : Finding) (name : List ℕ) → g.words ≡ with_name f.words name → g.founds ≡ f.founds → g.asked ≡ f.asked → g.wished ≡ f.wished → g.given ≡ f.given → g.shown ≡ f.shown
      → IsEntering asked terms f → IsEntering asked terms g
  name_entered f g name words founds asks wished given shown was =
      let follows : Follows f g = follows_named f g name words founds asks given in
      record {
        within = within_like f g follows.words founds asks (length terms) was.within;
        once = follows.once was.once;
        given = entered_stays terms terms ([], sym (append-nil terms)) f g follows was.within asked was.wanted was.given;
        wanted = was.wanted;
        wished = λ w. ap (λ m. get same_wished m w) wished ∙ was.wished w;
        shown = λ id. ap (λ m. shown_in m id) shown ∙ was.shown id;
      }

  module _ (f : Finding) (n : ℕ) (d : Demanded) (id : NameId) (number : named f.words d.operation ≡ Some id) (was : IsEntering asked terms f) where
    abbrev this : Given
    this = key_of n d.parameter id

    abbrev one : Found
    one = record { of = d.wanted; from = length f.asked.items; to = length f.asked.items }

    -- it is entered already
    pub known_entered : IsBelowIf (length terms) d.wanted → is_some (get same f.given this) ≡ true → IsEntering (also n (d ∷ []) asked) terms f
    known_entered wanted some = record {
      within = was.within;
      once = was.once;
      wanted = wanted_also asked n d (length terms) wanted was.wanted;
      given = record { told = λ m parameter name. was.given.told m parameter name ∙ ap (option_map (given_told (types_of terms))) (sym (first m parameter name)); below = was.given.below };
      wished = was.wished;
      shown = was.shown;
    }
      where
        here : (parameter : ℕ) (name : List ℕ) → is_asked parameter name d ≡ true → (o : Option Demanded) → first_asked parameter name (asked n) ≡ o → first_asked parameter name (also n (d ∷ []) asked n) ≡ o
        here parameter name t (Some x) e = first_before asked n d parameter name x e
        here parameter name t None e = absurd (true≢false (sym some ∙ none))
          where
            told_none : option_map (told (types_of terms) f) (entry f n d.parameter d.operation) ≡ None
            told_none =
                let s = asked_same parameter name d t in
                was.given.told n d.parameter d.operation
                ∙ ap (λ (k : ℕ). option_map (given_told (types_of terms)) (first_asked k d.operation (asked n))) s.0
                ∙ ap (λ (x : List ℕ). option_map (given_told (types_of terms)) (first_asked parameter x (asked n))) (sym s.1)
                ∙ ap (option_map (given_told (types_of terms))) e

            is_none : (o : Option FoundId) → option_map (told (types_of terms) f) o ≡ None → is_some o ≡ false
            is_none (Some x) q = none_is_not (told (types_of terms) f x) (sym q)
            is_none None q = refl

            none : is_some (get same f.given this) ≡ false
            none = is_none (get same f.given this) (ap (option_map (told (types_of terms) f)) (sym (ap (option_and_then (given_by f (Some n) d.parameter)) number)) ∙ told_none)

        first : (m parameter : ℕ) (name : List ℕ) → first_asked parameter name (also n (d ∷ []) asked m) ≡ first_asked parameter name (asked m)
        first m parameter name = by (m == n) refl (is_asked parameter name d) refl
          where
            by : (b : Bool) → (m == n) ≡ b → (t : Bool) → is_asked parameter name d ≡ t → first_asked parameter name (also n (d ∷ []) asked m) ≡ first_asked parameter name (asked m)
            by true e true t =
                subst (λ (k : ℕ). first_asked parameter name (also n (d ∷ []) asked k) ≡ first_asked parameter name (asked k)) (sym ((Decides-eqb m n).0 e)) (here parameter name t (first_asked parameter name (asked n)) refl)
            by true e false t = first_other asked n d m parameter name (λ q u. true≢false (sym u ∙ t))
            by false e t q = first_other asked n d m parameter name (λ is u. true≢false (sym ((Decides-eqb m n).1 is) ∙ e))

    -- it is put
    pub put_entered : (g : Finding) → get same f.given this ≡ None → IsBelowIf (length terms) d.wanted → PutsOne f g this d.wanted → IsEntering (also n (d ∷ []) asked) terms g
    put_entered g none wanted put = record {
      within = record {
        founds = subst (λ (l : List Found). AreFoundBelow (length terms) (length g.asked.items) l) (sym put.founds) (founds_behind (length terms) (length g.asked.items) f.founds.items one (founds_more (length terms) (length terms) (length f.asked.items) (length g.asked.items) (omega arith) count f.founds.items was.within.founds) wanted count);
        asked = subst (λ (l : List Asked). AreAskedBelow (length terms) (length g.words) l) (sym (ap vec_items put.asked)) (asked_more (length terms) (length terms) (length f.words) (length g.words) (omega arith) words f.asked.items was.within.asked);
      };
      once = subst (λ (ws : List (List ℕ)). AreOnce ws) (sym put.words) was.once;
      wanted = wanted_also asked n d (length terms) wanted was.wanted;
      given = record { told = λ m parameter name. all_told m parameter name; below = λ its other e. all_below its other (same this its) refl (sym (put.given.0 its) ∙ e) };
      wished = λ w. ap (λ m. get same_wished m w) put.wished ∙ was.wished w;
      shown = λ id. ap (λ m. shown_in m id) put.shown ∙ was.shown id;
    }
      where
        count : length f.asked.items ≤ length g.asked.items
        count = omega (arith, ap (λ (l : List Asked). length l) (ap vec_items put.asked))

        words : length f.words ≤ length g.words
        words = omega (arith, ap (λ (l : List (List ℕ)). length l) put.words)

        longer : length g.founds.items ≡ length f.founds.items + 1
        longer = ap (λ (l : List Found). length l) put.founds ∙ length-append f.founds.items (one ∷ [])

        follows : (h : Finding) → h.words ≡ f.words → h.founds.items ≡ f.founds.items ++ one ∷ [] → h.asked.items ≡ f.asked.items → h.given ≡ f.given → Follows f h
        follows h ws fs xs given = record {
          words = subst (λ (l : List (List ℕ)). Extends f.words l) (sym ws) (extends_self f.words);
          once = λ once. subst (λ (l : List (List ℕ)). AreOnce l) (sym ws) once;
          founds = (one ∷ [], fs);
          asked = subst (λ (l : List Asked). Extends f.asked.items l) (sym xs) (extends_self f.asked.items);
          given = given;
        }

        told_before : (o : Option FoundId) → IfSome o (λ other. other.0 < length f.founds.items) → option_map (told (types_of terms) g) o ≡ option_map (told (types_of terms) f) o
        told_before o there = told_if terms terms ([], sym (append-nil terms)) f (record g { given = f.given }) (follows (record g { given = f.given }) put.words put.founds (ap vec_items put.asked) refl) was.within o there

        told_put : told (types_of terms) g put.id ≡ given_told (types_of terms) d
        told_put =
            let found : found_at g.founds.items put.id ≡ one = ap (λ (l : List Found). found_at l put.id) put.founds ∙ last_found f.founds.items one put.id put.number in
            let asks : asked_by g put.id ≡ [] = ap (λ (x : Found). between g.asked.items x.from x.to) found ∙ nothing_between g.asked.items (length f.asked.items) in
            ap₂ (λ (t : Option CluType) (a : List Ask). let it : Told = record { type = t; asks = a } in it) (ap (λ (x : Found). option_map (type_at (types_of terms)) x.of) found) (ap (λ (l : List Asked). map (ask_told (types_of terms) g.words) l) asks)

        there : (its : Given) (o : Option FoundId) → get same f.given its ≡ o → IfSome o (λ other. other.0 < length f.founds.items)
        there its (Some other) e = (was.given.below its other e).1
        there its None e = tt

        all_below : (its : Given) (other : FoundId) (b : Bool) → same this its ≡ b → cond b (Some put.id) (get same f.given its) ≡ Some other → (its.operation.0 < length g.words) × (other.0 < length g.founds.items)
        all_below its other true t e =
            let at : id.0 ≡ its.operation.0 = ap (λ (k : Given). k.operation.0) ((same_given this its).0 t) in
            let name : id.0 < length f.words = named_within f.words d.operation id number in
            let place : put.id.0 ≡ other.0 = ap (λ (o : FoundId). o.0) (same_Some put.id other e) in
            (omega (arith, at, name, words), omega (arith, place, put.number, longer))
        all_below its other false t e =
            let name : its.operation.0 < length f.words = (was.given.below its other e).0 in
            let place : other.0 < length f.founds.items = (was.given.below its other e).1 in
            (omega (arith, name, words), omega (arith, place, longer))

        -- what is found by another key
        by_other : (m parameter : ℕ) (name : List ℕ) → (m ≡ n → is_asked parameter name d ≡ true → ⊥) → (o : Option NameId) → named f.words name ≡ o
            → option_map (told (types_of terms) g) (option_and_then (given_by g (Some m) parameter) o) ≡ option_map (told (types_of terms) f) (option_and_then (given_by f (Some m) parameter) o)
        by_other m parameter name other None e = refl
        by_other m parameter name other (Some k) e =
            let found = ap (λ (b : Bool). cond b (Some put.id) (get same f.given (key_of m parameter k))) (differs (same this (key_of m parameter k)) refl) in
            ap (option_map (told (types_of terms) g)) (put.given.0 (key_of m parameter k) ∙ found)
            ∙ told_before (get same f.given (key_of m parameter k)) (there (key_of m parameter k) (get same f.given (key_of m parameter k)) refl)
          where
            differs : (b : Bool) → same this (key_of m parameter k) ≡ b → same this (key_of m parameter k) ≡ false
            differs false t = t
            differs true t =
                let is = (same_given this (key_of m parameter k)).0 t in
                let name_is : name ≡ d.operation = same_Some name d.operation (sym (named_item f.words name k e) ∙ ap (λ (i : ℕ). slice_get f.words i) (sym (ap (λ (x : Given). x.operation.0) is)) ∙ named_item f.words d.operation id number) in
                let parameter_is : (d.parameter == parameter) ≡ true = (Decides-eqb d.parameter parameter).1 (ap (λ (x : Given). x.parameter) is) in
                absurd (other (sym (ap (λ (x : Given). x.node) is)) (ap (λ (b : Bool). b && bytes_eq name d.operation) parameter_is ∙ (bytes_eq-Decides name d.operation).1 name_is))

        elsewhere : (m parameter : ℕ) (name : List ℕ) → (m ≡ n → is_asked parameter name d ≡ true → ⊥) → option_map (told (types_of terms) g) (entry g m parameter name) ≡ option_map (given_told (types_of terms)) (first_asked parameter name (also n (d ∷ []) asked m))
        elsewhere m parameter name other =
            ap (λ (ws : List (List ℕ)). option_map (told (types_of terms) g) (option_and_then (given_by g (Some m) parameter) (named ws name))) put.words
            ∙ by_other m parameter name other (named f.words name) refl
            ∙ was.given.told m parameter name
            ∙ ap (option_map (given_told (types_of terms))) (sym (first_other asked n d m parameter name other))

        -- by its own
        by_this : (parameter : ℕ) (name : List ℕ) → is_asked parameter name d ≡ true → option_map (told (types_of terms) g) (entry g n parameter name) ≡ option_map (given_told (types_of terms)) (first_asked parameter name (also n (d ∷ []) asked n))
        by_this parameter name t =
            let s = asked_same parameter name d t in
            let before : first_asked parameter name (asked n) ≡ None = no_first (types_of terms) (first_asked parameter name (asked n)) (sym (told_none s.0 s.1)) in
            let found : entry g n parameter name ≡ Some put.id =
            ap (λ (ws : List (List ℕ)). option_and_then (given_by g (Some n) parameter) (named ws name)) put.words
            ∙ ap (λ (x : List ℕ). option_and_then (given_by g (Some n) parameter) (named f.words x)) s.1
            ∙ ap (option_and_then (given_by g (Some n) parameter)) number
            ∙ ap (λ (k : ℕ). get same g.given (key_of n k id)) (sym s.0)
            ∙ put.given.1 in
            ap (option_map (told (types_of terms) g)) found ∙ ap Some told_put ∙ ap (option_map (given_told (types_of terms))) (sym (first_this asked n d parameter name t before))
          where
            told_none : d.parameter ≡ parameter → name ≡ d.operation → option_map (given_told (types_of terms)) (first_asked parameter name (asked n)) ≡ None
            told_none p q =
                sym (was.given.told n parameter name)
                ∙ ap (λ (x : List ℕ). option_map (told (types_of terms) f) (option_and_then (given_by f (Some n) parameter) (named f.words x))) q
                ∙ ap (λ (o : Option NameId). option_map (told (types_of terms) f) (option_and_then (given_by f (Some n) parameter) o)) number
                ∙ ap (λ (k : ℕ). option_map (told (types_of terms) f) (get same f.given (key_of n k id))) (sym p)
                ∙ ap (option_map (told (types_of terms) f)) none

        all_told : (m parameter : ℕ) (name : List ℕ) → option_map (told (types_of terms) g) (entry g m parameter name) ≡ option_map (given_told (types_of terms)) (first_asked parameter name (also n (d ∷ []) asked m))
        all_told m parameter name = by (m == n) refl (is_asked parameter name d) refl
          where
            by : (b : Bool) → (m == n) ≡ b → (t : Bool) → is_asked parameter name d ≡ t → option_map (told (types_of terms) g) (entry g m parameter name) ≡ option_map (given_told (types_of terms)) (first_asked parameter name (also n (d ∷ []) asked m))
            by true e true t =
                subst (λ (k : ℕ). option_map (told (types_of terms) g) (entry g k parameter name) ≡ option_map (given_told (types_of terms)) (first_asked parameter name (also n (d ∷ []) asked k))) (sym ((Decides-eqb m n).0 e)) (by_this parameter name t)
            by true e false t = elsewhere m parameter name (λ q u. true≢false (sym u ∙ t))
            by false e t q = elsewhere m parameter name (λ is u. true≢false (sym ((Decides-eqb m n).1 is) ∙ e))

-- ---- as calls say so

pub none_there : {A : Type 0} (o : Option A) → is_some o ≡ false → o ≡ None
none_there (Some x) e = absurd (true≢false e)
none_there None e = refl

pub number_found : (f g : Finding) (name : List ℕ) (id : NameId) → AreOnce f.words → g.words ≡ with_name f.words name → id ≡ number_with f.words name → named g.words name ≡ Some id
number_found f g name id once words is = ap (λ (ws : List (List ℕ)). named ws name) words ∙ number_of_name f.words name once ∙ ap Some (sym is)

pub puts_one : (f g h : Finding) (key : Given) (of : Option TypeId) (from : ℕ) (id : FoundId) → from ≡ length f.asked.items → IsOneMore f g of from id → h.words ≡ g.words → h.founds ≡ g.founds → h.asked ≡ g.asked → h.wished ≡ g.wished → h.shown ≡ g.shown
    → Updates same g.given h.given key (Some id) → PutsOne f h key of
puts_one f g h key of from id from_is one words founds asked wished shown updates = record {
  id = id;
  number = one.number;
  founds = ap vec_items founds ∙ one.founds ∙ ap (λ (k : ℕ). f.founds.items ++ (let it : Found = record { of = of; from = k; to = length f.asked.items } in it ∷ [])) from_is;
  asked = asked ∙ one.asked;
  words = words ∙ one.words;
  wished = wished ∙ one.wished;
  shown = shown ∙ one.shown;
  given = subst (λ m. Updates same m h.given key (Some id)) one.given updates;
}

-- ---- what one node asks

as_asked : (a b : ℕ → List Demanded) (terms : List Term) (f : Finding) → ((m : ℕ) → a m ≡ b m) → IsEntering a terms f → IsEntering b terms f
as_asked a b terms f same_at was = record {
  within = was.within;
  once = was.once;
  wanted = λ m. subst (WantedBelow (length terms)) (same_at m) (was.wanted m);
  given = record {
    told = λ m parameter name. was.given.told m parameter name ∙ ap (λ (ds : List Demanded). option_map (given_told (types_of terms)) (first_asked parameter name ds)) (same_at m);
    below = was.given.below;
  };
  wished = was.wished;
  shown = was.shown;
}

-- the first i of these are entered
pub record EntersSome (n : ℕ) (demands : List Demanded) (old now : Finding) (i : ℕ) : Type 0 where
  pub entered : (asked : ℕ → List Demanded) (terms : List Term) → WantedBelow (length terms) demands → IsEntering asked terms old → IsEntering (also n (take i demands) asked) terms now
  pub words : Extends old.words now.words

pub some_first : (n : ℕ) (demands : List Demanded) (f : Finding) → EntersSome n demands f f 0
some_first n demands f = record { entered = λ asked terms wanted was. as_asked asked (also n [] asked) terms f (λ m. by asked m (m == n)) was; words = extends_self f.words }
  where
    by : (asked : ℕ → List Demanded) (m : ℕ) (b : Bool) → asked m ≡ (if b then asked m ++ [] else asked m)
    by asked m true = sym (append-nil (asked m))
    by asked m false = refl

wanted_at : (types : ℕ) (demands : List Demanded) (i : ℕ) (d : Demanded) → WantedBelow types demands → i < length demands → IsBelowIf types (get_or demands i d).wanted
wanted_at types [] i d b lt = absurd (omega arith)
wanted_at types (x ∷ demands) zero d b lt = b.0
wanted_at types (x ∷ demands) (suc i) d b lt = wanted_at types demands i d b.1 (omega arith)

pub some_more : (n : ℕ) (demands : List Demanded) (f g h : Finding) (i : ℕ) (d : Demanded) → i < length demands → d ≡ get_or demands i d → EntersSome n demands f g i
    → ((asked : ℕ → List Demanded) (terms : List Term) → IsBelowIf (length terms) d.wanted → IsEntering asked terms g → IsEntering (also n (d ∷ []) asked) terms h) → h.words ≡ with_name g.words d.operation → EntersSome n demands f h (i + 1)
some_more n demands f g h i d lt is so_far step words = record {
  entered = λ asked terms wanted was.
      let this : IsBelowIf (length terms) d.wanted = subst (λ (x : Demanded). IsBelowIf (length terms) x.wanted) (sym is) (wanted_at (length terms) demands i d wanted lt) in
      as_asked (also n (d ∷ []) (also n (take i demands) asked)) (also n (take (i + 1) demands) asked) terms h (λ m. by asked m (m == n)) (step (also n (take i demands) asked) terms this (so_far.entered asked terms wanted was));
  words = extends_on f.words g.words h.words so_far.words (subst (λ (ws : List (List ℕ)). Extends g.words ws) (sym words) (kept_extends g.words d.operation));
}
  where
    longer : take (i + 1) demands ≡ take i demands ++ d ∷ []
    longer = take_more demands i d lt ∙ ap (λ (x : Demanded). take i demands ++ x ∷ []) (sym is)

    by : (asked : ℕ → List Demanded) (m : ℕ) (b : Bool)
        → (if b then (if b then asked m ++ take i demands else asked m) ++ d ∷ [] else (if b then asked m ++ take i demands else asked m)) ≡ (if b then asked m ++ take (i + 1) demands else asked m)
    by asked m true = append_assoc (asked m) (take i demands) (d ∷ []) ∙ ap (λ (l : List Demanded). asked m ++ l) (sym longer)
    by asked m false = refl

pub some_all : (n : ℕ) (demands : List Demanded) (f g : Finding) (i : ℕ) → length demands ≤ i → EntersSome n demands f g i
    → (asked : ℕ → List Demanded) (terms : List Term) → WantedBelow (length terms) demands → IsEntering asked terms f → IsEntering (also n demands asked) terms g
some_all n demands f g i le so_far asked terms wanted was = subst (λ (ds : List Demanded). IsEntering (also n ds asked) terms g) (take_all i demands le) (so_far.entered asked terms wanted was)

-- ---- what all nodes ask

-- what the nodes below n ask is entered
pub record EntersBelow (headed : Headed) (old now : Finding) (n : ℕ) : Type 0 where
  pub entered : (terms : List Term) → AreHeads headed (length terms) → FindsNothing old → IsEntering (asked_below headed n) terms now
  pub words : Extends old.words now.words

pub below_first : (headed : Headed) (f : Finding) → EntersBelow headed f f 0
below_first headed f = record { entered = λ terms heads nothing. first terms nothing; words = extends_self f.words }
  where
    none : (m : ℕ) → asked_below headed 0 m ≡ []
    none m = ap (λ (b : Bool). if b then asked_in headed m else []) (le-ltb m 0 (omega arith))

    first : (terms : List Term) → FindsNothing f → IsEntering (asked_below headed 0) terms f
    first terms nothing = record {
      within = record {
        founds = subst (λ (l : List Found). AreFoundBelow (length terms) (length f.asked.items) l) (sym nothing.founds) tt;
        asked = subst (λ (l : List Asked). AreAskedBelow (length terms) (length f.words) l) (sym nothing.asked) tt;
      };
      once = nothing.once;
      wanted = λ m. subst (WantedBelow (length terms)) (sym (none m)) tt;
      given = record {
        told = λ m parameter name. by m parameter (named f.words name) ∙ ap (λ (ds : List Demanded). option_map (given_told (types_of terms)) (first_asked parameter name ds)) (sym (none m));
        below = λ key id e. none_is_not id (sym (nothing.given key) ∙ e);
      };
      wished = nothing.wished;
      shown = nothing.shown;
    }
      where
        by : (m parameter : ℕ) (o : Option NameId) → option_map (told (types_of terms) f) (option_and_then (given_by f (Some m) parameter) o) ≡ None
        by m parameter (Some id) = ap (option_map (told (types_of terms) f)) (nothing.given (key_of m parameter id))
        by m parameter None = refl

pub below_more : (headed : Headed) (f g h : Finding) (n : ℕ) (demands : List Demanded) → demands ≡ asked_in headed n → EntersBelow headed f g n
    → ((asked : ℕ → List Demanded) (terms : List Term) → WantedBelow (length terms) demands → IsEntering asked terms g → IsEntering (also n demands asked) terms h) → Extends g.words h.words → EntersBelow headed f h (n + 1)
below_more headed f g h n demands is so_far step words = record {
  entered = λ terms heads nothing.
      as_asked (also n demands (asked_below headed n)) (asked_below headed (n + 1)) terms h (λ m. by m (m == n) refl)
      (step (asked_below headed n) terms (subst (WantedBelow (length terms)) (sym is) (heads.asked n)) (so_far.entered terms heads nothing));
  words = extends_on f.words g.words h.words so_far.words words;
}
  where
    by : (m : ℕ) (b : Bool) → (m == n) ≡ b → (if b then asked_below headed n m ++ demands else asked_below headed n m) ≡ asked_below headed (n + 1) m
    by m true e =
        let same_node : m ≡ n = (Decides-eqb m n).0 e in
        let before : ltb m n ≡ false = le-ltb m n (omega (arith, same_node)) in
        let now : ltb m (n + 1) ≡ true = lt-ltb m (n + 1) (omega (arith, same_node)) in
        ap (λ (b : Bool). (if b then asked_in headed m else []) ++ demands) before ∙ is ∙ ap (asked_in headed) (sym same_node) ∙ ap (λ (b : Bool). if b then asked_in headed m else []) (sym now)
    by m false e = at (ltb m n) refl
      where
        other : m ≡ n → ⊥
        other q = true≢false (sym ((Decides-eqb m n).1 q) ∙ e)

        at : (b : Bool) → ltb m n ≡ b → (if ltb m n then asked_in headed m else []) ≡ asked_below headed (n + 1) m
        at true q = let now : ltb m (n + 1) ≡ true = lt-ltb m (n + 1) (omega (arith, ltb-true)) in ap (λ (b : Bool). if b then asked_in headed m else []) (q ∙ sym now)
        at false q = let now : ltb m (n + 1) ≡ false = le-ltb m (n + 1) (omega (arith, ltb-false, other)) in ap (λ (b : Bool). if b then asked_in headed m else []) (q ∙ sym now)

pub below_all : (headed : Headed) (f g : Finding) (n : ℕ) → length headed.file.syntax.now ≤ n → EntersBelow headed f g n → (terms : List Term) → AreHeads headed (length terms) → FindsNothing f → IsFinding headed terms g
below_all headed f g n le so_far terms heads nothing = record {
  within = all.within;
  once = all.once;
  ready = λ id its is. record { below = heads.below id its is; ascending = heads.ascending id its is; shown = by id its };
  asked = heads.asked;
  given = all.given;
  wished = λ w found e. none_is_not found (sym (all.wished w) ∙ e);
}
  where
    same_asked : (m : ℕ) (b : Bool) → ltb m n ≡ b → (if ltb m n then asked_in headed m else []) ≡ asked_in headed m
    same_asked m true e = ap (λ (b : Bool). if b then asked_in headed m else []) e
    same_asked m false e = ap (λ (b : Bool). if b then asked_in headed m else []) e ∙ sym (heads.past m (omega (arith, le, ltb-false)))

    all : IsEntering (asked_in headed) terms g
    all = as_asked (asked_below headed n) (asked_in headed) terms g (λ m. same_asked m (ltb m n) refl) (so_far.entered terms heads nothing)

    by : (id : ModuleId) (its : Module) → IsModuleShown (types_of terms) g id its
    by id (own head) = λ shown e. none_is_not shown (sym (all.shown id) ∙ e)
    by id (kept spec) = tt
