-- All that was found of a file stays what is looked for, while types and names grow and more is found.
use Rattle.std.proofs.Common.{◌≡◌, ◌∙◌, ◌⊎◌, inl, inr, ℕ, ◌<◌, ◌≤◌, cond, Bool, true, false, if◌then◌else◌, List, [], ◌∷◌, length, slice_get, option_map, option_and_then, vec_items, Option, Some, None, IfSome, Result, Ok, Err, IfOk, OnOk, refl, sym, ap, subst, arith, append-nil, ap₂}
use Rattle.std.specs.Bool.{Decides}
use Rattle.std.specs.HashMap.{get, Updates}
use Rattle.std.specs.Option.{option_eq, option_or}
use Rattle.std.proofs.lemmas.Bool.Decides.{Decides-like, Decides-and, Decides-eqb}
use Rattle.std.proofs.lemmas.Option.{same_Some}
use Rattle.clu_base.proofs.Lists.{some_at}
use Rattle.clu_types.specs.CluType.{CluType}
use Rattle.clu_types.specs.Arena.{type_at, types_of, Grows}
use Rattle.clu_types.specs.declared.term.Term.{Term}
use Rattle.clu_types.specs.declared.term.TypeId.{TypeId}
use Rattle.clu_types.proofs.Arenas.{types_grown}
use Rattle.clu_types.proofs.Carrying.{length_grows}
use Rattle.clu_types.proofs.Equality.{join3, same_id}
use Rattle.clu_head.specs.declared.head.Demanded.{Demanded}
use Rattle.clu_bindings.specs.Readers.{round_in}
use Rattle.clu_bindings.specs.declared.file.Headed.{Headed}
use Rattle.clu_operations.specs.contracts.words.NameIdPartialEq.TheImpl as names
use Rattle.clu_operations.specs.contracts.found.ViewPartialEq.TheImpl as views
use Rattle.clu_operations.specs.declared.finding.Finding.{Finding}
use Rattle.clu_operations.specs.declared.found.Asked.{Asked}
use Rattle.clu_operations.specs.declared.found.Found.{Found}
use Rattle.clu_operations.specs.declared.found.FoundId.{FoundId}
use Rattle.clu_operations.specs.declared.found.Given.{Given}
use Rattle.clu_operations.specs.declared.found.View.{View}
use Rattle.clu_operations.specs.declared.found.View.TheVariants as view
use Rattle.clu_operations.specs.declared.found.Wished.{Wished}
use Rattle.clu_operations.specs.declared.shapes.Shape.{Shape}
use Rattle.clu_operations.specs.declared.shapes.Shape.TheVariants as shape
use Rattle.clu_operations.specs.declared.words.NameId.{NameId}
use Rattle.clu_operations.specs.Builtins.{ComponentsAscend}
use Rattle.clu_operations.specs.Bundles.{HasAll, IsShownIn, WantedBelow}
use Rattle.clu_operations.specs.Clauses.{same, given_by, set_round, given}
use Rattle.clu_operations.specs.Finding.{IsBelowIf, IsNameBelow, AreFoundBelow, AreAskedBelow, AreWithin, Extends, Follows}
use Rattle.clu_operations.specs.Found.{Finds, ModuleBelow, IsModuleShown}
use Rattle.clu_operations.specs.Given.{is_asked, first_asked, asked_in, told_given, told_round, entry, IsEntryBelow, AreEntered}
use Rattle.clu_operations.specs.Modules.{Module, own, kept, HasAscending}
use Rattle.clu_operations.specs.Operations.{view_named, view_by, view_at}
use Rattle.clu_operations.specs.Shapes.{shape_in, shape_of, name_in}
use Rattle.clu_operations.specs.Told.{Told, told, given_told}
use Rattle.clu_operations.specs.Wished.{told_as, wished_told, told_view, told_seen, told_shape, told_at, IsReady, AreReady, same_wished, IsWished, IsFinding, FindsOf}
use Rattle.clu_operations.specs.Words.{named, with_name, AreOnce}
use Rattle.clu_operations.proofs.Asks.{asked_more}
use Rattle.clu_operations.proofs.Bundling.{wanted_more, form_more, form_same}
use Rattle.clu_operations.proofs.Founds.{founds_more}
use Rattle.clu_operations.proofs.Lasting.{told_if, follows_self, follows_on, wished_stays}
use Rattle.clu_operations.proofs.Naming.{extends_self, length_extends, kept_extends}
use Rattle.clu_operations.proofs.Once.{item_extends, named_stays, named_later, once_with}
use Rattle.clu_operations.proofs.Pushing.{option_stays}
use Rattle.clu_operations.proofs.Showing.{same_id as same_module}

-- ---- keys that are equal

same_name : (a b : NameId) → Decides ((names.ghosts).eq a b) (a ≡ b)
same_name a b = Decides-like _ (ap (λ (n : ℕ). let id : NameId = record { 0 = n } in id)) (ap (λ (id : NameId). id.0)) (Decides-eqb a.0 b.0)

pub same_given : (a b : Given) → Decides (same a b) (a ≡ b)
same_given a b =
    Decides-like _ (λ e. join3 (λ (n k : ℕ) (o : NameId). let key : Given = record { node = n; parameter = k; operation = o } in key) e.0 e.1.0 e.1.1)
    (λ e. (ap (λ (key : Given). key.node) e, (ap (λ (key : Given). key.parameter) e, ap (λ (key : Given). key.operation) e)))
    (Decides-and _ _ (Decides-eqb a.node b.node) (Decides-and _ _ (Decides-eqb a.parameter b.parameter) (same_name a.operation b.operation)))

same_operation : (a b : Option NameId) → Decides (option_eq (names.ghosts).eq a b) (a ≡ b)
same_operation (Some a) (Some b) = Decides-like _ (ap Some) (λ e. same_Some a b e) (same_name a b)
same_operation None None = (λ e. refl, λ e. refl)
same_operation _ _ = (λ e. cc, λ e. cc)

same_view : (a b : View) → Decides ((views.ghosts).eq a b) (a ≡ b)
same_view view.Builtin view.Builtin = (λ e. refl, λ e. refl)
same_view (view.Inside a) (view.Inside b) = Decides-like _ (ap view.Inside) (λ e. cc) (same_module a b)
same_view (view.Outside a) (view.Outside b) = Decides-like _ (ap view.Outside) (λ e. cc) (same_module a b)
same_view _ _ = (λ e. cc, λ e. cc)

pub same_wish : (a b : Wished) → Decides (same_wished a b) (a ≡ b)
same_wish a b =
    Decides-like _ (λ e. join3 (λ (t : TypeId) (o : Option NameId) (v : View). let w : Wished = record { of = t; operation = o; view = v } in w) e.0 e.1.0 e.1.1)
    (λ e. (ap (λ (w : Wished). w.of) e, (ap (λ (w : Wished). w.operation) e, ap (λ (w : Wished). w.view) e)))
    (Decides-and _ _ (same_id a.of b.of) (Decides-and _ _ (same_operation a.operation b.operation) (same_view a.view b.view)))

-- ---- numbers that are there

pub within_more : (m n : ℕ) → m ≤ n → (f : Finding) → AreWithin m f → AreWithin n f
within_more m n le f w = record {
  founds = founds_more m n (length f.asked.items) (length f.asked.items) le (omega arith) f.founds.items w.founds;
  asked = asked_more m n (length f.words) (length f.words) le (omega arith) f.asked.items w.asked;
}

name_more : (m n : ℕ) → m ≤ n → (o : Option NameId) → IsNameBelow m o → IsNameBelow n o
name_more m n le (Some id) lt = omega (arith, le, lt)
name_more m n le None lt = tt

found_more : (m n : ℕ) → m ≤ n → (o : Option FoundId) → IfSome o (λ id. id.0 < m) → IfSome o (λ id. id.0 < n)
found_more m n le (Some id) lt = omega (arith, le, lt)
found_more m n le None lt = tt

-- ---- where nothing changes but names and what was looked for

module _ (g h : Finding) (words : Extends g.words h.words) (founds : h.founds ≡ g.founds) (asked : h.asked ≡ g.asked) where
  pub within_like : (n : ℕ) → AreWithin n g → AreWithin n h
  within_like n w =
      let count : length g.asked.items ≤ length h.asked.items = omega (arith, ap (λ (l : List Asked). length l) (ap vec_items asked)) in
      record {
        founds = subst (λ (xs : List Found). AreFoundBelow n (length h.asked.items) xs) (sym (ap vec_items founds)) (founds_more n n (length g.asked.items) (length h.asked.items) (omega arith) count g.founds.items w.founds);
        asked = subst (λ (xs : List Asked). AreAskedBelow n (length h.words) xs) (sym (ap vec_items asked)) (asked_more n n (length g.words) (length h.words) (omega arith) (length_extends g.words h.words words) g.asked.items w.asked);
      }

pub ready_like : (headed : Headed) (terms : List Term) (g h : Finding) → h.shown ≡ g.shown → AreReady headed terms g → AreReady headed terms h
ready_like headed terms g h shown ready id its is = let r : IsReady terms g id its = ready id its is in record { below = r.below; ascending = r.ascending; shown = by its r.shown }
  where
    by : (one : Module) → IsModuleShown (types_of terms) g id one → IsModuleShown (types_of terms) h id one
    by (own head) s = subst (λ m. IsShownIn (types_of terms) m id head.form) (sym shown) s
    by (kept spec) s = tt

pub ready_grown : (headed : Headed) (old new : List Term) → Grows old new → (f : Finding) → AreReady headed old f → AreReady headed new f
ready_grown headed old new grows f ready id its is = let r : IsReady old f id its = ready id its is in by its r.below r.ascending r.shown
  where
    by : (one : Module) → ModuleBelow (length old) one → HasAscending one → IsModuleShown (types_of old) f id one → IsReady new f id one
    by (own head) b up s = record {
      below = form_more (length old) (length new) (length_grows old new grows) head.form b;
      ascending = up;
      shown = λ shown e. subst (λ (t : CluType). HasAll t shown) (sym (form_same old new grows head.form b)) (s shown e);
    }
    by (kept spec) b up s = record { below = b; ascending = up; shown = tt }

-- ---- what is asked of parameters

first_wanted : (n : ℕ) (parameter : ℕ) (name : List ℕ) (demands : List Demanded) → WantedBelow n demands → IfSome (first_asked parameter name demands) (λ d. IsBelowIf n d.wanted)
first_wanted n parameter name [] b = tt
first_wanted n parameter name (d ∷ demands) b = by (is_asked parameter name d) (first_wanted n parameter name demands b.1)
  where
    by : (t : Bool) → IfSome (first_asked parameter name demands) (λ d. IsBelowIf n d.wanted) → IfSome (if t then Some d else first_asked parameter name demands) (λ d. IsBelowIf n d.wanted)
    by true rest = b.0
    by false rest = rest

wanted_same : (old new : List Term) → Grows old new → (o : Option Demanded) → IfSome o (λ d. IsBelowIf (length old) d.wanted) → option_map (given_told (types_of new)) o ≡ option_map (given_told (types_of old)) o
wanted_same old new grows (Some d) b = ap (λ (t : Option CluType). let it : Told = record { type = t; asks = [] } in Some it) (option_stays old new grows d.wanted b)
wanted_same old new grows None b = refl

module _ (old new : List Term) (grows : Grows old new) (f g : Finding) (follows : Follows f g) (within : AreWithin (length old) f) (asked : ℕ → List Demanded) (wanted : (n : ℕ) → WantedBelow (length old) (asked n)) (was : AreEntered asked (types_of old) f) where
  abbrev key : ℕ → ℕ → NameId → Given
  key node parameter id = record { node = node; parameter = parameter; operation = id }

  there : (its : Given) (o : Option FoundId) → get same f.given its ≡ o → IfSome o (λ id. id.0 < length f.founds.items)
  there its (Some id) e = (was.below its id e).1
  there its None e = tt

  entries_told : (node parameter : ℕ) (name : List ℕ) → option_map (told (types_of new) g) (entry g node parameter name) ≡ option_map (given_told (types_of old)) (first_asked parameter name (asked node))
  entries_told node parameter name = by (named f.words name) refl
    where
      late : (o : Option NameId) → named f.words name ≡ None → named g.words name ≡ o → option_and_then (given_by g (Some node) parameter) o ≡ None
      late None none e = refl
      late (Some id) none e = empty (get same g.given (key node parameter id)) refl
        where
          empty : (o : Option FoundId) → get same g.given (key node parameter id) ≡ o → o ≡ None
          empty None q = refl
          empty (Some other) q =
              let before : id.0 < length f.words = (was.below (key node parameter id) other (ap (λ m. get same m (key node parameter id)) (sym follows.given) ∙ q)).0 in
              absurd (omega (arith, before, named_later f.words g.words follows.words name id none e))

      by : (o : Option NameId) → named f.words name ≡ o → option_map (told (types_of new) g) (entry g node parameter name) ≡ option_map (given_told (types_of old)) (first_asked parameter name (asked node))
      by (Some id) e =
          let before : entry f node parameter name ≡ get same f.given (key node parameter id) = ap (option_and_then (given_by f (Some node) parameter)) e in
          let after : entry g node parameter name ≡ get same f.given (key node parameter id) =
          ap (option_and_then (given_by g (Some node) parameter)) (named_stays f.words g.words follows.words name id e) ∙ ap (λ m. get same m (key node parameter id)) follows.given in
          ap (option_map (told (types_of new) g)) after
          ∙ told_if old new grows f g follows within (get same f.given (key node parameter id)) (there (key node parameter id) (get same f.given (key node parameter id)) refl)
          ∙ ap (option_map (told (types_of old) f)) (sym before)
          ∙ was.told node parameter name
      by None e =
          ap (option_map (told (types_of new) g)) (late (named g.words name) e refl)
          ∙ ap (option_map (told (types_of old) f)) (sym (ap (option_and_then (given_by f (Some node) parameter)) e))
          ∙ was.told node parameter name

  pub entered_stays : AreEntered asked (types_of new) g
  entered_stays = record {
    told = λ node parameter name. entries_told node parameter name ∙ sym (wanted_same old new grows (first_asked parameter name (asked node)) (first_wanted (length old) parameter name (asked node) (wanted node)));
    below = λ its id e.
        let before : IsEntryBelow f its id = was.below its id (ap (λ m. get same m its) (sym follows.given) ∙ e) in
        (omega (arith, before.0, length_extends f.words g.words follows.words), omega (arith, before.1, length_extends f.founds.items g.founds.items follows.founds));
  }

-- ---- all that was found

module _ (headed : Headed) (old new : List Term) (grows : Grows old new) (f g : Finding) (follows : Follows f g) (was : IsFinding headed old f) where
  wish_stays : (w : Wished) (found : Option FoundId) → IsWished headed old f w found → IsWished headed new g w found
  wish_stays w found h = record {
    of = omega (arith, h.of, length_grows old new grows);
    name = name_more (length f.words) (length g.words) (length_extends f.words g.words follows.words) w.operation h.name;
    there = found_more (length f.founds.items) (length g.founds.items) (length_extends f.founds.items g.founds.items follows.founds) found h.there;
    tells = λ up.
        told_if old new grows f g follows was.within found h.there
        ∙ h.tells (subst (λ (t : CluType). ComponentsAscend t) (types_grown old new grows w.of h.of) up)
        ∙ sym (wished_stays old new grows f.words g.words follows.words headed (λ id its e. (was.ready id its e).below) w h.of h.name);
  }

  -- what was looked for is what was before, and more that is right
  pub finding_after : AreWithin (length new) g → AreReady headed new g → ((w : Wished) (found : Option FoundId) → get same_wished g.wished w ≡ Some found → (get same_wished f.wished w ≡ Some found) ⊎ IsWished headed new g w found) → IsFinding headed new g
  finding_after within ready wished = record {
    within = within;
    once = follows.once was.once;
    ready = ready;
    asked = λ n. wanted_more (length old) (length new) (length_grows old new grows) (asked_in headed n) (was.asked n);
    given = entered_stays old new grows f g follows was.within (asked_in headed) was.asked was.given;
    wished = λ w found e. elim (wished w found e) [ inl before ↦ wish_stays w found (was.wished w found before) | inr now ↦ now ];
  }

pub finding_grown : (headed : Headed) (old new : List Term) → Grows old new → (f : Finding) → IsFinding headed old f → IsFinding headed new f
finding_grown headed old new grows f was =
    finding_after headed old new grows f f (follows_self f) was (within_more (length old) (length new) (length_grows old new grows) f was.within) (ready_grown headed old new grows f was.ready) (λ w found e. inl e)

-- one more name
pub follows_named : (f g : Finding) (name : List ℕ) → g.words ≡ with_name f.words name → g.founds ≡ f.founds → g.asked ≡ f.asked → g.given ≡ f.given → Follows f g
follows_named f g name words founds asked given = record {
  words = subst (λ (ws : List (List ℕ)). Extends f.words ws) (sym words) (kept_extends f.words name);
  once = λ once. subst (λ (ws : List (List ℕ)). AreOnce ws) (sym words) (once_with f.words name once);
  founds = subst (λ (xs : List Found). Extends f.founds.items xs) (sym (ap vec_items founds)) (extends_self f.founds.items);
  asked = subst (λ (xs : List Asked). Extends f.asked.items xs) (sym (ap vec_items asked)) (extends_self f.asked.items);
  given = given;
}

pub finding_named : (headed : Headed) (terms : List Term) (f g : Finding) (name : List ℕ) → g.words ≡ with_name f.words name → g.founds ≡ f.founds → g.asked ≡ f.asked → g.wished ≡ f.wished → g.given ≡ f.given → g.shown ≡ f.shown
    → IsFinding headed terms f → IsFinding headed terms g
finding_named headed terms f g name words founds asked wished given shown was =
    let follows : Follows f g = follows_named f g name words founds asked given in
    finding_after headed terms terms ([], sym (append-nil terms)) f g follows was (within_like f g follows.words founds asked (length terms) was.within) (ready_like headed terms f g shown was.ready)
    (λ w found e. inl (ap (λ m. get same_wished m w) (sym wished) ∙ e))

-- ---- one more was looked for

pub first_found : (headed : Headed) (old new : List Term) → Grows old new → (f g h : Finding) (w : Wished) (found : Option FoundId) → IsFinding headed old f → w.of.0 < length old → IsNameBelow (length f.words) w.operation
    → Finds (length old) new f g (option_map (told (types_of new) g) found) found → AreReady headed new g
    → (ComponentsAscend (type_at (types_of old) w.of) → Finds (length old) new f g (wished_told headed (types_of old) f.words w) found)
    → h.words ≡ g.words → h.founds ≡ g.founds → h.asked ≡ g.asked → h.given ≡ g.given → h.shown ≡ g.shown → Updates same_wished g.wished h.wished w (Some found)
    → FindsOf headed old new f h w.of (wished_told headed (types_of old) f.words w) found
first_found headed old new grows f g h w found was of name stays ready tells words founds asked given shown updates = record { tells = λ up. same_told ∙ (tells up).tells; there = there_now; follows = all_follows; finding = all }
  where
    step : Follows g h
    step = record {
      words = subst (λ (ws : List (List ℕ)). Extends g.words ws) (sym words) (extends_self g.words);
      once = λ once. subst (λ (ws : List (List ℕ)). AreOnce ws) (sym words) once;
      founds = subst (λ (xs : List Found). Extends g.founds.items xs) (sym (ap vec_items founds)) (extends_self g.founds.items);
      asked = subst (λ (xs : List Asked). Extends g.asked.items xs) (sym (ap vec_items asked)) (extends_self g.asked.items);
      given = given;
    }

    all_follows : Follows f h
    all_follows = follows_on f g h stays.follows step

    within_then : AreWithin (length new) g
    within_then = stays.within was.within

    within_now : AreWithin (length new) h
    within_now = within_like g h step.words founds asked (length new) within_then

    there_now : IfSome found (λ id. id.0 < length h.founds.items)
    there_now = found_more (length g.founds.items) (length h.founds.items) (length_extends g.founds.items h.founds.items step.founds) found stays.there

    same_told : option_map (told (types_of new) h) found ≡ option_map (told (types_of new) g) found
    same_told = told_if new new ([], sym (append-nil new)) g h step within_then found stays.there

    its : IsWished headed new h w found
    its = record {
      of = omega (arith, of, length_grows old new grows);
      name = name_more (length f.words) (length h.words) (length_extends f.words h.words all_follows.words) w.operation name;
      there = there_now;
      tells = λ up.
          same_told ∙ (tells (subst (λ (t : CluType). ComponentsAscend t) (types_grown old new grows w.of of) up)).tells
          ∙ sym (wished_stays old new grows f.words h.words all_follows.words headed (λ id one e. (was.ready id one e).below) w of name);
    }

    is_right : (q : Wished) (other : Option FoundId) (b : Bool) → same_wished w q ≡ b → cond b (Some found) (get same_wished g.wished q) ≡ Some other → (get same_wished f.wished q ≡ Some other) ⊎ IsWished headed new h q other
    is_right q other true t e = inr (subst (λ (o : Option FoundId). IsWished headed new h q o) (same_Some found other e) (subst (λ (x : Wished). IsWished headed new h x found) ((same_wish w q).0 t) its))
    is_right q other false t e = inl (ap (λ m. get same_wished m q) (sym stays.wished) ∙ e)

    all : IsFinding headed new h
    all = finding_after headed old new grows f h all_follows was within_now (ready_like headed new g h shown ready) (λ q other e. is_right q other (same_wished w q) refl (sym (updates.0 q) ∙ e))

pub found_again : (headed : Headed) (terms : List Term) (f : Finding) (w : Wished) (found : Option FoundId) → IsFinding headed terms f → get same_wished f.wished w ≡ Some found → FindsOf headed terms terms f f w.of (wished_told headed (types_of terms) f.words w) found
found_again headed terms f w found was e = let its : IsWished headed terms f w found = was.wished w found e in record { tells = its.tells; there = its.there; follows = follows_self f; finding = was }

pub found_none : (headed : Headed) (terms : List Term) (f : Finding) (of : TypeId) (it : Option Told) → IsFinding headed terms f → None ≡ it → FindsOf headed terms terms f f of it None
found_none headed terms f of it was e = record { tells = λ up. e; there = tt; follows = follows_self f; finding = was }

-- ---- what is given at a node

map_or : {A B : Type 0} (f : A → B) (a b : Option A) → option_map f (option_or a b) ≡ option_or (option_map f a) (option_map f b)
map_or f (Some x) b = refl
map_or f None b = refl

some_or : {A : Type 0} (P : A → Type 0) (a b : Option A) → IfSome a P → IfSome b P → IfSome (option_or a b) P
some_or P (Some x) b h k = h
some_or P None b h k = k

module _ (headed : Headed) (terms : List Term) (f : Finding) (was : IsFinding headed terms f) (n parameter : ℕ) (operation : NameId) where
  pub by_there : (node : Option ℕ) → IfSome (given_by f node parameter operation) (λ id. id.0 < length f.founds.items)
  by_there (Some node) = by (given_by f (Some node) parameter operation) refl
    where
      by : (o : Option FoundId) → given_by f (Some node) parameter operation ≡ o → IfSome o (λ id. id.0 < length f.founds.items)
      by (Some id) e = (was.given.below (record { node = node; parameter = parameter; operation = operation }) id e).1
      by None e = tt
  by_there None = tt

  pub round_there : IfSome (given headed.file f n parameter operation) (λ id. id.0 < length f.founds.items)
  round_there =
      some_or (λ (id : FoundId). id.0 < length f.founds.items) _ _
      (some_or (λ (id : FoundId). id.0 < length f.founds.items) _ _ (by_there (round_in headed.file n).routine) (by_there (round_in headed.file n).cluster)) (by_there (set_round headed.file n parameter))

  pub by_told : (name : List ℕ) → named f.words name ≡ Some operation → (node : Option ℕ) → option_map (told (types_of terms) f) (given_by f node parameter operation) ≡ told_given headed (types_of terms) node parameter name
  by_told name e (Some node) = ap (option_map (told (types_of terms) f)) (sym (ap (option_and_then (given_by f (Some node) parameter)) e)) ∙ was.given.told node parameter name
  by_told name e None = refl

  pub round_told : operation.0 < length f.words → option_map (told (types_of terms) f) (given headed.file f n parameter operation) ≡ option_and_then (told_round headed (types_of terms) n parameter) (slice_get f.words operation.0)
  round_told lt =
      let s = some_at f.words operation.0 lt in
      let e : named f.words s.0 ≡ Some operation = was.once operation s.0 s.1 in
      map_or (told (types_of terms) f) _ _
      ∙ ap₂ (λ (a b : Option Told). option_or a b)
      (map_or (told (types_of terms) f) _ _ ∙ ap₂ (λ (a b : Option Told). option_or a b) (by_told s.0 e (round_in headed.file n).routine) (by_told s.0 e (round_in headed.file n).cluster)) (by_told s.0 e (set_round headed.file n parameter))
      ∙ ap (option_and_then (told_round headed (types_of terms) n parameter)) (sym s.1)

  pub given_found : (of : TypeId) (it : Option Told) → operation.0 < length f.words → option_and_then (told_round headed (types_of terms) n parameter) (slice_get f.words operation.0) ≡ it
      → FindsOf headed terms terms f f of it (given headed.file f n parameter operation)
  given_found of it lt e = record { tells = λ up. round_told lt ∙ e; there = round_there; follows = follows_self f; finding = was }

-- ---- what is told at a node stays

module _ (headed : Headed) (old new : List Term) (grows : Grows old new) (f g : Finding) (more : Extends f.words g.words) (was : IsFinding headed old f) (of : TypeId) (lt : of.0 < length old) where
  item_same : slice_get new of.0 ≡ slice_get old of.0
  item_same = item_extends old new grows of.0 lt

  shape_same : shape_of new of ≡ shape_of old of
  shape_same = ap shape_in item_same

  view_same : (n : Option ℕ) → view_at headed.file new n of ≡ view_at headed.file old n of
  view_same n = ap (view_by headed.file new n of) shape_same ∙ by (shape_of old of)
    where
      by : (s : Shape) → view_by headed.file new n of s ≡ view_by headed.file old n of s
      by shape.Builtin = refl
      by shape.Cluster = ap (λ (t : Option Term). option_and_then (view_named headed.file n) (name_in t)) item_same
      by (shape.Parameter number) = refl

  pub seen_stays : (n : Option ℕ) (operation : Option NameId) → IsNameBelow (length f.words) operation → told_seen headed new g.words n of operation ≡ told_seen headed old f.words n of operation
  unfolding told_seen
  seen_stays n operation there = ap (told_view headed new g.words of operation) (view_same n) ∙ by (view_at headed.file old n of)
    where
      by : (o : Option View) → told_view headed new g.words of operation o ≡ told_view headed old f.words of operation o
      by (Some v) = wished_stays old new grows f.words g.words more headed (λ id its e. (was.ready id its e).below) (record { of = of; operation = operation; view = v }) lt there
      by None = refl

  given_same : (node : Option ℕ) (parameter : ℕ) (name : List ℕ) → told_given headed (types_of new) node parameter name ≡ told_given headed (types_of old) node parameter name
  given_same (Some node) parameter name = wanted_same old new grows (first_asked parameter name (asked_in headed node)) (first_wanted (length old) parameter name (asked_in headed node) (was.asked node))
  given_same None parameter name = refl

  round_same : (n parameter : ℕ) (name : List ℕ) → told_round headed (types_of new) n parameter name ≡ told_round headed (types_of old) n parameter name
  round_same n parameter name =
      ap₂ (λ (a b : Option Told). option_or a b)
      (ap₂ (λ (a b : Option Told). option_or a b) (given_same (round_in headed.file n).routine parameter name) (given_same (round_in headed.file n).cluster parameter name)) (given_same (set_round headed.file n parameter) parameter name)

  pub at_stays : (n : ℕ) (operation : NameId) → operation.0 < length f.words → told_at headed new g.words n of operation ≡ told_at headed old f.words n of operation
  unfolding told_at
  at_stays n operation there = ap (told_shape headed new g.words n of operation) shape_same ∙ by (shape_of old of)
    where
      rounds : (parameter : ℕ) (o : Option (List ℕ)) → option_and_then (told_round headed (types_of new) n parameter) o ≡ option_and_then (told_round headed (types_of old) n parameter) o
      rounds parameter (Some name) = round_same n parameter name
      rounds parameter None = refl

      by : (s : Shape) → told_shape headed new g.words n of operation s ≡ told_shape headed old f.words n of operation s
      by (shape.Parameter number) =
          ap (option_and_then (told_round headed (types_of new) n number)) (item_extends f.words g.words more operation.0 there) ∙ rounds number (slice_get f.words operation.0)
      by shape.Builtin = seen_stays (Some n) (Some operation) there
      by shape.Cluster = seen_stays (Some n) (Some operation) there

-- ---- as calls say so

pub wished_is : (headed : Headed) (types : List CluType) (names : List (List ℕ)) (w : Wished) (v : View) → w.view ≡ v → told_as headed types names w v ≡ wished_told headed types names w
unfolding wished_told
wished_is headed types names w v e = ap (told_as headed types names w) (sym e)

pub seen_is : (headed : Headed) (terms : List Term) (names : List (List ℕ)) (n : Option ℕ) (of : TypeId) (operation : Option NameId) (o : Option View) → o ≡ view_at headed.file terms n of → told_view headed terms names of operation o ≡ told_seen headed terms names n of operation
unfolding told_seen
seen_is headed terms names n of operation o e = ap (told_view headed terms names of operation) e

pub at_is : (headed : Headed) (terms : List Term) (names : List (List ℕ)) (n : ℕ) (of : TypeId) (operation : NameId) (s : Shape) → s ≡ shape_of terms of → told_shape headed terms names n of operation s ≡ told_at headed terms names n of operation
unfolding told_at
at_is headed terms names n of operation s e = ap (told_shape headed terms names n of operation) e

module _ {E : Type 0} where
  pub tells_itself : (r : Result (Option FoundId) E) (types : ℕ) (terms : List Term) (f g : Finding) (it : Option Told) → IfOk r (Finds types terms f g it) → IfOk r (λ found. Finds types terms f g (option_map (told (types_of terms) g) found) found)
  tells_itself (Ok found) types terms f g it h = record { tells = refl; there = h.there; follows = h.follows; within = h.within; wished = h.wished }
  tells_itself (Err m) types terms f g it h = tt

  pub tells_as : (r : Result (Option FoundId) E) (types : ℕ) (terms : List Term) (f g : Finding) (it other : Option Told) → it ≡ other → IfOk r (Finds types terms f g it) → IfOk r (Finds types terms f g other)
  tells_as r types terms f g it other e h = subst (λ (o : Option Told). IfOk r (Finds types terms f g o)) e h

  pub found_as : (r : Result (Option FoundId) E) (headed : Headed) (old terms : List Term) (f g : Finding) (of : TypeId) (it other : Option Told) → it ≡ other → IfOk r (FindsOf headed old terms f g of it) → IfOk r (FindsOf headed old terms f g of other)
  found_as r headed old terms f g of it other e h = subst (λ (o : Option Told). IfOk r (FindsOf headed old terms f g of o)) e h

  pub still_ready : (r : Result (Option FoundId) E) (headed : Headed) (old new : List Term) (f g : Finding) → Grows old new → OnOk r (g.shown ≡ f.shown) → AreReady headed old f → OnOk r (AreReady headed new g)
  still_ready (Ok found) headed old new f g grows shown ready = ready_like headed new f g shown (ready_grown headed old new grows f ready)
  still_ready (Err m) headed old new f g grows shown ready = tt
