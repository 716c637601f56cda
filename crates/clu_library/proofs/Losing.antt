-- The modules that are lost when a specification is replaced, and the programs that are left.
use Rattle.std.proofs.Common.{◌≡◌, ◌≢◌, ◌⊎◌, ◌↔◌, inl, inr, ℕ, ◌<◌, ◌≤◌, ◌+◌, zero, suc, List, [], ◌∷◌, ◌++◌, ◌||◌, Bool, true, false, not, cond, Contains, length, take, get_or, Option, Some, None, IsTrue, find, is_some, option_map, refl, sym, ap, subst, ◌∙◌, true≢false, arith}
use Rattle.std.specs.List.{list_any, filter}
use Rattle.std.specs.Str.{bytes_eq}
use Rattle.std.proofs.lemmas.List.{take_more, take_all, nil_from_length}
use Rattle.std.proofs.lemmas.List.Elements.{Contains-append_left, Contains-append_right, Contains-push, Contains-push_cases}
use Rattle.std.proofs.lemmas.List.Folds.{list_any_at}
use Rattle.std.proofs.lemmas.Option.{none-some, same_Some}
use Rattle.std.proofs.lemmas.Slice.Eq.{bytes_eq-Decides}
use Rattle.std.specs.declared.cmp.Ordering.{Ordering}
use Rattle.std.specs.declared.cmp.Ordering.TheVariants.{Less}
use Rattle.indexmap.specs.IndexSet.{insert_key}
use Rattle.indexmap.proofs.CallerLemmas.{Contains-list_any, Contains-insert_key}
use Rattle.clu_base.proofs.Lists.{same_bytes}
use Rattle.clu_types.specs.Specs.{name_order, with_spec}
use Rattle.clu_types.specs.declared.spec.Spec.{Spec}
use Rattle.clu_library.specs.Bounds.{AreBounds, AreReached, at_most, leads}
use Rattle.clu_library.specs.ByName.{ComeAfter, AreAscending}
use Rattle.clu_library.specs.Contents.{Contents}
use Rattle.clu_library.specs.Replacing.{with_change, with_replaced, IsLost, IsBroken, AreLeft, AreLost, AreLostIfAny, AreStaleOf, has_any, without_any}
use Rattle.clu_library.specs.Staleness.{AreStale, IsStale, IsStaleIf, IsStaleBody, IsFirstChange}
use Rattle.clu_library.specs.declared.body.Body.{Body}
use Rattle.clu_library.specs.declared.body.Change.{Change}
use Rattle.clu_library.specs.declared.body.ModuleBody.{ModuleBody}
use Rattle.clu_library.specs.declared.program.Program.{Program}
use Rattle.clu_library.proofs.Bounding.{not_stale}
use Rattle.clu_library.proofs.Closing.{listed}
use Rattle.clu_library.proofs.Firsts.{found_passes, apart}
use Rattle.clu_library.proofs.Leading.{any_listed, stale_by_rank}

-- whether one body is stale
pub is_stale_by : (specs : List Spec) (changes : List Change) (own : List ℕ) (body : Body) (change : Change) → IsFirstChange specs changes own body change → IsTrue true ↔ IsStaleBody specs changes own body
is_stale_by specs changes own body change first = ((λ _. (change.name, first.makes)), (λ _. refl))

pub is_fresh : (specs : List Spec) (changes : List Change) (own : List ℕ) (body : Body) → (IsStaleBody specs changes own body → ⊥) → IsTrue false ↔ IsStaleBody specs changes own body
is_fresh specs changes own body never = ((λ e. absurd (true≢false (sym e))), (λ stale. absurd (never stale)))

pub excluded : (specs : List Spec) (changes : List Change) (bound : List ℕ → ℕ) (own : List ℕ) (body : Body) (are : Bool) → (IsTrue are → AreBounds specs changes bound)
    → IsTrue are × ((names : List (List ℕ)) × (body.names ≡ Some names) × IsTrue (at_most bound body.checked names)) → IsTrue false ↔ IsStaleBody specs changes own body
excluded specs changes bound own body are bounds h = is_fresh specs changes own body (not_stale specs changes bound own body h.1.0 (bounds h.0) h.1.1 h.1.2)

pub included : (specs : List Spec) (changes : List Change) (bound rank : List ℕ → ℕ) (own : List ℕ) (body : Body) (are : Bool) → (IsTrue are → AreReached specs changes bound rank)
    → IsTrue are × ((names : List (List ℕ)) × (body.names ≡ Some names) × IsTrue (list_any (leads specs bound rank own (body.checked + 1)) names)) → IsTrue true ↔ IsStaleBody specs changes own body
included specs changes bound rank own body are reached h = ((λ _. stale_by_rank specs changes bound rank own body h.1.0 (reached h.0) h.1.1 h.1.2), (λ _. refl))

pub ruleset stalenesses = (is_stale_by, is_fresh, excluded)

-- the modules of the first i bodies that are stale
module _ (specs : List Spec) (changes : List Change) (bodies : List ModuleBody) (start names : List (List ℕ)) (i : ℕ) (b : ModuleBody) (lt : i < length bodies) (is : b ≡ get_or bodies i b)
    (before : AreStaleOf specs changes (take i bodies) start names) where
  earlier : (x : ModuleBody) → Contains (take i bodies) x → Contains (take (i + 1) bodies) x
  earlier x h =
      let P : List ModuleBody → Type 0 = λ xs. Contains xs x in
      subst P (sym (take_more bodies i b lt)) (Contains-append_left (take i bodies) (get_or bodies i b ∷ []) x h)

  this : Contains (take (i + 1) bodies) b
  this =
      let P : List ModuleBody → Type 0 = λ xs. Contains xs b in
      let Q : ModuleBody → Type 0 = λ y. Contains (take i bodies ++ y ∷ []) b in
      subst P (sym (take_more bodies i b lt)) (subst Q is (Contains-push (take i bodies) b))

  cases : (x : ModuleBody) → Contains (take (i + 1) bodies) x → Contains (take i bodies) x ⊎ (b ≡ x)
  cases x h = let P : List ModuleBody → Type 0 = λ xs. Contains xs x in by (Contains-push_cases (take i bodies) (get_or bodies i b) x (subst P (take_more bodies i b lt) h))
    where
      by : Contains (take i bodies) x ⊎ (get_or bodies i b ≡ x) → Contains (take i bodies) x ⊎ (b ≡ x)
      by (inl h) = inl h
      by (inr e) = inr (is ∙ e)

  abbrev Stale : List ℕ → Type 0
  Stale name = (x : ModuleBody) × Contains (take (i + 1) bodies) x × (x.name ≡ name) × IsStaleBody specs changes x.name x.body

  held : (name : List ℕ) → Contains start name ⊎ ((x : ModuleBody) × Contains (take i bodies) x × (x.name ≡ name) × IsStaleBody specs changes x.name x.body) → Contains start name ⊎ Stale name
  held name (inl h) = inl h
  held name (inr h) = inr (h.0, earlier h.0 h.1, h.2, h.3)

  -- the next one isn't
  pub one_fresh : (flag : Bool) → (IsTrue flag ↔ IsStaleBody specs changes b.name b.body) → flag ≡ false → AreStaleOf specs changes (take (i + 1) bodies) start names
  one_fresh flag says fails = record { kept = before.kept; stale = λ name h. held name (before.stale name h); all = λ x at stale. by x stale (cases x at) }
    where
      by : (x : ModuleBody) → IsStaleBody specs changes x.name x.body → Contains (take i bodies) x ⊎ (b ≡ x) → Contains names x.name
      by x stale (inl at) = before.all x at stale
      by x stale (inr e) =
          let P : ModuleBody → Type 0 = λ y. IsStaleBody specs changes y.name y.body in
          absurd (true≢false (sym (says.1 (subst P (sym e) stale)) ∙ fails))

  -- the next one is
  pub one_stale : (new : List (List ℕ)) (name : List ℕ) (flag : Bool) → (IsTrue flag ↔ IsStaleBody specs changes b.name b.body) → flag ≡ true → name ≡ b.name → new ≡ insert_key bytes_eq names name → AreStaleOf specs changes (take (i + 1) bodies) start new
  one_stale new name flag says passes named made =
      let P : List (List ℕ) → Type 0 = λ xs. AreStaleOf specs changes (take (i + 1) bodies) start xs in
      subst P (sym (made ∙ ap (insert_key bytes_eq names) named)) whole
    where
      more : (m : List ℕ) → Contains names m → Contains (insert_key bytes_eq names b.name) m
      more m h = by (list_any (bytes_eq b.name) names)
        where
          by : (t : Bool) → Contains (cond t names (names ++ b.name ∷ [])) m
          by true = h
          by false = Contains-append_left names (b.name ∷ []) m h

      less : (m : List ℕ) → Contains (insert_key bytes_eq names b.name) m → Contains names m ⊎ (b.name ≡ m)
      less m = by (list_any (bytes_eq b.name) names)
        where
          by : (t : Bool) → Contains (cond t names (names ++ b.name ∷ [])) m → Contains names m ⊎ (b.name ≡ m)
          by true h = inl h
          by false h = Contains-push_cases names b.name m h

      whole : AreStaleOf specs changes (take (i + 1) bodies) start (insert_key bytes_eq names b.name)
      whole = record { kept = λ m h. more m (before.kept m h); stale = λ m h. of_name m (less m h); all = λ x at s. by x s (cases x at) }
        where
          of_name : (m : List ℕ) → Contains names m ⊎ (b.name ≡ m) → Contains start m ⊎ Stale m
          of_name m (inl h) = held m (before.stale m h)
          of_name m (inr e) = inr (b, this, e, says.0 passes)

          by : (x : ModuleBody) → IsStaleBody specs changes x.name x.body → Contains (take i bodies) x ⊎ (b ≡ x) → Contains (insert_key bytes_eq names b.name) x.name
          by x s (inl at) = more x.name (before.all x at s)
          by x s (inr e) =
              let Q : ModuleBody → Type 0 = λ y. Contains (insert_key bytes_eq names b.name) y.name in
              subst Q e (Contains-insert_key bytes_eq same_bytes names b.name)

pub none_yet : (specs : List Spec) (changes : List Change) (start : List (List ℕ)) → AreStaleOf specs changes [] start start
none_yet specs changes start = record { kept = λ name h. h; stale = λ name h. inl h; all = λ b at. absurd (omega (arith, at.1)) }

pub all_seen : (specs : List Spec) (changes : List Change) (bodies : List ModuleBody) (start names : List (List ℕ)) (i : ℕ) → length bodies ≤ i → AreStaleOf specs changes (take i bodies) start names → AreStaleOf specs changes bodies start names
all_seen specs changes bodies start names i le seen = let P : List ModuleBody → Type 0 = λ xs. AreStaleOf specs changes xs start names in subst P (take_all i bodies le) seen

pub ruleset steps = (one_fresh, one_stale, none_yet, all_seen)

-- what is found by name of an ascending list
all_after : {X : Type 0} (f : X → List ℕ) (n : List ℕ) (xs : List X) (y : X) → ComeAfter f n xs → Contains xs y → name_order n (f y) ≡ Less
all_after f n [] y h at = absurd (omega (arith, at.1))
all_after {X} f n (x ∷ xs) y h at = by at.0 at.1 at.2 (all_after f n xs y h.1)
  where
    by : (k : ℕ) → k < length (x ∷ xs) → get_or (x ∷ xs) k y ≡ y → (Contains xs y → name_order n (f y) ≡ Less) → name_order n (f y) ≡ Less
    by zero lt is further = ap (λ z. name_order n (f z)) (sym is) ∙ h.0
    by (suc k) lt is further = further (k, omega arith, is)

found_listed : {X : Type 0} (f : X → List ℕ) (xs : List X) (y : X) → AreAscending f xs → Contains xs y → find (λ x. bytes_eq (f x) (f y)) xs ≡ Some y
found_listed f [] y a at = absurd (omega (arith, at.1))
found_listed {X} f (x ∷ xs) y a at = by at.0 at.1 at.2 (found_listed f xs y a.1)
  where
    by : (k : ℕ) → k < length (x ∷ xs) → get_or (x ∷ xs) k y ≡ y → (Contains xs y → find (λ (x : X). bytes_eq (f x) (f y)) xs ≡ Some y) → find (λ (x : X). bytes_eq (f x) (f y)) (x ∷ xs) ≡ Some y
    by zero lt is further =
        let this : bytes_eq (f x) (f y) ≡ true = (bytes_eq-Decides (f x) (f y)).1 (ap f is) in
        rw this (ap Some is)
    by (suc k) lt is further =
        let there : Contains xs y = (k, omega arith, is) in
        let other : bytes_eq (f x) (f y) ≡ false = apart (f x) (f y) (all_after f (f x) xs y a.0 there) in
        rw other (further there)

-- what is left out by one test doesn't matter to another that it fails
find_kept : {X : Type 0} (p q : X → Bool) → ((x : X) → p x ≡ true → q x ≡ true) → (xs : List X) → find p (filter q xs) ≡ find p xs
find_kept p q passes [] = refl
find_kept {X} p q passes (x ∷ xs) = by (q x) refl (p x) refl (find_kept p q passes xs)
  where
    by : (a : Bool) → q x ≡ a → (b : Bool) → p x ≡ b → find p (filter q xs) ≡ find p xs → find p (cond a (x ∷ filter q xs) (filter q xs)) ≡ cond b (Some x) (find p xs)
    by true e b f behind = rw f (ap (cond b (Some x)) behind)
    by false e true f behind = absurd (true≢false (sym (passes x f) ∙ e))
    by false e false f behind = behind

-- and what is found afterwards was in the list
in_kept : {X : Type 0} (p q : X → Bool) (xs : List X) (y : X) → find p (filter q xs) ≡ Some y → Contains xs y
in_kept p q [] y e = absurd (none-some y e)
in_kept {X} p q (x ∷ xs) y e = by (q x) e (λ e. Contains-append_right (x ∷ []) xs y (in_kept p q xs y e))
  where
    first : (b : Bool) → cond b (Some x) (find p (filter q xs)) ≡ Some y → (find p (filter q xs) ≡ Some y → Contains (x ∷ xs) y) → Contains (x ∷ xs) y
    first true e further = (0, omega arith, same_Some x y e)
    first false e further = further e

    by : (a : Bool) → find p (cond a (x ∷ filter q xs) (filter q xs)) ≡ Some y → (find p (filter q xs) ≡ Some y → Contains (x ∷ xs) y) → Contains (x ∷ xs) y
    by true e further = first (p x) e further
    by false e further = further e

-- the modules that are lost
module _ (library : Contents) (s : Spec) (names : List (List ℕ)) (ascending : AreAscending (λ (b : ModuleBody). b.name) library.bodies) where
  abbrev bodies_left : List ModuleBody
  bodies_left = filter (λ (b : ModuleBody). not (bytes_eq b.name s.name)) library.bodies

  one : (m : List ℕ) → Contains (s.name ∷ []) m → m ≡ s.name
  one m h = by h.0 h.1 h.2
    where
      by : (k : ℕ) → k < 1 → get_or (s.name ∷ []) k m ≡ m → m ≡ s.name
      by zero lt is = sym is
      by (suc k) lt is = absurd (omega arith)

  kept_of : (b : ModuleBody) (name : List ℕ) → Contains library.bodies b → b.name ≡ name → bytes_eq name s.name ≡ false → find (λ (x : ModuleBody). bytes_eq x.name name) bodies_left ≡ Some b
  kept_of b name at is other =
      let P : List ℕ → Type 0 = λ n. find (λ (x : ModuleBody). bytes_eq x.name n) library.bodies ≡ Some b in
      find_kept (λ (x : ModuleBody). bytes_eq x.name name) (λ (x : ModuleBody). not (bytes_eq x.name s.name)) passes library.bodies
      ∙ subst P is (found_listed (λ (b : ModuleBody). b.name) library.bodies b ascending at)
    where
      passes : (x : ModuleBody) → bytes_eq x.name name ≡ true → not (bytes_eq x.name s.name) ≡ true
      passes x e = ap not (ap (λ n. bytes_eq n s.name) (same_bytes x.name name e) ∙ other)

  pub lost_modules : AreStaleOf (with_spec library.specs s) (with_change library.changes s.name library.revision) library.bodies (s.name ∷ []) names → AreLost (with_replaced library s) s.name names
  lost_modules stale = record { lost = λ name h. by name (stale.stale name h); all = back }
    where
      of_body : (b : ModuleBody) (name : List ℕ) → Contains library.bodies b → b.name ≡ name → IsStaleBody (with_spec library.specs s) (with_change library.changes s.name library.revision) b.name b.body
          → (t : Bool) → bytes_eq name s.name ≡ t → IsLost (with_replaced library s) s.name name
      of_body b name at is h true e = inl (same_bytes name s.name e)
      of_body b name at is h false e =
          let P : Option Body → Type 0 = λ o. IsStaleIf (with_replaced library s) name o in
          let Q : List ℕ → Type 0 = λ n. IsStaleBody (with_spec library.specs s) (with_change library.changes s.name library.revision) n b.body in
          inr (subst P (sym (ap (option_map (λ (b : ModuleBody). b.body)) (kept_of b name at is e))) (subst Q is h))

      by : (name : List ℕ) → Contains (s.name ∷ []) name ⊎ ((b : ModuleBody) × Contains library.bodies b × (b.name ≡ name) × IsStaleBody (with_spec library.specs s) (with_change library.changes s.name library.revision) b.name b.body)
          → IsLost (with_replaced library s) s.name name
      by name (inl h) = inl (one name h)
      by name (inr h) = of_body h.0 name h.1 h.2 h.3 (bytes_eq name s.name) refl

      of_found : (name : List ℕ) (o : Option ModuleBody) → find (λ (b : ModuleBody). bytes_eq b.name name) bodies_left ≡ o → IsStaleIf (with_replaced library s) name (option_map (λ (b : ModuleBody). b.body) o) → Contains names name
      of_found name None e h = absurd h
      of_found name (Some b) e h =
          let named : b.name ≡ name = same_bytes b.name name (found_passes (λ (b : ModuleBody). bytes_eq b.name name) bodies_left b e) in
          let P : List ℕ → Type 0 = λ n. Contains names n in
          let Q : List ℕ → Type 0 = λ n. IsStaleBody (with_spec library.specs s) (with_change library.changes s.name library.revision) n b.body in
          subst P named (stale.all b (in_kept (λ (b : ModuleBody). bytes_eq b.name name) (λ (b : ModuleBody). not (bytes_eq b.name s.name)) library.bodies b e) (subst Q (sym named) h))

      back : (name : List ℕ) → IsLost (with_replaced library s) s.name name → Contains names name
      back name (inl is) = let P : List ℕ → Type 0 = λ n. Contains names n in subst P (sym is) (stale.kept s.name (0, omega arith, refl))
      back name (inr h) = of_found name (find (λ (b : ModuleBody). bytes_eq b.name name) bodies_left) refl h

-- all whose bodies are stale
in_list : {X : Type 0} (p : X → Bool) (xs : List X) (y : X) → find p xs ≡ Some y → Contains xs y
in_list p [] y e = absurd (none-some y e)
in_list {X} p (x ∷ xs) y e = by (p x) e (λ e. Contains-append_right (x ∷ []) xs y (in_list p xs y e))
  where
    by : (b : Bool) → cond b (Some x) (find p xs) ≡ Some y → (find p xs ≡ Some y → Contains (x ∷ xs) y) → Contains (x ∷ xs) y
    by true e further = (0, omega arith, same_Some x y e)
    by false e further = further e

module _ (library : Contents) (names : List (List ℕ)) (ascending : AreAscending (λ (b : ModuleBody). b.name) library.bodies)
    (stale : AreStaleOf library.specs library.changes library.bodies [] names) where
  is_stale : (name : List ℕ) → Contains [] name ⊎ ((b : ModuleBody) × Contains library.bodies b × (b.name ≡ name) × IsStaleBody library.specs library.changes b.name b.body) → IsStale library name
  is_stale name (inl never) = absurd (omega (arith, never.1))
  is_stale name (inr h) =
      let P : Option Body → Type 0 = λ o. IsStaleIf library h.0.name o in
      let found = found_listed (λ (b : ModuleBody). b.name) library.bodies h.0 ascending h.1 in
      let Q : List ℕ → Type 0 = λ n. IsStale library n in
      subst Q h.2 (subst P (sym (ap (option_map (λ (b : ModuleBody). b.body)) found)) h.3)

  is_listed : (name : List ℕ) (o : Option ModuleBody) → find (λ (b : ModuleBody). bytes_eq b.name name) library.bodies ≡ o → IsStaleIf library name (option_map (λ (b : ModuleBody). b.body) o) → Contains names name
  is_listed name None e h = absurd h
  is_listed name (Some b) e h =
      let named : b.name ≡ name = same_bytes b.name name (found_passes (λ (b : ModuleBody). bytes_eq b.name name) library.bodies b e) in
      let P : List ℕ → Type 0 = λ n. Contains names n in
      let Q : List ℕ → Type 0 = λ n. IsStaleBody library.specs library.changes n b.body in
      subst P named (stale.all b (in_list (λ (b : ModuleBody). bytes_eq b.name name) library.bodies b e) (subst Q (sym named) h))

  stale_modules : AreStale library names
  stale_modules = record { stale = λ name h. is_stale name (stale.stale name h); all = λ name h. is_listed name (find (λ (b : ModuleBody). bytes_eq b.name name) library.bodies) refl h }

pub are_stale : (library : Contents) (old names : List (List ℕ)) → AreAscending (λ (b : ModuleBody). b.name) library.bodies → old ≡ []
    → AreStaleOf library.specs library.changes library.bodies old names → AreStale library names
are_stale library old names ascending empty stale =
    let P : List (List ℕ) → Type 0 = λ xs. AreStaleOf library.specs library.changes library.bodies xs names in
    stale_modules library names ascending (subst P empty stale)

pub lost_if_any : (library : Contents) (s : Spec) (changes : List Change) (names : List (List ℕ)) → AreAscending (λ (b : ModuleBody). b.name) library.bodies → changes ≡ with_change library.changes s.name library.revision
    → AreStaleOf (with_spec library.specs s) changes library.bodies (s.name ∷ []) names → AreLostIfAny library s names
lost_if_any library s changes names ascending is stale =
    let P : List Change → Type 0 = λ cs. AreStaleOf (with_spec library.specs s) cs library.bodies (s.name ∷ []) names in
    inr (lost_modules library s names ascending (subst P is stale))

pub lost_of_none : (library : Contents) (s : Spec) (names : List (List ℕ)) → length library.programs ≤ 0 → AreLostIfAny library s names
lost_of_none library s names none = inl (nil_from_length library.programs (omega arith))

-- from the module alone
pub stale_from_one : (specs : List Spec) (changes : List Change) (bodies : List ModuleBody) (old start new : List (List ℕ)) (copy name : List ℕ) → old ≡ [] → start ≡ insert_key bytes_eq old copy → copy ≡ name
    → AreStaleOf specs changes bodies start new → AreStaleOf specs changes bodies (name ∷ []) new
stale_from_one specs changes bodies old start new copy name empty inserted named stale =
    let P : List (List ℕ) → Type 0 = λ xs. AreStaleOf specs changes bodies xs new in
    subst P (inserted ∙ ap (λ (xs : List (List ℕ)). insert_key bytes_eq xs copy) empty ∙ ap (λ n. n ∷ []) named) stale

pub ruleset losings = (lost_if_any, lost_of_none, stale_from_one)

-- the programs that are left
module _ (library : Contents) (replaced : List ℕ) (names : List (List ℕ)) (lost : AreLost library replaced names) where
  broken : (p : Program) → has_any names p ≡ true → IsBroken library replaced p
  broken p e =
      let found = any_listed (λ name. list_any (bytes_eq name) names) p.modules e in
      (found.0, found.1, lost.lost found.0 (Contains-list_any bytes_eq same_bytes names found.0 found.2))

  sound : (p : Program) → has_any names p ≡ false → IsBroken library replaced p → ⊥
  sound p e h =
      let at : list_any (bytes_eq h.0) names ≡ true = listed names h.0 (lost.all h.0 h.2) in
      let Q : List ℕ → Type 0 = λ n. list_any (bytes_eq n) names ≡ true in
      true≢false (sym (list_any_at (λ name. list_any (bytes_eq name) names) p.modules h.1.0 h.0 h.1.1 (subst Q (sym h.1.2) at)) ∙ e)

  pub programs_left : (ps : List Program) → AreLeft (IsBroken library replaced) ps (without_any names ps)
  programs_left [] = refl
  programs_left (p ∷ ps) = by (has_any names p) refl (programs_left ps)
    where
      by : (b : Bool) → has_any names p ≡ b → AreLeft (IsBroken library replaced) ps (without_any names ps)
          → (IsBroken library replaced p × AreLeft (IsBroken library replaced) ps (cond (not b) (p ∷ without_any names ps) (without_any names ps)))
          ⊎ ((IsBroken library replaced p → ⊥) × ((rest : List Program) × (cond (not b) (p ∷ without_any names ps) (without_any names ps) ≡ p ∷ rest) × AreLeft (IsBroken library replaced) ps rest))
      by true e behind = inl (broken p e, behind)
      by false e behind = inr (sound p e, (without_any names ps, refl, behind))
