-- The modules that are known once one more has come.
use Rattle.std.proofs.Common.{◌≡◌, ◌∙◌, ℕ, zero, suc, ◌+◌, ◌-◌, ◌^◌, min, ◌<◌, ◌≤◌, not, Bool, true, false, if◌then◌else◌, List, [], ◌∷◌, ◌++◌, length, take, get_or, Option, Some, None, slice_get, option_map, refl, ap, sym, subst, arith, append-nil, append_assoc, add-one}
use Rattle.std.specs.Prelude.{bytes_eq}
use Rattle.std.specs.HashMap.{get}
use Rattle.std.proofs.lemmas.List.{take_all, map_push}
use Rattle.std.proofs.lemmas.Option.{slice_get-get_or}
use Rattle.std.proofs.lemmas.Slice.Eq.{bytes_eq-Decides}
use Rattle.clu_base.proofs.Bools.{same_either}
use Rattle.clu_base.proofs.Lists.{map_size, take_next}
use Rattle.clu_tree.specs.declared.node.Node.{Node}
use Rattle.clu_tree.specs.Nodes.{modules}
use Rattle.clu_types.specs.declared.spec.Spec.{Spec}
use Rattle.clu_types.specs.declared.term.Term.{Term}
use Rattle.clu_syntax.specs.Syntax.{Identifier}
use Rattle.clu_names.specs.Scopes.{is_stream}
use Rattle.clu_settle.specs.declared.value.Value.{Value}
use Rattle.clu_bindings.specs.declared.bindings.Modules.{Modules}
use Rattle.clu_bindings.specs.declared.bindings.ModuleKnown.{ModuleKnown}
use Rattle.clu_bindings.specs.declared.meaning.ModuleId.{ModuleId}
use Rattle.clu_bindings.specs.Headlines.{Headline, headline_at}
use Rattle.clu_bindings.specs.Modules.{module_id, place_from, module_named, AreModules, is_new, with_module, kept_known, kept_in, own_known, own_headed, own_in, modules_in}

-- ---- lists

take_past : {X : Type 0} (xs : List X) (n m : ℕ) → slice_get xs n ≡ None → n ≤ m → take m xs ≡ take n xs
take_past [] zero zero e l = refl
take_past [] zero (suc m) e l = refl
take_past [] (suc n) zero e l = refl
take_past [] (suc n) (suc m) e l = refl
take_past (y ∷ xs) zero m e l = absurd (cc)
take_past (y ∷ xs) (suc n) zero e l = absurd (omega (arith, l))
take_past (y ∷ xs) (suc n) (suc m) e l = ap (λ (ys : List _). y ∷ ys) (take_past xs n m e (omega (arith, l)))

-- ---- places by name

abbrev or_else : Option ℕ → Option ℕ → Option ℕ
or_else (Some x) y = Some x
or_else None y = y

or_none : (p : Option ℕ) → or_else p None ≡ p
or_none (Some x) = refl
or_none None = refl

place_behind : (k : ℕ) (all : List (Identifier × ModuleKnown)) (m : Identifier × ModuleKnown) (q : Identifier) → place_from k (all ++ m ∷ []) q ≡ or_else (place_from k all q) (if bytes_eq m.0 q then Some (k + length all) else None)
place_behind k [] m q = let same : k ≡ k + 0 = omega arith in ap (λ (x : ℕ). if bytes_eq m.0 q then Some x else None) same
place_behind k (x ∷ all) m q = by (bytes_eq x.0 q) (place_behind (suc k) all m q)
  where
    by : (b : Bool) → place_from (suc k) (all ++ m ∷ []) q ≡ or_else (place_from (suc k) all q) (if bytes_eq m.0 q then Some (suc k + length all) else None)
        → (if b then Some k else place_from (suc k) (all ++ m ∷ []) q) ≡ or_else (if b then Some k else place_from (suc k) all q) (if bytes_eq m.0 q then Some (k + suc (length all)) else None)
    by true before = refl
    by false before =
        let same : suc k + length all ≡ k + suc (length all) = omega arith in
        before ∙ ap (λ (x : ℕ). or_else (place_from (suc k) all q) (if bytes_eq m.0 q then Some x else None)) same

-- what is found by the name of the new module, where `found` was, at `place`
at_name : (name : Identifier) (s : Bool) → is_stream name ≡ s → (found : Option ModuleId) (place : Option ℕ) (id : ModuleId) (last : ℕ) → found ≡ (if s then None else option_map module_id place) → id ≡ module_id last
    → (if is_new name found then Some id else found) ≡ (if s then None else option_map module_id (or_else place (Some last)))
at_name name true stream found place id last e is =
    ap (λ (found : Option ModuleId). if is_new name found then Some id else found) e
    ∙ ap (λ (s : Bool). if not s then Some id else None) stream
at_name name false stream found (Some x) id last e is = ap (λ (found : Option ModuleId). if is_new name found then Some id else found) e
at_name name false stream found None id last e is =
    ap (λ (found : Option ModuleId). if is_new name found then Some id else found) e
    ∙ ap (λ (s : Bool). if not s then Some id else None) stream
    ∙ ap Some is

abbrev numbered : ℕ → ModuleId
numbered k = record { 0 = k }

module _ (old new : Modules) (name : Identifier) (known : ModuleKnown) (k : ℕ) (all : List (Identifier × ModuleKnown)) (are : AreModules old all) (more : new.known.items ≡ old.known.items ++ known ∷ []) (is : k ≡ min (length old.known.items) (2 ^ 32 - 1))
    (entered : (q : Identifier) → get bytes_eq new.by_name q ≡ with_module name (numbered k) (get bytes_eq old.by_name) q) where
  abbrev id : ModuleId
  id = numbered k

  last_id : id ≡ module_id (length all)
  last_id = ap numbered is ∙ ap module_id (ap length are.known ∙ map_size (λ m. m.1) all)

  named_so : (q : Identifier) → get bytes_eq new.by_name q ≡ module_named (all ++ (name, known) ∷ []) q
  named_so q =
      entered q ∙ by (bytes_eq name q) refl
      ∙ ap (λ (o : Option ℕ). if is_stream q then None else option_map module_id o) (sym (place_behind 0 all (name, known) q))
    where
      by : (t : Bool) → bytes_eq name q ≡ t
          → (if is_new name (get bytes_eq old.by_name name) then (if t then Some id else get bytes_eq old.by_name q) else get bytes_eq old.by_name q)
          ≡ (if is_stream q then None else option_map module_id (or_else (place_from 0 all q) (if t then Some (0 + length all) else None)))
      by false e =
          same_either (is_new name (get bytes_eq old.by_name name)) (get bytes_eq old.by_name q)
          ∙ are.named q ∙ ap (λ (o : Option ℕ). if is_stream q then None else option_map module_id o) (sym (or_none (place_from 0 all q)))
      by true e =
          let same : length all ≡ 0 + length all = omega arith in
          subst (λ (q : Identifier). (if is_new name (get bytes_eq old.by_name name) then Some id else get bytes_eq old.by_name q) ≡ (if is_stream q then None else option_map module_id (or_else (place_from 0 all q) (Some (0 + length all)))))
          ((bytes_eq-Decides name q).0 e)
          (at_name name (is_stream name) refl (get bytes_eq old.by_name name) (place_from 0 all name) id (0 + length all) (are.named name) (last_id ∙ ap module_id same))

  pub pushed : AreModules new (all ++ (name, known) ∷ [])
  pushed = record {
    known = more ∙ ap (λ (xs : List ModuleKnown). xs ++ known ∷ []) are.known ∙ sym (map_push (λ m. m.1) all (name, known));
    named = named_so;
  }

-- ---- those of a library

abbrev pub Adds : Modules → Modules → List (Identifier × ModuleKnown) → Type 0
Adds old new more = (all : List (Identifier × ModuleKnown)) → AreModules old all → AreModules new (all ++ more)

pub none_kept : (old : Modules) (library : List Spec) → Adds old old (kept_in (take 0 library))
none_kept old [] = λ all are. subst (AreModules old) (sym (append-nil all)) are
none_kept old (s ∷ library) = λ all are. subst (AreModules old) (sym (append-nil all)) are

pub kept_next : (old now new : Modules) (library : List Spec) (n : ℕ) (s : Spec) → slice_get library n ≡ Some s → Adds old now (kept_in (take n library)) → ((all : List (Identifier × ModuleKnown)) → AreModules now all → AreModules new (all ++ (s.name, kept_known s) ∷ [])) → Adds old new (kept_in (take (n + 1) library))
kept_next old now new library n s at before step = λ all are.
    let grown : (all ++ kept_in (take n library)) ++ (s.name, kept_known s) ∷ [] ≡ all ++ kept_in (take (n + 1) library) =
    append_assoc all (kept_in (take n library)) ((s.name, kept_known s) ∷ [])
    ∙ ap (λ (xs : List (Identifier × ModuleKnown)). all ++ xs) (sym (map_push (λ s. (s.name, kept_known s)) (take n library) s) ∙ ap kept_in (sym (take_next library n s at) ∙ ap (λ (k : ℕ). take k library) (sym (add-one n)))) in
    subst (AreModules new) grown (step (all ++ kept_in (take n library)) (before all are))

pub kept_whole : (old now : Modules) (library : List Spec) (n : ℕ) → slice_get library n ≡ None → n ≤ 4294967295 → Adds old now (kept_in (take n library)) → Adds old now (kept_in (take 4294967295 library))
kept_whole old now library n past l before = subst (λ (ss : List Spec). Adds old now (kept_in ss)) (sym (take_past library n 4294967295 past l)) before

-- ---- those of a file

-- what is found by names, and what is known of modules, is the same
pub same_modules : (old new : Modules) (all : List (Identifier × ModuleKnown)) → AreModules old all → new.by_name ≡ old.by_name → new.known ≡ old.known → AreModules new all
same_modules old new all are by_name known = record {
  known = ap (λ (v : _). v.items) known ∙ are.known;
  named = λ name. ap (λ (m : _). get bytes_eq m name) by_name ∙ are.named name;
}

none_named : (b : Bool) → ◌≡◌ {A = Option ModuleId} None (if b then None else None)
none_named true = refl
none_named false = refl

pub nothing_named : (name : Identifier) → None ≡ module_named [] name
nothing_named name = none_named (is_stream name)

module _ (types : List Term) (values : List Value) (nodes : List Node) where
  abbrev pub headed : Option Headline → List (Identifier × ModuleKnown)
  headed = own_headed types values nodes

  abbrev pub own : List ℕ → List (Identifier × ModuleKnown)
  own = own_in types values nodes

  pub own_none : own [] ≡ []
  unfolding own_in
  own_none = refl

  pub own_more : (n : ℕ) (ns : List ℕ) → own (n ∷ ns) ≡ headed (headline_at nodes n) ++ own ns
  unfolding own_in
  own_more n ns = refl

  own_last : (ns : List ℕ) (n : ℕ) → own (ns ++ n ∷ []) ≡ own ns ++ headed (headline_at nodes n)
  own_last [] n =
      own_more n [] ∙ ap (λ (xs : List (Identifier × ModuleKnown)). headed (headline_at nodes n) ++ xs) own_none ∙ append-nil (headed (headline_at nodes n))
      ∙ sym (ap (λ (xs : List (Identifier × ModuleKnown)). xs ++ headed (headline_at nodes n)) own_none)
  own_last (m ∷ ns) n =
      own_more m (ns ++ n ∷ []) ∙ ap (λ (xs : List (Identifier × ModuleKnown)). headed (headline_at nodes m) ++ xs) (own_last ns n)
      ∙ sym (append_assoc (headed (headline_at nodes m)) (own ns) (headed (headline_at nodes n)))
      ∙ sym (ap (λ (xs : List (Identifier × ModuleKnown)). xs ++ headed (headline_at nodes n)) (own_more m ns))

  pub none_headed : (old : Modules) (h : Option Headline) → None ≡ h → Adds old old (headed h)
  none_headed old h e = λ all are. subst (AreModules old) (sym (append-nil all) ∙ ap (λ (h : Option Headline). all ++ headed h) e) are

  -- one more, and what isn't read by this may have changed since
  pub some_headed : (old now new : Modules) (h : Option Headline) (x : Headline) → Some x ≡ h → ((all : List (Identifier × ModuleKnown)) → AreModules old all → AreModules now (all ++ (x.name, own_known types values nodes x) ∷ [])) → new.by_name ≡ now.by_name → new.known ≡ now.known → Adds old new (headed h)
  some_headed old now new h x e step by_name known = λ all are.
      subst (λ (h : Option Headline). AreModules new (all ++ headed h)) e
      (same_modules now new (all ++ (x.name, own_known types values nodes x) ∷ []) (step all are) by_name known)

  pub own_begun : (old : Modules) (ns : List ℕ) → Adds old old (own (take 0 ns))
  own_begun old [] = λ all are. subst (AreModules old) (sym (append-nil all) ∙ ap (λ (xs : List (Identifier × ModuleKnown)). all ++ xs) (sym own_none)) are
  own_begun old (n ∷ ns) = λ all are. subst (AreModules old) (sym (append-nil all) ∙ ap (λ (xs : List (Identifier × ModuleKnown)). all ++ xs) (sym own_none)) are

  pub own_next : (old now new : Modules) (ns : List ℕ) (k : ℕ) → k < length ns → Adds old now (own (take k ns)) → Adds now new (headed (headline_at nodes (get_or ns k 0))) → Adds old new (own (take (k + 1) ns))
  own_next old now new ns k less before step = λ all are.
      let at : take (suc k) ns ≡ take k ns ++ get_or ns k 0 ∷ [] = take_next ns k (get_or ns k 0) (slice_get-get_or ns k 0 less) in
      let grown : (all ++ own (take k ns)) ++ headed (headline_at nodes (get_or ns k 0)) ≡ all ++ own (take (k + 1) ns) =
      append_assoc all (own (take k ns)) (headed (headline_at nodes (get_or ns k 0)))
      ∙ ap (λ (xs : List (Identifier × ModuleKnown)). all ++ xs) (sym (own_last (take k ns) (get_or ns k 0)) ∙ ap own (sym at ∙ ap (λ (k : ℕ). take k ns) (sym (add-one k)))) in
      subst (AreModules new) grown (step (all ++ own (take k ns)) (before all are))

  pub own_ended : (old now : Modules) (ns : List ℕ) (k : ℕ) → length ns ≤ k → Adds old now (own (take k ns)) → Adds old now (own ns)
  own_ended old now ns k past before = subst (λ (xs : List ℕ). Adds old now (own xs)) (take_all k ns past) before

  -- those of a file first, then those of a library
  pub whole_modules : (begun own_there noted new : Modules) (library : List Spec) (ns : List ℕ) → ns ≡ modules nodes → AreModules begun [] → Adds begun own_there (own ns) → noted.by_name ≡ own_there.by_name → noted.known ≡ own_there.known → Adds noted new (kept_in (take 4294967295 library)) → AreModules new (modules_in types values nodes library)
  whole_modules begun own_there noted new library ns same none owned by_name known kept =
      subst (λ (ns : List ℕ). AreModules new (own ns ++ kept_in (take 4294967295 library))) same
      (kept (own ns) (same_modules own_there noted (own ns) (owned [] none) by_name known))
