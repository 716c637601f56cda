-- What was found is told the same while more is found.
use Rattle.std.proofs.Common.{◌≡◌, ◌∙◌, ℕ, zero, suc, ◌<◌, ◌≤◌, List, [], ◌∷◌, length, slice_get, option_map, Bool, Option, Some, None, Result, Ok, Err, OnOk, refl, sym, ap, subst, arith}
use Rattle.std.specs.Prelude.{IfSome}
use Rattle.std.proofs.lemmas.Option.{slice_get_within, slice_get-get_or}
use Rattle.clu_types.specs.Arena.{type_at, types_of, AreBelow, PartsBelow, Grows}
use Rattle.clu_types.specs.declared.term.Term.{Term}
use Rattle.clu_types.specs.declared.term.Term.TheVariants as term
use Rattle.clu_types.specs.declared.term.TypeId.{TypeId}
use Rattle.clu_types.proofs.Arenas.{types_grown}
use Rattle.clu_types.proofs.Carrying.{length_grows}
use Rattle.clu_settle.specs.Lists.{type_id}
use Rattle.clu_bindings.specs.declared.file.File.{File}
use Rattle.clu_bindings.specs.declared.file.Headed.{Headed}
use Rattle.clu_bindings.specs.Readers.{value_in}
use Rattle.clu_operations.specs.declared.finding.Finding.{Finding}
use Rattle.clu_operations.specs.declared.found.Found.{Found}
use Rattle.clu_operations.specs.declared.found.FoundId.{FoundId}
use Rattle.clu_operations.specs.declared.words.NameId.{NameId}
use Rattle.clu_operations.specs.Builtins.{ComponentsAscend}
use Rattle.clu_operations.specs.Finding.{found_or_none, Extends, Follows, IsBelowIf, AreFoundBelow}
use Rattle.clu_operations.specs.Told.{Told}
use Rattle.clu_operations.specs.Wished.{told_at, told_seen, FindsOf, IsFinding}
use Rattle.clu_operations.specs.Words.{IsNumber, with_name, number_with}
use Rattle.clu_operations.proofs.Lasting.{told_if, follows_on, follows_self}
use Rattle.clu_operations.proofs.Looking.{finding_grown, at_stays, seen_stays}
use Rattle.clu_operations.proofs.Once.{item_extends}
use Rattle.clu_operations.proofs.Naming.{number_named, number_below, length_extends}
use Rattle.clu_typing.specs.declared.applied.Applied.{Applied}
use Rattle.clu_typing.specs.declared.applied.Use.{Use}
use Rattle.clu_typing.specs.declared.facts.Operation.{Operation}
use Rattle.clu_typing.specs.Applied.{only, results_of, result_in, result_of}
use Rattle.clu_typing.specs.Facts.{operation_of, type_found}
use Rattle.clu_typing.specs.Found.{FindsMore, IsBehindTold, IsInvokedTold, IsModuleTold, IsToldOf, IsUseTold, IsUseToldIf}
use Rattle.clu_typing.specs.Nodes.{settled_first}

-- ---- names

name_still : (old new : List (List ℕ)) → Extends old new → (k : ℕ) (name : List ℕ) → slice_get old k ≡ Some name → slice_get new k ≡ Some name
name_still old new more k name e = item_extends old new more k (slice_get_within old k name e) ∙ e

-- the number that a name gets is its own
pub number_got : (old new : List (List ℕ)) (name : List ℕ) (id : NameId) → new ≡ with_name old name → id ≡ number_with old name → slice_get new id.0 ≡ Some name
number_got old new name id words is =
    ap (λ (l : List (List ℕ)). slice_get l id.0) words ∙ ap (λ (i : NameId). slice_get (with_name old name) i.0) is
    ∙ slice_get-get_or (with_name old name) (number_with old name).0 [] (number_below old name) ∙ ap Some (number_named old name)

-- of a name that is read from a text
pub number_read : (old new : List (List ℕ)) (text name : List ℕ) (id : NameId) → IsNumber old new text id → text ≡ name → IsNumber old new name id
number_read old new text name id is same = subst (λ (t : List ℕ). IsNumber old new t id) same is

-- ---- what a routine gives

one_below : (n m : ℕ) → n ≤ m → (ids : List TypeId) → AreBelow n ids → IsBelowIf m (only ids)
one_below n m le [] b = tt
one_below n m le (of ∷ []) b = omega (arith, b.0, le)
one_below n m le (of ∷ more ∷ rest) b = tt

pub only_below : (n m : ℕ) → n ≤ m → (t : Term) → PartsBelow n t → IsBelowIf m (only (results_of t))
only_below n m le (term.Proc heading) b = one_below n m le heading.results b.1
only_below n m le (term.Iter heading) b = one_below n m le heading.results b.1
only_below n m le _ b = tt

-- ---- what was found

pub found_below : (n p : ℕ) (founds : List Found) → AreFoundBelow n p founds → (k : ℕ) → IsBelowIf n (found_or_none (slice_get founds k)).of
found_below n p [] b k = tt
found_below n p (x ∷ founds) b zero = b.0.0
found_below n p (x ∷ founds) b (suc k) = found_below n p founds b.1 k

module _ (h : Headed) (old new : List Term) (grows : Grows old new) (f g : Finding) (follows : Follows f g) (finding : IsFinding h old f) where
  abbrev IsThere : Option FoundId → Type 0
  IsThere found = IfSome found (λ id. id.0 < length f.founds.items)

  still_below : (found : Option FoundId) → IsThere found → IfSome found (λ id. id.0 < length g.founds.items)
  still_below None there = tt
  still_below (Some id) there = omega (arith, there, length_extends f.founds.items g.founds.items follows.founds)

  still_within : (of : TypeId) → of.0 < length old → of.0 < length new
  still_within of lt = omega (arith, lt, length_grows old new grows)

  still_ascend : (of : TypeId) → of.0 < length old → ComponentsAscend (type_at (types_of new) of) → ComponentsAscend (type_at (types_of old) of)
  still_ascend of lt up = subst ComponentsAscend (types_grown old new grows of lt) up

  told_on : (of : TypeId) (its : Operation) (it now : Option Told) → now ≡ it → IsToldOf old f of it its → IsToldOf new g of now its
  told_on of its it now same t = record {
    found = t.found;
    is = t.is;
    within = still_within of t.within;
    there = still_below t.found t.there;
    tells = λ up. told_if old new grows f g follows finding.within t.found t.there ∙ t.tells (still_ascend of t.within up) ∙ sym same;
  }

  pub use_stays : (n : ℕ) (of : TypeId) (name : List ℕ) (its : Use) → IsUseTold h old f n of name its → IsUseTold h new g n of name its
  use_stays n of name its t = record {
    same = t.same;
    named = name_still f.words g.words follows.words its.name.0 name t.named;
    told = told_on of its.operation _ _ (at_stays h old new grows f g follows.words finding of t.told.within n its.name (slice_get_within f.words its.name.0 name t.named)) t.told;
  }

  pub module_stays : (of : Option TypeId) (its : Operation) → IsModuleTold h old f of its → IsModuleTold h new g of its
  module_stays None its t = t
  module_stays (Some of) its t = told_on of its _ _ (seen_stays h old new grows f g follows.words finding of t.within None None tt) t

  -- ---- what it gives

  result_same : (of : Option TypeId) → IsBelowIf (length old) of → result_of new of ≡ result_of old of
  result_same None within = refl
  result_same (Some of) within = ap result_in (item_extends old new grows of.0 within)

  pub type_same : (found : Option FoundId) → IsThere found → type_found g (operation_of found) ≡ type_found f (operation_of found)
  type_same None there = refl
  type_same (Some id) there = ap (λ (o : Option Found). (found_or_none o).of) (item_extends f.founds.items g.founds.items follows.founds id.0 there)

  type_below : (found : Option FoundId) → IsBelowIf (length old) (type_found f (operation_of found))
  type_below None = tt
  type_below (Some id) = found_below (length old) _ f.founds.items finding.within.founds id.0

  pub gives_same : (of : TypeId) (it : Option Told) (its : Operation) → IsToldOf old f of it its → result_of new (type_found g its) ≡ result_of old (type_found f its)
  gives_same of it its t =
      ap (λ (o : Operation). result_of new (type_found g o)) t.is
      ∙ ap (result_of new) (type_same t.found t.there)
      ∙ result_same (type_found f (operation_of t.found)) (type_below t.found)
      ∙ ap (λ (o : Operation). result_of old (type_found f o)) (sym t.is)

  -- behind a first operation that was found before
  pub behind_on : (n : ℕ) (of : TypeId) (name : List ℕ) (negated : Bool) (first : Use) (second : Option Use) → IsUseTold h old f n of name first → IsBehindTold h new g n negated (result_of old (type_found f first.operation)) second
      → IsUseTold h new g n of name first × IsBehindTold h new g n negated (result_of new (type_found g first.operation)) second
  behind_on n of name negated first second t b = (use_stays n of name first t, subst (λ (o : Option TypeId). IsBehindTold h new g n negated o second) (sym (gives_same of _ first.operation t.told)) b)

-- ---- a search

pub use_told : (h : Headed) (old new : List Term) → Grows old new → (f g : Finding) (n : ℕ) (of : TypeId) (name : NameId) (text : List ℕ) (found : Option FoundId) (its : Operation) → its ≡ operation_of found
    → slice_get f.words name.0 ≡ Some text → of.0 < length old → IsFinding h old f → FindsOf h old new f g of (told_at h old f.words n of name) found
    → FindsMore h new f g × IsUseTold h new g n of text (record { of = of; name = name; operation = its })
use_told h old new grows f g n of name text found its is named within finding finds = (
  record { follows = finds.follows; finding = finds.finding },
  record {
    same = refl;
    named = name_still f.words g.words finds.follows.words name.0 text named;
    told = record {
      found = found;
      is = is;
      within = omega (arith, within, length_grows old new grows);
      there = finds.there;
      tells = λ up.
          finds.tells (subst ComponentsAscend (types_grown old new grows of within) up)
          ∙ sym (at_stays h old new grows f g finds.follows.words finding of within n name (slice_get_within f.words name.0 text named));
    };
  },
)

pub module_told : (h : Headed) (old new : List Term) → Grows old new → (f g : Finding) (of : TypeId) (found : Option FoundId) (its : Operation) → its ≡ operation_of found
    → of.0 < length old → IsFinding h old f → FindsOf h old new f g of (told_seen h old f.words None of None) found
    → FindsMore h new f g × IsModuleTold h new g (Some of) its
module_told h old new grows f g of found its is within finding finds = (
  record { follows = finds.follows; finding = finds.finding },
  record {
    found = found;
    is = is;
    within = omega (arith, within, length_grows old new grows);
    there = finds.there;
    tells = λ up.
        finds.tells (subst ComponentsAscend (types_grown old new grows of within) up)
        ∙ sym (seen_stays h old new grows f g finds.follows.words finding of within None None tt);
  },
)

pub finds_nothing : (h : Headed) (terms : List Term) (f : Finding) → IsFinding h terms f → FindsMore h terms f f
finds_nothing h terms f finding = record { follows = follows_self f; finding = finding }

pub finds_on : (h : Headed) (terms : List Term) (f g now : Finding) → Follows f g → FindsMore h terms g now → FindsMore h terms f now
finds_on h terms f g now follows more = record { follows = follows_on f g now follows more.follows; finding = more.finding }

pub grown_nothing : (h : Headed) (old new : List Term) → Grows old new → (f : Finding) → IsFinding h old f → FindsMore h new f f
grown_nothing h old new grows f finding = finds_nothing h new f (finding_grown h old new grows f finding)

pub grown_if : {X E : Type 0} (r : Result X E) (h : Headed) (old new : List Term) → Grows old new → (f : Finding) → IsFinding h old f → OnOk r (FindsMore h new f f)
grown_if (Ok x) h old new grows f finding = grown_nothing h old new grows f finding
grown_if (Err m) h old new grows f finding = tt

pub settled_below : (f : File) (types : ℕ) → ((n : ℕ) → IsBelowIf types (type_id (value_in f n))) → (cs : List ℕ) → IsBelowIf types (settled_first f cs)
settled_below f types values [] = tt
settled_below f types values (c ∷ cs) = values c

-- ---- where there is a type

module _ (h : Headed) (old new : List Term) (f now : Finding) (o : Option TypeId) (of : TypeId) (same : o ≡ Some of) where
  abbrev IfFinding : Type 0 → Type 0
  IfFinding P = IsFinding h old f → FindsMore h new f now × P

  pub use_given : (n : ℕ) (name : List ℕ) (one : Use) → (of.0 < length old → IfFinding (IsUseTold h new now n of name one)) → IsBelowIf (length old) o → IfFinding (IsUseToldIf h new now n o name (Some one))
  use_given n name one found = subst (λ (x : Option TypeId). IsBelowIf (length old) x → IfFinding (IsUseToldIf h new now n x name (Some one))) (sym same) found

  pub invoked_given : (n : ℕ) (name : List ℕ) (negated : Bool) (its : Applied) → (of.0 < length old → IfFinding (IsInvokedTold h new now n (Some of) name negated its)) → IsBelowIf (length old) o → IfFinding (IsInvokedTold h new now n o name negated its)
  invoked_given n name negated its found = subst (λ (x : Option TypeId). IsBelowIf (length old) x → IfFinding (IsInvokedTold h new now n x name negated its)) (sym same) found

  pub module_given : (its : Operation) → (of.0 < length old → IfFinding (IsModuleTold h new now (Some of) its)) → IsBelowIf (length old) o → IfFinding (IsModuleTold h new now o its)
  module_given its found = subst (λ (x : Option TypeId). IsBelowIf (length old) x → IfFinding (IsModuleTold h new now x its)) (sym same) found

pub ruleset steps = (finds_nothing, grown_nothing, grown_if, settled_below)
