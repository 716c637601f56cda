-- Sets of raises tell the same while the arena, the names and what is kept of raises grow, and what is right stays right.
use Rattle.std.proofs.Common.{◌≡◌, ◌⊎◌, inl, inr, ◌∙◌, ℕ, ◌<◌, List, [], ◌∷◌, length, map, flat_map, get_or, slice_get, Option, Some, sym, ap, ap₂, subst, arith}
use Rattle.std.specs.Prelude.{unwrap_or}
use Rattle.std.proofs.lemmas.Option.{slice_get-get_or}
use Rattle.clu_types.specs.CluType.{CluType, CluTypes}
use Rattle.clu_types.specs.Arena.{AreBelow, Grows, types_at, types_of}
use Rattle.clu_types.specs.declared.term.Term.{Term}
use Rattle.clu_types.specs.declared.term.TypeId.{TypeId}
use Rattle.clu_types.proofs.Arenas.{types_grown}
use Rattle.clu_types.proofs.Carrying.{ids_grown, length_grows}
use Rattle.clu_types.proofs.Parts.{types_same}
use Rattle.clu_operations.specs.Finding.{Extends}
use Rattle.clu_operations.proofs.Naming.{extends_self, extends_on, length_extends, name_stays}
use Rattle.clu_typing.specs.declared.raising.Raise.{Raise}
use Rattle.clu_typing.specs.declared.raising.RaisesId.{RaisesId}
use Rattle.clu_typing.specs.Raised.{Raised, objects_of, raises_of}
use Rattle.clu_typing.specs.Raising.{AreDistinct, AreRaises, Follows, IsInvoked, IsRaise, IsSet, IsUnion, Told, failing, failure, invoked_by, raise_told, set_told}
use Rattle.clu_typing.specs.Sets.{Has, HaveSame}
use Rattle.clu_typing.proofs.Numbered.{has_there, there_still}
use Rattle.clu_typing.proofs.Sets.{mapped_alike, same_each, same_from, same_trans}

pub follows_refl : (all : Raised) → Follows all all
follows_refl all = record { sets = extends_self all.sets; objects = extends_self all.objects }

pub follows_trans : (a b c : Raised) → Follows a b → Follows b c → Follows a c
follows_trans a b c f g = record { sets = extends_on a.sets b.sets c.sets f.sets g.sets; objects = extends_on a.objects b.objects c.objects f.objects g.objects }

pub grows_refl : (terms : List Term) → Grows terms terms
grows_refl terms = extends_self terms

-- the raises of a set are one of those that are kept
pub set_there : (all : Raised) (set : RaisesId) → IsSet all set → Has all.sets (raises_of all set)
set_there all set lt =
    let here : slice_get all.sets set.0 ≡ Some (get_or all.sets set.0 []) = slice_get-get_or all.sets set.0 [] lt in
    has_there all.sets set.0 (raises_of all set) (here ∙ ap (λ (l : List Raise). Some l) (sym (ap (λ (o : Option (List Raise)). unwrap_or o []) here)))

pub objects_there : (all : Raised) (raise : Raise) → raise.objects.0 < length all.objects → Has all.objects (objects_of all raise)
objects_there all raise lt =
    let here : slice_get all.objects raise.objects.0 ≡ Some (get_or all.objects raise.objects.0 []) = slice_get-get_or all.objects raise.objects.0 [] lt in
    has_there all.objects raise.objects.0 (objects_of all raise) (here ∙ ap (λ (l : List TypeId). Some l) (sym (ap (λ (o : Option (List TypeId)). unwrap_or o []) here)))

pub still_set : (old new : Raised) → Follows old new → (set : RaisesId) → IsSet old set → IsSet new set
still_set old new f set lt = omega (arith, lt, length_extends old.sets new.sets f.sets)

pub same_raises : (old new : Raised) → Follows old new → (set : RaisesId) → IsSet old set → raises_of new set ≡ raises_of old set
same_raises old new f set lt = ap (λ (o : Option (List Raise)). unwrap_or o []) (there_still old.sets new.sets f.sets set.0 lt)

pub union_still : (old new : Raised) → Follows old new → (sets : List RaisesId) (set : RaisesId) → IsUnion old sets set → IsUnion new sets set
union_still old new f sets set u = record {
  each = λ one h. still_set old new f one (u.each one h);
  there = still_set old new f set u.there;
  raises =
      same_trans (raises_of new set) (raises_of old set) (flat_map (raises_of new) sets)
      (same_from _ _ (same_raises old new f set u.there))
      (same_trans (raises_of old set) (flat_map (raises_of old) sets) (flat_map (raises_of new) sets) u.raises
      (same_each (raises_of old) (raises_of new) sets (λ one h. same_from _ _ (sym (same_raises old new f one (u.each one h))))));
}

module _ (terms grown : List Term) (names more : List (List ℕ)) (old new : Raised) (grows : Grows terms grown) (stay : Extends names more) (follows : Follows old new) (right : AreRaises terms names old) where
  pub still_raise : (raise : Raise) → IsRaise names old raise → IsRaise more new raise
  still_raise raise is = record { name = omega (arith, is.name, length_extends names more stay); objects = omega (arith, is.objects, length_extends old.objects new.objects follows.objects) }

  pub same_told : (raise : Raise) → IsRaise names old raise → raise_told grown more new raise ≡ raise_told terms names old raise
  same_told raise is =
      let name : get_or more raise.name.0 [] ≡ get_or names raise.name.0 [] = name_stays names more stay raise.name.0 is.name in
      let objects : objects_of new raise ≡ objects_of old raise = ap (λ (o : Option (List TypeId)). unwrap_or o []) (there_still old.objects new.objects follows.objects raise.objects.0 is.objects) in
      let below : AreBelow (length terms) (objects_of old raise) = right.below (objects_of old raise) (objects_there old raise is.objects) in
      let types : types_at (types_of grown) (objects_of new raise) ≡ types_at (types_of terms) (objects_of old raise) =
      ap (types_at (types_of grown)) objects ∙ types_same (types_of grown) (types_of terms) (length terms) (types_grown terms grown grows) (objects_of old raise) below in
      ap₂ (λ (n : List ℕ) (ts : CluTypes). let it : Told = (n, ts) in it) name types

  pub same_raises_told : (raises : List Raise) → ((raise : Raise) → Has raises raise → IsRaise names old raise) → map (raise_told grown more new) raises ≡ map (raise_told terms names old) raises
  same_raises_told raises each = mapped_alike (raise_told grown more new) (raise_told terms names old) raises (λ raise h. same_told raise (each raise h))

  pub same_set_told : (set : RaisesId) → IsSet old set → set_told grown more new set ≡ set_told terms names old set
  same_set_told set lt =
      ap (map (raise_told grown more new)) (same_raises old new follows set lt)
      ∙ same_raises_told (raises_of old set) (right.within (raises_of old set) (set_there old set lt))

  pub invoked_still : (of : TypeId) (set : RaisesId) → IsInvoked terms names old of set → IsInvoked grown more new of set
  invoked_still of set i = record {
    within = omega (arith, i.within, length_grows terms grown grows);
    there = still_set old new follows set i.there;
    raises =
        same_trans (set_told grown more new set) (set_told terms names old set) _ (same_from _ _ (same_set_told set i.there))
        (subst (λ (t : CluType). HaveSame (set_told terms names old set) (invoked_by t)) (sym (types_grown terms grown grows of i.within)) i.raises);
  }

  -- What is right stays right, if what is new is.
  pub right_still : AreDistinct more
      → ((set : List Raise) → Has new.sets set → Has old.sets set ⊎ ((raise : Raise) → Has set raise → IsRaise more new raise))
      → ((types : List TypeId) → Has new.objects types → Has old.objects types ⊎ AreBelow (length grown) types)
      → ((of : TypeId) (set : RaisesId) → Has new.invoked (of, set) → Has old.invoked (of, set) ⊎ IsInvoked grown more new of set)
      → ((sets : List RaisesId) (set : RaisesId) → Has new.unions (sets, set) → Has old.unions (sets, set) ⊎ IsUnion new sets set)
      → AreRaises grown more new
  right_still distinct sets objects invoked unions = record {
    empty = there_still old.sets new.sets follows.sets 0 (omega (arith, right.second)) ∙ right.empty;
    second = omega (arith, right.second, length_extends old.sets new.sets follows.sets);
    fails = same_trans (set_told grown more new failing) (set_told terms names old failing) (failure ∷ []) (same_from _ _ (same_set_told failing right.second)) right.fails;
    distinct = distinct;
    within = λ set h raise g. elim (sets set h) [ inl before ↦ still_raise raise (right.within set before raise g) | inr each ↦ each raise g ];
    below = λ types h. elim (objects types h) [ inl before ↦ ids_grown terms grown grows types (right.below types before) | inr below ↦ below ];
    invoked = λ of set h. elim (invoked of set h) [ inl before ↦ invoked_still of set (right.invoked of set before) | inr is ↦ is ];
    unions = λ ids set h. elim (unions ids set h) [ inl before ↦ union_still old new follows ids set (right.unions ids set before) | inr is ↦ is ];
  }
