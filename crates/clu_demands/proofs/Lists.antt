-- Lists of needs: items that are added unless they are there.
use Rattle.std.proofs.Common.{◌≡◌, ◌⊎◌, inl, inr, ℕ, ◌+◌, ◌≤◌, Bool, true, false, List, [], ◌∷◌, ◌++◌, Contains, length, slice_get, Option, Some, None, refl, sym, ap, ◌∙◌, subst, append_assoc, arith}
use Rattle.std.specs.Bool.{Decides}
use Rattle.std.specs.List.{list_any}
use Rattle.std.specs.Vec.Iter.{into_iter_items, into_iter_steps}
use Rattle.std.specs.declared.vec.IntoIter.{IntoIter}
use Rattle.std.proofs.Math.Dec.{ltb}
use borrow.Author.Tests.{ltb-true, ltb-false}
use Rattle.std.proofs.lemmas.Bool.Decides.{Decides-like, Decides-and}
use Rattle.std.proofs.lemmas.List.{append-nil, nil_from_length}
use Rattle.std.proofs.lemmas.List.Elements.{Contains-append_left}
use Rattle.std.proofs.lemmas.Option.{slice_get_within}
use Rattle.std.proofs.lemmas.Slice.Eq.{bytes_eq-Decides}
use Rattle.indexmap.specs.IndexSet.{insert_key}
use Rattle.indexmap.proofs.CallerLemmas.{Contains-insert_key}
use Rattle.clu_base.proofs.Lists.{front_of, at_seam, head_or_tail, in_head, in_tail, in_none}
use Rattle.clu_types.specs.declared.term.TypeId.{TypeId}
use Rattle.clu_types.proofs.Equality.{join3, same_id}
use Rattle.clu_demands.specs.declared.needs.Asked.{Asked}
use Rattle.clu_demands.specs.contracts.needs.AskedPartialEq.TheImpl as needs
use Rattle.clu_demands.specs.Asking.{IsFrontOf, HasAdded}

-- ---- one more

pub same_asked : (a b : Asked) → Decides ((needs.ghosts).eq a b) (a ≡ b)
same_asked a b =
    Decides-like _ (λ e. join3 (λ (x : TypeId) (o : List ℕ) (y : TypeId). let a : Asked = record { of = x; op = o; wanted = y } in a) e.0 e.1.0 e.1.1)
    (λ e. (ap (λ (a : Asked). a.of) e, (ap (λ (a : Asked). a.op) e, ap (λ (a : Asked). a.wanted) e)))
    (Decides-and _ _ (same_id a.of b.of) (Decides-and _ _ (bytes_eq-Decides a.op b.op) (same_id a.wanted b.wanted)))

module _ (eq : Asked → Asked → Bool) (xs : List Asked) (x : Asked) where
  front_by : IsFrontOf xs (insert_key eq xs x)
  front_by = by (list_any (eq x) xs) refl
    where
      by : (b : Bool) → list_any (eq x) xs ≡ b → IsFrontOf xs (insert_key eq xs x)
      by true e = ([], rw e (sym (append-nil xs)))
      by false e = (x ∷ [], rw e refl)

  from_by : (j : ℕ) (m : Asked) → length xs ≤ j → slice_get (insert_key eq xs x) j ≡ Some m → x ≡ m
  from_by j m le = by (list_any (eq x) xs) refl
    where
      by : (b : Bool) → list_any (eq x) xs ≡ b → slice_get (insert_key eq xs x) j ≡ Some m → x ≡ m
      by true e = rw e (λ at. absurd (omega (arith, slice_get_within xs j m at)))
      by false e = rw e (λ at. at_seam xs x m j le at)

abbrev pub with_one : List Asked → Asked → List Asked
with_one xs x = insert_key (needs.ghosts).eq xs x

pub one_front : (xs : List Asked) (x : Asked) → IsFrontOf xs (with_one xs x)
one_front xs x = front_by (needs.ghosts).eq xs x

pub one_here : (xs : List Asked) (x : Asked) → Contains (with_one xs x) x
one_here xs x = Contains-insert_key (needs.ghosts).eq (λ a b e. (same_asked a b).0 e) xs x

-- what comes after the others is this one
pub one_from : (xs : List Asked) (x : Asked) (j : ℕ) (m : Asked) → length xs ≤ j → slice_get (with_one xs x) j ≡ Some m → x ≡ m
one_from xs x = from_by (needs.ghosts).eq xs x

-- ---- many more

pub record Adding (old all left now : List Asked) : Type 0 where
  pub front : IsFrontOf old now
  pub here : (a : Asked) → Contains all a → Contains now a ⊎ Contains left a
  pub from : (k : ℕ) (a : Asked) → length old ≤ k → slice_get now k ≡ Some a → Contains all a
  pub rest : (a : Asked) → Contains left a → Contains all a

pub adding_first : (old all : List Asked) → Adding old all all old
adding_first old all = record {
  front = ([], sym (append-nil old));
  here = λ a h. inr h;
  from = λ k a le e. absurd (omega (arith, slice_get_within old k a e));
  rest = λ a h. h;
}

pub adding_more : (old all left now : List Asked) (x : Asked) (newer : List Asked) → Adding old all (x ∷ left) now → newer ≡ with_one now x → Adding old all left newer
adding_more old all left now x newer h is = subst (λ (l : List Asked). Adding old all left l) (sym is) more
  where
    front : IsFrontOf now (with_one now x)
    front = one_front now x

    more : Adding old all left (with_one now x)
    more = record {
      front = (h.front.0 ++ front.0, front.1 ∙ ap (λ (l : List Asked). l ++ front.0) h.front.1 ∙ append_assoc old h.front.0 front.0);
      here = λ a there. here a (h.here a there);
      from = λ k a le e. from k a le e (ltb k (length now)) refl;
      rest = λ a there. h.rest a (in_tail x left a there);
    }
      where
        here : (a : Asked) → Contains now a ⊎ Contains (x ∷ left) a → Contains (with_one now x) a ⊎ Contains left a
        here a (inl there) = inl (subst (λ (l : List Asked). Contains l a) (sym front.1) (Contains-append_left now front.0 a there))
        here a (inr there) = first a (head_or_tail x left a there)
          where
            first : (a : Asked) → (x ≡ a) ⊎ Contains left a → Contains (with_one now x) a ⊎ Contains left a
            first a (inl this) = inl (subst (λ (m : Asked). Contains (with_one now x) m) this (one_here now x))
            first a (inr later) = inr later

        from : (k : ℕ) (a : Asked) → length old ≤ k → slice_get (with_one now x) k ≡ Some a → (b : Bool) → ltb k (length now) ≡ b → Contains all a
        from k a le e true lt = h.from k a le (front_of now front.0 k a (omega (arith, ltb-true)) (sym (ap (λ (l : List Asked). slice_get l k) front.1) ∙ e))
        from k a le e false lt = h.rest a (in_head x left a (one_from now x k a (omega (arith, ltb-false)) e))

pub adding_all : (old all left now : List Asked) → left ≡ [] → Adding old all left now → HasAdded old all now
adding_all old all left now none h = record {
  front = h.front;
  here = λ a there. here a (h.here a there);
  from = h.from;
}
  where
    here : (a : Asked) → Contains now a ⊎ Contains left a → Contains now a
    here a (inl there) = there
    here a (inr later) = in_none a (subst (λ (l : List Asked). Contains l a) none later)

-- what the iterator of a vector gives
pub none_left : {A Z : Type 0} (s t : IntoIter A Z) (r : Option A) → r ≡ None → into_iter_steps s r t → into_iter_items s ≡ []
none_left {A} {Z} s t r is steps = nil_from_length (into_iter_items s) (sym s.rest.ok.0 ∙ (subst (λ (o : Option A). into_iter_steps s o t) is steps).0)
