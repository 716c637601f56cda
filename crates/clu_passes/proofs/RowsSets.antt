-- A set of raises that tells what a statement raises has, raise by raise, what the definition has.
use Rattle.std.proofs.Common.{◌≡◌, ◌∙◌, ◌<◌, ◌⊎◌, ℕ, Bool, true, false, cond, if◌then◌else◌, List, [], ◌∷◌, length, map, get_or, bytes_eq, nat_lt, Some, None, refl, sym, ap, subst, inl, inr, arith, ⊎_elim, lt-ltb}
use Rattle.std.specs.List.{position_or_len}
use Rattle.std.proofs.lemmas.Bool.{true≢false, cases_lt}
use Rattle.std.proofs.lemmas.Slice.Eq.{bytes_eq-Decides}
use Rattle.clu_grammar.specs.Kinds.{is_statement}
use Rattle.clu_tree.specs.declared.node.NodeKind.{NodeKind}
use Rattle.clu_tree.specs.declared.node.NodeKind.TheVariants as kind
use Rattle.clu_syntax.specs.Kinds.{is_expression}
use Rattle.clu_types.specs.Arena.{AreBelow, types_at, types_of}
use Rattle.clu_types.specs.declared.term.Term.{Term}
use Rattle.clu_types.specs.declared.term.TypeId.{TypeId}
use Rattle.clu_operations.specs.declared.words.NameId.{NameId}
use Rattle.clu_operations.specs.Words.{id_of, named}
use Rattle.clu_checking.specs.Files.{File, item, kind_in}
use Rattle.clu_checking.specs.Raising as definition
use Rattle.clu_checking.specs.Raising.{by_statement}
use Rattle.clu_checking.specs.StatementRules.{as_list, known}
use Rattle.clu_type_rules.specs.declared.known.Known.{Known}
use Rattle.clu_typing.specs.declared.raising.Raise.{Raise}
use Rattle.clu_typing.specs.declared.raising.RaisesId.{RaisesId}
use Rattle.clu_typing.specs.Raised.{objects_of, raises_of}
use Rattle.clu_typing.specs.Raising.{AreDistinct, AreRaises, IsRaise, IsSet, raise_told, set_told}
use Rattle.clu_typing.specs.Sets.{Has, HaveSame}
use Rattle.clu_typing.proofs.Gathered.{before_first, first_at}
use Rattle.clu_typing.proofs.Growing.{objects_there, set_there}
use Rattle.clu_typing.proofs.Sets.{from_mapped, mapped}
use Rattle.clu_passes.specs.FactTables.{AreTypes}
use Rattle.clu_passes.specs.Raised as rows
use Rattle.clu_passes.specs.TableRaises as judged
use Rattle.clu_passes.specs.TableRaises.{AreSame, IsAmong}

-- ---- items

among : {A : Type 0} (xs : List A) (x : A) → Has xs x → IsAmong x xs
among [] x h = absurd h
among (y ∷ ys) x (inl e) = inl (sym e)
among (y ∷ ys) x (inr h) = inr (among ys x h)

has : {A : Type 0} (xs : List A) (x : A) → IsAmong x xs → Has xs x
has [] x h = absurd h
has (y ∷ ys) x (inl e) = inl (sym e)
has (y ∷ ys) x (inr h) = inr (has ys x h)

-- ---- names and objects

-- a kept name has its number
number_kept : (names : List (List ℕ)) → AreDistinct names → (k : ℕ) → k < length names → position_or_len (bytes_eq (get_or names k [])) names ≡ k
number_kept names apart k within =
    ⊎_elim
    (λ less. apart i k (omega (arith, less, within)) within (sym ((bytes_eq-Decides name (get_or names i [])).0 (first_at (bytes_eq name) names (omega (arith, less, within))))))
    (λ le. ⊎_elim (λ later. absurd (true≢false (sym ((bytes_eq-Decides name name).1 refl) ∙ before_first (bytes_eq name) names k later))) (λ back. omega (arith, le, back)) (cases_lt k i))
    (cases_lt i k)
  where
    name : List ℕ
    name = get_or names k []

    i : ℕ
    i = position_or_len (bytes_eq name) names

name_kept : (names : List (List ℕ)) → AreDistinct names → (id : NameId) → id.0 < length names → named names (get_or names id.0 []) ≡ Some id
name_kept names apart id within =
    ap (λ (i : ℕ). id_of (cond (nat_lt i (length names)) (Some i) None)) (number_kept names apart id.0 within)
    ∙ ap (λ (b : Bool). id_of (cond b (Some id.0) None)) (lt-ltb id.0 (length names) within)

objects_typed : (terms : List Term) (ids : List TypeId) → AreBelow (length terms) ids → AreTypes terms (map (λ of. Some of) ids) (known (as_list (types_at (types_of terms) ids)))
objects_typed terms [] below = tt
objects_typed terms (id ∷ ids) below = ((below.0, refl), objects_typed terms ids below.1)

module _ (k : Known) (right : AreRaises k.tables.types.now k.facts.now.finding.words k.facts.now.raising) where
  told_raise : (raise : Raise) → IsRaise k.facts.now.finding.words k.facts.now.raising raise → judged.IsRaise k raise (raise_told k.tables.types.now k.facts.now.finding.words k.facts.now.raising raise)
  told_raise raise is = (
    name_kept k.facts.now.finding.words right.distinct raise.name is.name,
    objects_typed k.tables.types.now (objects_of k.facts.now.raising raise) (right.below (objects_of k.facts.now.raising raise) (objects_there k.facts.now.raising raise is.objects)),
  )

  pub set_judged : (set : RaisesId) → IsSet k.facts.now.raising set → (xs : List definition.Raise) → HaveSame (set_told k.tables.types.now k.facts.now.finding.words k.facts.now.raising set) xs → AreSame k (raises_of k.facts.now.raising set) xs
  set_judged set there xs same = record {
    kept = λ x h.
        let r = from_mapped told rs x (same.second x (has xs x h)) in
        (r.0, (among rs r.0 r.1, subst (λ (x : definition.Raise). judged.IsRaise k r.0 x) r.2 (told_raise r.0 (within r.0 r.1))));
    told = λ r h. (told r, (among xs (told r) (same.first (told r) (mapped told rs r (has rs r h))), told_raise r (within r (has rs r h))));
  }
    where
      rs : List Raise
      rs = raises_of k.facts.now.raising set

      told : Raise → definition.Raise
      told = raise_told k.tables.types.now k.facts.now.finding.words k.facts.now.raising

      within : (raise : Raise) → Has rs raise → IsRaise k.facts.now.finding.words k.facts.now.raising raise
      within = right.within rs (set_there k.facts.now.raising set there)

-- ---- of a statement

no_expression : (k : NodeKind) → is_statement k ≡ true → is_expression k ≡ false
no_expression kind.File is = refl
no_expression kind.Infix is = absurd (true≢false (sym is))
no_expression kind.Prefix is = absurd (true≢false (sym is))
no_expression kind.Paren is = absurd (true≢false (sym is))
no_expression kind.Literal is = absurd (true≢false (sym is))
no_expression kind.Name is = absurd (true≢false (sym is))
no_expression kind.Index is = absurd (true≢false (sym is))
no_expression kind.Get is = absurd (true≢false (sym is))
no_expression kind.Call is = absurd (true≢false (sym is))
no_expression kind.Fields is = absurd (true≢false (sym is))
no_expression kind.Elems is = absurd (true≢false (sym is))
no_expression kind.OperOf is = absurd (true≢false (sym is))
no_expression kind.Force is = absurd (true≢false (sym is))
no_expression kind.Up is = absurd (true≢false (sym is))
no_expression kind.Down is = absurd (true≢false (sym is))
no_expression _ is = refl

pub statement_raises : (f : File) (n : ℕ) → is_statement (kind_in f n) ≡ true → rows.raises_of f n ≡ by_statement f (item f n).statement
unfolding rows.raises_of rows.raises_as
statement_raises f n is =
    ap (λ (b : Bool). if b then definition.by_expression f (item f n).expression else (if is_statement (kind_in f n) then by_statement f (item f n).statement else rows.part_raises f (kind_in f n) n)) (no_expression (kind_in f n) is)
    ∙ ap (λ (b : Bool). if b then by_statement f (item f n).statement else rows.part_raises f (kind_in f n) n) is
