-- What is said of the table of what the nodes of a file ask: its types are of the arena, and each demand stands in its clause.
use Rattle.std.proofs.Common.{◌≡◌, ◌∙◌, inl, inr, ℕ, suc, ◌+◌, ◌-◌, ◌<◌, ◌≤◌, ◌&&◌, nat_le, Bool, true, false, if◌then◌else◌, List, [], ◌∷◌, Contains, length, map, take, drop, slice_get, Option, Some, None, IfSome, refl, sym, ap, subst, arith}
use Rattle.std.proofs.lemmas.Bool.{cases_lt}
use Rattle.std.proofs.lemmas.Option.{slice_get_past}
use Rattle.clu_base.proofs.Lists.{head_or_tail, in_none}
use Rattle.clu_parser.specs.Trees.{Text}
use Rattle.clu_syntax.specs.Rounds.{AreRounds}
use Rattle.clu_checking.specs.Files.{File}
use Rattle.clu_declares.specs.Declares.{IsParsed}
use Rattle.clu_head.specs.declared.asked.Asked.{Asked}
use Rattle.clu_head.specs.declared.head.Demanded.{Demanded}
use Rattle.clu_head.specs.declared.restricted.Restricted.{Restricted}
use Rattle.clu_head.specs.Asked.{demands_at, demands_to, starts_to, start_in, between, demands_of}
use Rattle.clu_head.specs.Asking.{untyped}
use Rattle.clu_bindings.specs.declared.file.Headed.{Headed}
use Rattle.clu_operations.specs.Bundles.{WantedBelow}
use Rattle.clu_operations.specs.Wished.{AreHeads}
use Rattle.clu_type_rules.specs.Disagreeing.{demands_in}
use Rattle.clu_passes.specs.Demands.{clause_of}
use Rattle.clu_passes.proofs.AskedPieces.{piece, starts_size}
use Rattle.clu_passes.proofs.DemandsInside.{all_inside}

-- ---- types

wanted_below : (n : ℕ) (ds : List Demanded) → WantedBelow n ds → (d : Demanded) → Contains ds d → IfSome d.wanted (λ id. id.0 < n)
wanted_below n [] all d h = in_none d h
wanted_below n (x ∷ ds) all d h = elim (head_or_tail x ds d h) [
  | inl is ↦ subst (λ (y : Demanded). IfSome y.wanted (λ id. id.0 < n)) is all.0
  | inr there ↦ wanted_below n ds all.1 d there
]

pub within : (headed : Headed) (types : ℕ) → AreHeads headed types → (c : ℕ) (d : Demanded) → Contains (demands_in headed.heads.now.asked c) d → IfSome d.wanted (λ id. id.0 < types)
within headed types heads c d h = wanted_below types (demands_in headed.heads.now.asked c) (heads.asked c) d h

-- ---- clauses

same_place : (items : List Demanded) (m : ℕ) → between items m m ≡ []
same_place items m = by (nat_le m m && nat_le m (length items))
  where
    none_taken : m - m ≡ 0
    none_taken = omega arith

    by : (t : Bool) → (if t then take (m - m) (drop m items) else []) ≡ []
    by true = ap (λ (k : ℕ). take k (drop m items)) none_taken
    by false = refl

pub past_none : (demands : List Demanded) (starts : List ℕ) (c : ℕ) → slice_get starts c ≡ None → slice_get starts (c + 1) ≡ None → demands_of demands starts c ≡ []
unfolding demands_of
past_none demands starts c here next =
    ap (λ (o : Option ℕ). between demands (start_in (length demands) o) (start_in (length demands) (slice_get starts (c + 1)))) here
    ∙ ap (λ (o : Option ℕ). between demands (length demands) (start_in (length demands) o)) next
    ∙ same_place demands (length demands)

in_untyped : (ds : List Demanded) (d : Demanded) → Contains ds d → Contains (map untyped ds) (untyped d)
in_untyped [] d h = in_none d h
in_untyped (x ∷ ds) d h = elim (head_or_tail x ds d h) [
  | inl is ↦ subst (λ (y : Demanded). Contains (map untyped (x ∷ ds)) (untyped y)) is (0, omega arith, refl)
  | inr there ↦ (let r = in_untyped ds d there in (suc r.0, omega (arith, r.1), r.2))
]

same_node : (d : Demanded) → (untyped d).node ≡ d.node
unfolding untyped
same_node d = refl

module _ (t : Text) (f : File) (parsed : IsParsed t f.nodes) (are : AreRounds f.nodes f.rounds) (counts : List ℕ) (restricted : List Restricted) (asked : Asked) where
  abbrev of : ℕ → List Demanded
  of = demands_at f.nodes f.rounds counts restricted

  pub inside : asked.starts.items ≡ starts_to of (length f.nodes) → map untyped asked.demands.items ≡ demands_to of (length f.nodes) → (c : ℕ) (d : Demanded) → Contains (demands_in asked c) d → clause_of f d.node ≡ Some c
  inside starts demands c d h = elim (cases_lt c (length f.nodes)) [ inl less ↦ here less | inr past ↦ never past ]
    where
      begun : demands_in asked c ≡ demands_of asked.demands.items (starts_to of (length f.nodes)) c
      begun = ap (λ (s : List ℕ). demands_of asked.demands.items s c) starts

      there : Contains (demands_of asked.demands.items (starts_to of (length f.nodes)) c) d
      there = subst (λ (ds : List Demanded). Contains ds d) begun h

      here : c < length f.nodes → clause_of f d.node ≡ Some c
      here less =
          let all : map untyped (demands_of asked.demands.items (starts_to of (length f.nodes)) c) ≡ of c = piece of (length f.nodes) asked.demands.items demands c less in
          ap (clause_of f) (sym (same_node d))
          ∙ all_inside t f parsed are counts restricted c (untyped d)
          (subst (λ (ds : List Demanded). Contains ds (untyped d)) all (in_untyped (demands_of asked.demands.items (starts_to of (length f.nodes)) c) d there))

      never : length f.nodes ≤ c → clause_of f d.node ≡ Some c
      never past =
          let size : length (starts_to of (length f.nodes)) ≡ length f.nodes = starts_size of (length f.nodes) in
          let nothing : demands_of asked.demands.items (starts_to of (length f.nodes)) c ≡ [] =
          past_none asked.demands.items (starts_to of (length f.nodes)) c
          (slice_get_past (starts_to of (length f.nodes)) c (omega (arith, size, past))) (slice_get_past (starts_to of (length f.nodes)) (c + 1) (omega (arith, size, past))) in
          in_none d (subst (λ (ds : List Demanded). Contains ds d) nothing there)
