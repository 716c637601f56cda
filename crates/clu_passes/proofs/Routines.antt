-- The heads of routines that are listed by their names are those of a cluster's routines, and likewise of those that it exports.
use Rattle.std.proofs.Common.{◌≡◌, ◌∙◌, ℕ, Bool, true, false, if◌then◌else◌, List, [], ◌∷◌, map, refl, sym, ap}
use Rattle.std.specs.Prelude.{All, filter}
use Rattle.std.proofs.lemmas.Bool.{true≢false}
use Rattle.std.proofs.lemmas.List.Elements.{All-cons, All-head, All-tail}
use Rattle.std.specs.declared.cmp.Ordering.{Ordering}
use Rattle.std.specs.declared.cmp.Ordering.TheVariants.{Less, Equal, Greater}
use Rattle.std.specs.Ordering.{is_lt, is_eq, nat_cmp}
use Rattle.std.specs.Cmp.Lexicographic.{slice_cmp}
use Rattle.clu_base.proofs.Lists.{mapped}
use Rattle.clu_types.specs.CluType.{CluType}
use Rattle.clu_syntax.specs.Syntax.{Identifier, Cluster}
use Rattle.clu_meaning.specs.Resolving.{Place, cluster_place}
use Rattle.clu_checking.specs.Files.{File, item}
use Rattle.clu_checking.specs.Specifications.{Heading}
use Rattle.clu_checking.specs.Headings.{heading_of, is_exported, listed_headings, routines_of}
use Rattle.clu_head.specs.declared.head.RoutineHead.{RoutineHead}
use Rattle.clu_head.specs.declared.routines.Named.{Named}
use Rattle.clu_head.specs.Listed.{with_one, listed}
use Rattle.clu_head.specs.Ranks.{before, same, first_of}
use Rattle.clu_head.specs.Named.{name_rank}
use Rattle.clu_passes.specs.Told.{routine_told, AreNamed, AreHeadsOf, listed_names}
use Rattle.clu_passes.proofs.Listing.{listed_named}

-- ---- lists

module _ {X : Type 0} (P : X → Type 0) (rank : X → List ℕ) where
  with_all : (d : X) (es : List X) → P d → All P es → All P (with_one (before rank) (same rank) first_of d es)
  with_all d [] p all = All-cons P d [] p all
  with_all d (e ∷ es) p all = by (slice_cmp nat_cmp (rank d) (rank e)) (with_all d es p (All-tail P e es all))
    where
      by : (r : Ordering) → All P (with_one (before rank) (same rank) first_of d es) → All P (if is_eq r then d ∷ es else if is_lt r then d ∷ e ∷ es else e ∷ with_one (before rank) (same rank) first_of d es)
      by Equal more = All-cons P d es p (All-tail P e es all)
      by Less more = All-cons P d (e ∷ es) p all
      by Greater more = All-cons P e (with_one (before rank) (same rank) first_of d es) (All-head P e es all) more

  pub listed_all : (xs : List X) → All P xs → All P (listed (before rank) (same rank) first_of xs)
  listed_all [] all = all
  listed_all (x ∷ xs) all = with_all x (listed (before rank) (same rank) first_of xs) (All-head P x xs all) (listed_all xs (All-tail P x xs all))

-- ---- headings

module _ (f : File) (place : Place) where
  abbrev heading : Named → Heading
  heading r = heading_of f place (item f r.node).routine

  -- by the name by which it is ranked
  abbrev ranked : Named → Heading
  ranked r = record (heading r) { name = name_rank r }

  abbrev IsNamed : Named → Type 0
  IsNamed r = name_rank r ≡ (item f r.node).routine.name

  ranked_same : (rs : List Named) → AreNamed f rs → map ranked rs ≡ map heading rs
  ranked_same [] named = refl
  ranked_same (r ∷ rs) named =
      ap (λ (name : Identifier). record (heading r) { name = name } ∷ map ranked rs) (All-head IsNamed r rs named)
      ∙ ap (λ (hs : List Heading). heading r ∷ hs) (ranked_same rs (All-tail IsNamed r rs named))

  headings_are : (rs : List Named) → AreNamed f rs → map heading (listed_names rs) ≡ listed_headings (map heading rs)
  headings_are rs named =
      sym (ranked_same (listed_names rs) (listed_all IsNamed name_rank rs named))
      ∙ listed_named name_rank ranked (λ r. refl) rs
      ∙ ap listed_headings (ranked_same rs named)

module _ (f : File) (c : Cluster) (rs : List Named) (named : AreNamed f rs) (all : map (λ r. (item f r.node).routine) rs ≡ c.routines) where
  abbrev inside : Place
  inside = cluster_place f.scope c

  pub routines_are : map (heading f inside) (listed_names rs) ≡ routines_of f c
  routines_are =
      headings_are f inside rs named
      ∙ ap listed_headings (mapped (heading_of f inside) (λ r. (item f r.node).routine) rs ∙ ap (map (heading_of f inside)) all)

-- ---- what heads tell of them

module _ (f : File) (types : List CluType) (c : Cluster) where
  abbrev head : RoutineHead → Heading
  head h = routine_told types h

  abbrev its : Named → Heading
  its r = heading_of f (cluster_place f.scope c) (item f r.node).routine

  told_all : (rs : List Named) (hs : List RoutineHead) → AreHeadsOf f types c rs hs → map head hs ≡ map its rs
  told_all [] [] are = refl
  told_all [] (h ∷ hs) are = absurd are
  told_all (r ∷ rs) [] are = absurd are
  told_all (r ∷ rs) (h ∷ hs) are =
      ap (λ (x : Heading). x ∷ map head hs) are.0.told ∙ ap (λ (xs : List Heading). its r ∷ xs) (told_all rs hs are.1)

  abbrev exported : RoutineHead → Bool
  exported h = h.exported

  told_exported : (rs : List Named) (hs : List RoutineHead) → AreHeadsOf f types c rs hs → map head (filter exported hs) ≡ filter (is_exported f c) (map its rs)
  told_exported [] [] are = refl
  told_exported [] (h ∷ hs) are = absurd are
  told_exported (r ∷ rs) [] are = absurd are
  told_exported (r ∷ rs) (h ∷ hs) are = by (told_exported rs hs are.1) h.exported (is_exported f c (its r)) are.0.exported
    where
      by : map head (filter exported hs) ≡ filter (is_exported f c) (map its rs) → (a b : Bool) → a ≡ b → map head (if a then h ∷ filter exported hs else filter exported hs) ≡ (if b then its r ∷ filter (is_exported f c) (map its rs) else filter (is_exported f c) (map its rs))
      by rest true true e = ap (λ (x : Heading). x ∷ map head (filter exported hs)) are.0.told ∙ ap (λ (xs : List Heading). its r ∷ xs) rest
      by rest false false e = rest
      by rest true false e = absurd (true≢false e)
      by rest false true e = absurd (true≢false (sym e))

  pub own_routines : (rs : List Named) (hs : List RoutineHead) → AreNamed f rs → map (λ r. (item f r.node).routine) rs ≡ c.routines → AreHeadsOf f types c (listed_names rs) hs → map head hs ≡ routines_of f c
  own_routines rs hs named all are = told_all (listed_names rs) hs are ∙ routines_are f c rs named all

  pub exported_routines : (rs : List Named) (hs : List RoutineHead) → AreNamed f rs → map (λ r. (item f r.node).routine) rs ≡ c.routines → AreHeadsOf f types c (listed_names rs) hs → map head (filter exported hs) ≡ filter (is_exported f c) (routines_of f c)
  exported_routines rs hs named all are = told_exported (listed_names rs) hs are ∙ ap (filter (is_exported f c)) (routines_are f c rs named all)
