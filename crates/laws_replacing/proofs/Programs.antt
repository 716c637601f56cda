-- A program that is left has modules that are not lost.
use Rattle.std.proofs.Common.{◌≡◌, ◌≢◌, ◌∙◌, ◌⊎◌, inl, inr, ℕ, List, [], ◌∷◌, Contains, Option, Some, option_map, sym, ap, subst}
use Rattle.clu_base.proofs.Lists.{head_or_tail, in_head, in_none, in_tail}
use Rattle.clu_types.specs.declared.spec.Spec.{Spec}
use Rattle.clu_library.specs.Contents.{Contents, body_of}
use Rattle.clu_library.specs.Replacing.{AreLeft, IsBroken, IsReplaced, with_replaced}
use Rattle.clu_library.specs.Staleness.{IsStale, IsStaleBody, IsStaleIf}
use Rattle.clu_library.specs.declared.body.Body.{Body}
use Rattle.clu_library.specs.declared.body.ModuleBody.{ModuleBody}
use Rattle.clu_library.specs.declared.program.Program.{Program}
use Rattle.laws_replacing.specs.Laws.{IsKeptWhole}
use Rattle.laws_replacing.proofs.Found.{found_left}
use Rattle.laws_replacing.proofs.Resting.{rests_as_before}

module _ (P : Program → Type 0) where
  abbrev Left : List Program → Program → Type 0
  Left ps p = Contains ps p × (P p → ⊥)

  left_is : (ps left : List Program) (p : Program) → AreLeft P ps left → Contains left p → Left ps p
  left_is [] left p a h = in_none p (subst (λ (xs : List Program). Contains xs p) a h)
  left_is (q ∷ ps) left p (inl a) h = let r : Left ps p = left_is ps left p a.1 h in (in_tail q ps p r.0, r.1)
  left_is (q ∷ ps) left p (inr a) h =
      by (λ behind. left_is ps a.1.0 p a.1.2 behind) (head_or_tail q a.1.0 p (subst (λ (xs : List Program). Contains xs p) a.1.1 h))
    where
      by : (Contains a.1.0 p → Left ps p) → (q ≡ p) ⊎ Contains a.1.0 p → Left (q ∷ ps) p
      by on (inl is) = (in_head q ps p is, subst (λ (x : Program). P x → ⊥) is a.0)
      by on (inr behind) = (in_tail q ps p (on behind).0, (on behind).1)

module _ (before : Contents) (s : Spec) (left : List Program) (are : AreLeft (IsBroken (with_replaced before s) s.name) before.programs left) (p : Program) (here : Contains left p) where
  abbrev After : Contents
  After = record (with_replaced before s) { programs = left }

  whole : Left (IsBroken (with_replaced before s) s.name) before.programs p
  whole = left_is (IsBroken (with_replaced before s) s.name) before.programs left p are here

  not_replaced : (m : List ℕ) → Contains p.modules m → m ≢ s.name
  not_replaced m h e = whole.1 (m, h, inl e)

  not_stale : (m : List ℕ) → Contains p.modules m → IsStale After m → ⊥
  not_stale m h stale = whole.1 (m, h, inr stale)

  same_body : (m : List ℕ) → Contains p.modules m → body_of After m ≡ body_of before m
  same_body m h = ap (option_map (λ (b : ModuleBody). b.body)) (found_left (λ (b : ModuleBody). b.name) m s.name before.bodies (not_replaced m h))

  not_stale_body : (m : List ℕ) (b : Body) → Contains p.modules m → body_of before m ≡ Some b → IsStaleBody After.specs After.changes m b → ⊥
  not_stale_body m b h is stale =
      let kept : body_of After m ≡ Some b = same_body m h ∙ is in
      not_stale m h (subst (λ (o : Option Body). IsStaleIf After m o) (sym kept) stale)

  pub kept_whole : IsKeptWhole before After s.name p
  kept_whole = record {
    there = whole.0;
    other = not_replaced;
    bodies = same_body;
    fresh = not_stale;
    rests = λ m b h is checked. (let r = rests_as_before before s m b checked (not_stale_body m b h is) in record { same = r.same; specs = r.specs });
  }

pub kept_programs : (before after : Contents) (s : Spec) → IsReplaced before s after → (p : Program) → Contains after.programs p → IsKeptWhole before after s.name p
kept_programs before after s is p h =
    subst (λ (a : Contents). IsKeptWhole before a s.name p) (sym is.1)
    (kept_whole before s is.0 is.2 p (subst (λ (a : Contents). Contains a.programs p) is.1 h))
