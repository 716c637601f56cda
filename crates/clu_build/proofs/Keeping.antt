-- Whether a module's text is kept and not stale.
use Rattle.std.proofs.Common.{◌≡◌, ◌↔◌, ℕ, Bool, true, false, not, List, Contains, Some, IsTrue, refl, sym, ◌∙◌, true≢false}
use Rattle.std.specs.List.{list_any}
use Rattle.std.specs.Str.{bytes_eq}
use Rattle.indexmap.proofs.CallerLemmas.{Contains-list_any}
use Rattle.clu_base.proofs.Lists.{same_bytes}
use Rattle.clu_library.specs.Contents.{Contents, body_of}
use Rattle.clu_library.specs.declared.body.Body.{Body}
use Rattle.clu_library.proofs.Closing.{listed}
use Rattle.clu_build.specs.Entering.{IsKeptText}

pub kept_text : (library : Contents) (name source : List ℕ) (stale : List (List ℕ)) (b : Body) (text : List ℕ) (eq has : Bool) → Some b ≡ body_of library name → text ≡ b.text → eq ≡ true → eq ≡ bytes_eq text source
    → has ≡ list_any (bytes_eq name) stale → IsTrue (not has) ↔ IsKeptText library name source stale
kept_text library name source stale b text eq has held its really same among = by has refl
  where
    by : (t : Bool) → has ≡ t → IsTrue (not t) ↔ IsKeptText library name source stale
    by true e = ((λ f. absurd (true≢false (sym f))), (λ k. absurd (k.3 (Contains-list_any bytes_eq same_bytes stale name (sym among ∙ e)))))
    by false e = ((λ t. (b, sym held, sym its ∙ same_bytes text source (sym same ∙ really), λ h. true≢false (sym (listed stale name h) ∙ sym among ∙ e))), (λ k. refl))
