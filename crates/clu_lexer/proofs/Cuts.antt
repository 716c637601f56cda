-- The tokens so far, one token more, and the end.
use Rattle.std.proofs.Common.{◌≡◌, ℕ, ◌+◌, ◌-◌, ◌<◌, ◌≤◌, List, [], ◌∷◌, ◌++◌, length, take, drop, refl, sym, ap, ◌∙◌, subst, arith}
use Rattle.std.proofs.lemmas.List.{length-take, length-drop}
use Rattle.clu_base.specs.declared.tokens.Place.{Place}
use Rattle.clu_base.specs.declared.tokens.Token.{Token}
use Rattle.clu_lexer.specs.Places.{place_at, place_after}
use Rattle.clu_lexer.specs.Tokens.{IsToken, Cut}
use Rattle.clu_lexer.proofs.Next.{place_at-add, place_at-small}

-- the tokens are those of the bytes up to `at`, whose place this is
pub record Reaches (bytes : List ℕ) (tokens : List Token) (at : ℕ) (place : Place) : Type 0 where
  pub within : at ≤ length bytes
  pub place_is : place ≡ place_at bytes at
  pub cut : Cut bytes 0 tokens at

pub reaches_none : (bytes : List ℕ) → Reaches bytes [] 0 (record { line = 1; col = 1 })
reaches_none bytes = record { within = omega arith; place_is = refl; cut = refl }

cut-push : (bytes : List ℕ) (from : ℕ) (ts : List Token) (to : ℕ) (t : Token) → Cut bytes from ts to → IsToken bytes to t → Cut bytes from (ts ++ t ∷ []) t.end
cut-push bytes from [] to t cut token = (subst (λ (k : ℕ). IsToken bytes k t) (sym cut) token, refl)
cut-push bytes from (s ∷ ts) to t cut token = (cut.0, cut-push bytes s.end ts to t cut.1 token)

-- a token ends within the bytes
pub token_within : (bytes : List ℕ) (from : ℕ) (t : Token) → IsToken bytes from t → t.end ≤ length bytes
token_within bytes from t token = omega (arith, token.forward, token.longest.within, length-drop t.start bytes)

pub reaches_more : (bytes : List ℕ) (tokens : List Token) (at : ℕ) (place : Place) (t : Token) (behind : Place) → Reaches bytes tokens at place → IsToken bytes at t → behind ≡ place_after t.place (take (t.end - t.start) (drop t.start bytes)) → Reaches bytes (tokens ++ t ∷ []) t.end behind
reaches_more bytes tokens at place t behind known token is =
    let end : t.start + (t.end - t.start) ≡ t.end = omega (arith, token.forward) in
    record {
      within = token_within bytes at t token;
      place_is = is ∙ ap (λ p. place_after p (take (t.end - t.start) (drop t.start bytes))) token.place ∙ place_at-add bytes t.start (t.end - t.start) ∙ ap (place_at bytes) end;
      cut = cut-push bytes 0 tokens at t known.cut token;
    }

-- the place goes on over a token's bytes without leaving 32 bits
pub token_small : (bytes : List ℕ) (from : ℕ) (t : Token) → length bytes ≤ 1048576 → IsToken bytes from t → (t.place.line + length (take (t.end - t.start) (drop t.start bytes)) < 4294967296) × (t.place.col + length (take (t.end - t.start) (drop t.start bytes)) < 4294967296)
token_small bytes from t small token =
    let start : t.start ≤ length bytes = omega (arith, token.forward, token_within bytes from t token) in (
      omega (arith, (place_at-small bytes t.start start).0, ap (λ (p : Place). p.line) token.place, length-take (t.end - t.start) (drop t.start bytes), length-drop t.start bytes),
      omega (arith, (place_at-small bytes t.start start).1, ap (λ (p : Place). p.col) token.place, length-take (t.end - t.start) (drop t.start bytes), length-drop t.start bytes),
    )
