-- A printed text in pieces: each token with its line and its text, and the tokens of that text.
use Rattle.std.proofs.Common.{◌≡◌, ℕ, zero, suc, ◌+◌, Bool, true, false, not, ◌&&◌, ◌||◌, ◌==◌, if◌then◌else◌, List, [], ◌∷◌, ◌++◌, length, Option, Some, None, refl, sym, ap, ◌∙◌, subst, append_assoc, append-nil}
use Rattle.std.specs.List.{list_all}
use Rattle.std.proofs.lemmas.Bool.{and_from}
use Rattle.clu_base.specs.declared.tokens.Kind.{Kind}
use Rattle.clu_base.specs.declared.tokens.Token.{Token}
use Rattle.clu_lexer.specs.declared.symbols.Symbol.{Symbol}
use Rattle.clu_lexer.specs.Places.{place_at}
use Rattle.clu_grammar.proofs.Flags.{and_left, and_right}
use Rattle.clu_printer.specs.Blanks.{blank_between}
use Rattle.clu_printer.specs.Printed.{Made, indentation, line_end, blank_behind, space}

pub record Piece : Type 0 where
  pub kind : Kind
  pub text : List ℕ
  pub symbol : Symbol
  pub begins : Option ℕ
  pub is_prefix : Bool

abbrev pub gap_before : Piece → Made → List ℕ
gap_before p m = space m.text m.last p.begins p.symbol

abbrev pub added : Piece → Made → Made
added p m = record { text = m.text ++ gap_before p m ++ p.text; last = Some (record { symbol = p.symbol; is_prefix = p.is_prefix }) }

abbrev pub shown : List Piece → Made → Made
shown [] m = m
shown (p ∷ ps) m = shown ps (added p m)

-- what the pieces add to a text
abbrev pub more_text : List Piece → Made → List ℕ
more_text [] m = []
more_text (p ∷ ps) m = gap_before p m ++ (p.text ++ more_text ps (added p m))

pub added_text : (p : Piece) (m : Made) (more : List ℕ) → (added p m).text ++ more ≡ m.text ++ (gap_before p m ++ (p.text ++ more))
added_text p m more = append_assoc (m.text ++ gap_before p m) p.text more ∙ append_assoc m.text (gap_before p m) (p.text ++ more)

pub shown_text : (ps : List Piece) (m : Made) → (shown ps m).text ≡ m.text ++ more_text ps m
shown_text [] m = sym (append-nil m.text)
shown_text (p ∷ ps) m = shown_text ps (added p m) ∙ added_text p m (more_text ps (added p m))

-- where the pieces stand in the text
abbrev pub laid : List ℕ → List Piece → Made → List Token
laid text [] m = []
laid text (p ∷ ps) m =
    record {
      kind = p.kind;
      start = length m.text + length (gap_before p m);
      end = length m.text + length (gap_before p m) + length p.text;
      place = place_at text (length m.text + length (gap_before p m));
    } ∷ laid text ps (added p m)

-- blanks and ends of lines
abbrev pub is_white : ℕ → Bool
is_white b = b == 10 || b == 32

abbrev pub is_blank : List ℕ → Bool
is_blank xs = list_all is_white xs

pub blank-append : (xs ys : List ℕ) → is_blank xs ≡ true → is_blank ys ≡ true → is_blank (xs ++ ys) ≡ true
blank-append [] ys h k = k
blank-append (x ∷ xs) ys h k = and_from (is_white x) (is_blank (xs ++ ys)) (and_left _ _ h) (blank-append xs ys (and_right _ _ h) k)

indentation_blank : (n : ℕ) → is_blank (indentation n) ≡ true
indentation_blank zero = refl
indentation_blank (suc n) = blank-append (indentation n) (32 ∷ 32 ∷ []) (indentation_blank n) refl

line_end_blank : (xs : List ℕ) → is_blank (line_end xs) ≡ true
line_end_blank [] = refl
line_end_blank (x ∷ xs) = refl

if_blank : (test : Bool) → is_blank (if◌then◌else◌ {A = List ℕ} test (32 ∷ []) []) ≡ true
if_blank true = refl
if_blank false = refl

pub space_blank : (p : Piece) (m : Made) → is_blank (gap_before p m) ≡ true
space_blank p m = by_line p.begins refl
  where
    by_last : (o : Option _) → m.last ≡ o → is_blank (blank_behind o p.symbol) ≡ true
    by_last None is = refl
    by_last (Some b) is = if_blank (not b.is_prefix && blank_between b.symbol p.symbol)

    by_line : (o : Option ℕ) → p.begins ≡ o → is_blank (space m.text m.last o p.symbol) ≡ true
    by_line (Some n) is = blank-append (line_end m.text) (indentation n) (line_end_blank m.text) (indentation_blank n)
    by_line None is = by_last m.last refl

-- behind a piece with a text nothing at all stands only where no blank does
pub joined_gap : (p q : Piece) (m : Made) (b : ℕ) (bs : List ℕ) → p.text ≡ b ∷ bs → gap_before q (added p m) ≡ [] → (not p.is_prefix && blank_between p.symbol q.symbol) ≡ false
joined_gap p q m b bs some none = by_line q.begins refl
  where
    some_text : (xs ys : List ℕ) → (line_end ((xs ++ ys) ++ b ∷ bs) ≡ [] → ⊥)
    some_text [] [] h = absurd (cc)
    some_text [] (y ∷ ys) h = absurd (cc)
    some_text (x ∷ xs) ys h = absurd (cc)

    front : (xs ys : List ℕ) → xs ++ ys ≡ [] → xs ≡ []
    front [] ys h = refl
    front (x ∷ xs) ys h = absurd (cc)

    by_line : (o : Option ℕ) → q.begins ≡ o → (not p.is_prefix && blank_between p.symbol q.symbol) ≡ false
    by_line (Some n) is =
        let here : line_end ((m.text ++ gap_before p m) ++ p.text) ++ indentation n ≡ [] = subst (λ (o : Option ℕ). space (added p m).text (added p m).last o q.symbol ≡ []) is none in
        let first : line_end ((m.text ++ gap_before p m) ++ p.text) ≡ [] = front (line_end ((m.text ++ gap_before p m) ++ p.text)) (indentation n) here in
        let same : (m.text ++ gap_before p m) ++ p.text ≡ (m.text ++ gap_before p m) ++ b ∷ bs = ap (λ (xs : List ℕ). (m.text ++ gap_before p m) ++ xs) some in
        absurd (some_text m.text (gap_before p m) (subst (λ (xs : List ℕ). line_end xs ≡ []) same first))
    by_line None is =
        let here : if◌then◌else◌ {A = List ℕ} (not p.is_prefix && blank_between p.symbol q.symbol) (32 ∷ []) [] ≡ [] = subst (λ (o : Option ℕ). space (added p m).text (added p m).last o q.symbol ≡ []) is none in
        off (not p.is_prefix && blank_between p.symbol q.symbol) here
      where
        off : (test : Bool) → if◌then◌else◌ {A = List ℕ} test (32 ∷ []) [] ≡ [] → test ≡ false
        off true h = absurd (cc)
        off false h = refl
