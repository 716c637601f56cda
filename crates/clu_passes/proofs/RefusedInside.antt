-- Where a node is not refused no type is refused in it; and it is refused just if the counts of clu_head say so, but in brackets.
use Rattle.std.proofs.Common.{◌≡◌, ◌∙◌, ℕ, suc, ◌<◌, ◌≤◌, ◌&&◌, Bool, true, false, List, length, refl, sym, ap, arith, le-leb}
use Rattle.std.specs.Prelude.{filter, nat_le}
use Rattle.std.specs.List.{list_any, range_with_len}
use Rattle.std.proofs.lemmas.Bool.{true≢false}
use Rattle.clu_checking.specs.Files.{File, is_refused, numbers, round, stands_below}
use Rattle.clu_passes.proofs.Counted.{any_filtered, range_in}

all_true : (a b c : Bool) → a ≡ true → b ≡ true → c ≡ true → (a && (b && c)) ≡ true
all_true a b c e g h = ap (λ (x : Bool). x && (b && c)) e ∙ ap (λ (x : Bool). x && c) g ∙ h

-- by the test of the nodes that are refused
pub none_refused : (f : File) (no_type : ℕ → Bool) → f.refused ≡ filter no_type (numbers f.nodes) → (n : ℕ) → n < length f.nodes → is_refused f n ≡ false → (m : ℕ) → (round f n).first ≤ m → m ≤ n → no_type m ≡ false
none_refused f no_type are n inside fine m low high = by (no_type m) refl
  where
    by : (b : Bool) → no_type m ≡ b → b ≡ false
    by false e = refl
    by true e =
        absurd (true≢false (sym (range_in (λ i. no_type i && stands_below f i n) (length f.nodes) 0 m (omega arith) (omega (arith, high, inside)) (all_true (no_type m) (nat_le (round f n).first m) (nat_le m n) e (le-leb (round f n).first m low) (le-leb m n high)))
        ∙ sym (any_filtered (λ i. stands_below f i n) no_type (numbers f.nodes))
        ∙ sym (ap (list_any (λ i. stands_below f i n)) are)
        ∙ fine))
