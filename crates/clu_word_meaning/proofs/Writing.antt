-- What is done to the world writes nothing, but for output.
use Rattle.std.proofs.Common.{◌≡◌, ◌∙◌, ℕ, ◌+◌, ◌%◌, ◌==◌, Bool, true, false, List, [], ◌∷◌, length, Option, None, Some, refl, ap, sym, subst}
use Rattle.std.specs.Prelude.{if◌then◌else◌, nat_le}
use Rattle.std.proofs.lemmas.Option.{same_Some}
use Rattle.clu_base.proofs.Lists.{none_is_not}
use Rattle.clu_wir.specs.declared.primitive.Primitive.{Primitive}
use Rattle.clu_wir.specs.declared.primitive.Primitive.TheVariants as primitive
use Rattle.clu_word_meaning.specs.Growing.{Front}
use Rattle.clu_word_meaning.specs.World.{Done, World, also, bound, came, done, grown, in_place, put_bytes, put_word, string_size, with_pair, with_string, own_number, written, bytes_to_write}
use Rattle.clu_word_meaning.proofs.Going.{front_is, front_same}

by_if : {A : Type 0} (b : Bool) (o : Option A) (x : A) → (if b then o else None) ≡ Some x → o ≡ Some x
by_if true o x e = e
by_if false o x e = none_is_not x e

place_output : (w v : World) (a : ℕ) (bytes : List ℕ) (o : Option (List ℕ)) → in_place w a bytes o ≡ Some v → v.output ≡ w.output
place_output w v a bytes None e = none_is_not v e
place_output w v a bytes (Some old) e = ap (λ (x : World). x.output) (sym (same_Some _ v e))

bytes_output : (w v : World) (a : ℕ) (bytes : List ℕ) → put_bytes w a bytes ≡ Some v → v.output ≡ w.output
unfolding put_bytes
bytes_output w v a bytes e = place_output w v a bytes _ (by_if (nat_le w.writable a) _ v e)

pub word_output : (w v : World) (a x : ℕ) → put_word w a x ≡ Some v → v.output ≡ w.output
unfolding put_word
word_output w v a x e = bytes_output w v a _ (by_if (a % 8 == 0) _ v e)

also_output : (w v : World) (o : Option World) (f : World → Option World) → ((x : World) → o ≡ Some x → x.output ≡ w.output) → ((x y : World) → f x ≡ Some y → y.output ≡ x.output) → also o f ≡ Some v → v.output ≡ w.output
also_output w v None f p q e = none_is_not v e
also_output w v (Some x) f p q e = q x v e ∙ p x refl

pub string_output : (w v : World) (text : List ℕ) → with_string text w ≡ Some v → v.output ≡ w.output
unfolding with_string
string_output w v text e = also_output w v _ _ (λ x h. word_output (grown (string_size text) w) x w.next (length text) h) (λ x y h. bytes_output x y (w.next + 8) text h) e

pair_output : (w v : World) (word : ℕ) (o : Option ℕ) → with_pair word w o ≡ Some v → v.output ≡ w.output
pair_output w v word None e = none_is_not v e
pair_output w v word (Some number) e = also_output w v _ _ (λ x h. word_output (grown 16 w) x w.next number h) (λ x y h. word_output x y (w.next + 8) word h) e

came_output : (w : World) (results : List ℕ) (o : Option World) (d : Done) → ((v : World) → o ≡ Some v → Front w.output v.output) → came results o ≡ Some d → Front w.output d.world.output
came_output w results None d p e = none_is_not d e
came_output w results (Some v) d p e = subst (λ (x : Done). Front w.output x.world.output) (same_Some _ d e) (p v refl)

written_output : (w v : World) (o : Option (List ℕ)) → written w o ≡ Some v → Front w.output v.output
written_output w v None e = none_is_not v e
written_output w v (Some bytes) e = record { more = bytes; parts = ap (λ (x : World). x.output) (sym (same_Some _ v e)) }

some_output : (w : World) (x d : Done) → Front w.output x.world.output → Some x ≡ Some d → Front w.output d.world.output
some_output w x d p e = subst (λ (y : Done). Front w.output y.world.output) (same_Some x d e) p

pub done_output : (p : Option Primitive) (ws : List ℕ) (w : World) (d : Done) → done p ws w ≡ Some d → Front w.output d.world.output
unfolding done
done_output None ws w d e = none_is_not d e
done_output (Some primitive.Allocate) [] w d e = none_is_not d e
done_output (Some primitive.Allocate) (n ∷ []) w d e = some_output w _ d (front_same w.output) e
done_output (Some primitive.Allocate) (n ∷ m ∷ ws) w d e = none_is_not d e
done_output (Some primitive.Write) [] w d e = none_is_not d e
done_output (Some primitive.Write) (n ∷ []) w d e = none_is_not d e
done_output (Some primitive.Write) (a ∷ n ∷ []) w d e = came_output w [] _ d (λ v h. written_output w v (bytes_to_write w a n) h) e
done_output (Some primitive.Write) (n ∷ m ∷ j ∷ ws) w d e = none_is_not d e
done_output (Some primitive.TakeByte) [] w d e = some_output w _ d (front_same w.output) e
done_output (Some primitive.TakeByte) (n ∷ ws) w d e = none_is_not d e
done_output (Some primitive.PeekByte) [] w d e = some_output w _ d (front_same w.output) e
done_output (Some primitive.PeekByte) (n ∷ ws) w d e = none_is_not d e
done_output (Some primitive.SaveByte) [] w d e = none_is_not d e
done_output (Some primitive.SaveByte) (n ∷ []) w d e = none_is_not d e
done_output (Some primitive.SaveByte) (a ∷ b ∷ []) w d e = came_output w [] _ d (λ v h. front_is w.output v.output (bytes_output w v a _ h)) e
done_output (Some primitive.SaveByte) (n ∷ m ∷ j ∷ ws) w d e = none_is_not d e

bound_by : (b : Bool) (w : World) (x d : Done) (o : Option Done) → Front w.output x.world.output → (o ≡ Some d → Front w.output d.world.output) → (if b then Some x else o) ≡ Some d → Front w.output d.world.output
bound_by true w x d o p q e = some_output w x d p e
bound_by false w x d o p q e = q e

pub bound_output : (number word : ℕ) (w : World) (d : Done) → bound number word w ≡ Some d → Front w.output d.world.output
unfolding bound
bound_output number word w d e = bound_by (number == 0) w _ d _ (front_same w.output) (λ h. came_output w (w.next ∷ []) _ d (λ v g. front_is w.output v.output (pair_output w v word (own_number number word w) g)) h) e
