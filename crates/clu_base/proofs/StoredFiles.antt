-- What a put into the map of a store in memory does to its files.
use Rattle.std.proofs.Common.{◌≡◌, List, ℕ, Bool, true, false, cond, Option, Some, refl, ap, ◌∙◌, option_map, String, Vec}
use Rattle.std.specs.Prelude.{bytes_eq}
use Rattle.std.specs.BTreeMap.{BTreeMap, get_by_text}
use Rattle.std.specs.Map.{update}
use Rattle.clu_base.specs.Outside.{with_file}

mapped_choice : {A B : Type 0} (f : A → B) (b : Bool) (v : A) (o : Option A) → option_map f (cond b (Some v) o) ≡ cond b (Some (f v)) (option_map f o)
mapped_choice f true v o = refl
mapped_choice f false v o = refl

-- files are equal where each name finds the same
pub put_into_map : {Y Z : Type 0} (old new : BTreeMap (String Y) (Vec ℕ Z)) (name : List ℕ) (content : Vec ℕ Z) → ((n : List ℕ) → get_by_text new n ≡ update bytes_eq (get_by_text old) name (Some content) n) → (λ (n : List ℕ). option_map (λ (v : Vec ℕ Z). v.items) (get_by_text new n)) ≡ with_file (λ n. option_map (λ v. v.items) (get_by_text old n)) name content.items
put_into_map {Y} {Z} old new name content finds =
    let items : Vec ℕ Z → List ℕ = λ v. v.items in
    let at : (n : List ℕ) → option_map items (get_by_text new n) ≡ with_file (λ n. option_map items (get_by_text old n)) name content.items n =
    λ n. ap (option_map items) (finds n) ∙ mapped_choice items (bytes_eq name n) content (get_by_text old n) in
    λ i n. at n i
