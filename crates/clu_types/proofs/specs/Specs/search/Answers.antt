use Rattle.std.proofs.Common.{◌≡◌, rules, refl}
use Rattle.std.proofs.lemmas.Fn.{answers_by}
use Rattle.clu_types.specs.Specs.{name_order}
use Rattle.clu_types.proofs.Ascending.{searched}
use Rattle.clu_types.proofs.specs.Specs.search.Goals as goal

-- the closure gives the order of a specification's name and the wanted one
pub returns : goal.returns
returns c =
    let facts = c.binary_search_by.ensures in
    let by_name = facts.position (λ s. name_order s.name c.args.name.now) (answers_by _ _ (λ f. f.0.now ≡ c.args.name.now) (λ f a r g called is. (search rules, search rules)) _ refl) in
    record {
      place = rw (← c.self.view_is, ← c.deref.ensures.value) (searched c.deref.result.now (rw c.deref.ensures.value c.self.invariant) c.args.name.now _ facts.bound by_name);
      in_range = rw (← c.self.view_is, ← c.deref.ensures.value) facts.bound;
      ascending = rw (← c.self.view_is) c.self.invariant;
    }
