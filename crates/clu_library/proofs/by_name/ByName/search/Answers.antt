use Rattle.std.proofs.Common.{◌≡◌, rules, refl}
use Rattle.std.proofs.lemmas.Fn.{answers_by}
use Rattle.clu_types.specs.Specs.{name_order}
use Rattle.clu_library.proofs.Ascending.{searched}
use Rattle.clu_library.proofs.by_name.ByName.search.Goals as goal

-- the closure gives the order of an item's name and the wanted one
pub returns : goal.returns
returns g c =
    let f = g.T.Named.name_of in
    let facts = c.binary_search_by.ensures in
    let by_name = facts.position (λ x. name_order (f x) c.args.name.now) (answers_by _ _ (λ k. k.0.now ≡ c.args.name.now) (λ k a r h called is. (search rules, search rules)) _ refl) in
    record {
      place = rw (← c.self.view_is, ← c.deref.ensures.value) (searched f c.deref.result.now (rw c.deref.ensures.value c.self.invariant) c.args.name.now _ facts.bound by_name);
      in_range = rw (← c.self.view_is, ← c.deref.ensures.value) facts.bound;
      ascending = rw (← c.self.view_is) c.self.invariant;
    }
