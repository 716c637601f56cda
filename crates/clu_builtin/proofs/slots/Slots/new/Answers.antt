use Rattle.std.proofs.Common.{refl, ap, ◌∙◌}
use Rattle.clu_types.specs.CluType.{array_of}
use Rattle.clu_types.proofs.Arenas.{types_grown}
use Rattle.clu_types.proofs.Carrying.{grows_on}
use Rattle.clu_builtin.proofs.Grown.{kept}
use Rattle.clu_builtin.proofs.slots.Slots.new.Goals as goal

pub returns-clause-slots : goal.returns-clause-slots
returns-clause-slots c =
    let after_array = c.in_ok-array.ensures.kept in
    let after_string = grows_on _ _ _ c.in_ok-string.ensures.kept after_array in
    let after_char = grows_on _ _ _ c.in_ok-char.ensures.kept after_string in
    let after_int = grows_on _ _ _ c.in_ok-int.ensures.kept after_char in
    let all = grows_on _ _ _ c.in_ok-bool.ensures.kept after_int in
    let before_array = grows_on _ _ _ (grows_on _ _ _ (grows_on _ _ _ c.in_ok-bool.ensures.kept c.in_ok-int.ensures.kept) c.in_ok-char.ensures.kept) c.in_ok-string.ensures.kept in
    record {
      own = kept _ _ all c.args.own _ c.requires.own_in refl;
      part = kept _ _ all c.args.part _ c.requires.part_in refl;
      bool = kept _ _ after_int c.in_ok-bool.bool _ c.in_ok-bool.ensures.within c.in_ok-bool.ensures.of_type;
      int = kept _ _ after_char c.in_ok-int.int _ c.in_ok-int.ensures.within c.in_ok-int.ensures.of_type;
      char = kept _ _ after_string c.in_ok-char.char _ c.in_ok-char.ensures.within c.in_ok-char.ensures.of_type;
      string = kept _ _ after_array c.in_ok-string.string _ c.in_ok-string.ensures.within c.in_ok-string.ensures.of_type;
      array = (c.in_ok-array.ensures.within, c.in_ok-array.ensures.of_type ∙ ap array_of (types_grown _ _ before_array c.args.part c.requires.part_in));
    }
