use Rattle.std.proofs.Common.{◌≡◌, ◌∙◌, Bool, List, Option, None, IfErr, IfOk, ap, length, subst, sym}
use Rattle.clu_base.specs.declared.rules.Refused.{Refused}
use Rattle.clu_bindings.specs.declared.file.File.{File}
use Rattle.clu_head.specs.declared.heads.Heads.{Heads}
use Rattle.clu_head.specs.Modules.{AreHeadsOf}
use Rattle.clu_head.specs.Refused.{counts_to}
use Rattle.clu_check_mod.specs.Answered.{AreFoundBy, IsFirstBy, IsFirstIn, IsFoundBy, IsFoundIn, IsUnspecifiedBy, IsUnspecifiedIn}
use Rattle.clu_check_mod.specs.Bad.{refused_of}
use Rattle.clu_check_mod.specs.Refusals.{IsOfTree}
use Rattle.clu_check_mod.specs.Walks.{IsFound}
use Rattle.clu_check_mod.proofs.Answered.{answer_more}
use Rattle.clu_check_mod.proofs.checking.check_file.Goals as goal

pub returns-clause-found : goal.returns-clause-found
returns-clause-found c = subst (λ (f : File). IfOk c.check_headed.result (λ found. IsFound f.syntax.now c.args.extent found.value.own.items)) c.headed_by-headed.ensures.file c.check_headed.ensures.found

pub returns-clause-refused : goal.returns-clause-refused
returns-clause-refused c = subst (λ (f : File). IfErr c.check_headed.result (IsOfTree f.syntax.now)) c.headed_by-headed.ensures.file c.check_headed.ensures.refused

pub returns-clause-first : goal.returns-clause-first
returns-clause-first c =
    let made = c.tables.ensures in
    let first : (o : Option Refused) → IsFirstBy c.headed_by-headed.result c.heads_of.new.types c.args.lists.now c.in_ok-long.long c.args.extent o → IsFirstIn c.args.file c.args.types.now c.args.lists.now c.args.extent o = λ o is. record {
      headed = c.headed_by-headed.result;
      long = c.in_ok-long.long;
      before = c.tables.result;
      refused = c.in_ok-refused.refused.items;
      file_is = c.headed_by-headed.ensures.file;
      long_are = record { types = c.in_ok-long.ensures.types; constants = c.in_ok-long.ensures.constants };
      tables = record {
        file_is = made.file;
        long_types = made.long_types;
        long_constants = made.long_constants;
        circular = made.circular;
        own = made.own;
        words = made.words;
        items = made.items;
      };
      types_are = made.types;
      refused_are = λ items ascending. c.in_ok-refused.ensures items ascending ∙ ap (refused_of c.tables.result items) c.as_slice-order.ensures.value;
      counts = c.headed_by-headed.ensures.refused ∙ c.as_slice-3.ensures.value ∙ c.in_ok-counts.ensures ∙ ap (λ (b : List Bool). counts_to b (length b)) c.as_slice-2.ensures.value;
      terms = c.heads_of.new.types;
      heads =
          subst (λ (hs : Heads). AreHeadsOf c.args.file.syntax.now c.args.file.rounds.now c.args.file.names.now.declared.items c.args.file.values.now c.in_ok-refused.refused.items c.args.types.now c.heads_of.new.types hs) (sym c.headed_by-headed.ensures.heads)
          (subst (λ (bits : List Bool). AreHeadsOf c.args.file.syntax.now c.args.file.rounds.now c.args.file.names.now.declared.items c.args.file.values.now bits c.args.types.now c.heads_of.new.types c.in_ok-heads.heads) c.as_slice.ensures.value c.in_ok-heads.ensures.heads);
      grows = c.in_ok-heads.ensures.kept;
      is = is;
    } in
    answer_more (IsFirstBy c.headed_by-headed.result c.heads_of.new.types c.args.lists.now c.in_ok-long.long c.args.extent) (IsFirstIn c.args.file c.args.types.now c.args.lists.now c.args.extent)
    (IsUnspecifiedBy c.headed_by-headed.result c.heads_of.new.types c.args.lists.now c.in_ok-long.long c.args.extent) (IsUnspecifiedIn c.args.file c.args.types.now c.args.lists.now c.args.extent) first
    (λ none. record { is = first None none.is; lost = none.lost }) c.check_headed.result
    (λ found. IsFoundBy c.headed_by-headed.result c.heads_of.new.types c.args.lists.now c.in_ok-long.long c.args.extent c.check_headed.new.types found.value) (λ found. IsFoundIn c.args.file c.args.types.now c.args.lists.now c.args.extent c.check_headed.new.types found.value)
    (λ found was. record { is = first None was.is; are = subst (λ (f : File). AreFoundBy f.syntax.now was.is.is.known c.check_headed.new.types found.value) c.headed_by-headed.ensures.file was.are })
    c.check_headed.ensures.first
