-- What an action of the grammar needs of the tree in the making, and what the tree can count at most.
use Rattle.std.specs.Prelude.{ℕ, ◌+◌, ◌-◌, ◌*◌, length, sum_by}
use Rattle.clu_base.specs.declared.tokens.Token.{Token}
use Rattle.clu_grammar.specs.declared.items.Action.{Action}
use Rattle.clu_grammar.specs.declared.items.Action.TheVariants as action
use Rattle.clu_tree.specs.Count.{own_count}
use Rattle.clu_parser.specs.declared.begun.Begun.{Begun}
use Rattle.clu_parser.specs.Trees.{Text, Built, value_of}

-- how many nodes must have begun
abbrev pub begun_for : Action → ℕ
begun_for action.Open = 0
begun_for action.Wrap = 0
begun_for action.Note = 1
begun_for (action.Close kind) = 1
begun_for action.Base = 1
begun_for action.Give = 2

-- how many whole nodes must be there that no node holds
abbrev pub tops_for : Action → ℕ
tops_for action.Open = 0
tops_for action.Wrap = 1
tops_for action.Note = 0
tops_for (action.Close kind) = 0
tops_for action.Base = 0
tops_for action.Give = 0

-- what a node that has begun will count at most by itself, but for the 1
abbrev pub held : Text → Begun → ℕ
held s o = length o.names + length (value_of s o.value)

-- what the whole nodes count, and what those that have begun will add at most
abbrev pub spent : Text → Built → ℕ
spent s b = sum_by own_count b.nodes + sum_by (held s) b.begun

abbrev pub token_size : Token → ℕ
token_size t = t.end - t.start

-- what the tree of the source can count at most: fewer than 32 actions for each symbol, and the bytes of the tokens
abbrev pub allowance : Text → ℕ
allowance s = 32 * length s.symbols + sum_by token_size s.tokens
