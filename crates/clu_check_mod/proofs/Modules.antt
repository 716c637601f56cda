-- The modules of a tree are nodes of it.
use Rattle.std.proofs.Common.{◌≡◌, ◌<◌, ◌+◌, ℕ, zero, suc, Bool, true, false, List, [], ◌∷◌, ◌++◌, length, All, get_or, Option, Some, None, refl, sym, ap, ◌∙◌, subst, arith, append_assoc}
use Rattle.std.proofs.lemmas.List.{length-append}
use Rattle.std.proofs.lemmas.List.Elements.{All-append}
use Rattle.std.proofs.lemmas.Bool.{true≢false}
use Rattle.std.specs.Prelude.{slice_get, slice_index_or}
use Rattle.clu_tree.specs.declared.node.Node.{Node}
use Rattle.clu_tree.specs.declared.node.NodeKind.{NodeKind}
use Rattle.clu_tree.specs.declared.node.NodeKind.TheVariants as k
use Rattle.clu_tree.specs.Nodes.{module_at, modules, modules_from}
use Rattle.clu_syntax.specs.Kinds.{kind_at, kind_of}

-- the node n is a Module
abbrev pub IsModule : List Node → ℕ → Type 0
IsModule nodes n = kind_at nodes n ≡ k.Module

behind : (before : List Node) (m : Node) (ms : List Node) → slice_get (before ++ m ∷ ms) (length before) ≡ Some m
behind [] m ms = refl
behind (x ∷ before) m ms = behind before m ms

only : (nodes : List Node) (n : ℕ) → IsModule nodes n → All (IsModule nodes) (n ∷ [])
only nodes n is zero d lt = is
only nodes n is (suc i) d lt = absurd (omega arith)

here : (nodes : List Node) (n : ℕ) (kind : NodeKind) → kind_at nodes n ≡ kind → All (IsModule nodes) (module_at n kind)
here nodes n k.Module is = only nodes n is
here nodes n _ is = λ i d lt. absurd (omega arith)

from : (before ms : List Node) → All (IsModule (before ++ ms)) (modules_from (length before) ms)
from before [] = λ i d lt. absurd (omega arith)
from before (m ∷ ms) =
    let nodes : List Node = before ++ m ∷ ms in
    let next : length (before ++ m ∷ []) ≡ length before + 1 = length-append before (m ∷ []) in
    let P : List Node → Type 0 = λ ns. All (IsModule ns) (modules_from (length before + 1) ms) in
    let Q : ℕ → Type 0 = λ n. All (IsModule ((before ++ m ∷ []) ++ ms)) (modules_from n ms) in
    let rest : All (IsModule nodes) (modules_from (length before + 1) ms) = subst P (append_assoc before (m ∷ []) ms) (subst Q next (from (before ++ m ∷ []) ms)) in
    All-append (IsModule nodes) (module_at (length before) m.kind) (modules_from (length before + 1) ms) (here nodes (length before) m.kind (ap kind_of (behind before m ms))) rest

-- each number of the modules is that of a Module
pub are_modules : (nodes : List Node) → All (IsModule nodes) (modules nodes)
are_modules nodes = from [] nodes

abbrev is_module : NodeKind → Bool
is_module k.Module = true
is_module _ = false

inside : (nodes : List Node) (n : ℕ) → IsModule nodes n → n < length nodes
inside [] n is = absurd (true≢false (sym (ap is_module is)))
inside (m ∷ nodes) zero is = omega arith
inside (m ∷ nodes) (suc n) is = let less : n < length nodes = inside nodes n is in omega (arith, less)

-- each of these numbers is that of a node
pub module_within : (nodes : List Node) (ns : List ℕ) (i : ℕ) → ns ≡ modules nodes → i < length ns → slice_index_or ns i 0 < length nodes
module_within nodes ns i is less = inside nodes (slice_index_or ns i 0) (subst (All (IsModule nodes)) (sym is) (are_modules nodes) i 0 less)
