-- Nodes that have begun, above their floors.
use Rattle.std.proofs.Common.{ℕ, ◌+◌, ◌-◌, ◌<◌, ◌≤◌, List, [], ◌∷◌, ◌≡◌, arith}
use Rattle.clu_parser.specs.declared.begun.Begun.{Begun}
use Rattle.clu_parser.specs.Trees.{AreStacked}

pub stacked_more : (os : List Begun) (top more : ℕ) → top ≤ more → AreStacked os top → AreStacked os more
stacked_more [] top more le known = tt
stacked_more (o ∷ os) top more le known = (known.0, known.1, known.2, omega (arith, known.3), known.4)

pub stacked_open : (o : Begun) (os : List Begun) (top : ℕ) → o.height ≡ top → AreStacked os top → AreStacked (o ∷ os) top
stacked_open o os top here known = (top, omega arith, omega arith, omega arith, known)

pub stacked_wrap : (o : Begun) (os : List Begun) (top : ℕ) → 0 < top → o.height ≡ top - 1 → AreStacked os top → AreStacked (o ∷ os) top
stacked_wrap o os top more here known = (top, omega arith, omega arith, omega arith, known)

-- the innermost is whole
pub stacked_close : (o : Begun) (os : List Begun) (top : ℕ) → AreStacked (o ∷ os) top → AreStacked os (o.height + 1)
stacked_close o os top known = stacked_more os known.0 (o.height + 1) (omega (arith, known.2)) known.4

-- the innermost is given up
pub stacked_pop : (o : Begun) (os : List Begun) (top : ℕ) → AreStacked (o ∷ os) top → AreStacked os top
stacked_pop o os top known = stacked_more os known.0 top (omega (arith, known.3)) known.4

pub stacked_same : (o p : Begun) (os : List Begun) (top : ℕ) → p.height ≡ o.height → AreStacked (o ∷ os) top → AreStacked (p ∷ os) top
stacked_same o p os top same known = (known.0, omega (arith, known.1), omega (arith, known.2), known.3, known.4)

pub stacked_within : (o : Begun) (os : List Begun) (top : ℕ) → AreStacked (o ∷ os) top → o.height ≤ top
stacked_within o os top known = omega (arith, known.1, known.3)
