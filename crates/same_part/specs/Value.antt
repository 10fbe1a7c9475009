-- auxiliary: one step of the matrix of a molecule whose row is partly decided, over plain numbers
use Rattle.std.specs.Prelude.{ℕ, ◌*◌, ◌+◌, Bool, List, ℤ, eqb}
use Rattle.loops.specs.Loop.{pick}
use Rattle.table.specs.Cells.{end1, end2}
use Rattle.kinds.specs.Kind.{order}
use Rattle.matching.specs.Model.{free_at}
use Rattle.table_graph.specs.Graph.{flag}
use Rattle.table_graph.specs.Built.{bump}
use Rattle.same_model.specs.Same.{max_same}
use Rattle.same_drawing.specs.Drawing.{settled_order}
use Rattle.same_open.specs.Open.{open_bond}

-- what a bond of the kind k adds to a cell, with what the marks of open bonds and the row have there
abbrev pub part_value : ℕ → ℕ → ℕ → Bool → ℕ
part_value k o c decided = pick decided (settled_order k c) (pick (eqb o 1) open_bond (order k))

-- the matrix with x added at both places of the bond k
abbrev pub with_value : List ℤ → ℕ → ℕ → List ℕ → List ℕ
with_value bonds x k p = bump (bump p (max_same * end1 bonds k + end2 bonds k) x) (max_same * end2 bonds k + end1 bonds k) x

-- 1 for a bond that can be chosen
abbrev pub open_flag : List ℕ → List ℕ → List ℕ → List ℕ → ℕ → ℕ
open_flag ea eb el need k = flag (free_at ea eb el need k)
