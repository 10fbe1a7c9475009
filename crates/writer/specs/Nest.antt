-- auxiliary: how deep the written branches nest, by the parents in walk order (01, Writing; refusal 15)
use Rattle.std.specs.Prelude.{ℕ, zero, suc, ◌+◌, ◌-◌, Bool, true, ◌&&◌, List, get_or, eqb, leb}
use Rattle.loops.specs.Loop.{pick}
use Rattle.ids.specs.Limits.{max_depth}

-- a branch is left before a child that is not the first
unfoldable pub depth_left : ℕ → ℕ → ℕ → ℕ
depth_left depth up x = pick (eqb up 0) depth (pick (eqb up x) depth (depth - 1))

-- a branch is entered by a child that is not the last; one above the limit stands for too deep
unfoldable pub depth_after : ℕ → ℕ → Bool → ℕ → ℕ
depth_after depth up more x = pick (eqb up 0) depth (pick more (pick (leb max_depth (depth_left depth up x)) (max_depth + 1) (depth_left depth up x + 1)) (depth_left depth up x))

-- d atoms from x on
unfoldable pub nest_from : List ℕ → (ℕ → Bool) → ℕ → ℕ → ℕ → Bool
nest_from up more x zero depth = true
nest_from up more x (suc d) depth = leb (depth_after depth (get_or up x 0) (more x) x) max_depth && nest_from up more (suc x) d (depth_after depth (get_or up x 0) (more x) x)
