use Prim.Native.Nat.{ℕ, ◌≤◌}
use native.Mathlib.Omega.{arith}
use mathlib.Core.Path.{◌≡◌, ap, ◌∙◌}
use mathlib.Core.Bool.{Bool}
use borrow.Author.Tests.{ne_eqb}
use lib.IntN.{ℤ, pos, negsuc}
use lib.Signed.{mag}
use mir.Syntax.{w32}
use mir.Val.{Fits, SFits, to_z, of_z}
use mir.Facts.{to_z-of_z}
use Rattle.table.specs.Cells.{number}
use Rattle.valence.specs.Valence.{delocalized}
use Rattle.table_graph.proofs.is_delocalized.Goals as goal

-- the number in a cell of 32 bits fits 32 bits
number_small : (z : ℤ) → number z ≤ mag z
unfolding number
number_small (pos n) = omega arith
number_small (negsuc n) = omega arith

number_fits : {z : ℤ} {n : ℕ} → SFits w32 z → n ≡ number (to_z w32 (of_z w32 z)) → Fits w32 n
number_fits {z} f e = record { fits = omega (arith, ap number (to_z-of_z f), number_small z, f.sfits) }

-- the rule of what was read is the rule of the cells
same-rule : (sum : ℕ) {r : Bool} {e e' s s' h h' : ℕ} {z z' : ℤ} → r ≡ delocalized e s z sum h → e ≡ e' → s ≡ s' → z ≡ z' → h ≡ h' → r ≡ delocalized e' s' z' sum h'
same-rule sum p e s z h = p ∙ (λ i. delocalized (e i) (s i) (z i) sum (h i))

pub returns-then-s-ne1 : goal.returns-then-s-ne1
unfolding delocalized
returns-then-s-ne1 c = simp (ne_eqb _ 1 (λ (e : _ ≡ 1). c.if-s-ne1.true (c.atom_number-s.ensures ∙ e)))

pub overflow_cast-number : goal.overflow_cast-number
overflow_cast-number c = number_fits c.atom_cell-h.ensures.sfits c.number.ensures

pub returns : goal.returns
returns c = same-rule c.args.sum c.delocalized.ensures
    c.atom_number-e.ensures
    c.atom_number-s.ensures
    (to_z-of_z c.atom_cell-c.ensures.sfits ∙ c.atom_cell-c.ensures.value)
    (c.number.ensures ∙ ap number (to_z-of_z c.atom_cell-h.ensures.sfits ∙ c.atom_cell-h.ensures.value))
