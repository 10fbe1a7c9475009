use Prim.Native.Nat.{ℕ, ◌+◌}
use mathlib.Core.Path.{sym}
use mathlib.Core.List.{[], ◌∷◌}
use borrow.Author.Rules.{rules}
use borrow.Author.Tests.{ne_eqb}
use Rattle.element.specs.Symbols.{among, symbols, same_bytes}
use Rattle.element.specs.Lookup.{number_of, index_from}
use Rattle.element.proofs.Table.{rule}
use Rattle.element.proofs.Symbols.{no-first}
use Rattle.element.proofs.in_row.Goals as goal

-- the entry at a place of a letter's row
entry_of : ℕ → ℕ → ℕ
entry_of a i = number_of (a ∷ (97 + i) ∷ [])

pub returns-in-65 : goal.returns-in-65
unfolding entry_of number_of index_from symbols same_bytes
returns-in-65 c = rw (c.in-65.is, rule (entry_of 65) 26 _ c.args.i c.requires)

pub returns-in-66 : goal.returns-in-66
unfolding entry_of number_of index_from symbols same_bytes
returns-in-66 c = rw (c.in-66.is, rule (entry_of 66) 26 _ c.args.i c.requires)

pub returns-in-67 : goal.returns-in-67
unfolding entry_of number_of index_from symbols same_bytes
returns-in-67 c = rw (c.in-67.is, rule (entry_of 67) 26 _ c.args.i c.requires)

pub returns-in-68 : goal.returns-in-68
unfolding entry_of number_of index_from symbols same_bytes
returns-in-68 c = rw (c.in-68.is, rule (entry_of 68) 26 _ c.args.i c.requires)

pub returns-in-69 : goal.returns-in-69
unfolding entry_of number_of index_from symbols same_bytes
returns-in-69 c = rw (c.in-69.is, rule (entry_of 69) 26 _ c.args.i c.requires)

pub returns-in-70 : goal.returns-in-70
unfolding entry_of number_of index_from symbols same_bytes
returns-in-70 c = rw (c.in-70.is, rule (entry_of 70) 26 _ c.args.i c.requires)

pub returns-in-71 : goal.returns-in-71
unfolding entry_of number_of index_from symbols same_bytes
returns-in-71 c = rw (c.in-71.is, rule (entry_of 71) 26 _ c.args.i c.requires)

pub returns-in-72 : goal.returns-in-72
unfolding entry_of number_of index_from symbols same_bytes
returns-in-72 c = rw (c.in-72.is, rule (entry_of 72) 26 _ c.args.i c.requires)

pub returns-in-73 : goal.returns-in-73
unfolding entry_of number_of index_from symbols same_bytes
returns-in-73 c = rw (c.in-73.is, rule (entry_of 73) 26 _ c.args.i c.requires)

pub returns-in-75 : goal.returns-in-75
unfolding entry_of number_of index_from symbols same_bytes
returns-in-75 c = rw (c.in-75.is, rule (entry_of 75) 26 _ c.args.i c.requires)

pub returns-in-76 : goal.returns-in-76
unfolding entry_of number_of index_from symbols same_bytes
returns-in-76 c = rw (c.in-76.is, rule (entry_of 76) 26 _ c.args.i c.requires)

pub returns-in-77 : goal.returns-in-77
unfolding entry_of number_of index_from symbols same_bytes
returns-in-77 c = rw (c.in-77.is, rule (entry_of 77) 26 _ c.args.i c.requires)

pub returns-in-78 : goal.returns-in-78
unfolding entry_of number_of index_from symbols same_bytes
returns-in-78 c = rw (c.in-78.is, rule (entry_of 78) 26 _ c.args.i c.requires)

pub returns-in-79 : goal.returns-in-79
unfolding entry_of number_of index_from symbols same_bytes
returns-in-79 c = rw (c.in-79.is, rule (entry_of 79) 26 _ c.args.i c.requires)

pub returns-in-80 : goal.returns-in-80
unfolding entry_of number_of index_from symbols same_bytes
returns-in-80 c = rw (c.in-80.is, rule (entry_of 80) 26 _ c.args.i c.requires)

pub returns-in-82 : goal.returns-in-82
unfolding entry_of number_of index_from symbols same_bytes
returns-in-82 c = rw (c.in-82.is, rule (entry_of 82) 26 _ c.args.i c.requires)

pub returns-in-83 : goal.returns-in-83
unfolding entry_of number_of index_from symbols same_bytes
returns-in-83 c = rw (c.in-83.is, rule (entry_of 83) 26 _ c.args.i c.requires)

pub returns-in-84 : goal.returns-in-84
unfolding entry_of number_of index_from symbols same_bytes
returns-in-84 c = rw (c.in-84.is, rule (entry_of 84) 26 _ c.args.i c.requires)

pub returns-in-88 : goal.returns-in-88
unfolding entry_of number_of index_from symbols same_bytes
returns-in-88 c = rw (c.in-88.is, rule (entry_of 88) 26 _ c.args.i c.requires)

pub returns-in-89 : goal.returns-in-89
unfolding entry_of number_of index_from symbols same_bytes
returns-in-89 c = rw (c.in-89.is, rule (entry_of 89) 26 _ c.args.i c.requires)

pub returns-in-90 : goal.returns-in-90
unfolding entry_of number_of index_from symbols same_bytes
returns-in-90 c = rw (c.in-90.is, rule (entry_of 90) 26 _ c.args.i c.requires)

pub returns-in_default : goal.returns-in_default
unfolding among
returns-in_default c = let a : ℕ = c.args.a in
    sym (no-first a (97 + c.args.i)
    (simp (ne_eqb a 65 (search rules), ne_eqb a 66 (search rules), ne_eqb a 67 (search rules), ne_eqb a 68 (search rules), ne_eqb a 69 (search rules), ne_eqb a 70 (search rules), ne_eqb a 71 (search rules), ne_eqb a 72 (search rules), ne_eqb a 73 (search rules), ne_eqb a 75 (search rules), ne_eqb a 76 (search rules), ne_eqb a 77 (search rules), ne_eqb a 78 (search rules), ne_eqb a 79 (search rules), ne_eqb a 80 (search rules), ne_eqb a 82 (search rules), ne_eqb a 83 (search rules), ne_eqb a 84 (search rules), ne_eqb a 88 (search rules), ne_eqb a 89 (search rules), ne_eqb a 90 (search rules))))
