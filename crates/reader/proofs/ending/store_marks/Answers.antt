use native.Mathlib.Omega.{arith}
use mathlib.Core.Path.{ap, ◌∙◌}
use mathlib.Core.List.{List}
use Prim.Native.Nat.{ℕ}
use lib.ListN.{length}
use Rattle.table.specs.Orders.{turn_marks, at_end}
use Rattle.reading.specs.Read.{text_rank}
use Rattle.reader.proofs.Ranks.{ranked-length, ranked-marks, none-turned}
use Rattle.reader.proofs.ending.store_marks.Goals as goal

pub returns-then-not-some_marked : goal.returns-then-not-some_marked
returns-then-not-some_marked c = let a = c.args in none-turned (text_rank a.keys.now a.bonds.now) a.atoms.now a.bonds.now a.n a.m c.requires.valid c.some_marked.ensures c.if-not-some_marked.true-raw

pub turn_marks-requires : goal.turn_marks-requires
turn_marks-requires c = let a = c.args in
    let l = ap length c.rank_bonds.ensures ∙ ranked-length a.bonds.now a.m a.keys.now ∙ c.requires.m_value.1.room in
    record { valid = c.requires.valid; m_value = (c.requires.m_value.0, omega (arith, l, c.requires.m_value.1.few)) }

pub returns : goal.returns
returns c = let a = c.args in
    c.turn_marks.ensures
    ∙ ap (λ (l : List ℕ). turn_marks (at_end l a.bonds.now) a.bonds.now a.m a.n a.atoms.now) c.rank_bonds.ensures
    ∙ ranked-marks a.bonds.now a.m a.keys.now c.requires.m_value.1.room c.requires.m_value.1.few a.n a.atoms.now
