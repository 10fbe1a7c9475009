use Rattle.std.proofs.Common.{◌≡◌, true, false}
use mathlib.Core.Path.{sym}
use native.Mathlib.Omega.{arith}
use Rattle.table.specs.Valid.{enough}
use Rattle.table.specs.Sound.{sound}
use Rattle.molecule_key.specs.Keyed.{keyed_of}
use Rattle.molecule_key.proofs.Used.{taken-complete}
use Rattle.molecule_key.proofs.Tables.{checked-complete, used-atoms, used-bonds, used-key}
use Rattle.molecule_key.proofs.key.Goals as goal

pub returns-then-not-enough : goal.returns-then-not-enough
unfolding keyed_of
returns-then-not-enough c = let e : enough c.args.tables.atoms.now c.args.tables.bonds.now ≡ false = cc in simp e

pub returns-then-not-sound : goal.returns-then-not-sound
unfolding keyed_of
returns-then-not-sound c = let t = c.args.tables in
    let e : enough t.atoms.now t.bonds.now ≡ true = cc in
    let s : sound t.atoms.now t.bonds.now t.n t.m ≡ false = cc in
    simp (e, s)

pub overflow_mul-a : goal.overflow_mul-a
overflow_mul-a c = let t = c.args.tables in
    let k = checked-complete t.atoms.now t.bonds.now t.n t.m (cc) (cc) in omega arith

pub overflow_mul-b : goal.overflow_mul-b
overflow_mul-b c = let t = c.args.tables in
    let k = checked-complete t.atoms.now t.bonds.now t.n t.m (cc) (cc) in omega arith

pub slice_bounds-rows_key-end : goal.slice_bounds-rows_key-end
slice_bounds-rows_key-end c = let t = c.args.tables in
    sym (used-atoms (checked-complete t.atoms.now t.bonds.now t.n t.m (cc) (cc)))

pub slice_bounds-rows_key-end-2 : goal.slice_bounds-rows_key-end-2
slice_bounds-rows_key-end-2 c = let t = c.args.tables in
    sym (used-bonds (checked-complete t.atoms.now t.bonds.now t.n t.m (cc) (cc)))

pub rows_key-requires : goal.rows_key-requires
rows_key-requires c = let t = c.args.tables in
    let k = checked-complete t.atoms.now t.bonds.now t.n t.m (cc) (cc) in
    record { complete = taken-complete k; atoms_len = (used-atoms k, used-bonds k) }

pub returns : goal.returns
returns c = let t = c.args.tables in
    let e : enough t.atoms.now t.bonds.now ≡ true = cc in
    let s : sound t.atoms.now t.bonds.now t.n t.m ≡ true = cc in
    used-key (checked-complete t.atoms.now t.bonds.now t.n t.m e s) e s c.rows_key.ensures
