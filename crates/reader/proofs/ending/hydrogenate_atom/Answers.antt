use native.Mathlib.Omega.{arith}
use mathlib.Core.Path.{refl, ap}
use Rattle.valence.specs.declared.Hydrogens.{Hydrogens}
use Rattle.reading.proofs.Hydrogens.{implied-small}
use Rattle.reader.proofs.Ends.{hydrogens-put}
use Rattle.reader.proofs.Filling.{atom-passed, overfull-told}
use Rattle.reader.proofs.ending.hydrogenate_atom.Goals as goal

pub returns-then-outside-ne1 : goal.returns-then-outside-ne1
returns-then-outside-ne1 c = atom-passed _ _ _ _ c.if-outside-ne1.true refl

pub overflow_cast-count : goal.overflow_cast-count
overflow_cast-count c = record { sfits = omega (arith, ap (λ (x : Hydrogens). x.count) c.implied-h.ensures, implied-small c.atom_number-e.result c.atom_number-s.result c.args.sum) }

pub returns : goal.returns
returns c = let a = c.args in
    let one = c.if-outside-ne1.false in
    let e = c.atom_number-e.ensures in
    let s = c.atom_number-s.ensures in
    let h = c.implied-h.ensures in
    record {
      hydrogens = hydrogens-put a.atoms.now a.a.0 a.outside a.sum one e s (ap (λ (x : Hydrogens). x.count) h) c.put_atom_cell.ensures;
      overfull = overfull-told a.atoms.now a.a.0 a.outside a.sum one e s h c.overfull.ensures;
    }
