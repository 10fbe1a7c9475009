use Prim.Native.Nat.{ℕ}
use native.Mathlib.Omega.{arith}
use lib.ListN.{length-replicate}
use Rattle.same_model.specs.Same.{molecule}
use Rattle.folding.proofs.Links.{ends, merged_by}
use Rattle.folding.proofs.merge_sized.Goals as goal

pub link_bonds-requires : goal.link_bonds-requires
link_bonds-requires g c = record { ends = ends c.requires.complete.valid (omega (arith, length-replicate {A = ℕ})); links_value = simp length-replicate }

pub returns : goal.returns
returns g c = merged_by (molecule c.args.atoms.now c.args.bonds.now c.args.n c.args.m) c.requires.complete _ _ (omega (arith, length-replicate {A = ℕ})) c.link_bonds.ensures _ _ c.fold_atoms-atoms_left.ensures.numbers_after c.fold_atoms-atoms_left.ensures.atoms_after c.fold_atoms-atoms_left.ensures.value c.move_atoms.ensures c.move_bonds-bonds_left.ensures
