use Rattle.withdrawal.proofs.Walking.{walked-folded}
use Rattle.withdrawal.proofs.Verdicts.{fold-valid}
use borrow.Author.Rules.{rules}
use Rattle.withdrawal.proofs.walk.ask.Goals as goal

pub key-key-requires : goal.key-key-requires
key-key-requires c = fold-valid c.requires.complete c.fold-c.ensures

pub fill_atom_keys-requires : goal.fill_atom_keys-requires
fill_atom_keys-requires c = let v = fold-valid c.requires.complete c.fold-c.ensures in record { valid = v; even = search (rules, v.atoms_few) }

pub walk-requires : goal.walk-requires
walk-requires c = record { size_in_bounds = c.requires.size_in_bounds; valid = fold-valid c.requires.complete c.fold-c.ensures; key_value = c.key-key.ensures }

pub returns : goal.returns
returns c = walked-folded _ c.fold-c.ensures c.walk.ensures
