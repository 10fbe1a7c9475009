use Rattle.molecule_key.proofs.Rows.{copy-complete, copy-valid, copy_key}
use Rattle.molecule_key.proofs.folded_key.Goals as goal

pub fold-c-requires : goal.fold-c-requires
fold-c-requires g c = copy-complete c.copy_from_slice.ensures.after c.copy_from_slice-2.ensures.after c.requires.complete

pub key-requires : goal.key-requires
key-requires g c = copy-valid c.copy_from_slice.ensures.after c.copy_from_slice-2.ensures.after c.requires.complete c.fold-c.ensures

pub returns : goal.returns
returns g c = copy_key c.copy_from_slice.ensures.after c.copy_from_slice-2.ensures.after c.requires.complete c.fold-c.ensures c.key.ensures
