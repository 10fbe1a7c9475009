use Rattle.kekule.proofs.Kekule.{held, failed}
use Rattle.standard.proofs.Kekulized.{held-valid, row_fits, crowded, settled}
use Rattle.standard.proofs.settle_by.Goals as goal

pub none_crowded_by-requires : goal.none_crowded_by-requires
none_crowded_by-requires c = ((held-valid _ _ _ _ c.requires.held).bonds_few, row_fits _ _ _ _ c.requires.held _ c.requires.has_first)

pub returns-then-not-none_crowded_by : goal.returns-then-not-none_crowded_by
returns-then-not-none_crowded_by c = crowded _ _ _ _ c.requires.held _ c.requires.has_first (failed c.none_crowded_by.ensures c.if-not-none_crowded_by.true-raw)

pub kekulize_valid-requires : goal.kekulize_valid-requires
kekulize_valid-requires c = let v = held-valid _ _ _ _ c.requires.held in
    record { atoms_few = v.atoms_few; bonds_few = v.bonds_few; room = row_fits _ _ _ _ c.requires.held _ c.requires.has_first }

pub returns : goal.returns
returns c = settled _ _ _ _ c.requires.held _ c.requires.has_first (held c.none_crowded_by.ensures c.if-not-none_crowded_by.false-raw) c.kekulize_valid.ensures
