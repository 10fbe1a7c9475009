use Rattle.register.proofs.Paths.{entry-bytes}
use Rattle.register.proofs.store.entry_byte.Goals as goal

pub returns : goal.returns
returns c = let b = c in
    entry-bytes _ _ _ _ _ _ _ _ _ _ b.half.ensures b.half-2.ensures b.half-3.ensures c.half-4.ensures c.half-5.ensures c.half-6.ensures
