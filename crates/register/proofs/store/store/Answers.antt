use Rattle.register.proofs.Paths.{store-body, store_entry, store-last, store-none}
use Rattle.register.proofs.store.store.Goals as goal

pub returns-then-k-last : goal.returns-then-k-last
returns-then-k-last c = let a = c.args in store-last a.n a.e a.tag a.body.now a.k a.r.now c.if-k-last.true

pub returns-then-k-m : goal.returns-then-k-m
returns-then-k-m c = let a = c.args in store-body a.n a.e a.tag a.body.now a.k a.r.now c.if-k-m.true

pub returns-then-k-last-2 : goal.returns-then-k-last-2
returns-then-k-last-2 c = let a = c.args in store_entry a.n a.e a.tag a.body.now a.k a.r.now _ c.if-k-m.false c.if-k-last-2.true c.entry_byte.ensures

pub returns-else-k-last-2 : goal.returns-else-k-last-2
returns-else-k-last-2 c = let a = c.args in store-none a.n a.e a.tag a.body.now a.k a.r.now c.if-k-last.false c.if-k-last-2.false
