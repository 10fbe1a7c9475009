use native.Mathlib.Omega.{arith}
use Rattle.register.proofs.Paths.{fits-many, fits-long, fits-room}
use Rattle.register.proofs.contents.fits.Goals as goal

pub returns-then-n-ge-MAX_ENTRIES : goal.returns-then-n-ge-MAX_ENTRIES
returns-then-n-ge-MAX_ENTRIES c = fits-many c.args.r.now c.args.m (omega arith)

pub returns-then-m-gt-MAX_BODY : goal.returns-then-m-gt-MAX_BODY
returns-then-m-gt-MAX_BODY c = fits-long c.args.r.now c.args.m (omega arith) (omega arith)

pub returns : goal.returns
returns c = fits-room c.args.r.now c.args.m _ _ c.count-n.ensures c.if-n-ge-MAX_ENTRIES.false c.if-m-gt-MAX_BODY.false c.end_before.ensures.value
