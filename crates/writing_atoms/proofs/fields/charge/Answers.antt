use mir.Facts.{to_z-of_z, Fits-nat_abs}
use Rattle.buffer.proofs.Laws.{as_is}
use Rattle.writing_atoms.proofs.Laws.{below, above}
use Rattle.writing_atoms.proofs.fields.charge.Goals as goal

pub overflow_sub-c : goal.overflow_sub-c
overflow_sub-c c = let r = to_z-of_z c.ranges.c in let w = below c.args.c c.requires (simp r at c.if-c-lt0.true) in simp r w.fits

pub overflow_cast-c : goal.overflow_cast-c
overflow_cast-c c = let r = to_z-of_z c.ranges.c in let w = below c.args.c c.requires (simp r at c.if-c-lt0.true) in simp (r, to_z-of_z w.fits) (w.natural, Fits-nat_abs tt w.fits)

pub sized-requires : goal.sized-requires
sized-requires c = let r = to_z-of_z c.ranges.c in let w = below c.args.c c.requires (simp r at c.if-c-lt0.true) in simp (r, to_z-of_z w.fits) w.small

pub returns-then-c-lt0 : goal.returns-then-c-lt0
returns-then-c-lt0 c = let r = to_z-of_z c.ranges.c in let w = below c.args.c c.requires (simp r at c.if-c-lt0.true) in as_is w.bytes (simp (r, to_z-of_z w.fits) at c.sized.ensures)

pub overflow_cast-c-2 : goal.overflow_cast-c-2
overflow_cast-c-2 c = let r = to_z-of_z c.ranges.c in let w = above c.args.c c.requires (simp r at c.if-c-lt0.false) in simp r (w.0, Fits-nat_abs tt c.ranges.c)

pub sized-requires-2 : goal.sized-requires-2
sized-requires-2 c = let r = to_z-of_z c.ranges.c in let w = above c.args.c c.requires (simp r at c.if-c-lt0.false) in simp r w.1.0

pub returns : goal.returns
returns c = let r = to_z-of_z c.ranges.c in let w = above c.args.c c.requires (simp r at c.if-c-lt0.false) in as_is w.1.1 (simp r at c.sized-2.ensures)
