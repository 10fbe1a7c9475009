use mathlib.Core.Path.{refl}
use native.Mathlib.Omega.{arith}
use Rattle.same_support.proofs.Leaving.{leaves_kept}
use Rattle.same_support.proofs.keep.Goals as goal

pub returns : goal.returns
returns c = leaves_kept c.args.next.now c.args.b c.args.mask (omega (arith, c.requires)) refl
