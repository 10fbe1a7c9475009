use mathlib.Core.Path.{refl}
use Rattle.reader_bytes.proofs.Parts.{close-taken}
use Rattle.reader_bytes.proofs.close.Goals as goal

pub returns : goal.returns
returns c = λ o k p x y a b. close-taken _ 0 _ o k p x y a b c.saturating_sub-d.ensures refl
