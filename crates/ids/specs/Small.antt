-- auxiliary: the size of the arrays that suffice for a small molecule
use Rattle.std.specs.Prelude.{ℕ}

abbrev pub small : ℕ
small = 64
