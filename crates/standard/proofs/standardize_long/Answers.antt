use Rattle.standard.proofs.Calls.{long-readable}
use borrow.Author.Rules.{rules}
use Rattle.standard.proofs.standardize_long.Goals as goal

-- src/lib.rt:133:5
pub standardize_in-requires : goal.standardize_in-requires
standardize_in-requires c = record { readable = long-readable _; max_text_in_bounds = search rules }
