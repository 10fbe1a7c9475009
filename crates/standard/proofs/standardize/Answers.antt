use Rattle.standard.proofs.Calls.{too_short, short-readable}
use borrow.Author.Rules.{rules}
use Rattle.standard.proofs.standardize.Goals as goal

-- src/lib.rt:143:9
pub returns-then-out-lt-MAX_TEXT : goal.returns-then-out-lt-MAX_TEXT
returns-then-out-lt-MAX_TEXT c = too_short _ _ c.if-out-lt-MAX_TEXT.true

-- src/lib.rt:150:5
pub standardize_in-requires : goal.standardize_in-requires
standardize_in-requires c = record { readable = short-readable _ (search rules); max_text_in_bounds = search rules }
