use Rattle.std.proofs.lemmas.Result.{err_from_is_err_and}
use Rattle.reading_fields.proofs.Letters.{spells-bracket, spells-broken}
use Rattle.reading_fields.proofs.spelled.boxed_at.Goals as goal

pub returns-in_err-bracket : goal.returns-in_err-bracket
returns-in_err-bracket c = let p = err_from_is_err_and c.from_residual.result c.from_residual.ensures.1 in
    rw (p.1, p.2) (spells-broken _ _ c.requires.peeked c.requires.at_in_bounds c.requires.b_value c.in_err-bracket.ensures)

pub returns : goal.returns
returns c = spells-bracket _ _ c.requires.peeked c.requires.at_in_bounds c.requires.b_value c.in_ok-bracket.ensures c.row_of.ensures
