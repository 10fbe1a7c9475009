use Rattle.std.proofs.lemmas.Result.{err_from_is_err_and}
use Rattle.reader.proofs.Turns.{bounded-beside}
use native.Mathlib.Omega.{arith}
use Rattle.reader.proofs.Ends.{new-started, bounded-started, text-empty, text-refused, text-wrong, text-read}
use Rattle.reader.proofs.read_text.Goals as goal

pub returns-then-text-eq0 : goal.returns-then-text-eq0
returns-then-text-eq0 c = text-empty _ _ _ c.if-text-eq0.true (new-started c.requires.offsets_value.0 c.requires.offsets_value.1 c.requires.offsets_value.2 c.new-st.ensures)

pub sequence-requires : goal.sequence-requires
sequence-requires c = record { bounded = bounded-beside (bounded-started (new-started c.requires.offsets_value.0 c.requires.offsets_value.1 c.requires.offsets_value.2 c.new-st.ensures)); at_in_bounds = omega arith; s_len_bound = c.requires.text_len_bound }

pub returns-in_err-o : goal.returns-in_err-o
returns-in_err-o c = let e = err_from_is_err_and c.from_residual.result c.from_residual.ensures.1 in
    rw (e.1, e.2) (text-refused _ _ _ c.if-text-eq0.false (new-started c.requires.offsets_value.0 c.requires.offsets_value.1 c.requires.offsets_value.2 c.new-st.ensures) _ c.in_err-o.ensures)

pub returns-then-o-text : goal.returns-then-o-text
returns-then-o-text c = text-wrong _ _ _ c.if-text-eq0.false (new-started c.requires.offsets_value.0 c.requires.offsets_value.1 c.requires.offsets_value.2 c.new-st.ensures) _ c.in_ok-o.ensures c.if-o-text.true

pub returns : goal.returns
returns c = text-read _ _ _ c.if-text-eq0.false (new-started c.requires.offsets_value.0 c.requires.offsets_value.1 c.requires.offsets_value.2 c.new-st.ensures) _ c.in_ok-o.ensures c.if-o-text.false
