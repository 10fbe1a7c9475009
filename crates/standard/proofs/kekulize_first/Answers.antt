use mathlib.Core.Path.{◌∙◌}
use Rattle.standard.proofs.Calls.{is-settled, not-settled}
use Rattle.standard.proofs.kekulize_first.Goals as goal

pub write_kekulized-requires : goal.write_kekulized-requires
write_kekulized-requires c = record { m_value = c.settle_by-c.ensures.still_sound c.in-Ok.is; max_text_in_bounds = c.requires.max_text_in_bounds }

pub returns-in-Ok : goal.returns-in-Ok
returns-in-Ok c = c.write_kekulized.ensures ∙ is-settled _ _ _ _ _ _ _ _ _ _ c.requires.has_first c.settle_by-c.ensures c.in-Ok.is

pub returns-in-Err : goal.returns-in-Err
returns-in-Err c = c.refuse.ensures ∙ not-settled _ _ _ _ _ _ _ _ _ _ c.requires.has_first c.settle_by-c.ensures c.in-Err.is
