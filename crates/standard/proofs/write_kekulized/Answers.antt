use Rattle.standard.proofs.Calls.{sound-facts, is-written, not_written}
use Rattle.standard.proofs.Kekulized.{numbers-long}
use Rattle.standard.proofs.write_kekulized.Goals as goal

pub write_valid-requires : goal.write_valid-requires
write_valid-requires c = let u = sound-facts c.requires.m_value in record { valid = u.0; m_value = u.1; max_text_in_bounds = (c.requires.max_text_in_bounds, numbers-long) }

pub returns-in-Ok : goal.returns-in-Ok
returns-in-Ok c = is-written _ _ _ _ _ _ _ _ _ c.write_valid.ensures c.in-Ok.is

pub returns-in-Err : goal.returns-in-Err
returns-in-Err c = not_written _ _ _ _ _ _ _ _ _ c.write_valid.ensures c.in-Err.is
