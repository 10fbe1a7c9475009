use mathlib.Core.Path.{refl, sym}
use lib.Seq.{length-take-le}
use Rattle.ids.specs.Limits.{max_text}
use Rattle.standard.proofs.Calls.{writable-facts}
use Rattle.standard.proofs.Kekulized.{numbers-long}
use Rattle.report_entry.proofs.Calls.{said-as, text-long, blank-written, written-accepted, written-refused, text-within, buffer-fits}
use Rattle.report_entry.proofs.report_kekulized.Goals as goal

pub write_valid-requires : goal.write_valid-requires
write_valid-requires c = let u = writable-facts c.requires.1 in record { valid = u.0; m_value = u.1; max_text_in_bounds = (text-long, numbers-long) }

pub slice_bounds-accepted-end : goal.slice_bounds-accepted-end
slice_bounds-accepted-end c = sym (length-take-le _ _ c.requires.0)

pub slice_bounds-text-end : goal.slice_bounds-text-end
slice_bounds-text-end c = buffer-fits c.write_valid.new.out _ max_text c.write_valid.auto.out (text-within _ _ _ _ _ _ _ (blank-written c.requires.1 c.write_valid.result c.write_valid.new.out c.write_valid.new.ren c.write_valid.ensures) c.in-Ok.is)

pub slice_bounds-accepted-end-in-Ok : goal.slice_bounds-accepted-end-in-Ok
slice_bounds-accepted-end-in-Ok c = sym (length-take-le c.in-Ok.size _ (buffer-fits c.write_valid.new.out _ max_text c.write_valid.auto.out (text-within _ _ _ _ _ _ _ (blank-written c.requires.1 c.write_valid.result c.write_valid.new.out c.write_valid.new.ren c.write_valid.ensures) c.in-Ok.is)))

pub returns-in-Ok : goal.returns-in-Ok
returns-in-Ok c = said-as (written-accepted _ _ _ _ _ _ _ _ _ (blank-written c.requires.1 c.write_valid.result c.write_valid.new.out c.write_valid.new.ren c.write_valid.ensures) c.in-Ok.is) (record { text = c.accepted-at.ensures; flag = refl })

pub returns-in-Err : goal.returns-in-Err
returns-in-Err c = said-as (written-refused _ _ _ _ _ _ _ _ _ (blank-written c.requires.1 c.write_valid.result c.write_valid.new.out c.write_valid.new.ren c.write_valid.ensures) c.in-Err.is) c.refuse.ensures
