use Rattle.writer.proofs.Answer.{zeroed, short1, short2, short3, told13, told-valid}
use Rattle.table.proofs.Sound.{sound-valid, sound-late, late-none}
use borrow.Author.Tests.{not-true, not-false}
use mathlib.Core.Path.{refl, sym, ◌∙◌}
use Rattle.writer.proofs.write.Goals as goal

pub returns-then-not-enough : goal.returns-then-not-enough
returns-then-not-enough c = short1 _ _ _ _ _ _ (sym c.enough.ensures ∙ not-true _ c.if-not-enough.true-raw)

pub returns-then-out-lt-MAX_TEXT : goal.returns-then-out-lt-MAX_TEXT
returns-then-out-lt-MAX_TEXT c = short2 _ _ _ _ _ _ (sym c.enough.ensures ∙ not-false _ c.if-not-enough.false-raw) c.if-out-lt-MAX_TEXT.true

pub returns-then-ren-lt-MAX_ATOMS : goal.returns-then-ren-lt-MAX_ATOMS
returns-then-ren-lt-MAX_ATOMS c = short3 _ _ _ _ _ _ (sym c.enough.ensures ∙ not-false _ c.if-not-enough.false-raw) c.if-out-lt-MAX_TEXT.false c.if-ren-lt-MAX_ATOMS.true

pub returns-then-not-sound : goal.returns-then-not-sound
returns-then-not-sound c = let a = c.args in zeroed 13 a.out.now a.ren.now a.out.now c.clear_all.new.out c.clear_all.new.ren refl c.clear_all.ensures.out_after c.clear_all.ensures.ren_after ∙ told13 _ _ _ _ _ _ (sym c.enough.ensures ∙ not-false _ c.if-not-enough.false-raw) c.if-out-lt-MAX_TEXT.false c.if-ren-lt-MAX_ATOMS.false (sym c.sound.ensures ∙ not-true _ c.if-not-sound.true-raw)

pub write_valid-requires : goal.write_valid-requires
write_valid-requires c = let t = sym c.sound.ensures ∙ not-false _ c.if-not-sound.false-raw in
    record { valid = sound-valid _ _ _ _ t; m_value = (late-none _ _ _ _ (sound-late _ _ _ _ t)).fit; max_text_in_bounds = (c.if-out-lt-MAX_TEXT.false, c.if-ren-lt-MAX_ATOMS.false) }

pub returns : goal.returns
returns c = c.write_valid.ensures ∙ told-valid _ _ _ _ _ _ (sym c.enough.ensures ∙ not-false _ c.if-not-enough.false-raw) c.if-out-lt-MAX_TEXT.false c.if-ren-lt-MAX_ATOMS.false (sym c.sound.ensures ∙ not-false _ c.if-not-sound.false-raw)
