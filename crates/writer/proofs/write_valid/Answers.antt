use Rattle.writer.proofs.Answer.{part-long, zeroed, tells-refused, told16, told0}
use Rattle.refusal.specs.Code.{code_of}
use Rattle.ids.specs.Limits.{max_text}
use lib.Seq.{length-take-le}
use lib.ListN.{drop}
use mathlib.Core.List.{◌++◌}
use mathlib.Core.Path.{refl, sym, ◌∙◌}
use native.Mathlib.Omega.{arith}
use Rattle.writer.proofs.write_valid.Goals as goal

pub slice_bounds-text-end-3 : goal.slice_bounds-text-end-3
slice_bounds-text-end-3 c = sym (length-take-le max_text c.args.out.now c.requires.max_text_in_bounds.0)

pub text-requires : goal.text-requires
text-requires c = record { valid = c.requires.valid; m_value = c.requires.m_value; number_value = (refl, omega (arith, c.requires.valid.atoms_few)) }

pub returns-in-Err : goal.returns-in-Err
returns-in-Err c = let room = c.requires.max_text_in_bounds.0 in
    let out = c.args.out.now in
    let ren = c.args.ren.now in
    let t = c.text in
    let o = t.new.out in
    let k = t.auto.out in
    let z = c.clear_all in
    zeroed (code_of c.in-Err.refusal) out ren (o ++ drop max_text out) z.new.out z.new.ren (part-long o out k room) z.ensures.out_after z.ensures.ren_after ∙ tells-refused c.in-Err.ensures.said _ out ren

pub returns-then-at-gt-MAX_TEXT : goal.returns-then-at-gt-MAX_TEXT
returns-then-at-gt-MAX_TEXT c = let room = c.requires.max_text_in_bounds.0 in
    let out = c.args.out.now in
    let ren = c.args.ren.now in
    let t = c.text in
    let o = t.new.out in
    let k = t.auto.out in
    let z = c.clear_all-then-at-gt-MAX_TEXT in
    zeroed 16 out ren (o ++ drop max_text out) z.new.out z.new.ren (part-long o out k room) z.ensures.out_after z.ensures.ren_after ∙ told16 out ren o _ room k c.in-Ok.ensures.said refl refl c.if-at-gt-MAX_TEXT.true

pub renumber-requires : goal.renumber-requires
renumber-requires c = let v = c.requires.valid in
    let n = c.text.ensures.counted in
    record { n_in_bounds = (n.long, omega (arith, v.atoms_few, c.requires.max_text_in_bounds.1)); by_index = λ a h. (let q = n.place_at a h in omega arith) }

pub returns : goal.returns
returns c = let room = c.requires.max_text_in_bounds.0 in
    let out = c.args.out.now in
    let ren = c.args.ren.now in
    let t = c.text in
    let o = t.new.out in
    let k = t.auto.out in
    let f = c.clear_from in
    let r = c.renumber in
    told0 out ren o _ room k c.in-Ok.ensures.said refl refl c.if-at-gt-MAX_TEXT.false t.new.number f.new.out r.new.ren c.in-Ok.ensures.counted.place_at f.ensures r.ensures
