use Rattle.same_model.specs.Same.{molecule}
use Rattle.same.proofs.Answers.{say-short, say-invalid, say-many, say-unlike, say-same, say-different, ask-first, ask-second, ask-third, recount, reready}
use Rattle.same.proofs.same.Goals as goal

pub returns-then-not-roomy : goal.returns-then-not-roomy
returns-then-not-roomy c = let x = molecule c.args.tables1.atoms.now c.args.tables1.bonds.now c.args.tables1.n c.args.tables1.m in
    let y = molecule c.args.tables2.atoms.now c.args.tables2.bonds.now c.args.tables2.n c.args.tables2.m in
    say-short x y c.args.row1.now c.args.row2.now c.args.ren.now c.roomy.ensures c.if-not-roomy.true-raw

pub returns-then-not-first-second : goal.returns-then-not-first-second
returns-then-not-first-second c = let x = molecule c.args.tables1.atoms.now c.args.tables1.bonds.now c.args.tables1.n c.args.tables1.m in
    let y = molecule c.args.tables2.atoms.now c.args.tables2.bonds.now c.args.tables2.n c.args.tables2.m in
    say-invalid x y c.args.row1.now c.args.row2.now c.args.ren.now c.roomy.ensures c.if-not-roomy.false-raw c.sound-first.ensures c.sound-second.ensures c.if-not-first-second.true-raw c.clear_all.ensures.row1_after c.clear_all.ensures.row2_after c.clear_all.ensures.ren_after

pub returns-then-not-n1-n2 : goal.returns-then-not-n1-n2
returns-then-not-n1-n2 c = let x = molecule c.args.tables1.atoms.now c.args.tables1.bonds.now c.args.tables1.n c.args.tables1.m in
    let y = molecule c.args.tables2.atoms.now c.args.tables2.bonds.now c.args.tables2.n c.args.tables2.m in
    say-many x y c.args.row1.now c.args.row2.now c.args.ren.now c.roomy.ensures c.if-not-roomy.false-raw c.sound-first.ensures c.sound-second.ensures c.if-not-first-second.false-raw c.if-not-n1-n2.true-raw c.clear_all-then-not-n1-n2.ensures.row1_after c.clear_all-then-not-n1-n2.ensures.row2_after c.clear_all-then-not-n1-n2.ensures.ren_after

pub returns-then-n1-n2 : goal.returns-then-n1-n2
returns-then-n1-n2 c = let x = molecule c.args.tables1.atoms.now c.args.tables1.bonds.now c.args.tables1.n c.args.tables1.m in
    let y = molecule c.args.tables2.atoms.now c.args.tables2.bonds.now c.args.tables2.n c.args.tables2.m in
    say-unlike x y c.args.row1.now c.args.row2.now c.args.ren.now c.roomy.ensures c.if-not-roomy.false-raw c.sound-first.ensures c.sound-second.ensures c.if-not-first-second.false-raw c.if-not-n1-n2.false-raw c.if-n1-n2.true c.clear_all-then-n1-n2.ensures.row1_after c.clear_all-then-n1-n2.ensures.row2_after c.clear_all-then-n1-n2.ensures.ren_after

pub decide_equal-requires : goal.decide_equal-requires
decide_equal-requires c = let x = molecule c.args.tables1.atoms.now c.args.tables1.bonds.now c.args.tables1.n c.args.tables1.m in
    let y = molecule c.args.tables2.atoms.now c.args.tables2.bonds.now c.args.tables2.n c.args.tables2.m in
    record { ready = ask-first x y c.args.row1.now c.args.row2.now c.args.ren.now c.roomy.ensures c.if-not-roomy.false-raw c.sound-first.ensures c.sound-second.ensures c.if-not-first-second.false-raw c.if-not-n1-n2.false-raw; ready_2 = reready c.if-n1-n2.false (ask-second x y c.args.row1.now c.args.row2.now c.args.ren.now c.roomy.ensures c.if-not-roomy.false-raw c.sound-first.ensures c.sound-second.ensures c.if-not-first-second.false-raw c.if-not-n1-n2.false-raw); n_in_bounds = ask-third x y c.args.row1.now c.args.row2.now c.args.ren.now c.roomy.ensures c.if-not-roomy.false-raw c.sound-first.ensures c.sound-second.ensures c.if-not-first-second.false-raw c.if-not-n1-n2.false-raw }

pub returns-then-decide_equal : goal.returns-then-decide_equal
returns-then-decide_equal c = let x = molecule c.args.tables1.atoms.now c.args.tables1.bonds.now c.args.tables1.n c.args.tables1.m in
    let y = molecule c.args.tables2.atoms.now c.args.tables2.bonds.now c.args.tables2.n c.args.tables2.m in
    say-same x y c.args.row1.now c.args.row2.now c.args.ren.now c.roomy.ensures c.if-not-roomy.false-raw c.sound-first.ensures c.sound-second.ensures c.if-not-first-second.false-raw c.if-not-n1-n2.false-raw (recount c.if-n1-n2.false c.decide_equal.ensures) c.if-decide_equal.true

pub returns : goal.returns
returns c = let x = molecule c.args.tables1.atoms.now c.args.tables1.bonds.now c.args.tables1.n c.args.tables1.m in
    let y = molecule c.args.tables2.atoms.now c.args.tables2.bonds.now c.args.tables2.n c.args.tables2.m in
    say-different x y c.args.row1.now c.args.row2.now c.args.ren.now c.roomy.ensures c.if-not-roomy.false-raw c.sound-first.ensures c.sound-second.ensures c.if-not-first-second.false-raw c.if-not-n1-n2.false-raw (recount c.if-n1-n2.false c.decide_equal.ensures) c.if-decide_equal.false c.clear_all-2.ensures.row1_after c.clear_all-2.ensures.row2_after c.clear_all-2.ensures.ren_after
