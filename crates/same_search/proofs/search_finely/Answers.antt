use Prim.Native.Nat.{ℕ}
use mathlib.Core.Path.{sym, ◌∙◌}
use native.Mathlib.Omega.{arith}
use lib.ListN.{length-replicate}
use Rattle.same_finer.proofs.Keeping.{weighed}
use Rattle.same_search.proofs.Start.{fair, keeps-start, level-start, as-whole}
use Rattle.same_search.proofs.search_finely.Goals as goal

pub returns-then-not-fair1-fair2 : goal.returns-then-not-fair1-fair2
returns-then-not-fair1-fair2 c = as-whole _ _ _ c.solve.ensures

pub make_finer-requires : goal.make_finer-requires
make_finer-requires c = let l = length-replicate {A = ℕ} 64 0 in (c.requires.few, omega (arith, c.requires.few, c.guess_first.ensures), c.fill_weighty.ensures)

pub make_finer-requires-2 : goal.make_finer-requires-2
make_finer-requires-2 c = let l = length-replicate {A = ℕ} 64 0 in (c.requires.few, omega (arith, c.requires.few, c.guess_second.ensures), c.fill_weighty-2.ensures)

pub search-requires : goal.search-requires
search-requires c = let l = length-replicate {A = ℕ} 64 0 in
    let f = fair _ _ _ c.if-not-fair1-fair2.false-raw in record {
      prefix = c.requires;
      level = level-start c.args.ren.now 4
          (weighed c.args.sides.o1.now _ c.args.sides.n _ c.requires.few c.fill_weights.ensures (sym c.is_mirrored-fair1.ensures ∙ f.0))
          (weighed c.args.sides.o2.now _ c.args.sides.n _ c.requires.few c.fill_weights-2.ensures (sym c.is_mirrored-fair2.ensures ∙ f.1))
          (keeps-start c.args.sides.o1.now c.args.sides.o2.now c.args.sides.ok.now c.args.sides.n c.args.ren.now _ _ c.requires.few (omega (arith, c.requires.few, c.guess_first.ensures)) (omega (arith, c.requires.few, c.guess_second.ensures)) (sym c.agree-fair.ensures ∙ f.2))
          c.make_finer.ensures c.make_finer-2.ensures;
      nears = (c.fill_weighty.ensures, c.fill_weighty-2.ensures);
    }

pub returns : goal.returns
returns c = as-whole _ _ _ c.search.ensures
