use mathlib.Core.Path.{refl, sym, ◌∙◌}
use Rattle.matching.specs.declared.Call.TheVariants.{First}
use Rattle.table_graph.proofs.Graph.{flags-built, built-shape, length-first, length-second, length-elided, length-flags}
use Rattle.kekule.proofs.Kekule.{first-built}
use Rattle.kekule.proofs.Unselected.{unselected-first}
use Rattle.kekule.proofs.search_wired.Goals as goal

pub returns-then-none_selected : goal.returns-then-none_selected
returns-then-none_selected c = let a = c.args in
    λ bonds p. unselected-first a.atoms.now bonds a.n a.m a.row.now (sym c.none_selected.ensures ∙ c.if-none_selected.true) c.requires.n_in_bounds.1 c.give_zeros.ensures

pub fill_flags-requires : goal.fill_flags-requires
fill_flags-requires c = let p = c.requires.prepared.1 in
    record { few = p.valid.atoms_few; summed = p.room; room = c.requires.n_in_bounds.0 }

pub slice_bounds-first-end : goal.slice_bounds-first-end
slice_bounds-first-end c = sym (length-first (flags-built _ c.requires.prepared.1 c.fill_flags.ensures))

pub slice_bounds-first-end-2 : goal.slice_bounds-first-end-2
slice_bounds-first-end-2 c = sym (length-second (flags-built _ c.requires.prepared.1 c.fill_flags.ensures))

pub slice_bounds-first-end-3 : goal.slice_bounds-first-end-3
slice_bounds-first-end-3 c = sym (length-elided (flags-built _ c.requires.prepared.1 c.fill_flags.ensures))

pub slice_bounds-first-end-5 : goal.slice_bounds-first-end-5
slice_bounds-first-end-5 c = sym (length-flags (flags-built _ c.requires.prepared.1 c.fill_flags.ensures))

pub first-requires : goal.first-requires
first-requires c = built-shape (flags-built _ c.requires.prepared.1 c.fill_flags.ensures) c.requires.prepared.1.valid _ c.requires.n_in_bounds.1

pub returns : goal.returns
returns c = λ bonds p. first-built (flags-built _ p c.fill_flags.ensures) First c.args.row.now refl c.first.ensures.row_after
