use native.Mathlib.Omega.{arith}
use mathlib.Core.Path.{◌≡◌, sym, ◌∙◌}
use mir.Facts.{to_z-of_z}
use Rattle.table.proofs.Keys.{short_row, held}
use Rattle.table_validity.proofs.row_key.Goals as goal

pub returns-then-not-bond_row_ok : goal.returns-then-not-bond_row_ok
returns-then-not-bond_row_ok c = λ k h. absurd (cc)

pub bond_row_ok-requires : goal.bond_row_ok-requires
bond_row_ok-requires c = c.requires.fits

pub key_of-requires : goal.key_of-requires
key_of-requires c = let s = short_row _ _ _ _ (omega arith) (held c.bond_row_ok.ensures c.if-not-bond_row_ok.false-raw) in
    let e = simp (to_z-of_z c.requires.fits.first) at c.number.ensures in
    let f = simp (to_z-of_z c.requires.fits.second) at c.number-2.ensures in
    (omega (arith, s.0, e), omega (arith, s.1, f))

pub returns : goal.returns
returns c = let f = c.requires.fits in
    let ok = held c.bond_row_ok.ensures c.if-not-bond_row_ok.false-raw in
    λ k h. let e : c.key_of.result ≡ k = cc in (
      ok,
      sym e ∙ c.key_of.ensures ∙ simp (c.number-2.ensures, c.number.ensures, to_z-of_z f.first, to_z-of_z f.second),
    )
