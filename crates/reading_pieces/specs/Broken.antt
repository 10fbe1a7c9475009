-- 02, P11: "State handed in by the caller is refused as 25 exactly when ..": a test for each item of the list, in its order
use Rattle.std.specs.Prelude.{ℕ, ◌≤◌, ◌<◌, ◌≡◌, Bool, false, ◌&&◌, ◌||◌, not, List, get_or, ℤ, pos, negsuc, eqb, leb, ltb}
use Rattle.loops.specs.Loop.{pick, each}
use Rattle.ids.specs.Limits.{max_text, max_depth, bridges}
use Rattle.table.specs.Cells.{in_range}
use Rattle.table.specs.Valid.{valid, Valid, max_mark}
use Rattle.reading_pieces.specs.declared.Paused.{Paused}
use Rattle.reading_pieces.specs.State.{goes_on}

-- "the tables and counts are not sound (what 20 to 23 refuse apart)"
abbrev pub unsound : Paused → List ℤ → List ℤ → Bool
unsound p atoms bonds = not (valid atoms bonds p.atoms p.bonds)

-- "the hub .. is not below the atom count (before the first atom there is no hub ..)": the cell is 0 then
abbrev pub hub_astray : Paused → Bool
hub_astray p = pick (eqb p.atoms 0) (not (eqb p.hub 0)) (leb p.atoms p.hub)

-- ".. or the atom of an open branch"
unfoldable pub branch_astray : Paused → Bool
branch_astray p = not (each (λ i. ltb (get_or p.hubs i 0) p.atoms) 0 p.depth)

-- ".. or bridge is not below the atom count"
unfoldable pub bridge_astray : Paused → Bool
bridge_astray p = not (each (λ r. leb (get_or p.openers r 0) p.atoms) 0 bridges)

-- "over 64 branches are open"
abbrev pub deep : Paused → Bool
deep p = ltb max_depth p.depth

-- "more bytes are said to be read than a text may have"
abbrev pub overread : Paused → Bool
overread p = ltb max_text p.read

-- the machine is in a bracket, or between the digits of a bridge's number
abbrev pub in_bracket : Paused → Bool
in_bracket p = leb 10 p.mode

abbrev pub in_number : Paused → Bool
in_number p = eqb p.mode 7

-- a field of the bracket is above its largest value
unfoldable pub field_above : Paused → Bool
field_above p =
    ltb 999 p.isotope || ltb 118 p.element || ltb 1 p.selected || ltb max_mark p.mark || ltb 9 p.hydrogens
    || not (in_range p.charge (negsuc 8) (pos 9)) || ltb 9999 p.extension

-- "a half-read field is above its largest value": of a bracket, or a bridge's first digit
abbrev pub half_read_above : Paused → Bool
half_read_above p = (in_bracket p && field_above p) || (in_number p && ltb 9 p.tens)

-- "a reading once refused or ended holds no hub, branch or bridge": their cells are not looked at then
abbrev pub astray : Paused → Bool
astray p = hub_astray p || branch_astray p || bridge_astray p || deep p

unfoldable pub broken_of : Paused → List ℤ → List ℤ → Bool
broken_of p atoms bonds = unsound p atoms bonds || (goes_on p && astray p) || overread p || half_read_above p

-- ---- the list in words

-- a field of the bracket so far is above its largest value
pub data FieldAbove (p : Paused) : Type 0 where
  isotope : 999 < p.isotope → FieldAbove p
  element : 118 < p.element → FieldAbove p
  selected : 1 < p.selected → FieldAbove p
  mark : max_mark < p.mark → FieldAbove p
  hydrogens : 9 < p.hydrogens → FieldAbove p
  charge : in_range p.charge (negsuc 8) (pos 9) ≡ false → FieldAbove p
  extension : 9999 < p.extension → FieldAbove p

pub data Broken (p : Paused) (atoms bonds : List ℤ) : Type 0 where
  -- "the tables and counts are not sound (what 20 to 23 refuse apart)"
  tables : (Valid atoms bonds p.atoms p.bonds → ⊥) → Broken p atoms bonds
  -- "the hub or the atom of an open branch or bridge is not below the atom count (before the first atom there is no hub, and a reading once refused or ended holds no hub, branch or bridge)"
  early_hub : p.told ≡ 0 → p.atoms ≡ 0 → (p.hub ≡ 0 → ⊥) → Broken p atoms bonds
  hub : p.told ≡ 0 → 0 < p.atoms → p.atoms ≤ p.hub → Broken p atoms bonds
  branch : p.told ≡ 0 → (i : ℕ) → i < p.depth → p.atoms ≤ get_or p.hubs i 0 → Broken p atoms bonds
  bridge : p.told ≡ 0 → (r : ℕ) → r < bridges → p.atoms < get_or p.openers r 0 → Broken p atoms bonds
  -- "over 64 branches are open"
  branches : p.told ≡ 0 → max_depth < p.depth → Broken p atoms bonds
  -- "more bytes are said to be read than a text may have"
  bytes : max_text < p.read → Broken p atoms bonds
  -- "or a half-read field is above its largest value"
  field : 10 ≤ p.mode → FieldAbove p → Broken p atoms bonds
  digit : p.mode ≡ 7 → 9 < p.tens → Broken p atoms bonds
