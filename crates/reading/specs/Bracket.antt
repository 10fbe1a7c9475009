-- 01, The text: "the fields of a bracket": what each byte of a bracket says of its atom
use Rattle.std.specs.Prelude.{ℕ, ◌+◌, ◌-◌, ◌*◌, Bool, true, false, [], ◌∷◌, ℤ, pos, negsuc, eqb}
use Rattle.loops.specs.Loop.{pick}
use Rattle.element.specs.Lookup.{number_of, selected_of}
use Rattle.reading_state.specs.declared.Fields.{Fields}

abbrev pub digit : ℕ → ℕ
digit b = b - 48

-- one digit more of the isotope
abbrev pub isotoped : ℕ → Fields → Fields
isotoped b f = record { element = f.element; selected = f.selected; isotope = 10 * f.isotope + digit b; hydrogens = f.hydrogens; charge = f.charge; extension = f.extension; mark = f.mark }

abbrev pub elemented : ℕ → ℕ → Fields → Fields
elemented e s f = record { element = e; selected = s; isotope = f.isotope; hydrogens = f.hydrogens; charge = f.charge; extension = f.extension; mark = f.mark }

-- a symbol's first byte: a selected letter, `*`, or an element's letter (0 where the letter alone is no symbol)
unfoldable pub symbolled : ℕ → Fields → Fields
symbolled b f = pick (eqb (selected_of b) 0) (elemented (number_of (b ∷ [])) 0 f) (elemented (selected_of b) 1 f)

-- 02, P8: "0 none, 1 for `@`, 2 for `@@`"
abbrev pub marked : ℕ → Fields → Fields
marked k f = record { element = f.element; selected = f.selected; isotope = f.isotope; hydrogens = f.hydrogens; charge = f.charge; extension = f.extension; mark = k }

abbrev pub hydrogened : ℕ → Fields → Fields
hydrogened h f = record { element = f.element; selected = f.selected; isotope = f.isotope; hydrogens = h; charge = f.charge; extension = f.extension; mark = f.mark }

abbrev pub charged : ℤ → Fields → Fields
charged c f = record { element = f.element; selected = f.selected; isotope = f.isotope; hydrogens = f.hydrogens; charge = c; extension = f.extension; mark = f.mark }

-- the charge of a sign and a size from 1 on: `+` is 43
abbrev pub signed : Bool → ℕ → ℤ
signed true n = pos n
signed false n = negsuc (n - 1)

abbrev pub positive : ℤ → Bool
positive (pos n) = true
positive (negsuc n) = false

-- one digit more of the extension
abbrev pub extended : ℕ → Fields → Fields
extended b f = record { element = f.element; selected = f.selected; isotope = f.isotope; hydrogens = f.hydrogens; charge = f.charge; extension = 10 * f.extension + digit b; mark = f.mark }
