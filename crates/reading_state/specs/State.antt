-- 01, The text: "What steers the reading is the hub, the open branches and the open bridges"
use Rattle.std.specs.Prelude.{ℕ, ◌+◌, ◌-◌, ◌*◌, List, get_or, set, replicate, eqb, ltb, Option, Some, None}
use Rattle.loops.specs.Loop.{pick}
use Rattle.ids.specs.declared.AtomId.{AtomId}
use Rattle.table.specs.Limits.{max_atoms, max_bonds}
use Rattle.ids.specs.Limits.{max_depth, bridges}
use Rattle.reading_state.specs.declared.State.{State}
use Rattle.reading_state.specs.declared.Opening.{Opening}

pub record Steering : Type 0 where
  -- the atom to which the next one is joined
  pub hub : AtomId
  -- how many atoms and bonds there are so far
  pub atoms : ℕ
  pub bonds : ℕ
  -- how many branches are open, and the hub of each; 0 past the depth
  pub depth : ℕ
  pub stack : List ℕ
  -- of each bridge number: the opening atom and one, or 0 where it is free
  pub opener : List ℕ
  -- of each open bridge: the kind of its opening's symbol, and the opening's offset
  pub symbol : List ℕ
  pub offset : List ℕ
  -- 1 for each atom that stood outside brackets
  pub outside : List ℕ
  -- of each bond two numbers: the offset and one of a bridge's digit or `%` at its first end, and of that at its second; 0 where it is no bridge
  pub keys : List ℕ

-- two numbers for each bond
abbrev pub key_count : ℕ
key_count = 2 * max_bonds

-- the code's state, and the three arrays that are lent beside it: the offsets of openings, which atoms stood outside brackets, and the keys of bonds
abbrev pub steering : State → List ℕ → List ℕ → List ℕ → Steering
steering s p x y =
    record {
      hub = s.hub;
      atoms = s.atoms;
      bonds = s.bonds;
      depth = s.depth;
      stack = s.hubs;
      opener = s.openers;
      symbol = s.symbols;
      offset = p;
      outside = x;
      keys = y;
    }

-- nothing is read yet
unfoldable pub started : Steering
started =
    record {
      hub = record { 0 = 0 };
      atoms = 0;
      bonds = 0;
      depth = 0;
      stack = replicate max_depth 0;
      opener = replicate bridges 0;
      symbol = replicate bridges 0;
      offset = replicate bridges 0;
      outside = replicate max_atoms 0;
      keys = replicate key_count 0;
    }

-- one atom more, which is the hub; x: 1 if it stands outside brackets; m: the bonds then
abbrev pub with_next_atom : Steering → ℕ → ℕ → Steering
with_next_atom s x m =
    record {
      hub = record { 0 = s.atoms };
      atoms = s.atoms + 1;
      bonds = m;
      depth = s.depth;
      stack = s.stack;
      opener = s.opener;
      symbol = s.symbol;
      offset = s.offset;
      outside = set s.outside s.atoms x;
      keys = s.keys;
    }

-- "(": the hub is remembered
unfoldable pub opened : Steering → Steering
opened s =
    record {
      hub = s.hub;
      atoms = s.atoms;
      bonds = s.bonds;
      depth = s.depth + 1;
      stack = set s.stack s.depth s.hub.0;
      opener = s.opener;
      symbol = s.symbol;
      offset = s.offset;
      outside = s.outside;
      keys = s.keys;
    }

-- ")": the hub "is again the atom it was before the matching `(`"
unfoldable pub closed : Steering → Steering
closed s =
    record {
      hub = record { 0 = get_or s.stack (s.depth - 1) 0 };
      atoms = s.atoms;
      bonds = s.bonds;
      depth = s.depth - 1;
      stack = set s.stack (s.depth - 1) 0;
      opener = s.opener;
      symbol = s.symbol;
      offset = s.offset;
      outside = s.outside;
      keys = s.keys;
    }

-- where a bridge number was opened: nowhere, or at an atom with a symbol of a kind
unfoldable pub opening_of : Steering → ℕ → Option Opening
opening_of s r = pick (eqb (get_or s.opener r 0) 0) None (Some (record { atom = record { 0 = get_or s.opener r 0 - 1 }; symbol = get_or s.symbol r 0 }))

-- 02, P8: "bridges as their digits stand in the text at this atom": the keys of the bond b, its digits standing at p at its first end and at q at its second
abbrev pub keyed : List ℕ → ℕ → ℕ → ℕ → List ℕ
keyed keys b p q = set (set keys (2 * b) (p + 1)) (2 * b + 1) (q + 1)

-- the same of the bridge r that closes at p: its opening atom or the hub is the first end, the lower of the two
abbrev pub keys_after : Steering → ℕ → ℕ → List ℕ
keys_after s r p =
    pick (ltb (get_or s.opener r 0 - 1) s.hub.0)
    (keyed s.keys s.bonds (get_or s.offset r 0) p)
    (keyed s.keys s.bonds p (get_or s.offset r 0))

-- the keys then: of a bridge that opens, they stay
abbrev pub keys_then : Steering → ℕ → ℕ → List ℕ
keys_then s r p = pick (eqb (get_or s.opener r 0) 0) s.keys (keys_after s r p)

-- a bridge number with another opener (the atom and one; 0: free), symbol and offset, and a bond count with keys
abbrev pub bridged : Steering → ℕ → ℕ → ℕ → ℕ → ℕ → List ℕ → Steering
bridged s r a k p m y =
    record {
      hub = s.hub;
      atoms = s.atoms;
      bonds = m;
      depth = s.depth;
      stack = s.stack;
      opener = set s.opener r a;
      symbol = set s.symbol r k;
      offset = set s.offset r p;
      outside = s.outside;
      keys = y;
    }

-- "A number that is not open opens at the hub; an open one joins its opening atom to the hub and is free again, at once."
unfoldable pub joined : Steering → ℕ → ℕ → ℕ → Steering
joined s r k p =
    pick (eqb (get_or s.opener r 0) 0)
    (bridged s r (s.hub.0 + 1) k p s.bonds s.keys)
    (bridged s r 0 0 0 (s.bonds + 1) (keys_after s r p))
