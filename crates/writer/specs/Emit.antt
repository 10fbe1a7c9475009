-- auxiliary: emission by arrays: what is written at an atom of the walk (01, Writing)
use Rattle.std.specs.Prelude.{ℕ, zero, suc, ◌<◌, ◌≤◌, ◌≡◌, Bool, true, false, not, ◌&&◌, List, [], ◌∷◌, ◌++◌, length, get_or, ℤ, eqb}
use Rattle.loops.specs.Loop.{pick, up_to}
use Rattle.table.specs.Limits.{max_atoms, max_bonds}
use Rattle.writing_walk.specs.Token.{Bond}
use Rattle.writing_walk.specs.Emit.{Slot, close_all, open_all}
use Rattle.writing_walk.specs.Same.{count, open_of, Within, pending}
use Rattle.writing.specs.Spell.{kind_bytes, spelled_atom}
use Rattle.buffer.specs.Buffer.{BufferAt, Wrote}
use Rattle.writing_atoms.specs.Fields.{AtomFits}
use Rattle.writing_bridges.specs.Slots.{Bridged, Slots, closes_from, opens_from, close_bytes, open_bytes, fits}

unfoldable pub leave_bytes : ℕ → ℕ → List ℕ
leave_bytes up x = pick (eqb up x) [] (41 ∷ [])

unfoldable pub enter_bytes : Bool → List ℕ
enter_bytes true = 40 ∷ []
enter_bytes false = []

-- what stands before the atom x: nothing at the start, a dot before a further piece, `)` before a child that is not the first, `(` before one that is not the last, and the bond's symbol
unfoldable pub lead_bytes : ℕ → ℕ → Bool → ℕ → List ℕ
lead_bytes x zero more k = pick (eqb x 0) [] (46 ∷ [])
lead_bytes x (suc p) more k = leave_bytes (suc p) x ++ (enter_bytes more ++ kind_bytes k)

-- a later atom has the same parent
abbrev pub more_at : List ℕ → List ℕ → ℕ → Bool
more_at up last x = not (eqb (get_or last (get_or up x 0) 0) x)

-- the arrays are ready for the atom x
pub record Ready (atoms : List ℤ) (order up kind last sums written los his kinds : List ℕ) (k x : ℕ) : Type 0 where
  pub few : x < max_atoms
  pub here : x < length order
  pub parent : x < length up
  pub bond : x < length kind
  pub later : get_or up x 0 < length last
  pub atom : get_or order x 0 < max_atoms
  pub sum : get_or order x 0 < length sums
  pub mark : get_or order x 0 < length written
  pub fits : AtomFits atoms (get_or order x 0)
  pub bridges : k ≤ max_bonds
  pub lower : k ≤ length los
  pub higher : k ≤ length his
  pub opened : k ≤ length kinds

-- the bytes of the atom x before its bridges
abbrev pub head_bytes : List ℤ → List ℕ → List ℕ → List ℕ → List ℕ → List ℕ → List ℕ → ℕ → List ℕ
head_bytes atoms order up kind last sums written x =
    lead_bytes x (get_or up x 0) (more_at up last x) (get_or kind x 0) ++ spelled_atom atoms (get_or order x 0) (get_or written (get_or order x 0) 0) (get_or sums (get_or order x 0) 0)

-- the atom x was written, unless the bridge numbers did not suffice
pub record Emitted (atoms : List ℤ) (order up kind last sums written los his kinds : List ℕ) (k x : ℕ) (a c : List ℕ) (few : Bool) (p q : BufferAt) : Type 0 where
  pub told : (f : ℕ → Bond) (n : ℕ) (t : List Slot) → Bridged f n k los his → ((i : ℕ) → i < k → (f i).kind ≡ get_or kinds i 0) → Slots f k a t → Within (closes_from f n k x 0) (open_of t)
      → (few ≡ fits (length a) (opens_from f n k x 0) (close_all (closes_from f n k x 0) t))
      × (few ≡ true → Wrote (head_bytes atoms order up kind last sums written x ++ (close_bytes (closes_from f n k x 0) t ++ open_bytes (opens_from f n k x 0) (close_all (closes_from f n k x 0) t))) p q
      × Slots f k c (open_all (opens_from f n k x 0) (close_all (closes_from f n k x 0) t)))

-- what stands open when the atom x begins
abbrev pub Pending : List Bond → ℕ → List Slot → Type 0
Pending N x t = (p : Bond → Bool) → count p (open_of t) ≡ count (λ b. p b && pending x b) N

-- the slots after the atom x
abbrev pub next_slots : (ℕ → Bond) → ℕ → ℕ → ℕ → List Slot → List Slot
next_slots f n k x t = open_all (opens_from f n k x 0) (close_all (closes_from f n k x 0) t)

-- the bytes of d atoms from x on, head x being the bytes of an atom before its bridges
unfoldable pub bytes_from : (ℕ → List ℕ) → (ℕ → Bond) → ℕ → ℕ → ℕ → ℕ → List Slot → List ℕ
bytes_from head f n k x zero t = []
bytes_from head f n k x (suc d) t =
    (head x ++ (close_bytes (closes_from f n k x 0) t ++ open_bytes (opens_from f n k x 0) (close_all (closes_from f n k x 0) t))) ++ bytes_from head f n k (suc x) d (next_slots f n k x t)

-- the bridge numbers below m suffice
unfoldable pub few_from : ℕ → (ℕ → Bond) → ℕ → ℕ → ℕ → ℕ → List Slot → Bool
few_from m f n k x zero t = true
few_from m f n k x (suc d) t = fits m (opens_from f n k x 0) (close_all (closes_from f n k x 0) t) && few_from m f n k (suc x) d (next_slots f n k x t)

-- all n atoms were written, unless the bridge numbers did not suffice
pub record Texted (head : ℕ → List ℕ) (los his kinds : List ℕ) (n k : ℕ) (a : List ℕ) (few : Bool) (p q : BufferAt) : Type 0 where
  pub told : (f : ℕ → Bond) (t : List Slot) → Bridged f n k los his → ((i : ℕ) → i < k → (f i).kind ≡ get_or kinds i 0) → Slots f k a t → Pending (up_to f 0 k) 0 t
      → (few ≡ few_from (length a) f n k 0 n t) × (few ≡ true → Wrote (bytes_from head f n k 0 n t) p q)
