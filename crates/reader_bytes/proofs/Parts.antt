-- The parts of a byte's step: a law for each way that each can go. Assumes nothing.
use Prim.Native.Nat.{ℕ, zero, suc, ◌+◌, ◌-◌, ◌≤◌, ◌<◌}
use native.Mathlib.Omega.{arith}
use mathlib.Core.Path.{◌≡◌, refl, sym, ◌∙◌, subst}
use mathlib.Core.Bool.{Bool, true, false, ◌&&◌, not}
use mathlib.Core.List.{List, []}
use lib.ListN.{get_or, set}
use lib.IntN.{ℤ}
use lib.Dec.{eqb, leb, ltb}
use borrow.Author.Tests.{eq-eqb, ne_eqb, le-leb, lt-leb, leb-true, leb-false, lt-ltb, le-ltb}
use Rattle.loops.specs.Loop.{pick}
use Rattle.element.specs.declared.Letter.{Letter}
use Rattle.element.specs.declared.Letter.TheVariants.{Plain, Selected, Half, Bracket, Nothing}
use Rattle.kinds.specs.Kind.{max_kind, meet}
use Rattle.ids.specs.Limits.{max_depth, bridges}
use Rattle.refusal.specs.declared.Refusal.{Refusal}
use Rattle.refusal.specs.declared.Refusal.TheVariants.{DeepBranch}
use Rattle.table.specs.Limits.{max_atoms, max_bonds}
use Rattle.table.specs.Rows.{with_atom, put_atom, with_bond, put_bond}
use Rattle.table.specs.declared.Atom.{Atom}
use Rattle.table.specs.declared.Bond.{Bond}
use Rattle.reading_grammar.specs.Fold.{keeps, refuses}
use Rattle.reading_state.specs.declared.Fields.{Fields}
use Rattle.reading_state.specs.State.{keyed, joined, opened, closed}
use Rattle.reading.specs.Memory.{Memory, kind_of, after_dot, blank, bare_row, row_of, new_bond, between, begun, bonded, described, moved, close_refusal}
use Rattle.reading.specs.Act.{atom_act, first_byte_of, bridge_act, bridge_bond, branch_act, or_refuse}
use Rattle.reading_grammar.proofs.Ends.{never}
use Rattle.reading_pieces.specs.State.{pending_of}
use Rattle.reading_deeds.specs.declared.Deed.{Deed}
use Rattle.reading_pieces.specs.Safe.{Bounded}
use Rattle.reading_deeds.specs.Deed.{beginning, performed, Numbered}
use Rattle.std.specs.Prelude.{Result, Ok, Err}
use Rattle.reader.specs.declared.answer.TextRefusal.{TextRefusal}
use Rattle.reader.specs.Added.{Next, HasRoom, Admits}
use Rattle.reader.specs.Bridge.{Closes}
use Rattle.reader_bytes.specs.declared.Head.{Head}
use Rattle.reader_bytes.specs.Step.{Lent, lent, steering_in, memory_in}
use Rattle.reader_bytes.specs.Parts.{bonded_in, closing, Leaves, Went, Performs}

-- ---- what stands before the next atom or bridge
pub kind-dot : (k : ℕ) → 7 ≤ k → 0 ≡ kind_of (pending_of k)
kind-dot zero h = refl
kind-dot (suc k) h = rw (lt-leb k max_kind (omega arith))

pub kind-symbol : (k : ℕ) → (k ≡ 0 → ⊥) → k < 7 → k - 1 ≡ kind_of (pending_of k)
kind-symbol zero n h = absurd (n refl)
kind-symbol (suc k) n h = rw (le-leb k max_kind (omega arith)) (omega arith)

pub bonded-first : (n k : ℕ) → n ≡ 0 → false ≡ (not (eqb n 0) && not (after_dot (pending_of k)))
bonded-first n k e = rw (eq-eqb n 0 e)

no_dot : (k : ℕ) → ltb k 7 ≡ not (after_dot (pending_of k))
no_dot zero = refl
no_dot (suc k) = split (leb k max_kind) refl
  where
    split : (t : Bool) → leb k max_kind ≡ t → ltb (suc k) 7 ≡ not (after_dot (pending_of (suc k)))
    split true e = rw (e, lt-ltb (suc k) 7 (omega (arith, leb-true k max_kind e)))
    split false e = rw (e, le-ltb (suc k) 7 (omega (arith, leb-false k max_kind e)))

pub bonded-later : (n k : ℕ) → (n ≡ 0 → ⊥) → ltb k 7 ≡ (not (eqb n 0) && not (after_dot (pending_of k)))
bonded-later n k e = rw (ne_eqb n 0 e) (no_dot k)

-- ---- an atom
not_set : (w : Bool) → not w ≡ true → w ≡ false
not_set true e = never e
not_set false e = refl

is_set : (w : Bool) → not w ≡ false → w ≡ true
is_set true e = refl
is_set false e = never (sym e)

-- a bond fits where the atom is bonded
pub room-bond : (h : Head) {w : Bool} → HasRoom h.atoms h.bonds (bonded_in h) → w ≡ bonded_in h → not w ≡ false → h.bonds < max_bonds
room-bond h {w} r ew e = r.bond (sym ew ∙ is_set w e)

-- the numbers after the next atom, with the fields f and m bonds
abbrev next_atom : Head → Fields → ℕ → Head
next_atom h f m =
    record {
      mode = h.mode;
      pending = 0;
      tens = h.tens;
      draft = f;
      hub = record { 0 = h.atoms };
      atoms = h.atoms + 1;
      bonds = m;
      depth = h.depth;
    }

module _ (h : Head) (v : ℕ) (s o k p x y : List ℕ) (a b : List ℤ) {f : Fields} (ef : f ≡ blank) {w : Bool} (ew : w ≡ bonded_in h) where
  pub grown-alone : not w ≡ true → Leaves h (keeps (begun v (memory_in h (lent s o k p x y a b)))) (next_atom h f h.bonds) (lent s o k p (set x h.atoms v) y a b)
  unfolding begun
  grown-alone e = let q : bonded_in h ≡ false = sym ew ∙ not_set w e in record { is = rw (q, ef); mode = refl }

  pub grown-bonded : {c : ℕ} {z : Bond} {b' : List ℤ} → not w ≡ false → HasRoom h.atoms h.bonds (bonded_in h) → c ≡ kind_of (pending_of h.pending) → z ≡ new_bond h.hub.0 h.atoms c → b' ≡ put_bond b h.bonds z
      → Leaves h (keeps (begun v (memory_in h (lent s o k p x y a b)))) (next_atom h f (h.bonds + 1)) (lent s o k p (set x h.atoms v) y a b')
  unfolding begun put_bond
  grown-bonded {c} {z} {b'} e r ec ez eb =
      let q : bonded_in h ≡ true = sym ew ∙ is_set w e in
      let t : b' ≡ with_bond b h.bonds (new_bond h.hub.0 h.atoms (kind_of (pending_of h.pending))) = eb ∙ rw (lt-ltb h.bonds max_bonds (r.bond q), ez, ec) in
      record { is = rw (q, ef, t); mode = refl }

module _ (h : Head) (s o k p x y : List ℕ) (a b : List ℤ) {x' : List ℕ} {a' b' : List ℤ} {g : Head} where
  row-described : (z : Atom) → h.atoms < max_atoms → a' ≡ put_atom a h.atoms z → Leaves h (keeps (begun 1 (memory_in h (lent s o k p x y a' b)))) g (lent s o k p x' y a' b')
      → Leaves h (keeps (described z (begun 1 (memory_in h (lent s o k p x y a b))))) g (lent s o k p x' y a' b')
  unfolding begun put_atom
  row-described z n ea w =
      let q : a' ≡ with_atom a h.atoms z = ea ∙ rw (lt-ltb h.atoms max_atoms n) in
      record { is = rw q (rw q at w.is); mode = w.mode }

  module _ (r : HasRoom h.atoms h.bonds (bonded_in h)) {z : Atom} (ea : a' ≡ put_atom a h.atoms z) (w : Leaves h (keeps (begun 1 (memory_in h (lent s o k p x y a' b)))) g (lent s o k p x' y a' b')) where
    pub first_plain : {l : Letter} {e : ℕ} → l ≡ Plain e → z ≡ bare_row e 0 → Leaves h (keeps (first_byte_of l (memory_in h (lent s o k p x y a b)))) g (lent s o k p x' y a' b')
    first_plain el ez = rw (el, ← ez) (row-described z r.atom ea w)

    pub first-selected : {l : Letter} {e : ℕ} → l ≡ Selected e → z ≡ bare_row e 1 → Leaves h (keeps (first_byte_of l (memory_in h (lent s o k p x y a b)))) g (lent s o k p x' y a' b')
    first-selected el ez = rw (el, ← ez) (row-described z r.atom ea w)

    pub first-half : {l : Letter} → l ≡ Half → z ≡ bare_row 0 0 → Leaves h (keeps (first_byte_of l (memory_in h (lent s o k p x y a b)))) g (lent s o k p x' y a' b')
    first-half el ez = rw (el, ← ez) (row-described z r.atom ea w)

pub first-bracket : (h : Head) (m : Lent) {l : Letter} {g : Head} {m' : Lent} → l ≡ Bracket → Leaves h (keeps (begun 0 (memory_in h m))) g m' → Leaves h (keeps (first_byte_of l (memory_in h m))) g m'
first-bracket h m el w = rw el w

pub first-nothing : (h : Head) (m : Lent) {l : Letter} → l ≡ Nothing → Leaves h (keeps (first_byte_of l (memory_in h m))) h m
first-nothing h m el = rw el (record { is = refl; mode = refl })

-- there is room, or not
module _ (h : Head) {w : Bool} (ew : w ≡ bonded_in h) where
  pub room-enough : HasRoom h.atoms h.bonds w → HasRoom h.atoms h.bonds (bonded_in h)
  room-enough r = rw ew at r

  module _ (l : Letter) (p : ℕ) (m : Lent) where
    next : Next (memory_in h m) h.atoms h.bonds w
    next = record { atom = refl; bond = refl; bonds = sym ew }

    -- what refuses an atom of any first byte
    as-atom : {c q : ℕ} → atom_act 0 p (memory_in h m) ≡ refuses c q → beginning l p (memory_in h m) ≡ refuses c q
    unfolding atom_act beginning
    as-atom {c} {q} = split (leb max_atoms h.atoms) (bonded (memory_in h m) && leb max_bonds h.bonds) _ _
      where
        split : (t u : Bool) (ν ξ : Memory) → pick t (refuses 4 p) (pick u (refuses 5 p) (keeps ν)) ≡ refuses c q → pick t (refuses 4 p) (pick u (refuses 5 p) (keeps ξ)) ≡ refuses c q
        split true u ν ξ e = e
        split false true ν ξ e = e
        split false false ν ξ e = absurd (let z : ◌≡◌ {A = ℕ} 0 1 = cc in omega arith)

    pub begin-refused : (z : TextRefusal) (m' : Lent) → Admits h.atoms h.bonds w p (Err z) → Performs h (beginning l p (memory_in h m)) p m' (Err z)
    begin-refused z m' r = record { went = rw r.0 (as-atom (r.1 (memory_in h m) next 0 p), omega arith) }

    pub begin-taken : {g : Head} {m' : Lent} → HasRoom h.atoms h.bonds w → Leaves h (keeps (first_byte_of l (memory_in h m))) g m' → Performs h (beginning l p (memory_in h m)) p m' (Ok g)
    unfolding beginning
    begin-taken r v =
        let k = room-enough r in
        record { went = record { is = rw (lt-leb max_atoms h.atoms k.atom, crowded (bonded_in h) refl) v.is; mode = v.mode } }
      where
        crowded : (t : Bool) → bonded_in h ≡ t → (bonded_in h && leb max_bonds h.bonds) ≡ false
        crowded true q = rw (q, lt-leb max_bonds h.bonds ((room-enough r).bond q))
        crowded false q = rw q

-- ---- a branch

-- the numbers with nothing pending, another hub, and other counts of bonds and branches
abbrev settled : Head → ℕ → ℕ → ℕ → Head
settled h hub m d =
    record {
      mode = h.mode;
      pending = 0;
      tens = h.tens;
      draft = h.draft;
      hub = record { 0 = hub };
      atoms = h.atoms;
      bonds = m;
      depth = d;
    }

module _ (h : Head) (q : ℕ) (s o k p x y : List ℕ) (a b : List ℤ) where
  pub open-deep : max_depth ≤ h.depth → Performs h (branch_act q (memory_in h (lent s o k p x y a b))) q (lent s o k p x y a b) (Err (record { refusal = DeepBranch; at = q }))
  unfolding branch_act
  open-deep e = record { went = (rw (le-leb max_depth h.depth e), omega arith) }

  pub open-taken : h.depth < max_depth
      → Performs h (branch_act q (memory_in h (lent s o k p x y a b))) q (lent (set s h.depth h.hub.0) o k p x y a b) (Ok (settled h h.hub.0 h.bonds (h.depth + 1)))
  unfolding branch_act opened
  open-taken e = record { went = record { is = rw (lt-leb max_depth h.depth e); mode = refl } }

  pub close-taken : {d u : ℕ} → d ≡ h.depth - 1 → u ≡ get_or s d 0 → Leaves h (closing (memory_in h (lent s o k p x y a b))) (settled h u h.bonds d) (lent (set s d 0) o k p x y a b)
  unfolding closed
  close-taken ed eu = record { is = rw (eu, ed); mode = refl }

-- ---- a bridge
module _ (h : Head) (r q : ℕ) (s o k p x y : List ℕ) (a b : List ℤ) {c u : ℕ} (ec : c ≡ kind_of (pending_of h.pending)) (eu : u ≡ get_or o r 0) where
  pub bridge-opens : u ≡ 0
      → Performs h (bridge_act r q (memory_in h (lent s o k p x y a b))) q (lent s (set o r (h.hub.0 + 1)) (set k r c) (set p r q) x y a b) (Ok (settled h h.hub.0 h.bonds h.depth))
  unfolding bridge_act joined
  bridge-opens e = record { went = record { is = rw (eq-eqb (get_or o r 0) 0 (sym eu ∙ e), ec); mode = refl } }

  module _ (n : u ≡ 0 → ⊥) where
    free? : eqb (get_or o r 0) 0 ≡ false
    free? = ne_eqb (get_or o r 0) 0 (λ e. n (eu ∙ e))

    abbrev joins-now : Memory
    joins-now = moved (joined (steering_in h (lent s o k p x y a b)) r (kind_of (pending_of h.pending)) q) (bridge_bond r (memory_in h (lent s o k p x y a b)))

    act-closes : {z : ℕ} → close_refusal b h.bonds (u - 1) h.hub.0 (get_or k r 0) c ≡ z → bridge_act r q (memory_in h (lent s o k p x y a b)) ≡ or_refuse z q joins-now
    unfolding bridge_act
    act-closes e = rw (free?, ← ec, ← eu, e)

    pub bridge-refused : (z : TextRefusal) (l : Lent) → Closes b h.bonds (u - 1) h.hub.0 (get_or k r 0) c q (Err z) → Performs h (bridge_act r q (memory_in h (lent s o k p x y a b))) q l (Err z)
    bridge-refused z l w = record { went = rw w.0 (act-closes refl ∙ w.1 q joins-now, omega arith) }

    pub bridge-closes : {z : Bond} {b' : List ℤ} {y' : List ℕ} → Closes b h.bonds (u - 1) h.hub.0 (get_or k r 0) c q (Ok z) → b' ≡ put_bond b h.bonds z
        → y' ≡ pick (ltb (u - 1) h.hub.0) (keyed y h.bonds (get_or p r 0) q) (keyed y h.bonds q (get_or p r 0))
        → Performs h (bridge_act r q (memory_in h (lent s o k p x y a b))) q (lent s (set o r 0) (set k r 0) (set p r 0) x y' a b') (Ok (settled h h.hub.0 (h.bonds + 1) h.depth))
    unfolding joined put_bond
    bridge-closes {z} {b'} v eb ey =
        let eb' : b' ≡ with_bond b h.bonds (between (u - 1) h.hub.0 (meet (get_or k r 0) c)) = eb ∙ rw (lt-ltb h.bonds max_bonds v.1, v.2) in
        record { went = record { is = act-closes v.0 ∙ rw (free?, ← ec, ← eu, eb', ey); mode = refl } }

-- ---- what a deed leaves
module _ (h : Head) (q : ℕ) (l : Lent) {d : Deed} where
  pub does-keep : d ≡ Deed.Keep → Performs h (performed d q (memory_in h l)) q l (Ok h)
  does-keep e = rw e (record { went = record { is = refl; mode = refl } })

  pub does-joint : {k : ℕ} → d ≡ Deed.Joint k
      → Performs h (performed d q (memory_in h l)) q l (Ok (record { mode = h.mode; pending = k; tens = h.tens; draft = h.draft; hub = h.hub; atoms = h.atoms; bonds = h.bonds; depth = h.depth }))
  does-joint e = rw e (record { went = record { is = refl; mode = refl } })

  pub does-tens : {t : ℕ} → d ≡ Deed.Tens t
      → Performs h (performed d q (memory_in h l)) q l (Ok (record { mode = h.mode; pending = h.pending; tens = t; draft = h.draft; hub = h.hub; atoms = h.atoms; bonds = h.bonds; depth = h.depth }))
  does-tens e = rw e (record { went = record { is = refl; mode = refl } })

  pub does-draft : {f : Fields} → d ≡ Deed.Draft f
      → Performs h (performed d q (memory_in h l)) q l (Ok (record { mode = h.mode; pending = h.pending; tens = h.tens; draft = f; hub = h.hub; atoms = h.atoms; bonds = h.bonds; depth = h.depth }))
  does-draft e = rw e (record { went = record { is = refl; mode = refl } })

  module _ {m : Lent} {x : Result Head TextRefusal} where
    pub does-atom : {z : Letter} → d ≡ Deed.Atom z → Performs h (beginning z q (memory_in h l)) q m x → Performs h (performed d q (memory_in h l)) q m x
    does-atom e w = rw e w

    pub does-open : d ≡ Deed.Open → Performs h (branch_act q (memory_in h l)) q m x → Performs h (performed d q (memory_in h l)) q m x
    does-open e w = rw e w

    pub does-bridge : {r k t : ℕ} → d ≡ Deed.Bridge r k → t ≡ q - k → Performs h (bridge_act r t (memory_in h l)) t m x → Performs h (performed d q (memory_in h l)) q m x
    does-bridge {r} {k} {t} e et w = rw (e, ← et) (record { went = later x w.went })
      where
        later : (z : Result Head TextRefusal) → Went h (bridge_act r t (memory_in h l)) t m z → Went h (bridge_act r t (memory_in h l)) q m z
        later (Ok g) v = v
        later (Err e) v = (v.0, omega (arith, v.1))

  pub does-close : {g : Head} {m : Lent} → d ≡ Deed.Close → Leaves h (closing (memory_in h l)) g m → Performs h (performed d q (memory_in h l)) q m (Ok g)
  does-close e w = rw e (record { went = w })

module _ (h : Head) (q : ℕ) (s o k p x y : List ℕ) (a b : List ℤ) (n : h.hub.0 < max_atoms) (z : Atom) {a' : List ℤ} (ea : a' ≡ put_atom a h.hub.0 z) where
  row_put : a' ≡ with_atom a h.hub.0 z
  unfolding put_atom
  row_put = ea ∙ rw (lt-ltb h.hub.0 max_atoms n)

  pub does-second : {d : Deed} {e : ℕ} → d ≡ Deed.Second e → z ≡ bare_row e 0 → Performs h (performed d q (memory_in h (lent s o k p x y a b))) q (lent s o k p x y a' b) (Ok h)
  does-second e ez = rw (e, ← ez) (record { went = record { is = rw row_put; mode = refl } })

  pub does-row : {d : Deed} → d ≡ Deed.Row → z ≡ row_of h.draft → Performs h (performed d q (memory_in h (lent s o k p x y a b))) q (lent s o k p x y a' b) (Ok h)
  does-row e ez = rw (e, ← ez) (record { went = record { is = rw row_put; mode = refl } })

-- the number of a deed's bridge
pub bridge-number : {d : Deed} {r k : ℕ} → d ≡ Deed.Bridge r k → Numbered d → r < bridges
bridge-number e n = rw e at n

-- what bounds the state bounds what a bridge looks at
pub bridge-bounded : (h : Head) (s o k p x y : List ℕ) (a b : List ℤ) → Bounded (steering_in h (lent s o k p x y a b)) → Bounded (steering_in h (lent [] o [] p [] [] [] []))
bridge-bounded h s o k p x y a b w = record { atoms = w.atoms; bonds = w.bonds; depth = w.depth; hub = w.hub; stack = λ i g. omega arith; opener = w.opener; offset = w.offset }
