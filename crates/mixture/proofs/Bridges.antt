-- Bridges and branches, opened and closed in a memory and in the one that has n atoms, m bonds and δ bytes before it. Assumes nothing.
use Prim.Native.Nat.{ℕ, zero, suc, ◌+◌, ◌-◌, ◌*◌, ◌≤◌, ◌<◌}
use native.Mathlib.Omega.{arith}
use native.Mathlib.Decide.{ℕ_discrete, dec_lt}
use mathlib.Core.Path.{◌≡◌, refl, sym, ap, subst, ◌∙◌}
use mathlib.Core.Bool.{Bool, true, false, ◌&&◌, ◌||◌, not, true≢false}
use mathlib.Core.List.{List, map}
use lib.ListN.{get_or, set, length-set, get_or-map, get_or-eq_default}
use lib.Seq.{get_or-set_same, get_or-set_other}
use lib.IntN.{ℤ}
use lib.Dec.{eqb, leb, ltb}
use borrow.Author.Tests.{ne_eqb, eqb-false, leb-false, lt-leb}
use Rattle.loops.specs.Loop.{pick, each}
use Rattle.loops.proofs.Loops.{each_all}
use Rattle.kinds.specs.Kind.{turned, meet, clash}
use Rattle.reading_grammar.specs.Fold.{keeps, refuses}
use Rattle.table.specs.Limits.{max_bonds}
use Rattle.table.specs.Cells.{number, end1, end2}
use Rattle.ids.specs.Limits.{max_depth, bridges}
use Rattle.reading_state.specs.State.{opened, closed, keyed, keys_after, bridged, joined}
use Rattle.reading.specs.Memory.{Memory, kind_of, new_bond, between, moved, joins, joined_already, close_refusal}
use Rattle.reading.specs.Act.{bridge_bond, or_refuse, bridge_act, branch_act}
use Rattle.reading.proofs.Atoms.{Held}
use Rattle.mixture_rows.specs.Beside.{raised_row, BondsBeside}
use Rattle.mixture_rows.proofs.Parts.{each-parts}
use Rattle.mixture_rows.proofs.Graph.{eqb-raised, ltb-raised}
use Rattle.mixture_rows.proofs.Bonds.{second-end1, second-end2}
use Rattle.mixture.proofs.Rows.{bonds-written, set-alike, map-set}
use Rattle.mixture.proofs.Behind.{raised, Behind, Side, Both}
use Rattle.mixture.proofs.Keys.{raised-more, set-zero, keyed-raised, after-other}

-- ---- openers
raised-zero : (n x : ℕ) → eqb (raised n x) 0 ≡ eqb x 0
raised-zero n zero = refl
raised-zero n (suc x) = ne_eqb (suc (n + x)) 0 (λ e. omega arith) ∙ sym (ne_eqb (suc x) 0 (λ e. omega arith))

raised-pred : (n x : ℕ) → (x ≡ 0 → ⊥) → raised n x - 1 ≡ n + (x - 1)
raised-pred n zero f = absurd (f refl)
raised-pred n (suc x) f = omega arith

-- ---- bonds
between-raised : (n a b k : ℕ) → between (n + a) (n + b) k ≡ raised_row n (between a b k)
unfolding number
between-raised n a b k = ap (λ (t : Bool). pick t (new_bond (n + a) (n + b) k) (new_bond (n + b) (n + a) (turned k))) (ltb-raised n a b) ∙ split (ltb a b)
  where
    split : (t : Bool) → pick t (new_bond (n + a) (n + b) k) (new_bond (n + b) (n + a) (turned k)) ≡ raised_row n (pick t (new_bond a b k) (new_bond b a (turned k)))
    split true = refl
    split false = refl

pub and_none : (x : Bool) → (x && false) ≡ false
and_none true = refl
and_none false = refl

module _ {n m k : ℕ} {t u : List ℤ} (w : BondsBeside n m k u t u) (a b : ℕ) where
  joins-first : (c : ℕ) → c < m → joins u (n + a) (n + b) c ≡ false
  unfolding joins
  joins-first c l =
      let i = w.inside c l in
      rw (ne_eqb (end2 u c) (n + b) (λ e. omega arith), ne_eqb (end2 u c) (n + a) (λ e. omega arith), and_none (eqb (end1 u c) (n + a)), and_none (eqb (end1 u c) (n + b)))

  joins-second : (c : ℕ) → c < k → joins u (n + a) (n + b) (m + c) ≡ joins t a b c
  unfolding joins
  joins-second c l =
      let e1 : (x : ℕ) → eqb (end1 u (m + c)) (n + x) ≡ eqb (end1 t c) x = λ x. ap (λ (y : ℕ). eqb y (n + x)) (second-end1 w c l) ∙ eqb-raised n (end1 t c) x in
      let e2 : (x : ℕ) → eqb (end2 u (m + c)) (n + x) ≡ eqb (end2 t c) x = λ x. ap (λ (y : ℕ). eqb y (n + x)) (second-end2 w c l) ∙ eqb-raised n (end2 t c) x in
      λ i. (e1 a i && e2 b i) || (e1 b i && e2 a i)

  joined-alike : joined_already u (m + k) (n + a) (n + b) ≡ joined_already t k a b
  unfolding joined_already
  joined-alike =
      ap not
      (each-parts (λ c. not (joins u (n + a) (n + b) c)) (λ c. true) (λ c. not (joins t a b c)) m k (λ c l. ap not (joins-first c l)) (λ c l. ap not (joins-second c l))
      ∙ ap (λ (x : Bool). x && each (λ c. not (joins t a b c)) 0 k) (each_all (λ c. true) m (λ c l. refl)))

  -- a bridge is refused alike where there is room
  refused-alike : (x y : ℕ) → m + k < max_bonds → close_refusal u (m + k) (n + a) (n + b) x y ≡ close_refusal t k a b x y
  unfolding close_refusal
  refused-alike x y l =
      (λ i. pick (lt-leb max_bonds (m + k) l i) 5 (pick (eqb-raised n a b i) 7 (pick (joined-alike i) 8 (pick (clash x y) 9 0))))
      ∙ sym (ap (λ (z : Bool). pick z 5 (pick (eqb a b) 7 (pick (joined_already t k a b) 8 (pick (clash x y) 9 0)))) (lt-leb max_bonds k (omega arith)))

-- ---- a bridge
module _ {n m δ p q d i p' q' d' j : ℕ} {φ : List ℕ} {μ κ : Memory} (h : Held p q d i μ) (k : Held p' q' d' j κ) (w : Behind n m δ φ μ κ) where
  opener-at : (r : ℕ) → get_or κ.st.opener r 0 ≡ raised n (get_or μ.st.opener r 0)
  opener-at r = ap (λ (l : List ℕ). get_or l r 0) w.ground.opener ∙ get_or-map (raised n) μ.st.opener r 0

  free-alike : (r : ℕ) → eqb (get_or κ.st.opener r 0) 0 ≡ eqb (get_or μ.st.opener r 0) 0
  free-alike r = ap (λ (x : ℕ). eqb x 0) (opener-at r) ∙ raised-zero n (get_or μ.st.opener r 0)

  kind-alike : kind_of κ.pending ≡ kind_of μ.pending
  kind-alike = ap kind_of w.pending

  -- the number opens
  opens : (r o e : ℕ) → e ≡ δ + o → Behind n m δ φ (moved (bridged μ.st r (μ.st.hub.0 + 1) (kind_of μ.pending) o μ.st.bonds μ.st.keys) μ) (moved (bridged κ.st r (κ.st.hub.0 + 1) (kind_of κ.pending) e κ.st.bonds κ.st.keys) κ)
  opens r o e later =
      record {
        ground = record {
          atoms_count = w.ground.atoms_count;
          bonds_count = w.ground.bonds_count;
          depth = w.ground.depth;
          stack = w.ground.stack;
          opener = opener;
          symbol = symbol;
          offset = offset;
          front = w.ground.front;
          keys = w.ground.keys;
          outside = w.ground.outside;
          atom_rows = w.ground.atom_rows;
          bond_rows = w.ground.bond_rows;
        };
        hub = w.hub;
        pending = refl;
        draft = w.draft;
      }
    where
      opener : set κ.st.opener r (κ.st.hub.0 + 1) ≡ map (raised n) (set μ.st.opener r (μ.st.hub.0 + 1))
      opener =
          let x : κ.st.hub.0 + 1 ≡ raised n (μ.st.hub.0 + 1) = ap (λ (v : ℕ). v + 1) w.hub ∙ sym (raised-more n μ.st.hub.0) in
          (λ v. set (w.ground.opener v) r (x v)) ∙ map-set (raised n) μ.st.opener r (μ.st.hub.0 + 1)

      symbol : (c : ℕ) → 0 < get_or (set μ.st.opener r (μ.st.hub.0 + 1)) c 0 → get_or (set κ.st.symbol r (kind_of κ.pending)) c 0 ≡ get_or (set μ.st.symbol r (kind_of μ.pending)) c 0
      symbol c = split (ℕ_discrete c r)
        where
          split : Dec (c ≡ r) → 0 < get_or (set μ.st.opener r (μ.st.hub.0 + 1)) c 0 → get_or (set κ.st.symbol r (kind_of κ.pending)) c 0 ≡ get_or (set μ.st.symbol r (kind_of μ.pending)) c 0
          split (yes f) l =
              ap (λ (x : ℕ). get_or (set κ.st.symbol r x) c 0) kind-alike
              ∙ subst (λ (x : ℕ). get_or (set κ.st.symbol r (kind_of μ.pending)) x 0 ≡ get_or (set μ.st.symbol r (kind_of μ.pending)) x 0) (sym f)
              (set-alike κ.st.symbol μ.st.symbol r (kind_of μ.pending) (k.steering.symbol-length ∙ sym h.steering.symbol-length))
          split (no f) l =
              get_or-set_other κ.st.symbol r c (kind_of κ.pending) 0 f
              ∙ w.ground.symbol c (subst (λ (x : ℕ). 0 < x) (get_or-set_other μ.st.opener r c (μ.st.hub.0 + 1) 0 f) l)
              ∙ sym (get_or-set_other μ.st.symbol r c (kind_of μ.pending) 0 f)

      offset : (c : ℕ) → 0 < get_or (set μ.st.opener r (μ.st.hub.0 + 1)) c 0 → get_or (set κ.st.offset r e) c 0 ≡ δ + get_or (set μ.st.offset r o) c 0
      offset c l = split (ℕ_discrete c r) (dec_lt c bridges)
        where
          split : Dec (c ≡ r) → Dec (c < bridges) → get_or (set κ.st.offset r e) c 0 ≡ δ + get_or (set μ.st.offset r o) c 0
          split (yes f) (yes g) =
              ap (λ (x : ℕ). get_or (set κ.st.offset r e) x 0) f
              ∙ get_or-set_same κ.st.offset r e 0 (omega (arith, k.steering.offset-length))
              ∙ later
              ∙ ap (λ (x : ℕ). δ + x) (sym (get_or-set_same μ.st.offset r o 0 (omega (arith, h.steering.offset-length))) ∙ ap (λ (x : ℕ). get_or (set μ.st.offset r o) x 0) (sym f))
          split (yes f) (no g) = let z = get_or-eq_default (set μ.st.opener r (μ.st.hub.0 + 1)) 0 {n = c} (rw length-set (omega (arith, h.steering.opener-length))) in absurd (omega arith)
          split (no f) g =
              get_or-set_other κ.st.offset r c e 0 f
              ∙ w.ground.offset c (subst (λ (x : ℕ). 0 < x) (get_or-set_other μ.st.opener r c (μ.st.hub.0 + 1) 0 f) l)
              ∙ ap (λ (x : ℕ). δ + x) (sym (get_or-set_other μ.st.offset r c o 0 f))

  -- the number closes
  module _ (r : ℕ) (held : get_or μ.st.opener r 0 ≡ 0 → ⊥) where
    first-atom : get_or κ.st.opener r 0 - 1 ≡ n + (get_or μ.st.opener r 0 - 1)
    first-atom = ap (λ (x : ℕ). x - 1) (opener-at r) ∙ raised-pred n (get_or μ.st.opener r 0) held

    open-still : 0 < get_or μ.st.opener r 0
    open-still = positive (get_or μ.st.opener r 0) held
      where
        positive : (x : ℕ) → (x ≡ 0 → ⊥) → 0 < x
        positive zero f = absurd (f refl)
        positive (suc x) f = omega arith

    symbol-alike : get_or κ.st.symbol r 0 ≡ get_or μ.st.symbol r 0
    symbol-alike = w.ground.symbol r open-still

    close-alike : m + (μ.st.bonds + 1) ≤ max_bonds
        → close_refusal κ.bonds κ.st.bonds (get_or κ.st.opener r 0 - 1) κ.st.hub.0 (get_or κ.st.symbol r 0) (kind_of κ.pending)
        ≡ close_refusal μ.bonds μ.st.bonds (get_or μ.st.opener r 0 - 1) μ.st.hub.0 (get_or μ.st.symbol r 0) (kind_of μ.pending)
    close-alike l =
        (λ v. close_refusal κ.bonds (w.ground.bonds_count v) (first-atom v) (w.hub v) (symbol-alike v) (kind-alike v))
        ∙ refused-alike w.ground.bond_rows (get_or μ.st.opener r 0 - 1) μ.st.hub.0 (get_or μ.st.symbol r 0) (kind_of μ.pending) (omega arith)

    wire-alike : between (get_or κ.st.opener r 0 - 1) κ.st.hub.0 (meet (get_or κ.st.symbol r 0) (kind_of κ.pending))
        ≡ raised_row n (between (get_or μ.st.opener r 0 - 1) μ.st.hub.0 (meet (get_or μ.st.symbol r 0) (kind_of μ.pending)))
    wire-alike =
        (λ v. between (first-atom v) (w.hub v) (meet (symbol-alike v) (kind-alike v)))
        ∙ between-raised n (get_or μ.st.opener r 0 - 1) μ.st.hub.0 (meet (get_or μ.st.symbol r 0) (kind_of μ.pending))

    -- the keys of the bond
    module _ (o e : ℕ) (later : e ≡ δ + o) (room : m + (μ.st.bonds + 1) ≤ max_bonds) where
      keys-alike : (c : ℕ) → get_or (keys_after κ.st r e) (2 * m + c) 0 ≡ raised δ (get_or (keys_after μ.st r o) c 0)
      keys-alike c = split (ltb (get_or μ.st.opener r 0 - 1) μ.st.hub.0) (ltb (get_or κ.st.opener r 0 - 1) κ.st.hub.0) ((λ v. ltb (first-atom v) (w.hub v)) ∙ ltb-raised n (get_or μ.st.opener r 0 - 1) μ.st.hub.0)
        where
          both : (p q p' q' : ℕ) → p' ≡ δ + p → q' ≡ δ + q → get_or (keyed κ.st.keys κ.st.bonds p' q') (2 * m + c) 0 ≡ raised δ (get_or (keyed μ.st.keys μ.st.bonds p q) c 0)
          both p q p' q' x y =
              let z = w.ground.bonds_count in
              keyed-raised δ m μ.st.keys κ.st.keys μ.st.bonds κ.st.bonds p q p' q' (omega (arith, h.steering.keys_length)) (omega (arith, k.steering.keys_length)) z x y w.ground.keys c

          split : (t u : Bool) → u ≡ t
              → get_or (pick u (keyed κ.st.keys κ.st.bonds (get_or κ.st.offset r 0) e) (keyed κ.st.keys κ.st.bonds e (get_or κ.st.offset r 0))) (2 * m + c) 0
              ≡ raised δ (get_or (pick t (keyed μ.st.keys μ.st.bonds (get_or μ.st.offset r 0) o) (keyed μ.st.keys μ.st.bonds o (get_or μ.st.offset r 0))) c 0)
          split true true g = both (get_or μ.st.offset r 0) o (get_or κ.st.offset r 0) e (w.ground.offset r open-still) later
          split true false g = absurd (true≢false (sym g))
          split false true g = absurd (true≢false g)
          split false false g = both o (get_or μ.st.offset r 0) e (get_or κ.st.offset r 0) later (w.ground.offset r open-still)

      keys-front : (c : ℕ) → c < 2 * m → get_or (keys_after κ.st r e) c 0 ≡ get_or φ c 0
      keys-front c l = let z = w.ground.bonds_count in after-other κ.st r e c (λ g. omega arith) (λ g. omega arith) ∙ w.ground.front c l

    closes : (o e : ℕ) → e ≡ δ + o → m + (μ.st.bonds + 1) ≤ max_bonds → Behind n m δ φ (moved (bridged μ.st r 0 0 0 (μ.st.bonds + 1) (keys_after μ.st r o)) (bridge_bond r μ)) (moved (bridged κ.st r 0 0 0 (κ.st.bonds + 1) (keys_after κ.st r e)) (bridge_bond r κ))
    closes o e later l =
        record {
          ground = record {
            atoms_count = w.ground.atoms_count;
            bonds_count = let c = w.ground.bonds_count in omega arith;
            depth = w.ground.depth;
            stack = w.ground.stack;
            opener = (λ v. set (w.ground.opener v) r 0) ∙ map-set (raised n) μ.st.opener r 0;
            symbol = symbol;
            offset = offset;
            front = keys-front o e later l;
            keys = keys-alike o e later l;
            outside = w.ground.outside;
            atom_rows = w.ground.atom_rows;
            bond_rows =
                let c = w.ground.bonds_count in
                bonds-written w.ground.bond_rows κ.st.bonds _ _ c wire-alike (omega (arith, h.tables.bond-length, h.tables.bond-room)) (omega (arith, k.tables.bond-length, k.tables.bond-room));
          };
          hub = w.hub;
          pending = refl;
          draft = w.draft;
        }
      where
        symbol : (c : ℕ) → 0 < get_or (set μ.st.opener r 0) c 0 → get_or (set κ.st.symbol r 0) c 0 ≡ get_or (set μ.st.symbol r 0) c 0
        symbol c = split (ℕ_discrete c r)
          where
            split : Dec (c ≡ r) → 0 < get_or (set μ.st.opener r 0) c 0 → get_or (set κ.st.symbol r 0) c 0 ≡ get_or (set μ.st.symbol r 0) c 0
            split (yes f) l =
                subst (λ (x : ℕ). get_or (set κ.st.symbol r 0) x 0 ≡ get_or (set μ.st.symbol r 0) x 0) (sym f)
                (set-alike κ.st.symbol μ.st.symbol r 0 (k.steering.symbol-length ∙ sym h.steering.symbol-length))
            split (no f) l =
                get_or-set_other κ.st.symbol r c 0 0 f ∙ w.ground.symbol c (subst (λ (x : ℕ). 0 < x) (get_or-set_other μ.st.opener r c 0 0 f) l) ∙ sym (get_or-set_other μ.st.symbol r c 0 0 f)

        offset : (c : ℕ) → 0 < get_or (set μ.st.opener r 0) c 0 → get_or (set κ.st.offset r 0) c 0 ≡ δ + get_or (set μ.st.offset r 0) c 0
        offset c = split (ℕ_discrete c r)
          where
            split : Dec (c ≡ r) → 0 < get_or (set μ.st.opener r 0) c 0 → get_or (set κ.st.offset r 0) c 0 ≡ δ + get_or (set μ.st.offset r 0) c 0
            split (yes f) l = let z = ap (λ (x : ℕ). get_or (set μ.st.opener r 0) x 0) f ∙ set-zero μ.st.opener r in absurd (omega arith)
            split (no f) l =
                get_or-set_other κ.st.offset r c 0 0 f
                ∙ w.ground.offset c (subst (λ (x : ℕ). 0 < x) (get_or-set_other μ.st.opener r c 0 0 f) l)
                ∙ ap (λ (x : ℕ). δ + x) (sym (get_or-set_other μ.st.offset r c 0 0 f))

  -- a bridge number that is complete
  pub bridge-both : (r o e : ℕ) → e ≡ δ + o → Both n m δ φ μ (bridge_act r o μ) (bridge_act r e κ)
  unfolding bridge_act joined
  bridge-both r o e later = split (eqb (get_or μ.st.opener r 0) 0) refl (eqb (get_or κ.st.opener r 0) 0) (free-alike r)
    where
      c₁ : ℕ
      c₁ = close_refusal μ.bonds μ.st.bonds (get_or μ.st.opener r 0 - 1) μ.st.hub.0 (get_or μ.st.symbol r 0) (kind_of μ.pending)

      c₂ : ℕ
      c₂ = close_refusal κ.bonds κ.st.bonds (get_or κ.st.opener r 0 - 1) κ.st.hub.0 (get_or κ.st.symbol r 0) (kind_of κ.pending)

      refusal : (c : ℕ) → c₁ ≡ c → eqb (get_or μ.st.opener r 0) 0 ≡ false → Both n m δ φ μ (or_refuse c o (moved (bridged μ.st r 0 0 0 (μ.st.bonds + 1) (keys_after μ.st r o)) (bridge_bond r μ))) (or_refuse c₂ e (moved (bridged κ.st r 0 0 0 (κ.st.bonds + 1) (keys_after κ.st r e)) (bridge_bond r κ)))
      refusal zero z f =
          let held = eqb-false (get_or μ.st.opener r 0) 0 f in (
            record { atoms = omega arith; bonds = omega arith; clear = λ x c l. after-other μ.st r o c (λ g. omega arith) (λ g. omega arith) ∙ x c (omega arith) },
            λ room.
                subst (λ (c : ℕ). Side n m δ φ (moved (bridged μ.st r 0 0 0 (μ.st.bonds + 1) (keys_after μ.st r o)) (bridge_bond r μ)) (or_refuse c e (moved (bridged κ.st r 0 0 0 (κ.st.bonds + 1) (keys_after κ.st r e)) (bridge_bond r κ)))) (sym (close-alike r held room.bonds ∙ z))
                (closes r held o e later room.bonds),
          )
      refusal (suc c) z f = tt

      split : (t : Bool) → eqb (get_or μ.st.opener r 0) 0 ≡ t → (u : Bool) → u ≡ t
          → Both n m δ φ μ
          (pick t (keeps (moved (pick t (bridged μ.st r (μ.st.hub.0 + 1) (kind_of μ.pending) o μ.st.bonds μ.st.keys) (bridged μ.st r 0 0 0 (μ.st.bonds + 1) (keys_after μ.st r o))) μ))
          (or_refuse c₁ o (moved (pick t (bridged μ.st r (μ.st.hub.0 + 1) (kind_of μ.pending) o μ.st.bonds μ.st.keys) (bridged μ.st r 0 0 0 (μ.st.bonds + 1) (keys_after μ.st r o))) (bridge_bond r μ))))
          (pick u (keeps (moved (pick u (bridged κ.st r (κ.st.hub.0 + 1) (kind_of κ.pending) e κ.st.bonds κ.st.keys) (bridged κ.st r 0 0 0 (κ.st.bonds + 1) (keys_after κ.st r e))) κ))
          (or_refuse c₂ e (moved (pick u (bridged κ.st r (κ.st.hub.0 + 1) (kind_of κ.pending) e κ.st.bonds κ.st.keys) (bridged κ.st r 0 0 0 (κ.st.bonds + 1) (keys_after κ.st r e))) (bridge_bond r κ))))
      split true f true g = (record { atoms = omega arith; bonds = omega arith; clear = λ x. x }, λ room. opens r o e later)
      split true f false g = absurd (true≢false (sym g))
      split false f true g = absurd (true≢false g)
      split false f false g = refusal c₁ refl f

  -- ---- a branch
  open-branch : μ.st.depth < max_depth → Behind n m δ φ (moved (opened μ.st) μ) (moved (opened κ.st) κ)
  unfolding opened
  open-branch l =
      record {
        ground = record {
          atoms_count = w.ground.atoms_count;
          bonds_count = w.ground.bonds_count;
          depth = let c = w.ground.depth in omega arith;
          stack = stack;
          opener = w.ground.opener;
          symbol = w.ground.symbol;
          offset = w.ground.offset;
          front = w.ground.front;
          keys = w.ground.keys;
          outside = w.ground.outside;
          atom_rows = w.ground.atom_rows;
          bond_rows = w.ground.bond_rows;
        };
        hub = w.hub;
        pending = refl;
        draft = w.draft;
      }
    where
      stack : (x : ℕ) → x < μ.st.depth + 1 → get_or (set κ.st.stack κ.st.depth κ.st.hub.0) x 0 ≡ n + get_or (set μ.st.stack μ.st.depth μ.st.hub.0) x 0
      stack x s = split (ℕ_discrete x μ.st.depth)
        where
          split : Dec (x ≡ μ.st.depth) → get_or (set κ.st.stack κ.st.depth κ.st.hub.0) x 0 ≡ n + get_or (set μ.st.stack μ.st.depth μ.st.hub.0) x 0
          split (yes f) =
              let c = w.ground.depth in
              let f' : x ≡ κ.st.depth = omega arith in
              ap (λ (v : ℕ). get_or (set κ.st.stack κ.st.depth κ.st.hub.0) v 0) f'
              ∙ get_or-set_same κ.st.stack κ.st.depth κ.st.hub.0 0 (omega (arith, k.steering.stack-length))
              ∙ w.hub
              ∙ ap (λ (v : ℕ). n + v) (sym (get_or-set_same μ.st.stack μ.st.depth μ.st.hub.0 0 (omega (arith, h.steering.stack-length))) ∙ ap (λ (v : ℕ). get_or (set μ.st.stack μ.st.depth μ.st.hub.0) v 0) (sym f))
          split (no f) =
              let c = w.ground.depth in
              get_or-set_other κ.st.stack κ.st.depth x κ.st.hub.0 0 (λ e. f (omega arith))
              ∙ w.ground.stack x (omega arith)
              ∙ ap (λ (v : ℕ). n + v) (sym (get_or-set_other μ.st.stack μ.st.depth x μ.st.hub.0 0 f))

  pub branch-both : (o e : ℕ) → Both n m δ φ μ (branch_act o μ) (branch_act e κ)
  unfolding branch_act opened
  branch-both o e = split (leb max_depth μ.st.depth) refl (leb max_depth κ.st.depth) (ap (leb max_depth) w.ground.depth)
    where
      split : (t : Bool) → leb max_depth μ.st.depth ≡ t → (u : Bool) → u ≡ leb max_depth μ.st.depth → Both n m δ φ μ (pick t (refuses 6 o) (keeps (moved (opened μ.st) μ))) (pick u (refuses 6 e) (keeps (moved (opened κ.st) κ)))
      split true f u g = tt
      split false f true g = absurd (true≢false (g ∙ f))
      split false f false g = (record { atoms = omega arith; bonds = omega arith; clear = λ x. x }, λ room. open-branch (leb-false max_depth μ.st.depth f))

  pub unbranch-behind : 0 < μ.st.depth → Behind n m δ φ (moved (closed μ.st) μ) (moved (closed κ.st) κ)
  unfolding closed
  unbranch-behind l =
      record {
        ground = record {
          atoms_count = w.ground.atoms_count;
          bonds_count = w.ground.bonds_count;
          depth = let c = w.ground.depth in omega arith;
          stack = λ x s.
              let c = w.ground.depth in
              get_or-set_other κ.st.stack (κ.st.depth - 1) x 0 0 (λ e. omega arith)
              ∙ w.ground.stack x (omega arith)
              ∙ ap (λ (v : ℕ). n + v) (sym (get_or-set_other μ.st.stack (μ.st.depth - 1) x 0 0 (λ e. omega arith)));
          opener = w.ground.opener;
          symbol = w.ground.symbol;
          offset = w.ground.offset;
          front = w.ground.front;
          keys = w.ground.keys;
          outside = w.ground.outside;
          atom_rows = w.ground.atom_rows;
          bond_rows = w.ground.bond_rows;
        };
        hub = ap (λ (v : ℕ). get_or κ.st.stack (v - 1) 0) w.ground.depth ∙ w.ground.stack (μ.st.depth - 1) (omega arith);
        pending = refl;
        draft = w.draft;
      }
