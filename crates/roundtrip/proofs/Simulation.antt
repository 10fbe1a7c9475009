-- The memory of a reading of bytes holds what a reading of tokens holds; atoms, branches and bridges keep it so. Assumes nothing.
use mathlib.Core.Path.{◌≡◌, refl, sym, ap, ◌∙◌}
use mathlib.Core.Bool.{Bool, true, false, ◌&&◌, ◌||◌, not, cond}
use mathlib.Core.List.{List, [], ◌∷◌, ◌++◌}
use Prim.Native.Nat.{ℕ, zero, suc, ◌+◌, ◌-◌, ◌*◌, ◌<◌, ◌≤◌}
use native.Mathlib.Omega.{arith}
use lib.Dec.{eqb, ltb}
use lib.ListN.{length, get_or, set, length-append}
use borrow.Author.Tests.{eqb-true, eqb-false, ne_eqb, ltb-true, ltb-false, lt-leb}
use Rattle.kinds.specs.Kind.{turned, meet, clash}
use Rattle.loops.specs.Loop.{pick}
use Rattle.loops.proofs.Loops.{each_all}
use Rattle.reading_grammar.specs.Fold.{keeps}
use Rattle.table.specs.declared.Atom.{Atom}
use Rattle.table.specs.Limits.{max_atoms, max_bonds, atom_cells, bond_cells, FIRST, SECOND}
use Rattle.table.specs.Cells.{number, end1, end2}
use Rattle.table.specs.Rows.{with_atom}
use Rattle.reading_state.specs.declared.Fields.{Fields}
use Rattle.ids.specs.Limits.{max_depth, bridges}
use Rattle.reading_state.specs.State.{opened, closed, bridged, joined, keys_after}
use Rattle.reading.specs.Memory.{Memory, nothing, kind_of, between, bonded, begun, described, drafted, moved, awaiting, counting, joins, joined_already, close_refusal}
use Rattle.reading.specs.Memory as bytes
use Rattle.reading.specs.Act.{bridge_bond, bridge_act}
use Rattle.writing_walk.specs.Token.{Bond, bond, bond_between, ring}
use Rattle.writing_walk.specs.Reading.{Closure, vacant, at, closure_at, St, st, bridge}
use Rattle.writing_walk.specs.Check.{ends, some, refused_bridge}
use Rattle.writing_walk.specs.Keyed.{Keys, Keyed, keyed, state_of, time_of, stamps_of, keys_of, set_stamp, stamp_for, bridge_keys, step_keyed}
use Rattle.writing_walk.proofs.Count.{All, more, all_map, all-at}
use Rattle.writing_walk.proofs.Stamps.{InTime}
use Rattle.roundtrip.proofs.Held.{opener_of, symbol_of, Bridging, bridging-set, Branching, branching-push, branching-pop, AtomTable, atom-add, nobond, row_of_bond, BondTable, bond-add}
use Rattle.roundtrip.proofs.Keying.{Keying, keying-same, keying-open, keying-close}

-- row v, flag v: the row and the flag that the bytes of the atom v leave; p and q: the cells of the tables
pub record Sim (row : ℕ → Atom) (flag : ℕ → ℕ) (p q : ℕ) (xs : List ℕ) (bs : List Bond) (h n : ℕ) (hs : List Closure) (stk : List ℕ) (μ : Memory) : Type 0 where
  pub hub : μ.st.hub.0 ≡ h
  pub atoms : μ.st.atoms ≡ n
  pub bonds : μ.st.bonds ≡ length bs
  pub depth : μ.st.depth ≡ length stk
  pub below : 0 < n → h < n
  pub hubs : All (λ g. g < n) stk
  pub bridging : Bridging μ.st.opener μ.st.symbol hs
  pub branching : Branching μ.st.stack stk
  pub table : AtomTable row flag p μ.st.outside μ.atoms xs n
  pub bonding : BondTable q μ.bonds bs

abbrev pub Holds : (ℕ → Atom) → (ℕ → ℕ) → ℕ → ℕ → St → Memory → Type 0
Holds row flag p q (st xs bs h n hs stk) μ = Sim row flag p q xs bs h n hs stk μ

-- the offsets and the keys in the memory are those of a reading of tokens, up to the place i of the text
abbrev pub closures_of : St → List Closure
closures_of (st xs bs h n hs stk) = hs

abbrev pub Keeps : Keyed → ℕ → Memory → Type 0
Keeps x i μ = Keying μ.st.offset μ.st.keys (closures_of (state_of x)) (time_of x) (stamps_of x) (keys_of x) i

-- ---- Bool tests of the two layers
or-false : (a b : Bool) → (a || b) ≡ false → (a ≡ false) × (b ≡ false)
or-false true b h = (absurd (let z : ◌≡◌ {A = ℕ} 0 1 = cc in omega arith), absurd (let z : ◌≡◌ {A = ℕ} 0 1 = cc in omega arith))
or-false false b h = (refl, h)

some_at : (f : Bond → Bool) (bs : List Bond) (i : ℕ) → some f bs ≡ false → i < length bs → f (get_or bs i nobond) ≡ false
some_at f [] i h l = absurd (omega arith)
some_at f (b ∷ bs) zero h l = (or-false (f b) (some f bs) h).0
some_at f (b ∷ bs) (suc i) h l = some_at f bs i (or-false (f b) (some f bs) h).1 (omega arith)

between-same : (u h k : ℕ) → between u h k ≡ row_of_bond (bond_between u h k)
between-same u h k = go (ltb u h)
  where
    go : (x : Bool) → pick x (bytes.new_bond u h k) (bytes.new_bond h u (turned k)) ≡ row_of_bond (cond x (bond u h k) (bond h u (turned k)))
    go true = refl
    go false = refl

joined-ordered : (u h k : ℕ) → eqb u h ≡ false → (bond_between u h k).lo < (bond_between u h k).hi
joined-ordered u h k e = go (ltb u h) refl
  where
    go : (x : Bool) → ltb u h ≡ x → (cond x (bond u h k) (bond h u (turned k))).lo < (cond x (bond u h k) (bond h u (turned k))).hi
    go true y = ltb-true u h y
    go false y = let z = eqb-false u h e in let w = ltb-false u h y in omega arith

-- an ordered bond that is not the ordered pair joins other atoms
not-joins : (u h : ℕ) (b : Bond) → b.lo < b.hi → ends (bond_between u h 0).lo (bond_between u h 0).hi b ≡ false → ((eqb b.lo u && eqb b.hi h) || (eqb b.lo h && eqb b.hi u)) ≡ false
not-joins u h b o = go (ltb u h) refl
  where
    wrong : (v w : ℕ) → w ≤ v → (eqb b.lo v && eqb b.hi w) ≡ false
    wrong v w l = two (eqb b.lo v) refl (eqb b.hi w) refl
      where
        two : (x : Bool) → eqb b.lo v ≡ x → (y : Bool) → eqb b.hi w ≡ y → (x && y) ≡ false
        two true e true f = absurd (let r = eqb-true b.lo v e in let t = eqb-true b.hi w f in omega arith)
        two true e false f = refl
        two false e y f = refl

    go : (x : Bool) → ltb u h ≡ x → ends (cond x (bond u h 0) (bond h u (turned 0))).lo (cond x (bond u h 0) (bond h u (turned 0))).hi b ≡ false → ((eqb b.lo u && eqb b.hi h) || (eqb b.lo h && eqb b.hi u)) ≡ false
    go true y g = let l = ltb-true u h y in rw (g, wrong h u (omega arith))
    go false y g = let l = ltb-false u h y in rw (g, wrong u h l)

-- what a bridge that is not refused has
allowed : (a b c d : Bool) → ◌≡◌ {A = ℕ} (cond a (cond b 7 (cond c 8 (cond d 9 0))) 5) 0 → (a ≡ true) × ((b ≡ false) × ((c ≡ false) × (d ≡ false)))
allowed true false false false h = (refl, (refl, (refl, refl)))
allowed true false false true h = absurd (omega arith)
allowed true false true d h = absurd (omega arith)
allowed true true c d h = absurd (omega arith)
allowed false b c d h = absurd (omega arith)

module _ (row : ℕ → Atom) (flag : ℕ → ℕ) (p q : ℕ) (proom : atom_cells * max_atoms ≤ p) (qroom : bond_cells * max_bonds ≤ q) where
  module _ (xs : List ℕ) (bs : List Bond) (h n : ℕ) (hs : List Closure) (stk : List ℕ) (μ : Memory) (s : Sim row flag p q xs bs h n hs stk μ) where
    -- a joint or a digit that waits changes nothing of this
    pub sim-await : (k : bytes.Pending) → Sim row flag p q xs bs h n hs stk (awaiting k μ)
    sim-await k = record { hub = s.hub; atoms = s.atoms; bonds = s.bonds; depth = s.depth; below = s.below; hubs = s.hubs; bridging = s.bridging; branching = s.branching; table = s.table; bonding = s.bonding }

    pub sim-count : (t : ℕ) → Sim row flag p q xs bs h n hs stk (counting t μ)
    sim-count t = record { hub = s.hub; atoms = s.atoms; bonds = s.bonds; depth = s.depth; below = s.below; hubs = s.hubs; bridging = s.bridging; branching = s.branching; table = s.table; bonding = s.bonding }

    -- ---- atoms
    wider : All (λ g. g < suc n) stk
    wider = all_map (λ g. g < n) (λ g. g < suc n) (λ g l. omega arith) stk s.hubs

    grown : (w : ℕ) → n < max_atoms → AtomTable row flag p (set μ.st.outside μ.st.atoms (flag w)) (with_atom μ.atoms μ.st.atoms (row w)) (xs ++ (w ∷ [])) (suc n)
    grown w l = rw s.atoms (atom-add row flag p proom μ.st.outside μ.atoms xs n w l s.table)

    pub sim-apart : (w : ℕ) (D : Fields) → n < max_atoms → bonded μ ≡ false → Sim row flag p q (xs ++ (w ∷ [])) bs n (suc n) hs stk (described (row w) (drafted D (begun (flag w) μ)))
    unfolding begun
    sim-apart w D l e = record {
      hub = s.atoms;
      atoms = let a = s.atoms in omega arith;
      bonds = rw e s.bonds;
      depth = s.depth;
      below = λ z. omega arith;
      hubs = wider;
      bridging = s.bridging;
      branching = s.branching;
      table = grown w l;
      bonding = rw e s.bonding;
    }

    pub sim-along : (k w : ℕ) (D : Fields) → n < max_atoms → length bs < max_bonds → 0 < n → bonded μ ≡ true → kind_of μ.pending ≡ k
        → Sim row flag p q (xs ++ (w ∷ [])) (bs ++ (bond h n k ∷ [])) n (suc n) hs stk (described (row w) (drafted D (begun (flag w) μ)))
    unfolding begun
    sim-along k w D l m z e c = record {
      hub = s.atoms;
      atoms = let a = s.atoms in omega arith;
      bonds = rw e (let a = s.bonds in let b = length-append bs (bond h n k ∷ []) in omega arith);
      depth = s.depth;
      below = λ z. omega arith;
      hubs = wider;
      bridging = s.bridging;
      branching = s.branching;
      table = grown w l;
      bonding = rw (e, s.bonds, s.hub, s.atoms, c) (bond-add q qroom μ.bonds bs (bond h n k) m (s.below z) s.bonding);
    }

    -- ---- branches
    pub sim-branch : length stk < max_depth → 0 < n → Sim row flag p q xs bs h n hs (h ∷ stk) (moved (opened μ.st) μ)
    unfolding opened
    sim-branch l z = record {
      hub = s.hub;
      atoms = s.atoms;
      bonds = s.bonds;
      depth = let a = s.depth in omega arith;
      below = s.below;
      hubs = more (s.below z) s.hubs;
      bridging = s.bridging;
      branching = rw (s.depth, s.hub) (branching-push μ.st.stack stk h l s.branching);
      table = s.table;
      bonding = s.bonding;
    }

  pub sim-back : (xs : List ℕ) (bs : List Bond) (h n : ℕ) (hs : List Closure) (g : ℕ) (stk : List ℕ) (μ : Memory) → Sim row flag p q xs bs h n hs (g ∷ stk) μ → Sim row flag p q xs bs g n hs stk (moved (closed μ.st) μ)
  unfolding closed
  sim-back xs bs h n hs g stk μ s =
      let e : μ.st.depth - 1 ≡ length stk = (let a = s.depth in omega arith) in
      record {
        hub = rw e s.branching.hubs.0;
        atoms = s.atoms;
        bonds = s.bonds;
        depth = e;
        below = λ z. head_of s.hubs;
        hubs = tail_of s.hubs;
        bridging = s.bridging;
        branching = rw e (branching-pop μ.st.stack stk g s.branching);
        table = s.table;
        bonding = s.bonding;
      }
    where
      head_of : All (λ g. g < n) (g ∷ stk) → g < n
      head_of (more l a) = l

      tail_of : All (λ g. g < n) (g ∷ stk) → All (λ g. g < n) stk
      tail_of (more l a) = a

-- ---- bridges: the number suc r is complete, with its digit or `%` at o
pub record Bridged (row : ℕ → Atom) (flag : ℕ → ℕ) (p q : ℕ) (x : Keyed) (r o : ℕ) (μ : Memory) : Type 0 where
  pub memory : Memory
  pub is : bridge_act (suc r) o μ ≡ keeps memory
  pub waits : memory.pending ≡ nothing
  pub holds : Holds row flag p q (state_of x) memory
  pub keys : Keeps x (suc o) memory

module _ (row : ℕ → Atom) (flag : ℕ → ℕ) (p q : ℕ) (proom : atom_cells * max_atoms ≤ p) (qroom : bond_cells * max_bonds ≤ q)
    (xs : List ℕ) (bs : List Bond) (h n : ℕ) (hs : List Closure) (stk : List ℕ) (z : ℕ) (ts : List ℕ) (ks : List Keys) (μ : Memory) (s : Sim row flag p q xs bs h n hs stk μ) (r k : ℕ) (l : suc r < bridges) (c : kind_of μ.pending ≡ k)
    (i o : ℕ) (y : Keeps (keyed (st xs bs h n hs stk) z ts ks) i μ) (t : InTime (keyed (st xs bs h n hs stk) z ts ks)) (as_many : length ks ≡ length bs) (later : i ≤ o) where
  first-end : (i : ℕ) → i < length bs → end1 μ.bonds i ≡ (get_or bs i nobond).lo
  unfolding number
  first-end i g = ap number (s.bonding.cells i FIRST g (omega arith))

  second-end : (i : ℕ) → i < length bs → end2 μ.bonds i ≡ (get_or bs i nobond).hi
  unfolding number
  second-end i g = ap number (s.bonding.cells i SECOND g (omega arith))

  no_join : (u i : ℕ) → i < length bs → some (ends (bond_between u h 0).lo (bond_between u h 0).hi) bs ≡ false → joins μ.bonds u h i ≡ false
  unfolding joins
  no_join u i a g =
      rw (first-end i a, second-end i a)
      (not-joins u h (get_or bs i nobond) (all-at (λ b. b.lo < b.hi) nobond bs i s.bonding.ordered a) (some_at (ends (bond_between u h 0).lo (bond_between u h 0).hi) bs i g a))

  not-already : (u : ℕ) → some (ends (bond_between u h 0).lo (bond_between u h 0).hi) bs ≡ false → joined_already μ.bonds (length bs) u h ≡ false
  unfolding joined_already
  not-already u g = ap not (each_all (λ i. not (joins μ.bonds u h i)) (length bs) (λ i a. ap not (no_join u i a g)))

  -- the number c of a bridge, which stands at the place r, is read
  abbrev after : Closure → Keyed
  after x = keyed (bridge x k r xs bs h n hs stk) (suc z) (set_stamp ts r (stamp_for x z)) (ks ++ bridge_keys x h (get_or ts r 0) (suc z))

  opens : closure_at hs r ≡ vacant → Bridged row flag p q (after vacant) r o μ
  unfolding bridge_act joined
  opens e =
      let f : get_or μ.st.opener (suc r) 0 ≡ 0 = s.bridging.openers r l ∙ ap opener_of e in
      record {
        memory = moved (bridged μ.st (suc r) (μ.st.hub.0 + 1) (kind_of μ.pending) o μ.st.bonds μ.st.keys) μ;
        is = rw f;
        waits = refl;
        holds = record {
          hub = s.hub;
          atoms = s.atoms;
          bonds = s.bonds;
          depth = s.depth;
          below = s.below;
          hubs = s.hubs;
          bridging = rw (s.hub, c) (bridging-set μ.st.opener μ.st.symbol hs r (at h k) l s.bridging);
          branching = s.branching;
          table = s.table;
          bonding = s.bonding;
        };
        keys = keying-same (keying-open y t.stamps t.keys r o l later h k);
      }

  closes : (u j : ℕ) → closure_at hs r ≡ at u j → refused_bridge max_atoms max_bonds max_depth (at u j) k bs h ≡ 0 → Bridged row flag p q (after (at u j)) r o μ
  unfolding bridge_act joined close_refusal
  closes u j e z =
      let w = allowed (ltb (length bs) max_bonds) (eqb u h) (some (ends (bond_between u h 0).lo (bond_between u h 0).hi) bs) (clash j k) z in
      let m = ltb-true (length bs) max_bonds w.0 in
      let f : get_or μ.st.opener (suc r) 0 ≡ u + 1 = s.bridging.openers r l ∙ ap opener_of e in
      let g : get_or μ.st.symbol (suc r) 0 ≡ j = s.bridging.symbols r l ∙ ap symbol_of e in
      let d : u + 1 - 1 ≡ u = omega arith in
      let row_is : between (u + 1 - 1) h (meet j k) ≡ row_of_bond (bond_between u h (meet j k)) = rw d (between-same u h (meet j k)) in
      let b : μ.st.bonds ≡ length ks = s.bonds ∙ sym as_many in
      record {
        memory = moved (bridged μ.st (suc r) 0 0 0 (μ.st.bonds + 1) (keys_after μ.st (suc r) o)) (bridge_bond (suc r) μ);
        is = rw (f, g, ne_eqb (u + 1) 0 (λ y. omega arith), d, s.bonds, s.hub, c, lt-leb max_bonds (length bs) m, w.1.0, not-already u w.1.1.0, w.1.1.1);
        waits = refl;
        holds = record {
          hub = s.hub;
          atoms = s.atoms;
          bonds = let a = s.bonds in let b = length-append bs (bond_between u h (meet j k) ∷ []) in omega arith;
          depth = s.depth;
          below = s.below;
          hubs = s.hubs;
          bridging = bridging-set μ.st.opener μ.st.symbol hs r vacant l s.bridging;
          branching = s.branching;
          table = s.table;
          bonding = rw (f, g, s.bonds, s.hub, c, row_is) (bond-add q qroom μ.bonds bs (bond_between u h (meet j k)) m (joined-ordered u h (meet j k) w.1.0) s.bonding);
        };
        keys = rw (f, d, s.hub, b) (keying-close y t.stamps t.keys r o l later u j h e (omega arith));
      }

  pub sim-ring : refused_bridge max_atoms max_bonds max_depth (closure_at hs r) k bs h ≡ 0 → Bridged row flag p q (step_keyed (ring k r) (keyed (st xs bs h n hs stk) z ts ks)) r o μ
  sim-ring = go (closure_at hs r) refl
    where
      go : (x : Closure) → closure_at hs r ≡ x → refused_bridge max_atoms max_bonds max_depth x k bs h ≡ 0 → Bridged row flag p q (after x) r o μ
      go vacant e z = opens e
      go (at u j) e z = closes u j e z
