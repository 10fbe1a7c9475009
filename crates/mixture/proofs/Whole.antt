-- The joined text read whole: the rows of the first text and then those of the second, moved up. Assumes nothing.
use Prim.Native.Nat.{ℕ, suc, ◌+◌, ◌*◌, ◌<◌}
use native.Mathlib.Omega.{arith}
use native.Mathlib.Nat.{zero-add}
use mathlib.Core.Path.{◌≡◌, sym, ap, subst, ◌∙◌}
use mathlib.Core.Bool.{true}
use mathlib.Core.List.{List, [], ◌∷◌, ◌++◌}
use lib.ListN.{length, get_or, get_or-map}
use lib.IntN.{ℤ}
use Rattle.reading_grammar.specs.declared.Last.{Last}
use Rattle.reading_grammar.specs.declared.Mode.TheVariants.{Seq as seq}
use Rattle.reading_grammar.specs.declared.MachineState.{MachineState}
use Rattle.reading_grammar.specs.declared.MachineState.TheVariants.{Start as start, At as at}
use Rattle.reading_grammar.specs.Machine.{accepting}
use Rattle.reading_grammar.specs.Fold.{Reading, going, read}
use Rattle.reading_grammar.proofs.Fold.{read-append}
use Rattle.table.specs.Rows.{atom_row, bond_row}
use Rattle.table.specs.Valid.{enough}
use Rattle.reading.specs.Memory.{Memory}
use Rattle.reading.specs.Act.{act}
use Rattle.reading.specs.Read.{zeros, beginning}
use Rattle.reading.specs.Conditions.{bytes_read}
use Rattle.reading.proofs.Sane.{Sane}
use Rattle.reading.proofs.Step.{sane-beginning, sane-going}
use Rattle.reading.proofs.Stays.{Same, letter-stays}
use Rattle.mixture.proofs.Behind.{raised, Behind, Clear, Room}
use Rattle.mixture.proofs.Keys.{unmoved}
use Rattle.mixture.proofs.Follow.{taken, not_start, unraised}
use Rattle.mixture.proofs.Join.{other-tables, read-clear, ends-sequence, no_second, follows-dot}

-- at the end of the joined text: the rows, flags and keys of the first, and the memory of the second behind it
pub record Joined (μ ν κ : Memory) : Type 0 where
  pub rows : (a : ℕ) → a < μ.st.atoms → atom_row κ.atoms a ≡ atom_row μ.atoms a
  pub flags : (a : ℕ) → a < μ.st.atoms → get_or κ.st.outside a 0 ≡ get_or μ.st.outside a 0
  pub wires : (b : ℕ) → b < μ.st.bonds → bond_row κ.bonds b ≡ bond_row μ.bonds b
  pub first-keys : (c : ℕ) → c < 2 * μ.st.bonds → get_or κ.st.keys c 0 ≡ get_or μ.st.keys c 0
  pub bytes : ℕ
  pub before : List ℕ
  pub behind : Behind μ.st.atoms μ.st.bonds bytes before ν κ

-- a text that is not empty does not end at the start
never-start : (s : List ℕ) (b i : ℕ) (σ : MachineState) (μ : Memory) {τ : MachineState} {ν : Memory} → read act i (going σ μ) (b ∷ s) ≡ going τ ν → τ ≡ start → ⊥
unfolding read
never-start [] b i σ μ {τ} e q =
    let t = taken i b σ μ [] e in
    not_start σ b (state t.rest ∙ q)
  where
    state : {α β : MachineState} {x y : Memory} → going α x ≡ going β y → α ≡ β
    state f = cc
never-start (c ∷ s) b i σ μ e q = let t = taken i b σ μ (c ∷ s) e in never-start s c (suc i) _ t.memory t.rest q

module _ {μ κ : Memory} (w : Behind 0 0 0 [] μ κ) where
  same-atoms : κ.st.atoms ≡ μ.st.atoms
  same-atoms = w.ground.atoms_count ∙ zero-add μ.st.atoms

  same-bonds : κ.st.bonds ≡ μ.st.bonds
  same-bonds = w.ground.bonds_count ∙ zero-add μ.st.bonds

  still-shut : ((r : ℕ) → get_or μ.st.opener r 0 ≡ 0) → (r : ℕ) → get_or κ.st.opener r 0 ≡ 0
  still-shut shut r = ap (λ (l : List ℕ). get_or l r 0) w.ground.opener ∙ get_or-map (raised 0) μ.st.opener r 0 ∙ ap (raised 0) (shut r)

  still-row : (a : ℕ) → a < μ.st.atoms → atom_row κ.atoms a ≡ atom_row μ.atoms a
  still-row a l = ap (atom_row κ.atoms) (sym (zero-add a)) ∙ w.ground.atom_rows a l

  still-flag : (a : ℕ) → a < μ.st.atoms → get_or κ.st.outside a 0 ≡ get_or μ.st.outside a 0
  still-flag a l = ap (λ (v : ℕ). get_or κ.st.outside v 0) (sym (zero-add a)) ∙ w.ground.outside a l

  still-key : (c : ℕ) → get_or κ.st.keys c 0 ≡ get_or μ.st.keys c 0
  still-key c =
      let e : c ≡ 2 * 0 + c = omega arith in
      ap (λ (v : ℕ). get_or κ.st.keys v 0) e ∙ w.ground.keys c ∙ unmoved (get_or μ.st.keys c 0)

  still-clear : Clear μ → Clear κ
  still-clear z c l = still-key c ∙ z c (omega (arith, same-bonds))

  still-bond : {p q i : ℕ} {σ : MachineState} → Sane p q σ i μ → (b : ℕ) → b < μ.st.bonds → bond_row κ.bonds b ≡ bond_row μ.bonds b
  still-bond h b l = ap (bond_row κ.bonds) (sym (zero-add b)) ∙ w.ground.bond_rows.second_bonds b l ∙ sym (unraised h b l)

-- the first text in other tables, and what the rest of the joined text leaves of it
joined-rows : {p q i δ : ℕ} {σ : MachineState} {μ ν κ ξ : Memory} → Sane p q σ i μ → Behind 0 0 0 [] μ κ → Same κ.st.atoms κ.st.bonds κ ξ → Behind κ.st.atoms κ.st.bonds δ κ.st.keys ν ξ → Joined μ ν ξ
joined-rows {δ = δ} {μ = μ} {ν = ν} {κ = κ} {ξ = ξ} h w s k =
    let ea = same-atoms w in
    let eb = same-bonds w in
    record {
      rows = λ a l. s.rows a (omega arith) ∙ still-row w a l;
      flags = λ a l. s.flags a (omega arith) ∙ still-flag w a l;
      wires = λ b l. s.bonds b (omega arith) ∙ still-bond w h b l;
      first-keys = λ c l. k.ground.front c (omega arith) ∙ still-key w c;
      bytes = δ;
      before = κ.st.keys;
      behind = subst (λ (x : ℕ). Behind μ.st.atoms x δ κ.st.keys ν ξ) eb (subst (λ (x : ℕ). Behind x κ.st.bonds δ κ.st.keys ν ξ) ea k);
    }

-- the end of the joined text
pub record Ended (s : List ℕ) (A B : List ℤ) (τ : MachineState) (μ ν : Memory) : Type 0 where
  pub memory : Memory
  pub reached : bytes_read s A B ≡ going τ memory
  pub joined : Joined μ ν memory

module _ (c : ℕ) (s : List ℕ) (b : ℕ) (t : List ℕ) (A₁ B₁ A₂ B₂ A B : List ℤ) (long₁ : enough A₁ B₁ ≡ true) (long₂ : enough A₂ B₂ ≡ true) (long : enough A B ≡ true) where
  whole_from : {τ : MachineState} {x : Last} {μ ν κ : Memory} → bytes_read (c ∷ s) A₁ B₁ ≡ going (at (seq x) 0) μ → ((r : ℕ) → get_or μ.st.opener r 0 ≡ 0) → bytes_read (c ∷ s) A B ≡ going (at (seq x) 0) κ → Behind 0 0 0 [] μ κ
      → bytes_read (b ∷ t) A₂ B₂ ≡ going τ ν → Room μ.st.atoms μ.st.bonds ν → Ended ((c ∷ s) ++ 46 ∷ b ∷ t) A B τ μ ν
  whole_from {x = x} {μ = μ} {ν = ν} {κ = κ} first shut there w second room =
      let k = sane-going (c ∷ s) (sane-beginning A B long) there in
      let room' : Room κ.st.atoms κ.st.bonds ν = record { atoms = omega (arith, room.atoms, same-atoms w); bonds = omega (arith, room.bonds, same-bonds w) } in
      let f = follows-dot k (still-shut w shut) (still-clear w (read-clear A₁ B₁ A B long₁ long c s first)) A₂ B₂ b t long₂ second room' in
      record {
        memory = f.memory;
        reached = read-append act (c ∷ s) (46 ∷ b ∷ t) 0 (going start (beginning (zeros A) (zeros B))) ∙ ap (λ (r : Reading Memory). read act (0 + length (c ∷ s)) r (46 ∷ b ∷ t)) there ∙ f.goes;
        joined = joined-rows (sane-going (c ∷ s) (sane-beginning A₁ B₁ long₁) first) w (letter-stays (46 ∷ b ∷ t) k (no_second x) f.goes).same f.behind;
      }

  -- THE READING of the joined text
  pub whole : {σ τ : MachineState} {μ ν : Memory} → bytes_read (c ∷ s) A₁ B₁ ≡ going σ μ → accepting σ ≡ true → ((r : ℕ) → get_or μ.st.opener r 0 ≡ 0) → bytes_read (b ∷ t) A₂ B₂ ≡ going τ ν → Room μ.st.atoms μ.st.bonds ν
      → Ended ((c ∷ s) ++ 46 ∷ b ∷ t) A B τ μ ν
  whole {σ} {τ} {μ} {ν} first ends shut second room =
      let f = other-tables A₁ B₁ A B long₁ long c s first in
      let e = ends-sequence σ ends (never-start s c 0 start (beginning (zeros A₁) (zeros B₁)) first) in
      whole_from (first ∙ ap (λ (z : MachineState). going z μ) e.1) shut (f.goes ∙ ap (λ (z : MachineState). going z f.memory) e.1) f.behind second room
