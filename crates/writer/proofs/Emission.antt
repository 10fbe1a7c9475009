-- One law for each way through the emission's code. Assumes nothing.
use Prim.Native.Nat.{ℕ, zero, suc, ◌+◌, ◌-◌, ◌<◌, ◌≤◌}
use native.Mathlib.Omega.{arith}
use native.Mathlib.Numerals.{add-one}
use mathlib.Core.Path.{◌≡◌, refl, sym, ap, ◌∙◌, subst}
use mathlib.Core.Bool.{Bool, true, false}
use mathlib.Core.List.{List, [], ◌∷◌, ◌++◌}
use lib.ListN.{length, get_or}
use lib.IntN.{ℤ}
use borrow.Author.Tests.{eq-eqb, ne_eqb}
use Rattle.loops.specs.Loop.{up_to}
use Rattle.writing_walk.specs.Token.{Bond}
use Rattle.writing_walk.specs.Emit.{Slot, close_all, open_all}
use Rattle.writing_walk.specs.Walk.{closing_bonds, opening_bonds}
use Rattle.writing_walk.proofs.Count.{All, none, more}
use Rattle.writing_walk.proofs.Read.{open_of, Within, closes-within, inv-rings}
use Rattle.writing_walk.proofs.Walk.{Inside}
use Rattle.writing_walk.proofs.Trip.{back-of}
use Rattle.writing.specs.Spell.{kind_bytes, spelled_atom}
use Rattle.buffer.specs.Buffer.{BufferAt, Wrote}
use Rattle.buffer.proofs.Laws.{also, as_is, nothing}
use Rattle.writing_bridges.specs.Slots.{Bridged, Slots, closes_from, opens_from, fits, Ended}
use Rattle.writer.specs.Emit.{leave_bytes, enter_bytes, lead_bytes, head_bytes, more_at, Emitted, Texted, Pending, next_slots, bytes_from, few_from}

-- what stands before an atom
pub stays : (u x : ℕ) → u ≡ x → leave_bytes u x ≡ []
unfolding leave_bytes
stays u x e = rw (eq-eqb u x e)

pub leaves : (u x : ℕ) → (u ≡ x → ⊥) → leave_bytes u x ≡ 41 ∷ []
unfolding leave_bytes
leaves u x e = rw (ne_eqb u x e)

pub enters : (m : Bool) → m ≡ true → enter_bytes m ≡ 40 ∷ []
unfolding enter_bytes
enters true e = refl
enters false e = absurd (let z : ◌≡◌ {A = ℕ} 0 1 = cc in omega arith)

pub passes : (m : Bool) → m ≡ false → enter_bytes m ≡ []
unfolding enter_bytes
passes true e = absurd (let z : ◌≡◌ {A = ℕ} 0 1 = cc in omega arith)
passes false e = refl

pub child-lead : (x u k : ℕ) (m : Bool) → 0 < u → lead_bytes x u m k ≡ leave_bytes u x ++ (enter_bytes m ++ kind_bytes k)
unfolding lead_bytes
child-lead x zero k m h = absurd (omega arith)
child-lead x (suc u) k m h = refl

pub first-lead : (x u k : ℕ) (m : Bool) → u ≤ 0 → x ≡ 0 → lead_bytes x u m k ≡ []
unfolding lead_bytes
first-lead x zero k m h e = rw (eq-eqb x 0 e)
first-lead x (suc u) k m h e = absurd (omega arith)

pub piece-lead : (x u k : ℕ) (m : Bool) → u ≤ 0 → (x ≡ 0 → ⊥) → lead_bytes x u m k ≡ 46 ∷ []
unfolding lead_bytes
piece-lead x zero k m h e = rw (ne_eqb x 0 e)
piece-lead x (suc u) k m h e = absurd (omega arith)

-- an atom
pub emitted : (atoms : List ℤ) (order up kind last sums written los his kinds : List ℕ) (k x : ℕ) (a c : List ℕ) (few : Bool) (p q r s : BufferAt) (m : Bool) → m ≡ more_at up last x
    → Wrote (lead_bytes x (get_or up x 0) m (get_or kind x 0)) p q → Wrote (spelled_atom atoms (get_or order x 0) (get_or written (get_or order x 0) 0) (get_or sums (get_or order x 0) 0)) q r → Ended los his kinds k x a c few r s
    → Emitted atoms order up kind last sums written los his kinds k x a c few p s
emitted atoms order up kind last sums written los his kinds k x a c few p q r s m em w1 w2 e =
    record {
      told = λ f n t br kk sl wi.
          let E = e.told f n t br kk sl wi in
          (E.0, λ y. (also (also (as_is (ap (λ (z : Bool). lead_bytes x (get_or up x 0) z (get_or kind x 0)) (sym em)) w1) w2) (E.1 y).0, (E.1 y).1));
    }

-- the bridge bonds, as the laws of the walk take them
all-up_to : {A : Type 0} (P : A → Type 0) (f : ℕ → A) (k d : ℕ) → ((b : ℕ) → k ≤ b → b < k + d → P (f b)) → All P (up_to f k d)
unfolding up_to
all-up_to P f k zero h = none
all-up_to P f k (suc d) h = more (h k (omega arith) (omega arith)) (all-up_to P f (suc k) d (λ b g i. h b (omega arith) (omega arith)))

module _ {f : ℕ → Bond} {n k : ℕ} {los his : List ℕ} (br : Bridged f n k los his) where
  N : List Bond
  N = up_to f 0 k

  pub bridges-inside : Inside n (up_to f 0 k)
  bridges-inside = all-up_to (λ b. (b.lo < b.hi) × (b.hi < n)) f 0 k (λ i a b. (br.ordered i (omega arith), br.inside i (omega arith)))

  pub closes-are : (x : ℕ) → closing_bonds n (up_to f 0 k) x ≡ closes_from f n k x 0
  closes-are x = let z : n - 0 ≡ n = omega arith in rw z

  pub opens-are : (x : ℕ) → opening_bonds n (up_to f 0 k) x ≡ opens_from f n k x 0
  opens-are x = let z : n - 0 ≡ n = omega arith in rw z

  -- what closes is open
  pub open-there : (x : ℕ) (t : List Slot) → Pending (up_to f 0 k) x t → Within (closes_from f n k x 0) (open_of t)
  open-there x t v =
      subst (λ (l : List Bond). Within l (open_of t)) (closes-are x) (closes-within (up_to f 0 k) (closing_bonds n (up_to f 0 k)) (opening_bonds n (up_to f 0 k)) (back-of n (up_to f 0 k) bridges-inside) x t v)

  pub pending_next : (x : ℕ) (t : List Slot) → Pending (up_to f 0 k) x t → Pending (up_to f 0 k) (suc x) (next_slots f n k x t)
  pending_next x t v =
      subst (λ (l : List Slot). Pending (up_to f 0 k) (suc x) l) (λ i. open_all (opens-are x i) (close_all (closes-are x i) t))
      (inv-rings (up_to f 0 k) (closing_bonds n (up_to f 0 k)) (opening_bonds n (up_to f 0 k)) (back-of n (up_to f 0 k) bridges-inside) x t v)

-- the loop stands before the atom x
pub record Going (head : ℕ → List ℕ) (f : ℕ → Bond) (n k : ℕ) (a : List ℕ) (t : List Slot) (p : BufferAt) (x : ℕ) (c : List ℕ) (q : BufferAt) : Type 0 where
  pub within : x ≤ n
  pub long : length c ≡ length a
  pub now-open : List Slot
  pub slots : Slots f k c now-open
  pub waiting : Pending (up_to f 0 k) x now-open
  pub few : few_from (length a) f n k 0 n t ≡ few_from (length a) f n k x (n - x) now-open
  pub bytes : (e : BufferAt) → Wrote (bytes_from head f n k x (n - x) now-open) q e → Wrote (bytes_from head f n k 0 n t) p e

pub record Onward (head : ℕ → List ℕ) (los his kinds : List ℕ) (n k : ℕ) (a : List ℕ) (p : BufferAt) (x : ℕ) (c : List ℕ) (q : BufferAt) : Type 0 where
  pub told : (f : ℕ → Bond) (t : List Slot) → Bridged f n k los his → ((i : ℕ) → i < k → (f i).kind ≡ get_or kinds i 0) → Slots f k a t → Pending (up_to f 0 k) 0 t → Going head f n k a t p x c q

pub onward-start : (head : ℕ → List ℕ) (los his kinds : List ℕ) (n k : ℕ) (a : List ℕ) (p : BufferAt) → Onward head los his kinds n k a p 0 a p
onward-start head los his kinds n k a p =
    record {
      told = λ f t br kk sl pe.
          let z : n - 0 ≡ n = omega arith in
          record { within = omega arith; long = refl; now-open = t; slots = sl; waiting = pe; few = rw z; bytes = λ e w. rw z at w };
    }

module _ (atoms : List ℤ) (order up kind last sums written los his kinds : List ℕ) (n k x : ℕ) (a c d : List ℕ) (p q r : BufferAt) (few : Bool)
    (on : Onward (head_bytes atoms order up kind last sums written) los his kinds n k a p x c q) (h : x < n) (em : Emitted atoms order up kind last sums written los his kinds k x c d few q r) where
  -- the numbers do not suffice
  pub onward-stop : few ≡ false → Texted (head_bytes atoms order up kind last sums written) los his kinds n k a few p r
  unfolding few_from
  onward-stop e =
      record {
        told = λ f t br kk sl pe.
            let g = on.told f t br kk sl pe in
            let w = em.told f n g.now-open br kk g.slots (open-there br x g.now-open g.waiting) in
            let s : n - x ≡ suc (n - (x + 1)) = omega arith in
            let y : fits (length a) (opens_from f n k x 0) (close_all (closes_from f n k x 0) g.now-open) ≡ false = ap (λ (j : ℕ). fits j (opens_from f n k x 0) (close_all (closes_from f n k x 0) g.now-open)) (sym g.long) ∙ sym w.0 ∙ e in
            (e ∙ sym (g.few ∙ rw (s, y)), λ z. absurd (let v : ◌≡◌ {A = ℕ} 0 1 = cc in omega arith));
      }

  pub onward-step : few ≡ true → length d ≡ length c → Onward (head_bytes atoms order up kind last sums written) los his kinds n k a p (x + 1) d r
  unfolding few_from bytes_from
  onward-step e len =
      record {
        told = λ f t br kk sl pe.
            let g = on.told f t br kk sl pe in
            let w = em.told f n g.now-open br kk g.slots (open-there br x g.now-open g.waiting) in
            let s : n - x ≡ suc (n - (x + 1)) = omega arith in
            let y : fits (length a) (opens_from f n k x 0) (close_all (closes_from f n k x 0) g.now-open) ≡ true = ap (λ (j : ℕ). fits j (opens_from f n k x 0) (close_all (closes_from f n k x 0) g.now-open)) (sym g.long) ∙ sym w.0 ∙ e in
            record {
              within = omega arith;
              long = len ∙ g.long;
              now-open = next_slots f n k x g.now-open;
              slots = (w.1 e).1;
              waiting = subst (λ (j : ℕ). Pending (up_to f 0 k) j (next_slots f n k x g.now-open)) (sym (add-one x)) (pending_next br x g.now-open g.waiting);
              few = g.few ∙ rw (s, y, add-one x);
              bytes = λ o v. g.bytes o (rw (s, ← add-one x) (also (w.1 e).0 v));
            };
      }

pub onward-end : (head : ℕ → List ℕ) (los his kinds : List ℕ) (n k x : ℕ) (a c : List ℕ) (p q : BufferAt) → Onward head los his kinds n k a p x c q → n ≤ x → Texted head los his kinds n k a true p q
unfolding few_from bytes_from
onward-end head los his kinds n k x a c p q on h =
    record {
      told = λ f t br kk sl pe.
          let g = on.told f t br kk sl pe in
          let s : n - x ≡ 0 = omega arith in
          (sym (g.few ∙ rw s), λ z. g.bytes q (rw s nothing));
    }
