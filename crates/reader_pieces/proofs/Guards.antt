-- 1, 25 and 24, and what comes after them. Assumes nothing.
use Prim.Native.Nat.{ℕ}
use native.Mathlib.Omega.{arith}
use mathlib.Core.Path.{◌≡◌, refl, ap, ◌∙◌, subst}
use mathlib.Core.Bool.{Bool, true, false}
use mathlib.Core.List.{List}
use lib.IntN.{ℤ}
use Rattle.std.proofs.Common.{Option, Some, None}
use borrow.Author.Tests.{eq-eqb, ne_eqb}
use Rattle.loops.specs.Loop.{pick}
use Rattle.table.specs.Valid.{enough}
use Rattle.reading_grammar.specs.Machine.{accepting}
use Rattle.reading_pieces.specs.declared.Paused.{Paused}
use Rattle.reading_pieces.specs.State.{machine_of, blank_state, ended_code, has_ended}
use Rattle.reading_pieces.specs.Broken.{broken_of}
use Rattle.reading_pieces.specs.Calls.{Fed, unchanged, refused_in, guarded, fed_of, end_of}
use Rattle.reading_pieces.proofs.Cleared.{refused-cleared}
use Rattle.reader_pieces.specs.Answer.{fed_is, replied, guard_code, concluded}
use Rattle.reader_pieces.specs.Run.{fed_on}

-- a call goes on: the tables are long enough, the state is not broken and has not ended
pub record GoesOn (p : Paused) (atoms bonds : List ℤ) : Type 0 where
  pub room : enough atoms bonds ≡ true
  pub sound : broken_of p atoms bonds ≡ false
  pub unended : has_ended p ≡ false

module _ (p : Paused) (atoms bonds : List ℤ) where
  -- by the four tests
  by_tests : (P : Bool → Bool → Bool → Type 0) → ((t u v : Bool) → enough atoms bonds ≡ t → broken_of p atoms bonds ≡ u → has_ended p ≡ v → P t u v) → P (enough atoms bonds) (broken_of p atoms bonds) (has_ended p)
  by_tests P f = f (enough atoms bonds) (broken_of p atoms bonds) (has_ended p) refl refl refl

  pub guard_passed : guard_code p atoms bonds ≡ None → GoesOn p atoms bonds
  guard_passed h =
      by_tests (λ t u v. pick t (pick u (Some 25) (pick v (Some ended_code) None)) (Some 1) ≡ None → GoesOn p atoms bonds) split h
    where
      split : (t u v : Bool) → enough atoms bonds ≡ t → broken_of p atoms bonds ≡ u → has_ended p ≡ v → pick {A = Option ℕ} t (pick u (Some 25) (pick v (Some ended_code) None)) (Some 1) ≡ None → GoesOn p atoms bonds
      split true true v e f g h = absurd (let z : ◌≡◌ {A = ℕ} 0 1 = cc in omega arith)
      split true false true e f g h = absurd (let z : ◌≡◌ {A = ℕ} 0 1 = cc in omega arith)
      split true false false e f g h = record { room = e; sound = f; unended = g }
      split false u v e f g h = absurd (let z : ◌≡◌ {A = ℕ} 0 1 = cc in omega arith)

  pub guard-stopped : (k : Fed) {g : ℕ} → guard_code p atoms bonds ≡ Some g → fed_is (replied g 0 p) atoms bonds ≡ guarded p atoms bonds k
  guard-stopped k {g} h = split (enough atoms bonds) (broken_of p atoms bonds) (has_ended p) h
    where
      as_code : {c : ℕ} {y : Fed} → fed_is (replied c 0 p) atoms bonds ≡ y → Some c ≡ Some g → fed_is (replied g 0 p) atoms bonds ≡ y
      as_code {c} {y} e h = let q : c ≡ g = cc in subst (λ (x : ℕ). fed_is (replied x 0 p) atoms bonds ≡ y) q e

      split : (t u v : Bool) → pick {A = Option ℕ} t (pick u (Some 25) (pick v (Some ended_code) None)) (Some 1) ≡ Some g
          → fed_is (replied g 0 p) atoms bonds ≡ pick t (pick u (unchanged 25 p atoms bonds) (pick v (unchanged ended_code p atoms bonds) k)) (unchanged 1 p atoms bonds)
      split true true v h = as_code refl h
      split true false true h = as_code refl h
      split true false false h = absurd (let z : ◌≡◌ {A = ℕ} 0 1 = cc in omega arith)
      split false u v h = as_code refl h

  -- ---- a piece
  pub feed-stopped : (s : List ℕ) {g : ℕ} → guard_code p atoms bonds ≡ Some g → fed_is (replied g 0 p) atoms bonds ≡ fed_of p s atoms bonds
  unfolding fed_of
  feed-stopped s e = guard-stopped _ e

  module _ (s : List ℕ) (w : GoesOn p atoms bonds) where
    pub feed-told : (p.told ≡ 0 → ⊥) → refused_in p.told p.place p atoms bonds ≡ fed_of p s atoms bonds
    unfolding fed_of
    feed-told n = rw (w.room, w.sound, w.unended, ne_eqb p.told 0 n)

    pub feed-on : p.told ≡ 0 → fed_on p s atoms bonds ≡ fed_of p s atoms bonds
    unfolding fed_of
    feed-on e = rw (w.room, w.sound, w.unended, eq-eqb p.told 0 e)

  -- ---- the end
  pub end-stopped : {g : ℕ} → guard_code p atoms bonds ≡ Some g → fed_is (replied g 0 p) atoms bonds ≡ end_of p atoms bonds
  unfolding end_of
  end-stopped e = guard-stopped _ e

  module _ (w : GoesOn p atoms bonds) where
    pub end-told : (p.told ≡ 0 → ⊥) → refused_in p.told p.place (blank_state ended_code 0) atoms bonds ≡ end_of p atoms bonds
    unfolding end_of
    end-told n = rw (w.room, w.sound, w.unended, ne_eqb p.told 0 n)

    module _ (e : p.told ≡ 0) where
      pub end-incomplete : accepting (machine_of p) ≡ false → refused_in 3 p.read (blank_state ended_code 0) atoms bonds ≡ end_of p atoms bonds
      unfolding end_of
      end-incomplete f = rw (w.room, w.sound, w.unended, eq-eqb p.told 0 e, f, refused-cleared 3 p.read atoms bonds)

      pub end-complete : accepting (machine_of p) ≡ true → concluded p atoms bonds ≡ end_of p atoms bonds
      unfolding end_of
      end-complete f = rw (w.room, w.sound, w.unended, eq-eqb p.told 0 e, f)
