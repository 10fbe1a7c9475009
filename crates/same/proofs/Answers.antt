-- The call's answers, path by path. Assumes nothing.
use mathlib.Core.Path.{◌≡◌, sym, ap, ◌∙◌, subst}
use mathlib.Core.Bool.{Bool, true, false, ◌&&◌, not}
use mathlib.Core.List.{List, [], ◌++◌}
use Prim.Native.Nat.{ℕ, ◌-◌, ◌≤◌}
use native.Mathlib.Omega.{arith}
use lib.IntN.{ℤ}
use lib.Dec.{leb}
use lib.ListN.{length, take, replicate}
use borrow.Author.Tests.{not-true, not-false, leb-true, ne_eqb}
use Rattle.loops.specs.Loop.{pick}
use Rattle.loops.proofs.Loops.{and_left, and_right}
use Rattle.matching.specs.Enumeration.{fill}
use Rattle.matching.specs.Model.{some?}
use Rattle.table.specs.Limits.{max_atoms, max_bonds}
use Rattle.table.specs.Valid.{enough}
use Rattle.table.specs.Sound.{sound}
use Rattle.table.proofs.Sound.{sound-valid}
use Rattle.same_model.specs.Same.{max_same, Molecule, molecule, same_reply, zeroed_reply, answered, roomy_both, sound_both, few_both, same_of, same?, partnered, first_row, second_row, first_renumbering}
use Rattle.same.specs.Ready.{Ready, Decided}

-- three cells lists that were zeroed
pub zeroed-all : (c : ℕ) (r s t : List ℕ) {r' s' t' : List ℕ} → r' ≡ replicate (length r) 0 → s' ≡ replicate (length s) 0 → t' ≡ replicate (length t) 0 → same_reply c r' s' t' ≡ zeroed_reply c r s t
zeroed-all c r s t e f g = λ i. same_reply c (e i) (f i) (g i)

pub zeros-same : (l l' : List ℕ) {t : List ℕ} → length l ≡ length l' → t ≡ replicate (length l) 0 → t ≡ replicate (length l') 0
zeros-same l l' h e = e ∙ ap (λ (k : ℕ). replicate k 0) h

module _ (x y : Molecule) (r s t : List ℕ) where
  pub too_short : roomy_both x y r s t ≡ false → same_reply 1 r s t ≡ same_of x y r s t
  unfolding same_of
  too_short h = rw h

  module _ (long : roomy_both x y r s t ≡ true) where
    pub not_sound : sound_both x y ≡ false → zeroed_reply 13 r s t ≡ same_of x y r s t
    unfolding same_of
    not_sound h = rw (long, h)

    module _ (fine : sound_both x y ≡ true) where
      pub too_many : few_both x y ≡ false → zeroed_reply 19 r s t ≡ same_of x y r s t
      unfolding same_of
      too_many h = rw (long, fine, h)

      module _ (few : few_both x y ≡ true) where
        whole : answered x y r s t ≡ same_of x y r s t
        unfolding same_of
        whole = rw (long, fine, few)

        pub different : same? x y ≡ false → zeroed_reply 254 r s t ≡ same_of x y r s t
        unfolding answered
        different h = sym (ap (λ (z : Bool). pick z (same_reply 0 (fill (length r) (first_row x y)) (fill (length s) (second_row x y)) (fill (length t) (first_renumbering x y))) (zeroed_reply 254 r s t)) h) ∙ whole

        pub unlike-counts : (x.n ≡ y.n → ⊥) → zeroed_reply 254 r s t ≡ same_of x y r s t
        unfolding same?
        unlike-counts h = different (ap (λ (z : Bool). z && some? (partnered x y)) (ne_eqb x.n y.n h))

        pub found : {b : Bool} {r' s' t' : List ℕ} → Decided x y r s t b r' s' t' → b ≡ true → same_reply 0 r' s' t' ≡ same_of x y r s t
        unfolding answered
        found {b} {r'} {s'} {t'} d h =
            (λ i. same_reply 0 (d.wrote1 h i) (d.wrote2 h i) (d.wrote3 h i))
            ∙ sym (ap (λ (z : Bool). pick z (same_reply 0 (fill (length r) (first_row x y)) (fill (length s) (second_row x y)) (fill (length t) (first_renumbering x y))) (zeroed_reply 254 r s t)) (sym d.told ∙ h))
            ∙ whole

        pub not_found : {b : Bool} {r' s' t' : List ℕ} → Decided x y r s t b r' s' t' → b ≡ false → zeroed_reply 254 r s t ≡ same_of x y r s t
        not_found d h = different (sym d.told ∙ h)

        -- what the search is asked with
        pub first-ready : Ready x r
        first-ready =
            let a = and_left (leb max_bonds (length r) && enough x.atoms x.bonds) (leb max_bonds (length s) && enough y.atoms y.bonds) (and_left ((leb max_bonds (length r) && enough x.atoms x.bonds) && (leb max_bonds (length s) && enough y.atoms y.bonds)) (leb max_atoms (length t)) long) in
            let v = sound-valid x.atoms x.bonds x.n x.m (and_left (sound x.atoms x.bonds x.n x.m) (sound y.atoms y.bonds y.n y.m) fine) in
            record {
              valid = v;
              long = and_right (leb max_bonds (length r)) (enough x.atoms x.bonds) a;
              few = leb-true x.n max_same (and_left (leb x.n max_same) (leb y.n max_same) few);
              room = omega (arith, v.bonds_few, leb-true max_bonds (length r) (and_left (leb max_bonds (length r)) (enough x.atoms x.bonds) a));
            }

        pub second-ready : Ready y s
        second-ready =
            let a = and_right (leb max_bonds (length r) && enough x.atoms x.bonds) (leb max_bonds (length s) && enough y.atoms y.bonds) (and_left ((leb max_bonds (length r) && enough x.atoms x.bonds) && (leb max_bonds (length s) && enough y.atoms y.bonds)) (leb max_atoms (length t)) long) in
            let v = sound-valid y.atoms y.bonds y.n y.m (and_right (sound x.atoms x.bonds x.n x.m) (sound y.atoms y.bonds y.n y.m) fine) in
            record {
              valid = v;
              long = and_right (leb max_bonds (length s)) (enough y.atoms y.bonds) a;
              few = leb-true y.n max_same (and_right (leb x.n max_same) (leb y.n max_same) few);
              room = omega (arith, v.bonds_few, leb-true max_bonds (length s) (and_left (leb max_bonds (length s)) (enough y.atoms y.bonds) a));
            }

        pub third-room : x.n ≤ length t
        third-room = omega (arith, leb-true max_atoms (length t) (and_right ((leb max_bonds (length r) && enough x.atoms x.bonds) && (leb max_bonds (length s) && enough y.atoms y.bonds)) (leb max_atoms (length t)) long), first-ready.few)

  -- the paths of the call
  module _ {b : Bool} (eb : b ≡ roomy_both x y r s t) where
    pub say-short : not b ≡ true → same_reply 1 r s t ≡ same_of x y r s t
    say-short h = too_short (sym eb ∙ not-true b h)

    module _ (hb : not b ≡ false) {v1 v2 : Bool} (e1 : v1 ≡ sound x.atoms x.bonds x.n x.m) (e2 : v2 ≡ sound y.atoms y.bonds y.n y.m) where
      long : roomy_both x y r s t ≡ true
      long = sym eb ∙ not-false b hb

      both : (v1 && v2) ≡ sound_both x y
      both = λ i. e1 i && e2 i

      pub say-invalid : not (v1 && v2) ≡ true → {r' s' t' : List ℕ} → r' ≡ replicate (length r) 0 → s' ≡ replicate (length s) 0 → t' ≡ replicate (length t) 0 → same_reply 13 r' s' t' ≡ same_of x y r s t
      say-invalid h e f g = zeroed-all 13 r s t e f g ∙ not_sound long (sym both ∙ not-true (v1 && v2) h)

      module _ (hv : not (v1 && v2) ≡ false) where
        fine : sound_both x y ≡ true
        fine = sym both ∙ not-false (v1 && v2) hv

        pub say-many : not (leb x.n max_same && leb y.n max_same) ≡ true → {r' s' t' : List ℕ} → r' ≡ replicate (length r) 0 → s' ≡ replicate (length s) 0 → t' ≡ replicate (length t) 0 → same_reply 19 r' s' t' ≡ same_of x y r s t
        say-many h e f g = zeroed-all 19 r s t e f g ∙ too_many long fine (not-true (leb x.n max_same && leb y.n max_same) h)

        module _ (hf : not (leb x.n max_same && leb y.n max_same) ≡ false) where
          small : few_both x y ≡ true
          small = not-false (leb x.n max_same && leb y.n max_same) hf

          pub say-unlike : (x.n ≡ y.n → ⊥) → {r' s' t' : List ℕ} → r' ≡ replicate (length r) 0 → s' ≡ replicate (length s) 0 → t' ≡ replicate (length t) 0 → same_reply 254 r' s' t' ≡ same_of x y r s t
          say-unlike h e f g = zeroed-all 254 r s t e f g ∙ unlike-counts long fine small h

          pub ask-first : Ready x r
          ask-first = first-ready long fine small

          pub ask-second : Ready y s
          ask-second = second-ready long fine small

          pub ask-third : x.n ≤ length t
          ask-third = third-room long fine small

          pub say-same : {z : Bool} {r' s' t' : List ℕ} → Decided x y r s t z r' s' t' → z ≡ true → same_reply 0 r' s' t' ≡ same_of x y r s t
          say-same = found long fine small

          pub say-different : {z : Bool} {r' s' t' : List ℕ} → Decided x y r s t z r' s' t' → z ≡ false → {r'' s'' t'' : List ℕ} → r'' ≡ replicate (length r') 0 → s'' ≡ replicate (length s') 0 → t'' ≡ replicate (length t') 0 → same_reply 254 r'' s'' t'' ≡ same_of x y r s t
          say-different {r' = r'} {s' = s'} {t' = t'} d h e f g =
              zeroed-all 254 r s t (zeros-same r' r d.long1 e) (zeros-same s' s d.long2 f) (zeros-same t' t d.long3 g) ∙ not_found long fine small d h

-- a list cleared from its start
pub cleared : (r : List ℕ) {r' : List ℕ} → r' ≡ take 0 r ++ replicate (length r - 0) 0 → r' ≡ replicate (length r) 0
cleared r e = let d : length r - 0 ≡ length r = omega arith in e ∙ ap (λ (k : ℕ). replicate k 0) d

pub none_out : (r : List ℕ) {r' : List ℕ} → r' ≡ fill (length r) [] → r' ≡ replicate (length r) 0
none_out r e = let d : length r - 0 ≡ length r = omega arith in e ∙ ap (λ (k : ℕ). replicate k 0) d

-- the same molecule with another's count
pub recount : {x : Molecule} {atoms2 bonds2 : List ℤ} {m2 n n2 : ℕ} {r s t : List ℕ} {z : Bool} {r' s' t' : List ℕ} → n ≡ n2 → Decided x (molecule atoms2 bonds2 n m2) r s t z r' s' t' → Decided x (molecule atoms2 bonds2 n2 m2) r s t z r' s' t'
recount {x} {atoms2} {bonds2} {m2} {n} {n2} {r} {s} {t} {z} {r'} {s'} {t'} e d = subst (λ (k : ℕ). Decided x (molecule atoms2 bonds2 k m2) r s t z r' s' t') e d

pub reready : {atoms2 bonds2 : List ℤ} {m2 n n2 : ℕ} {s : List ℕ} → n ≡ n2 → Ready (molecule atoms2 bonds2 n2 m2) s → Ready (molecule atoms2 bonds2 n m2) s
reready {atoms2} {bonds2} {m2} {n} {n2} {s} e w = subst (λ (k : ℕ). Ready (molecule atoms2 bonds2 k m2) s) (sym e) w
