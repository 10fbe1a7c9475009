-- Whether kekulizing gives 20 does not depend on the row: the ends of the bonds that a matching chooses are the delocalized atoms. Assumes nothing.
use Prim.Native.Nat.{ℕ, ◌<◌}
use native.Mathlib.Omega.{arith}
use mathlib.Core.Path.{◌≡◌, refl, sym, ap, subst, ◌∙◌}
use mathlib.Core.Bool.{Bool, true, false, ◌&&◌, ◌||◌, not, true≢false}
use mathlib.Core.List.{List}
use mathlib.Core.Logic.{◌↔◌}
use lib.ListN.{length, take, get_or, get_or-eq_default}
use lib.IntN.{ℤ}
use lib.Dec.{eqb, ltb}
use borrow.Author.Tests.{eqb-true, ltb-true, ltb-false, not-true, not-false}
use Rattle.loops.proofs.Loops.{and_left, and_right, each_at, each_all, each-fails, length-up_to, up_to-at}
use Rattle.table.specs.Cells.{end1, end2}
use Rattle.table.specs.Sound.{sound}
use Rattle.table.specs.Marks.{crowded, crowded_ends}
use Rattle.table_marks.specs.Chosen.{crowded_choice, none_crowded_by}
use Rattle.matching.specs.Graph.{Bond, flagged, induced, set_of, touches, nth_bond}
use Rattle.matching.proofs.Graph.{same_bool}
use Rattle.table_graph.specs.Graph.{delocalized_at, delocalized_flag, delocalized_flags, flag, bond_of, graph_of}
use Rattle.kekule.specs.Kekule.{roomy, is_matching_of, KekulizeReply, kekulized, kekulized_of}
use Rattle.kekule.proofs.Crowding.{pairs, nth, member}
use Rattle.kekule.proofs.Kekule.{kekulize-short, kekulize-invalid, kekulize-wrong, kekulize-crowded, kekulize-done}
use Rattle.kekule.proofs.Kekulized.{kekulize-settles}
use Rattle.kekule_marks.specs.Claims.{crowded_kept, none_kept_crowded, CrowdedKept, Kekulizing}

-- ---- the flags of the atoms
module _ (atoms bonds : List ℤ) (n m : ℕ) where
  abbrev flags : List ℕ
  flags = delocalized_flags atoms bonds n m

  -- a flagged number is a delocalized atom
  flag-below : (v : ℕ) → flagged flags v ≡ true → v < n
  flag-below v h = go (ltb v (length flags)) refl
    where
      go : (x : Bool) → ltb v (length flags) ≡ x → v < n
      go true e = omega (arith, ltb-true v (length flags) e, length-up_to (delocalized_flag atoms bonds m) 0 n)
      go false e =
          let g : get_or flags v 0 ≡ 1 = eqb-true (get_or flags v 0) 1 h in
          let d : get_or flags v 0 ≡ 0 = get_or-eq_default flags 0 (ltb-false v (length flags) e) in
          absurd (omega arith)

  flag_is : (v : ℕ) → v < n → flagged flags v ≡ delocalized_at atoms bonds m v
  flag_is v l = ap (λ (x : ℕ). eqb x 1) (up_to-at (delocalized_flag atoms bonds m) n v 0 l) ∙ go (delocalized_at atoms bonds m v)
    where
      go : (x : Bool) → eqb (flag x) 1 ≡ x
      go true = refl
      go false = refl

  -- ---- in words
  kept-found : none_kept_crowded atoms bonds n m ≡ false → CrowdedKept atoms bonds n m
  unfolding none_kept_crowded
  kept-found h =
      let f = each-fails (λ a. not (crowded_kept atoms bonds m a)) 0 n h in
      let c = not-false (crowded_kept atoms bonds m f.at) f.fails in
      record { atom = f.at; used = omega (arith, f.below); kept = and_left (delocalized_at atoms bonds m f.at) (crowded bonds m f.at) c; full = and_right (delocalized_at atoms bonds m f.at) (crowded bonds m f.at) c }

  kept-told : CrowdedKept atoms bonds n m → none_kept_crowded atoms bonds n m ≡ false
  unfolding none_kept_crowded
  kept-told w = go (none_kept_crowded atoms bonds n m) refl
    where
      is : crowded_kept atoms bonds m w.atom ≡ true
      is = rw (w.kept, w.full)

      go : (x : Bool) → none_kept_crowded atoms bonds n m ≡ x → x ≡ false
      go false e = refl
      go true e = absurd (true≢false (sym is ∙ not-true (crowded_kept atoms bonds m w.atom) (each_at (λ a. not (crowded_kept atoms bonds m a)) n w.atom e w.used)))

  pub kept-iff : (none_kept_crowded atoms bonds n m ≡ false) ↔ CrowdedKept atoms bonds n m
  kept-iff = (kept-found, kept-told)

  -- ---- a matching
  module _ (row : List ℕ) (h : is_matching_of atoms bonds n m row ≡ true) where
    -- the ends of a chosen bond are delocalized
    ends-kept : (b : ℕ) → b < m → eqb (get_or row b 0) 1 ≡ true → (flagged flags (end1 bonds b) ≡ true) × (flagged flags (end2 bonds b) ≡ true)
    ends-kept b l e =
        let i : induced flags (bond_of bonds b) ≡ true = subst (λ (x : Bond). induced flags x ≡ true) (nth atoms bonds n m row h b l) ((pairs atoms bonds n m row h).all_induced b (member atoms bonds n m row h b l ∙ e)) in
        let x = (bond_of bonds b).elided in
        let p = flagged flags (end1 bonds b) in
        let q = flagged flags (end2 bonds b) in
        (and_right x p (and_left (x && p) q i), and_right (x && p) q i)

    -- each delocalized atom is an end of a chosen bond
    record Ending (a : ℕ) : Type 0 where
      pub bond : ℕ
      pub used : bond < m
      pub chosen : eqb (get_or row bond 0) 1 ≡ true
      pub at : (eqb (end1 bonds bond) a || eqb (end2 bonds bond) a) ≡ true

    kept-ends : (a : ℕ) → flagged flags a ≡ true → Ending a
    kept-ends a f =
        let o = (pairs atoms bonds n m row h).once_each a f in
        let b = o.one in
        let s = and_left (set_of (take m row) b) (touches (nth_bond (graph_of bonds m) b) a) o.member in
        let l : b < m = omega (arith, (pairs atoms bonds n m row h).below b s, length-up_to (bond_of bonds) 0 m) in
        record {
          bond = b;
          used = l;
          chosen = sym (member atoms bonds n m row h b l) ∙ s;
          at = subst (λ (x : Bond). touches x a ≡ true) (nth atoms bonds n m row h b l) (and_right (set_of (take m row) b) (touches (nth_bond (graph_of bonds m) b) a) o.member);
        }

    -- 20 over the bonds that a matching chooses is asked of the delocalized atoms
    pub chosen-kept : none_crowded_by bonds m row ≡ none_kept_crowded atoms bonds n m
    unfolding none_crowded_by none_kept_crowded
    chosen-kept = same_bool (none_crowded_by bonds m row) (none_kept_crowded atoms bonds n m) there back
      where
        or-false : (x y : Bool) → (x || y) ≡ false → (x ≡ false) × (y ≡ false)
        or-false false y e = (refl, e)
        or-false true y e = absurd (true≢false e)

        one : (a b : ℕ) → (crowded bonds m (end1 bonds b) ≡ false) × (crowded bonds m (end2 bonds b) ≡ false) → (x : Bool) → eqb (end1 bonds b) a ≡ x → (x || eqb (end2 bonds b) a) ≡ true → crowded bonds m a ≡ false
        one a b c true e k = rw (sym (eqb-true (end1 bonds b) a e)) c.0
        one a b c false e k = rw (sym (eqb-true (end2 bonds b) a k)) c.1

        there : none_crowded_by bonds m row ≡ true → none_kept_crowded atoms bonds n m ≡ true
        there u = each_all (λ a. not (crowded_kept atoms bonds m a)) n (λ a l. ap not (go a l (delocalized_at atoms bonds m a) refl))
          where
            go : (a : ℕ) → a < n → (x : Bool) → delocalized_at atoms bonds m a ≡ x → (x && crowded bonds m a) ≡ false
            go a l false e = refl
            go a l true e =
                let w = kept-ends a (flag_is a l ∙ e) in
                let f = not-true (crowded_choice bonds m row w.bond) (each_at (λ b. not (crowded_choice bonds m row b)) m w.bond u w.used) in
                let g : crowded_ends bonds m w.bond ≡ false = subst (λ (x : Bool). (x && crowded_ends bonds m w.bond) ≡ false) w.chosen f in
                one a w.bond (or-false (crowded bonds m (end1 bonds w.bond)) (crowded bonds m (end2 bonds w.bond)) g) (eqb (end1 bonds w.bond) a) refl w.at

        back : none_kept_crowded atoms bonds n m ≡ true → none_crowded_by bonds m row ≡ true
        back u = each_all (λ b. not (crowded_choice bonds m row b)) m (λ b l. ap not (go b l (eqb (get_or row b 0) 1) refl))
          where
            free : (v : ℕ) → flagged flags v ≡ true → crowded bonds m v ≡ false
            free v f =
                let l = flag-below v f in
                subst (λ (x : Bool). (x && crowded bonds m v) ≡ false) (sym (flag_is v l) ∙ f) (not-true (crowded_kept atoms bonds m v) (each_at (λ a. not (crowded_kept atoms bonds m a)) n v u l))

            go : (b : ℕ) → b < m → (x : Bool) → eqb (get_or row b 0) 1 ≡ x → (x && crowded_ends bonds m b) ≡ false
            go b l false e = refl
            go b l true e = let k = ends-kept b l e in rw (free (end1 bonds b) k.0, free (end2 bonds b) k.1)

  -- THE STATEMENT: of two matchings, 20 is given for both or for neither
  pub any-matching : (r s : List ℕ) → is_matching_of atoms bonds n m r ≡ true → is_matching_of atoms bonds n m s ≡ true → none_crowded_by bonds m r ≡ none_crowded_by bonds m s
  any-matching r s h k = chosen-kept r h ∙ sym (chosen-kept s k)

  -- ---- the call
  -- THE STATEMENT: what kekulizing hands back, for all tables and rows
  pub kekulizing : (row : List ℕ) → Kekulizing atoms bonds n m row (kekulized_of atoms bonds n m row)
  kekulizing row = go (roomy atoms bonds (length row)) (sound atoms bonds n m) (is_matching_of atoms bonds n m row) (none_crowded_by bonds m row) refl refl refl refl
    where
      is : {o : KekulizeReply} → o ≡ kekulized_of atoms bonds n m row → Kekulizing atoms bonds n m row o → Kekulizing atoms bonds n m row (kekulized_of atoms bonds n m row)
      is e k = subst (Kekulizing atoms bonds n m row) e k

      go : (x y z w : Bool) → roomy atoms bonds (length row) ≡ x → sound atoms bonds n m ≡ y → is_matching_of atoms bonds n m row ≡ z → none_crowded_by bonds m row ≡ w → Kekulizing atoms bonds n m row (kekulized_of atoms bonds n m row)
      go false y z w e f g c = is (kekulize-short atoms bonds n m row e) (Kekulizing.says_1 e)
      go true false z w e f g c = is (kekulize-invalid atoms bonds n m row e f) (Kekulizing.says_13 e f)
      go true true false w e f g c = is (kekulize-wrong atoms bonds n m row e f g) (Kekulizing.says_12 e f g)
      go true true true false e f g c = is (kekulize-crowded atoms bonds n m row e f g c) (Kekulizing.says_20 e f g (kept-found (sym (chosen-kept row g) ∙ c)))
      go true true true true e f g c =
          let q : kekulized atoms bonds n m row ≡ kekulized_of atoms bonds n m row = kekulize-done atoms bonds n m row e f g c refl in
          let s = (kekulize-settles atoms bonds n m row (ap (λ (o : KekulizeReply). o.code) (sym q))).still_sound in
          is q (Kekulizing.settles e f g (λ k. true≢false (sym c ∙ chosen-kept row g ∙ kept-told k)) (subst (λ (o : KekulizeReply). sound o.atoms o.bonds n m ≡ true) (sym q) s))

  -- THE STATEMENT: kekulizing sound tables by one of their matchings gives 20 exactly if a delocalized atom is crowded
  pub gives-20-iff : (row : List ℕ) → roomy atoms bonds (length row) ≡ true → sound atoms bonds n m ≡ true → is_matching_of atoms bonds n m row ≡ true → ((kekulized_of atoms bonds n m row).code ≡ 20) ↔ CrowdedKept atoms bonds n m
  gives-20-iff row e f g = (there (none_crowded_by bonds m row) refl, λ k. ap (λ (o : KekulizeReply). o.code) (sym (kekulize-crowded atoms bonds n m row e f g (chosen-kept row g ∙ kept-told k))))
    where
      there : (x : Bool) → none_crowded_by bonds m row ≡ x → (kekulized_of atoms bonds n m row).code ≡ 20 → CrowdedKept atoms bonds n m
      there false c q = kept-found (sym (chosen-kept row g) ∙ c)
      there true c q =
          let z : (kekulized_of atoms bonds n m row).code ≡ 0 = ap (λ (o : KekulizeReply). o.code) (sym (kekulize-done atoms bonds n m row e f g c refl)) in
          absurd (omega (arith, q, z))

  -- THE STATEMENT: with any two of its matchings a molecule gets the same answer
  pub same_answer : (r s : List ℕ) → roomy atoms bonds (length r) ≡ true → roomy atoms bonds (length s) ≡ true → is_matching_of atoms bonds n m r ≡ true → is_matching_of atoms bonds n m s ≡ true
      → (kekulized_of atoms bonds n m r).code ≡ (kekulized_of atoms bonds n m s).code
  same_answer r s er es h k = go (sound atoms bonds n m) refl (none_crowded_by bonds m r) refl
    where
      code : KekulizeReply → ℕ
      code o = o.code

      go : (x : Bool) → sound atoms bonds n m ≡ x → (w : Bool) → none_crowded_by bonds m r ≡ w → (kekulized_of atoms bonds n m r).code ≡ (kekulized_of atoms bonds n m s).code
      go false f w c = sym (ap code (kekulize-invalid atoms bonds n m r er f)) ∙ ap code (kekulize-invalid atoms bonds n m s es f)
      go true f false c = sym (ap code (kekulize-crowded atoms bonds n m r er f h c)) ∙ ap code (kekulize-crowded atoms bonds n m s es f k (sym (any-matching r s h k) ∙ c))
      go true f true c = sym (ap code (kekulize-done atoms bonds n m r er f h c refl)) ∙ ap code (kekulize-done atoms bonds n m s es f k (sym (any-matching r s h k) ∙ c) refl)
