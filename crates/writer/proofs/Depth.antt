-- The nesting of the tokens, as the parents in walk order give it. Assumes nothing.
use Prim.Native.Nat.{ℕ, zero, suc, ◌+◌, ◌-◌, ◌≤◌}
use native.Mathlib.Omega.{arith}
use native.Mathlib.Numerals.{add-one}
use mathlib.Core.Path.{◌≡◌, refl, sym, ap, ◌∙◌}
use mathlib.Core.Bool.{Bool, true, false, ◌&&◌, cond}
use mathlib.Core.List.{List, [], ◌∷◌, ◌++◌, append_assoc}
use lib.ListN.{length, get_or}
use lib.Dec.{eqb, leb, ltb}
use borrow.Author.Tests.{ne_eqb, le-leb, leb-true, leb-false, lt-ltb, le-ltb}
use Rattle.loops.specs.Loop.{pick}
use Rattle.ids.specs.Limits.{max_depth}
use Rattle.writing_walk.specs.Token.{Bond, Tok, back}
use Rattle.writing_walk.specs.Emit.{Slot, release, insert, close_all, close_toks, open_toks, ring_toks}
use Rattle.writing_walk.specs.Flat.{first, later, WalkRow, lead, child, flat, position_of}
use Rattle.writing_walk.specs.Depth.{nests}
use Rattle.writing_bridges.specs.Slots.{Bridged}
use Rattle.writer.specs.Emit.{next_slots}
use Rattle.writer.specs.Nest.{depth_left, depth_after, nest_from}
use Rattle.writer.proofs.Tokens.{rows_from, later_one, rows_end, c, o, flat_step}

abbrev N : List Tok → ℕ → Bool
N ts d = nests max_depth ts d

close-nests : (l : List Bond) (t : List Slot) (ts : List Tok) (d : ℕ) → N (close_toks l t ++ ts) d ≡ N ts d
close-nests [] t ts d = refl
close-nests (b ∷ l) t ts d = close-nests l (release b t) ts d

open-nests : (l : List Bond) (t : List Slot) (ts : List Tok) (d : ℕ) → N (open_toks l t ++ ts) d ≡ N ts d
open-nests [] t ts d = refl
open-nests (b ∷ l) t ts d = open-nests l (insert b t) ts d

-- a child: a branch is entered if another child follows
abbrev enter_depth : Bool → ℕ → ℕ
enter_depth m e = pick m (pick (leb max_depth e) (max_depth + 1) (e + 1)) e

child-nests : (m : Bool) (k w : ℕ) (ts : List Tok) (R : ℕ → Bool) (e : ℕ) → e ≤ max_depth → ((d : ℕ) → d ≤ max_depth → N ts d ≡ R d) → N (child m k w ++ ts) e ≡ (leb (enter_depth m e) max_depth && R (enter_depth m e))
child-nests false k w ts R e h r = r e h ∙ sym (rw (le-leb e max_depth h))
child-nests true k w ts R e h r = go (leb max_depth e) refl
  where
    go : (t : Bool) → leb max_depth e ≡ t → (ltb e max_depth && N ts (suc e)) ≡ (leb (pick t (max_depth + 1) (e + 1)) max_depth && R (pick t (max_depth + 1) (e + 1)))
    go true q = let z = leb-true max_depth e q in rw (le-ltb e max_depth z)
    go false q =
        let z = leb-false max_depth e q in
        let y : e + 1 ≤ max_depth = omega arith in
        rw (lt-ltb e max_depth (omega arith), le-leb (e + 1) max_depth y, ← add-one e) (r (e + 1) y)

back-nests : (ts : List Tok) (d : ℕ) → N (back ∷ ts) d ≡ N ts (d - 1)
back-nests ts zero = let z : 0 - 1 ≡ 0 = omega arith in ap (N ts) (sym z)
back-nests ts (suc d) = let z : suc d - 1 ≡ d = omega arith in ap (N ts) (sym z)

lead-nests : (u x k w : ℕ) (m : Bool) (ts : List Tok) (R : ℕ → Bool) (d : ℕ) → d ≤ max_depth → ((e : ℕ) → e ≤ max_depth → N ts e ≡ R e)
    → N (lead (position_of u x) m k w ++ ts) d ≡ (leb (depth_after d u m x) max_depth && R (depth_after d u m x))
unfolding depth_after depth_left
lead-nests zero x k w m ts R d h r = r d h ∙ sym (rw (le-leb d max_depth h))
lead-nests (suc p) x k w m ts R d h r = rw (ne_eqb (suc p) 0 (omega arith)) (go (eqb (suc p) x))
  where
    go : (t : Bool) → N (lead (cond t first later) m k w ++ ts) d ≡ (leb (enter_depth m (pick t d (d - 1))) max_depth && R (enter_depth m (pick t d (d - 1))))
    go true = child-nests m k w ts R d h r
    go false = back-nests (child m k w ++ ts) d ∙ child-nests m k w ts R (d - 1) (omega arith) r

module _ (ws ks us : List ℕ) (n : ℕ) (lw : length ws ≡ n) (lk : length ks ≡ n) (lu : length us ≡ n) (f : ℕ → Bond) (k : ℕ) {los his : List ℕ} (br : Bridged f n k los his) (g : ℕ → List ℕ) where
  pub nests-from : (d x depth : ℕ) (t : List Slot) → x + d ≡ n → depth ≤ max_depth
      → N (flat (c ws ks us n lw lk lu f k br g) (o ws ks us n lw lk lu f k br g) (rows_from ws ks us n lw lk lu x) x t) depth ≡ nest_from us (later_one ws ks us n lw lk lu) x d depth
  unfolding nest_from
  nests-from zero x depth t e h = ap (λ (r : List WalkRow). N (flat (c ws ks us n lw lk lu f k br g) (o ws ks us n lw lk lu f k br g) r x t) depth) (rows_end ws ks us n lw lk lu x (omega arith))
  nests-from (suc d) x depth t e h =
      let C = c ws ks us n lw lk lu f k br g in
      let O = o ws ks us n lw lk lu f k br g in
      let T = flat C O (rows_from ws ks us n lw lk lu (suc x)) (suc x) (next_slots f n k x t) in
      let m = later_one ws ks us n lw lk lu x in
      ap (λ (l : List Tok). N l depth) (flat_step ws ks us n lw lk lu f k br g x t (omega arith))
      ∙ lead-nests (get_or us x 0) x (get_or ks x 0) (get_or ws x 0) m (ring_toks C O x t ++ T) (nest_from us (later_one ws ks us n lw lk lu) (suc x) d) depth h
      (λ e2 h2. ap (λ (l : List Tok). N l e2) (append_assoc (close_toks (C x) t) (open_toks (O x) (close_all (C x) t)) T) ∙ close-nests (C x) t (open_toks (O x) (close_all (C x) t) ++ T) e2 ∙ open-nests (O x) (close_all (C x) t) T e2
      ∙ nests-from d (suc x) e2 (next_slots f n k x t) (omega arith) h2)
