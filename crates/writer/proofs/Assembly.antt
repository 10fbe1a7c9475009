-- From the arrays to the definition of writing. Assumes nothing.
use Prim.Native.Nat.{ℕ, zero, suc, ◌+◌, ◌<◌, ◌≤◌}
use native.Mathlib.Omega.{arith}
use mathlib.Core.Path.{◌≡◌, refl, sym, ap, ◌∙◌, subst}
use mathlib.Core.Bool.{Bool, true, false, ◌&&◌}
use mathlib.Core.List.{List, [], ◌∷◌, ◌++◌}
use lib.ListN.{length, get_or, set, replicate, drop}
use lib.IntN.{ℤ}
use lib.Dec.{eqb, leb}
use borrow.Author.Tests.{eqb-true, eq-eqb}
use Rattle.loops.specs.Loop.{up_to, run}
use Rattle.loops.proofs.Loops.{length-up_to, up_to-at}
use Rattle.table.specs.Limits.{ISOTOPE, EXTENSION, ELEMENT}
use Rattle.table.specs.Cells.{atom_cell, mark, end1, end2}
use Rattle.table.specs.Valid.{Valid, same_ends}
use Rattle.table.proofs.Valid.{atom-row, bond-row, kind-small, hydrogens-small, apart-at, range-high}
use Rattle.table_graph.specs.Graph.{bond_sum}
use Rattle.ids.specs.Limits.{max_depth}
use Rattle.writing_walk.specs.Token.{Bond, Tok}
use Rattle.writing_walk.specs.Emit.{Forest, leaf, node, size, pre, Slot, text, close_all}
use Rattle.writing_walk.specs.Walk.{forest_of, member, relabel, closing_bonds, opening_bonds, unused, write}
use Rattle.writing_walk.specs.Check.{ends}
use Rattle.writing_walk.specs.Depth.{nests}
use Rattle.writing_walk.specs.Flat.{kinds, ups, flat, rows_of}
use Rattle.writing_walk.proofs.Count.{bit, count, All, none, more, all_append, and_left, and_right}
use Rattle.writing_walk.proofs.Whole.{inv-start}
use Rattle.writing_walk.proofs.Trip.{renumbering, place-lt, size-length, back-of}
use Rattle.writing_walk.proofs.Twice.{Distinct}
use Rattle.writing_walk.proofs.Rows.{rows-text}
use Rattle.writing.specs.Spell.{atom_bytes, tokens_bytes, spelled_atom}
use Rattle.writing.specs.Write.{walk_bond, bond_list, tokens, marks_written, text_of, few_bridges}
use Rattle.writing.proofs.Marks.{spelled-but, written-but}
use Rattle.buffer.specs.Buffer.{BufferAt}
use Rattle.buffer.proofs.Laws.{as_is}
use Rattle.writing_atoms.specs.Fields.{AtomFits}
use Rattle.writing_visit.specs.Visit.{BondsFit, Room, Kept, Walked}
use Rattle.writing_visit.specs.Wires.{wires, Wired}
use Rattle.writing_visit.proofs.Ways.{bonds-inside}
use Rattle.writing_visit.proofs.Wires.{fit_same, wired-at, wired-list}
use Rattle.writing_visit.proofs.Laws.{length-kinds, length-ups, room-kept}
use Rattle.writing_bridges.specs.Slots.{slot_count, Slots, end, rest, closes_from, opens_from, close_bytes, open_bytes}
use Rattle.writing_bridges.specs.Unused.{bond_arrays, add_bond, in_walk, Numbered, BondRoom}
use Rattle.writing_bridges.proofs.Listed.{Listed, listed}
use Rattle.writing_marks.specs.Marks.{Turned}
use Rattle.writer.specs.Emit.{Ready, head_bytes, more_at, lead_bytes, Texted, Pending, bytes_from, next_slots}
use Rattle.writer.specs.Nest.{nest_from, depth_after}
use Rattle.writer.specs.Told.{Held, Counted, Said}
use Rattle.writer.proofs.Emission.{bridges-inside}
use Rattle.writer.proofs.Tokens.{later_one, head_at, text-bytes, few-from}
use Rattle.writer.proofs.Nesting.{more-at}
use Rattle.writer.proofs.Depth.{nests-from}

-- at most one passes if no two do
module _ {A : Type 0} (p : A → Bool) (f : ℕ → A) where
  count_none : (k m : ℕ) → ((j : ℕ) → k ≤ j → j < k + m → p (f j) ≡ false) → count p (up_to f k m) ≡ 0
  unfolding up_to
  count_none k zero h = refl
  count_none k (suc m) h = let e = ap bit (h k (omega arith) (omega arith)) in let r = count_none (suc k) m (λ j a b. h j (omega arith) (omega arith)) in omega arith

  count-once : (k m : ℕ) → ((i j : ℕ) → i < j → j < k + m → p (f i) ≡ true → p (f j) ≡ true → ⊥) → count p (up_to f k m) ≤ 1
  unfolding up_to
  count-once k zero h = omega arith
  count-once k (suc m) h = go (p (f k)) refl (count-once (suc k) m (λ i j a b. h i j a (omega arith)))
    where
      others : p (f k) ≡ true → (j : ℕ) → suc k ≤ j → j < suc k + m → p (f j) ≡ false
      others e j a b = two (p (f j)) refl
        where
          two : (x : Bool) → p (f j) ≡ x → x ≡ false
          two true g = absurd (h k j (omega arith) (omega arith) e g)
          two false g = refl

      go : (x : Bool) → p (f k) ≡ x → count p (up_to f (suc k) m) ≤ 1 → bit x + count p (up_to f (suc k) m) ≤ 1
      go true e r = let z = count_none (suc k) m (others e) in omega arith
      go false e r = omega arith

-- what valid tables give
module _ {atoms bonds : List ℤ} {n m : ℕ} (v : Valid atoms bonds n m) where
  pub fit : BondsFit (walk_bond bonds) n m
  fit = record { atoms_few = v.atoms_few; bonds_few = v.bonds_few; ends = λ b h. (let r = bond-row v b h in (r.order, r.second)); kinds = λ b h. (let r = kind-small v b h in omega arith) }

  pub distinct : Distinct (bond_list bonds m)
  unfolding same_ends
  distinct a c = count-once (ends a c) (walk_bond bonds) 0 m (λ i j g l p q.
      (let e1 : end1 bonds j ≡ end1 bonds i = eqb-true (end1 bonds j) a (and_left (eqb (end1 bonds j) a) (eqb (end2 bonds j) c) q) ∙ sym (eqb-true (end1 bonds i) a (and_left (eqb (end1 bonds i) a) (eqb (end2 bonds i) c) p)) in
      let e2 : end2 bonds j ≡ end2 bonds i = eqb-true (end2 bonds j) c (and_right (eqb (end1 bonds j) a) (eqb (end2 bonds j) c) q) ∙ sym (eqb-true (end2 bonds i) c (and_right (eqb (end1 bonds i) a) (eqb (end2 bonds i) c) p)) in
      let f : same_ends bonds j i ≡ false = apart-at v j i (omega arith) g in
      let t : same_ends bonds j i ≡ true = rw (eq-eqb (end1 bonds j) (end1 bonds i) e1, eq-eqb (end2 bonds j) (end2 bonds i) e2) in
      (let z : ◌≡◌ {A = ℕ} 0 1 = cc in omega arith)))

  pub atom-fits : (a : ℕ) → a < n → AtomFits atoms a
  atom-fits a h =
      let r = atom-row v a h in
      let e = range-high (atom_cell atoms a ELEMENT) 118 r.element in
      let i = range-high (atom_cell atoms a ISOTOPE) 999 r.isotope in
      let y = hydrogens-small v a h in
      let x = range-high (atom_cell atoms a EXTENSION) 9999 r.extension in
      record { element = omega arith; isotope = omega arith; hydrogens = omega arith; charge = r.charge; extension = omega arith }

  abbrev F : Forest
  F = forest_of n (bond_list bonds m)

  pub long-walk : length (pre F) ≡ n
  long-walk = (renumbering n (bond_list bonds m) (bonds-inside fit)).long

  pub numbered : {o w u k : List ℕ} → Room n o w u k → Walked (bond_list bonds m) n o w u k → Numbered (bond_list bonds m) n w u
  numbered r d =
      record {
        number = d.number;
        up = d.up;
        below = λ a h. (let q = place-lt a (pre F) ((renumbering n (bond_list bonds m) (bonds-inside fit)).every a h) in let l = long-walk in omega arith);
        numbers = r.number;
        ups = r.up;
      }

-- an atom's bytes, with its mark as it is written and its bond sum
spelled_is : (atoms bonds : List ℤ) (n m a k s : ℕ) → k ≡ mark (marks_written atoms bonds n m) a → s ≡ bond_sum bonds m a → spelled_atom atoms a k s ≡ atom_bytes (marks_written atoms bonds n m) bonds m a
spelled_is atoms bonds n m a k s e f = sym (spelled-but (written-but atoms bonds n m) a k s) ∙ (λ i. spelled_atom (marks_written atoms bonds n m) a (e i) (f i))

same-atoms : (G : Forest) → relabel (λ a. a) G ≡ G
same-atoms leaf = refl
same-atoms (node w k f g) = λ i. node w k (same-atoms f i) (same-atoms g i)

-- a parent's number plus 1 is at most the number of atoms; the first atom has none
ups-small : (G : Forest) (p n b : ℕ) → p ≤ n → n + size G ≤ b → All (λ u. u ≤ b) (ups G p n)
ups-small leaf p n b h g = none
ups-small (node w k f r) p n b h g =
    more {b = p} (omega arith) (all_append (λ u. u ≤ b) (ups f (suc n) (suc n)) (ups r p (suc n + size f)) (ups-small f (suc n) (suc n) b (omega arith) (omega arith)) (ups-small r p (suc n + size f) b (omega arith) (omega arith)))

all-at : (P : ℕ → Type 0) (l : List ℕ) → All P l → (i : ℕ) → i < length l → P (get_or l i 0)
all-at P [] none i h = absurd (omega arith)
all-at P (x ∷ l) (more p a) zero h = p
all-at P (x ∷ l) (more p a) (suc i) h = all-at P l a i (omega arith)

first-root : (G : Forest) → get_or (ups G 0 0) 0 0 ≡ 0
first-root leaf = refl
first-root (node w k f g) = refl

-- free slots
zero-slots : (f : ℕ → Bond) (k c : ℕ) → Slots f k (replicate c 0) []
zero-slots f k zero = end
zero-slots f k (suc c) = rest (zero-slots f k c)

-- the same bytes and depths, place by place
bytes_same : (h g : ℕ → List ℕ) (f : ℕ → Bond) (n k d x : ℕ) (t : List Slot) → x + d ≤ n → ((y : ℕ) → y < n → h y ≡ g y) → bytes_from h f n k x d t ≡ bytes_from g f n k x d t
unfolding bytes_from
bytes_same h g f n k zero x t l e = refl
bytes_same h g f n k (suc d) x t l e =
    λ i. (e x (omega arith) i ++ (close_bytes (closes_from f n k x 0) t ++ open_bytes (opens_from f n k x 0) (close_all (closes_from f n k x 0) t))) ++ bytes_same h g f n k d (suc x) (next_slots f n k x t) (omega arith) e i

nest-same : (u w : List ℕ) (p q : ℕ → Bool) (n d x depth : ℕ) → x + d ≤ n → ((y : ℕ) → y < n → get_or u y 0 ≡ get_or w y 0) → ((y : ℕ) → y < n → p y ≡ q y) → nest_from u p x d depth ≡ nest_from w q x d depth
unfolding nest_from
nest-same u w p q n zero x depth l e g = refl
nest-same u w p q n (suc d) x depth l e g =
    let z : depth_after depth (get_or u x 0) (p x) x ≡ depth_after depth (get_or w x 0) (q x) x = λ i. depth_after depth (e x (omega arith) i) (g x (omega arith) i) x in
    (λ i. leb (z i) max_depth && nest_from u p (suc x) d (z i)) ∙ ap (λ (b : Bool). leb (depth_after depth (get_or w x 0) (q x) x) max_depth && b) (nest-same u w p q n d (suc x) (depth_after depth (get_or w x 0) (q x) x) (omega arith) e g)

module _ {atoms bonds : List ℤ} {n m : ℕ} (v : Valid atoms bonds n m) {o w u kd : List ℕ} (room : Room n o w u kd) (walked : Walked (bond_list bonds m) n o w u kd) where
  abbrev G : Forest
  G = forest_of n (bond_list bonds m)

  order_below : (x : ℕ) → x < n → get_or o x 0 < n
  order_below x h =
      let l = long-walk v in
      rw (walked.order x h) (all-at (λ y. y < n) (pre G) (renumbering n (bond_list bonds m) (bonds-inside (fit v))).inside x (omega arith))

  pub parents-fit : (x : ℕ) → x < n → get_or u x 0 ≤ n
  parents-fit x h =
      let s : size G ≡ n = sym (size-length G) ∙ long-walk v in
      let l = length-ups G 0 0 in
      rw (walked.up x h) (all-at (λ y. y ≤ n) (ups G 0 0) (ups-small G 0 0 n (omega arith) (omega arith)) x (omega arith))

  pub ready : (last sums written los his kinds : List ℕ) (k : ℕ) → n < length last → n ≤ length sums → n ≤ length written → k ≤ m → m ≤ length los → m ≤ length his → m ≤ length kinds → (x : ℕ) → x < n → Ready atoms o u kd last sums written los his kinds k x
  ready last sums written los his kinds k a b j c d e g x h =
      let f = v.atoms_few in
      let p = parents-fit x h in
      let q = order_below x h in
      let ro = room.order in
      let ru = room.up in
      let rk = room.kind in
      record {
        few = omega arith;
        here = omega arith;
        parent = omega arith;
        bond = omega arith;
        later = omega arith;
        atom = omega arith;
        sum = omega arith;
        mark = omega arith;
        fits = atom-fits v (get_or o x 0) q;
        bridges = omega (arith, v.bonds_few);
        lower = omega arith;
        higher = omega arith;
        opened = omega arith;
      }

  -- THE STATEMENT
  pub said : (last sums written los his kds l0 : List ℕ) (k : ℕ) (few flat? : Bool) (p q : BufferAt) → Listed (bond_list bonds m) n los his kds k → ((a : ℕ) → a < n → get_or sums a 0 ≡ bond_sum bonds m a) → Turned atoms bonds n m written
      → n < length l0 → last ≡ run (λ x l. set l (get_or u x 0) x) 0 n l0
      → Texted (head_bytes atoms o u kd last sums written) los his kds n k (replicate slot_count 0) few p q → flat? ≡ nest_from u (more_at u last) 0 n 0 → Said atoms bonds n m few flat? p q
  unfolding tokens write text_of
  said last sums written los his kds l0 k few flat? p q ls sm mk ll el tx sh =
      let f = ls.bond-at in
      let br = ls.bridged in
      let ws = pre G in
      let ks = kinds G in
      let us = ups G 0 0 in
      let lw : length ws ≡ n = long-walk v in
      let sz : size G ≡ n = sym (size-length G) ∙ lw in
      let lk : length ks ≡ n = length-kinds G ∙ sz in
      let lu : length us ≡ n = length-ups G 0 0 ∙ sz in
      let U = unused n (bond_list bonds m) in
      let N = up_to f 0 k in
      let g = atom_bytes (marks_written atoms bonds n m) bonds m in
      let pe : Pending N 0 [] = inv-start N (closing_bonds n N) (opening_bonds n N) (back-of n N (bridges-inside br)) in
      let T = tx.told f [] br ls.kind_at (zero-slots f k slot_count) pe in
      let tok : tokens bonds n m ≡ flat (closing_bonds n N) (opening_bonds n N) (rows_of ws ks us 0) 0 [] =
      ap (λ (H : Forest). text (closing_bonds n U) (opening_bonds n U) H 0 []) (same-atoms G) ∙ sym (rows-text (closing_bonds n U) (opening_bonds n U) G [])
      ∙ ap (λ (W : List Bond). flat (closing_bonds n W) (opening_bonds n W) (rows_of ws ks us 0) 0 []) (sym ls.all) in
      let mo : (x : ℕ) → x < n → more_at u last x ≡ member (get_or us x 0) (drop (suc x) us) = more-at u us last n l0 lu walked.up (λ x h. (let y = parents-fit x h in omega arith)) el in
      let hd : (x : ℕ) → x < n → head_bytes atoms o u kd last sums written x ≡ lead_bytes x (get_or us x 0) (member (get_or us x 0) (drop (suc x) us)) (get_or ks x 0) ++ g (get_or ws x 0) =
      λ x h. (λ i. lead_bytes x (walked.up x h i) (mo x h i) (walked.kind x h i) ++ spelled_atom atoms (get_or o x 0) (get_or written (get_or o x 0) 0) (get_or sums (get_or o x 0) 0))
      ∙ ap (λ (l : List ℕ). lead_bytes x (get_or us x 0) (member (get_or us x 0) (drop (suc x) us)) (get_or ks x 0) ++ l) (spelled_is atoms bonds n m (get_or o x 0) (get_or written (get_or o x 0) 0) (get_or sums (get_or o x 0) 0) (mk.marks_at (get_or o x 0) (order_below x h)) (sm (get_or o x 0) (order_below x h)) ∙ ap g (walked.order x h)) in
      let tb : tokens_bytes g (tokens bonds n m) ≡ bytes_from (head_bytes atoms o u kd last sums written) f n k 0 n [] =
      ap (tokens_bytes g) tok ∙ text-bytes ws ks us n lw lk lu f k br g n [] refl (λ h. first-root G) ∙ sym (bytes_same (head_bytes atoms o u kd last sums written) (head_at ws ks us n lw lk lu f k br g) f n k n 0 [] (omega arith) hd) in
      record {
        numbers = T.0 ∙ sym (ap few_bridges tok ∙ few-from ws ks us n lw lk lu f k br g n 0 [] (omega arith) pe (omega arith));
        depth = sh ∙ nest-same u us (more_at u last) (later_one ws ks us n lw lk lu) n n 0 0 (omega arith) walked.up mo ∙ sym (ap (λ (ts : List Tok). nests max_depth ts 0) tok ∙ nests-from ws ks us n lw lk lu f k br g n 0 0 [] (omega arith) (omega arith));
        text = λ y. as_is tb (T.1 y);
      }

-- the same from the arrays of the bonds
module _ {atoms bonds : List ℤ} {n m : ℕ} {o w u kd ea eb ks sums written : List ℕ} (h : Held atoms bonds n m o w u kd ea eb ks sums written) where
  pub held-fit : BondsFit (wires ea eb ks) n m
  held-fit = fit_same (wired-at h.wired) (fit h.valid)

  pub held-numbered : Numbered (up_to (wires ea eb ks) 0 m) n w u
  held-numbered = subst (λ (bs : List Bond). Numbered bs n w u) (sym (wired-list h.wired)) (numbered h.valid h.room h.walked)

  pub held-listed : {l j q l2 h2 q2 : List ℕ} {k : ℕ} → BondRoom m l j q → bond_arrays l2 h2 q2 k ≡ run (λ b. add_bond u (in_walk (wires ea eb ks) n m b)) 0 m (bond_arrays l j q 0) → Listed (bond_list bonds m) n l2 h2 q2 k
  held-listed {l} {j} {q} {l2} {h2} {q2} {k} r e =
      let d : Distinct (up_to (wires ea eb ks) 0 m) = subst Distinct (sym (wired-list h.wired)) (distinct h.valid) in
      subst (λ (bs : List Bond). Listed bs n l2 h2 q2 k) (wired-list h.wired) (listed held-fit d held-numbered l j q l2 h2 q2 k r e)

-- as many bonds at most are listed as there are
pub listed-few : (bonds : List ℤ) (m : ℕ) {n k : ℕ} {l j q : List ℕ} → Listed (bond_list bonds m) n l j q k → k ≤ m
listed-few bonds m h = omega (arith, h.few, length-up_to (walk_bond bonds) 0 m)

pub sums_at : (sums : List ℕ) (g : ℕ → ℕ) (n l : ℕ) → sums ≡ up_to g 0 l → n ≤ l → (a : ℕ) → a < n → get_or sums a 0 ≡ g a
sums_at sums g n l e h a i = ap (λ (s : List ℕ). get_or s a 0) e ∙ up_to-at g l a 0 (omega arith)

-- what the walk leaves
module _ {bonds : List ℤ} {n m : ℕ} {o₀ w₀ u₀ k₀ o w u k : List ℕ} (room : Room n o₀ w₀ u₀ k₀) (kept : Kept o₀ w₀ u₀ k₀ o w u k) (walked : Walked (bond_list bonds m) n o w u k) where
  pub held : {atoms : List ℤ} {ea eb ks sums written : List ℕ} (len : ℕ) → Valid atoms bonds n m → Wired bonds m 0 ea eb ks → m ≤ length ea → m ≤ length eb → m ≤ length ks → sums ≡ up_to (bond_sum bonds m) 0 len → n ≤ len → Turned atoms bonds n m written → Held atoms bonds n m o w u k ea eb ks sums written
  held {atoms} {ea} {eb} {ks} {sums} {written} len v wired a b c summed s t =
      let l : length sums ≡ len = ap length summed ∙ length-up_to (bond_sum bonds m) 0 len in
      record {
        valid = v;
        room = room-kept room kept;
        walked = walked;
        wired = wired;
        firsts = a;
        seconds = b;
        kinds = c;
        summed = summed ∙ ap (up_to (bond_sum bonds m) 0) (sym l);
        sums_long = omega (arith, s, l);
        turned = t;
      }

  pub numbered-walk : {atoms : List ℤ} → Valid atoms bonds n m → Numbered (bond_list bonds m) n w u
  numbered-walk v = numbered v (room-kept room kept) walked

  pub counted : Counted bonds n m w
  counted = record { long = (room-kept room kept).number; place_at = walked.number }
