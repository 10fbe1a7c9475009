-- The bonds in arrays, noted and linked one by one from the last bond on. Assumes nothing.
use Prim.Native.Nat.{ℕ, zero, suc, ◌+◌, ◌*◌, ◌-◌, ◌<◌, ◌≤◌}
use native.Mathlib.Omega.{arith}
use mathlib.Core.Path.{◌≡◌, refl, sym, ap, ◌∙◌, subst}
use mathlib.Core.Bool.{Bool, true, false, ◌||◌}
use mathlib.Core.List.{List}
use lib.ListN.{length, get_or, set, replicate, length-set, get_or-eq_default}
use lib.Seq.{get_or-set_same, get_or-set_other, ext_get_or}
use lib.IntN.{ℤ}
use lib.Dec.{eqb, ltb}
use borrow.Author.Tests.{eqb-true, eqb-false, ltb-true, ltb-false}
use Rattle.loops.specs.Loop.{pick, run, up_to}
use Rattle.loops.proofs.Loops.{length-up_to, up_to-at}
use Rattle.table.specs.Limits.{max_atoms, max_bonds}
use Rattle.table.specs.Cells.{end1, end2, kind}
use Rattle.table_graph.specs.Graph.{share, add_share, bond_sum}
use Rattle.table_graph.specs.Built.{bump, sums_with_bond}
use Rattle.table_graph.proofs.Graph.{up_to-ext}
use Rattle.table_graph.proofs.Sums.{share-small, bond-at, bond-length, two_ends}
use Rattle.kinds.specs.Kind.{max_kind, order}
use Rattle.writing_walk.specs.Token.{Bond, bond}
use Rattle.writing.specs.Write.{walk_bond, bond_list}
use Rattle.writing_visit.specs.Visit.{touching, first_from, BondsFit, Linked, Walked}
use Rattle.writing_visit.specs.Wires.{wires, Wired, sum_from, NoteRoom, LinkRoom, Places}
use Rattle.writing_visit.proofs.Lists.{linked-start, linked-cast, linked-step}

-- bonds that agree below m
module _ {f g : ℕ → Bond} {m : ℕ} (same : (b : ℕ) → b < m → f b ≡ g b) where
  pub fit_same : {n : ℕ} → BondsFit f n m → BondsFit g n m
  fit_same {n} fit =
      record {
        atoms_few = fit.atoms_few;
        bonds_few = fit.bonds_few;
        ends = λ b h. subst (λ (x : Bond). (x.lo < x.hi) × (x.hi < n)) (same b h) (fit.ends b h);
        kinds = λ b h. subst (λ (x : Bond). x.kind ≤ max_kind) (same b h) (fit.kinds b h);
      }

  first-same : (v w k d : ℕ) → v ≡ w → k + d ≤ m → first_from (touching f v) k d ≡ first_from (touching g w) k d
  unfolding first_from touching
  first-same v w k zero e h = refl
  first-same v w k (suc d) e h =
      (λ i. pick (eqb (same k (omega arith) i).lo (e i) || eqb (same k (omega arith) i).hi (e i)) k (first_from (touching f v) (suc k) d))
      ∙ ap (pick (touching g w k) k) (first-same v w (suc k) d e (omega arith))

  pub linked-same : {head after behind : List ℕ} → Linked f m 0 head after behind → Linked g m 0 head after behind
  linked-same l =
      record {
        heads = λ v h. l.heads v h ∙ first-same v v 0 (m - 0) refl (omega arith);
        afters = λ c h i. l.afters c h i ∙ first-same (f c).lo (g c).lo (suc c) (m - suc c) (ap (λ (x : Bond). x.lo) (same c i)) (omega arith);
        behinds = λ c h i. l.behinds c h i ∙ first-same (f c).hi (g c).hi (suc c) (m - suc c) (ap (λ (x : Bond). x.hi) (same c i)) (omega arith);
      }

-- one cell more, before those that are noted
note : (m : ℕ) (cell : ℕ → ℕ) (t : List ℕ) (k x : ℕ) → k < length t → x ≡ cell k → ((c : ℕ) → suc k ≤ c → c < m → get_or t c 0 ≡ cell c) → (c : ℕ) → k ≤ c → c < m → get_or (set t k x) c 0 ≡ cell c
note m cell t k x room e old c i j = go (eqb c k) refl
  where
    go : (here : Bool) → eqb c k ≡ here → get_or (set t k x) c 0 ≡ cell c
    go true p = let q : c ≡ k = eqb-true c k p in rw (q, get_or-set_same t k x 0 room) e
    go false p = let q = eqb-false c k p in get_or-set_other t k c x 0 q ∙ old c (omega arith) j

-- the arrays hold the bonds
module _ {bonds : List ℤ} {m : ℕ} where
  pub wired-start : (ea eb ks : List ℕ) → Wired bonds m m ea eb ks
  wired-start ea eb ks = record { firsts = λ c h i. absurd (omega arith); seconds = λ c h i. absurd (omega arith); kinds = λ c h i. absurd (omega arith) }

  pub wired-cast : (b k : ℕ) (ea eb ks : List ℕ) → b ≡ k → Wired bonds m b ea eb ks → Wired bonds m k ea eb ks
  wired-cast b k ea eb ks e w = subst (λ (j : ℕ). Wired bonds m j ea eb ks) e w

  pub wired-step : (k : ℕ) (ea eb ks : List ℕ) → Wired bonds m (suc k) ea eb ks → k < length ea → k < length eb → k < length ks
      → (e f q : ℕ) → e ≡ end1 bonds k → f ≡ end2 bonds k → q ≡ kind bonds k
      → (ea2 eb2 ks2 : List ℕ) → ea2 ≡ set ea k e → eb2 ≡ set eb k f → ks2 ≡ set ks k q → Wired bonds m k ea2 eb2 ks2
  wired-step k ea eb ks w ra rb rk e f q ee ef eq ea2 eb2 ks2 pa pb pk =
      record {
        firsts = λ c i j. ap (λ (t : List ℕ). get_or t c 0) pa ∙ note m (end1 bonds) ea k e ra ee w.firsts c i j;
        seconds = λ c i j. ap (λ (t : List ℕ). get_or t c 0) pb ∙ note m (end2 bonds) eb k f rb ef w.seconds c i j;
        kinds = λ c i j. ap (λ (t : List ℕ). get_or t c 0) pk ∙ note m (kind bonds) ks k q rk eq w.kinds c i j;
      }

  pub wired-at : {ea eb ks : List ℕ} → Wired bonds m 0 ea eb ks → (b : ℕ) → b < m → walk_bond bonds b ≡ wires ea eb ks b
  wired-at w b h = λ i. bond (sym (w.firsts b (omega arith) h) i) (sym (w.seconds b (omega arith) h) i) (sym (w.kinds b (omega arith) h) i)

  pub wired-list : {ea eb ks : List ℕ} → Wired bonds m 0 ea eb ks → up_to (wires ea eb ks) 0 m ≡ bond_list bonds m
  wired-list {ea} {eb} {ks} w = up_to-ext (wires ea eb ks) (walk_bond bonds) 0 m (λ b h. sym (wired-at w b (omega arith)))

  pub walked-table : {n : ℕ} {ea eb ks o v u k : List ℕ} → Wired bonds m 0 ea eb ks → Walked (up_to (wires ea eb ks) 0 m) n o v u k → Walked (bond_list bonds m) n o v u k
  walked-table {n} {ea} {eb} {ks} {o} {v} {u} {k} w d = subst (λ (bs : List Bond). Walked bs n o v u k) (wired-list w) d

-- the bond sums, from the last bond on
share-last : (bonds : List ℤ) (a k d s x : ℕ) → run (add_share bonds a) k d (s + x) ≡ run (add_share bonds a) k d s + x
unfolding run
share-last bonds a k zero s x = refl
share-last bonds a k (suc d) s x = let e : s + x + share bonds a k ≡ s + share bonds a k + x = omega arith in rw e (share-last bonds a (suc k) d (s + share bonds a k) x)

sum-small : (bonds : List ℤ) (a k d s : ℕ) → run (add_share bonds a) k d s ≤ s + 3 * d
unfolding run
sum-small bonds a k zero s = omega arith
sum-small bonds a k (suc d) s = omega (arith, sum-small bonds a (suc k) d (s + share bonds a k), share-small bonds a k)

module _ (bonds : List ℤ) (m : ℕ) where
  sum-before : (b a : ℕ) → b < m → sum_from bonds m b a ≡ sum_from bonds m (suc b) a + share bonds a b
  unfolding sum_from run
  sum-before b a h =
      let d : m - b ≡ suc (m - suc b) = omega arith in
      rw d (share-last bonds a (suc b) (m - suc b) 0 (share bonds a b))

  zeros : (k len : ℕ) → replicate len 0 ≡ up_to (sum_from bonds m m) k len
  unfolding sum_from run up_to
  zeros k zero = refl
  zeros k (suc len) = let z : m - m ≡ 0 = omega arith in rw (z, zeros (suc k) len)

  pub sums-start : {s : List ℕ} → s ≡ replicate (length s) 0 → s ≡ up_to (sum_from bonds m m) 0 (length s)
  sums-start {s} e = e ∙ zeros 0 (length s)

  pub sums-before : (b len : ℕ) {s t : List ℕ} → b < m → s ≡ up_to (sum_from bonds m (suc b)) 0 len → t ≡ sums_with_bond bonds b s → t ≡ up_to (sum_from bonds m b) 0 len
  sums-before b len {s} {t} h e q =
      let n : length s ≡ len = ap length e ∙ length-up_to (sum_from bonds m (suc b)) 0 len in
      let n2 : length t ≡ len = ap length q ∙ bond-length bonds b s ∙ n in
      ext_get_or 0 t (up_to (sum_from bonds m b) 0 len) (n2 ∙ sym (length-up_to (sum_from bonds m b) 0 len))
      (λ a l.
      let i : a < len = omega arith in
      let j : a < length s = omega arith in
      ap (λ (x : List ℕ). get_or x a 0) q ∙ bond-at bonds b a s j
      ∙ ap (λ (x : ℕ). x + share bonds a b) (ap (λ (x : List ℕ). get_or x a 0) e ∙ up_to-at (sum_from bonds m (suc b)) len a 0 i)
      ∙ sym (sum-before b a h) ∙ sym (up_to-at (sum_from bonds m b) len a 0 i))

  pub sums-bound : (b len : ℕ) {s : List ℕ} → m ≤ max_bonds → s ≡ up_to (sum_from bonds m b) 0 len → (a : ℕ) → get_or s a 0 ≤ 3 * max_bonds
  unfolding sum_from
  sums-bound b len h e a = rw e (go (ltb a len) refl)
    where
      go : (t : Bool) → ltb a len ≡ t → get_or (up_to (sum_from bonds m b) 0 len) a 0 ≤ 3 * max_bonds
      go true l = omega (arith, up_to-at (sum_from bonds m b) len a 0 (ltb-true a len l), sum-small bonds a b (m - b) 0)
      go false l =
          let w : length (up_to (sum_from bonds m b) 0 len) ≤ a = omega (arith, length-up_to (sum_from bonds m b) 0 len, ltb-false a len l) in
          omega (arith, get_or-eq_default (up_to (sum_from bonds m b) 0 len) 0 w)

  pub sums-whole : (len : ℕ) {s : List ℕ} → s ≡ up_to (sum_from bonds m 0) 0 len → s ≡ up_to (bond_sum bonds m) 0 len
  unfolding sum_from bond_sum
  sums-whole len e = let z : m - 0 ≡ m = omega arith in e ∙ up_to-ext (sum_from bonds m 0) (bond_sum bonds m) 0 len (λ a h. simp z)

-- the bonds from b on are noted
pub record Noted (bonds : List ℤ) (m b : ℕ) (ea eb ks sums : List ℕ) : Type 0 where
  pub within : b ≤ m
  pub wired : Wired bonds m b ea eb ks
  pub summed : sums ≡ up_to (sum_from bonds m b) 0 (length sums)
  pub room : NoteRoom bonds m ea eb ks sums

-- four arrays are as long as they were
pub record NotedLengths (e f k s e2 f2 k2 s2 : List ℕ) : Type 0 where
  pub firsts : length e2 ≡ length e
  pub seconds : length f2 ≡ length f
  pub kinds : length k2 ≡ length k
  pub sums : length s2 ≡ length s

-- the bonds from b on are linked
pub record Joined (bonds : List ℤ) (m b : ℕ) (head after behind : List ℕ) : Type 0 where
  pub within : b ≤ m
  pub linked : Linked (walk_bond bonds) m b head after behind
  pub room : LinkRoom bonds m head after behind

-- three arrays are as long as they were
pub record LinkedLengths (h a b h2 a2 b2 : List ℕ) : Type 0 where
  pub head : length h2 ≡ length h
  pub after : length a2 ≡ length a
  pub behind : length b2 ≡ length b

module _ {bonds : List ℤ} {m : ℕ} where
  pub noted-start : {ea eb ks sums : List ℕ} → sums ≡ replicate (length sums) 0 → NoteRoom bonds m ea eb ks sums → Noted bonds m m ea eb ks sums
  noted-start {ea} {eb} {ks} z p =
      record {
        within = omega arith;
        wired = wired-start ea eb ks;
        summed = sums-start bonds m z;
        room = p;
      }

  module _ (fit : BondsFit (walk_bond bonds) max_atoms m) {b : ℕ} {ea eb ks sums : List ℕ} (n : Noted bonds m b ea eb ks sums) (some : 0 < b) where
    pub noted_step : (e f q : ℕ) → e ≡ end1 bonds (b - 1) → f ≡ end2 bonds (b - 1) → q ≡ kind bonds (b - 1)
        → (ea2 eb2 ks2 sums2 : List ℕ)
        → ea2 ≡ set ea (b - 1) e → eb2 ≡ set eb (b - 1) f → ks2 ≡ set ks (b - 1) q → sums2 ≡ bump (bump sums e (order q)) f (order q)
        → Noted bonds m (b - 1) ea2 eb2 ks2 sums2 × NotedLengths ea eb ks sums ea2 eb2 ks2 sums2
    noted_step e f q ee ef eq ea2 eb2 ks2 sums2 p1 p2 pk ps =
        let d : b ≡ suc (b - 1) = omega arith in
        let h : b - 1 < m = omega (arith, n.within) in
        let w = fit.ends (b - 1) h in
        let r = n.room in
        let ne : e ≡ f → ⊥ = λ i. omega (arith, w.0) in
        let l1 : length ea2 ≡ length ea = ap length p1 ∙ simp length-set in
        let l2 : length eb2 ≡ length eb = ap length p2 ∙ simp length-set in
        let lk : length ks2 ≡ length ks = ap length pk ∙ simp length-set in
        let ls : length sums2 ≡ length sums = ap length ps ∙ simp length-set in
        let sm = sums-before bonds m (b - 1) (length sums) h (n.summed ∙ ap (λ (j : ℕ). up_to (sum_from bonds m j) 0 (length sums)) d) (two_ends bonds (b - 1) sums ee ef eq refl ne refl ps) in (
          record {
            within = omega arith;
            wired = wired-step (b - 1) ea eb ks (wired-cast b (suc (b - 1)) ea eb ks d n.wired) (omega (arith, r.firsts)) (omega (arith, r.seconds)) (omega (arith, r.kinds)) e f q ee ef eq ea2 eb2 ks2 p1 p2 pk;
            summed = sm ∙ ap (up_to (sum_from bonds m (b - 1)) 0) (sym ls);
            room = record {
              firsts = omega (arith, r.firsts);
              seconds = omega (arith, r.seconds);
              kinds = omega (arith, r.kinds);
              summed = λ c i. omega (arith, r.summed c i);
            };
          },
          record { firsts = l1; seconds = l2; kinds = lk; sums = ls },
        )

  pub noted-end : {b : ℕ} {ea eb ks sums : List ℕ} → Noted bonds m b ea eb ks sums → b ≤ 0 → Wired bonds m 0 ea eb ks × (sums ≡ up_to (bond_sum bonds m) 0 (length sums))
  noted-end {b} {ea} {eb} {ks} {sums} n z =
      let d : b ≡ 0 = omega arith in
      (wired-cast b 0 ea eb ks d n.wired, sums-whole bonds m (length sums) (n.summed ∙ ap (λ (j : ℕ). up_to (sum_from bonds m j) 0 (length sums)) d))

  pub joined-start : {head after behind : List ℕ} → head ≡ replicate (length head) m → LinkRoom bonds m head after behind → Joined bonds m m head after behind
  joined-start {head} {after} {behind} e p = record { within = omega arith; linked = linked-start head after behind e; room = p }

  module _ (fit : BondsFit (walk_bond bonds) max_atoms m) {b : ℕ} {head after behind : List ℕ} (n : Joined bonds m b head after behind) (some : 0 < b) where
    pub joined_step : (e f : ℕ) → e ≡ end1 bonds (b - 1) → f ≡ end2 bonds (b - 1)
        → (head2 after2 behind2 : List ℕ)
        → head2 ≡ set (set head e (b - 1)) f (b - 1) → after2 ≡ set after (b - 1) (get_or head e 0) → behind2 ≡ set behind (b - 1) (get_or head f 0)
        → Joined bonds m (b - 1) head2 after2 behind2 × LinkedLengths head after behind head2 after2 behind2
    joined_step e f ee ef head2 after2 behind2 ph pa pb =
        let d : b ≡ suc (b - 1) = omega arith in
        let h : b - 1 < m = omega (arith, n.within) in
        let r = n.room in
        let lh : length head2 ≡ length head = ap length ph ∙ simp length-set in
        let la : length after2 ≡ length after = ap length pa ∙ simp length-set in
        let lb : length behind2 ≡ length behind = ap length pb ∙ simp length-set in (
          record {
            within = omega arith;
            linked = linked-step fit (b - 1) h head after behind (linked-cast b (suc (b - 1)) head after behind d n.linked) (r.heads (b - 1) h) r.afters r.behinds head2 after2 behind2 (rw (← ee, ← ef) ph) (rw (← ee) pa) (rw (← ef) pb);
            room = record {
              heads = λ c i. omega (arith, r.heads c i);
              afters = omega (arith, r.afters);
              behinds = omega (arith, r.behinds);
            };
          },
          record { head = lh; after = la; behind = lb },
        )

  pub joined_end : {b : ℕ} {head after behind : List ℕ} → Joined bonds m b head after behind → b ≤ 0 → Linked (walk_bond bonds) m 0 head after behind
  joined_end {b} {head} {after} {behind} n z = let d : b ≡ 0 = omega arith in linked-cast b 0 head after behind d n.linked

pub noted-lengths : {e f k s : List ℕ} → NotedLengths e f k s e f k s
noted-lengths = record { firsts = refl; seconds = refl; kinds = refl; sums = refl }

pub noted-then : {e f k s e2 f2 k2 s2 e3 f3 k3 s3 : List ℕ} → NotedLengths e f k s e2 f2 k2 s2 → NotedLengths e2 f2 k2 s2 e3 f3 k3 s3 → NotedLengths e f k s e3 f3 k3 s3
noted-then x y = record { firsts = y.firsts ∙ x.firsts; seconds = y.seconds ∙ x.seconds; kinds = y.kinds ∙ x.kinds; sums = y.sums ∙ x.sums }

pub linked-lengths : {h a b : List ℕ} → LinkedLengths h a b h a b
linked-lengths = record { head = refl; after = refl; behind = refl }

pub linked-then : {h a b h2 a2 b2 h3 a3 b3 : List ℕ} → LinkedLengths h a b h2 a2 b2 → LinkedLengths h2 a2 b2 h3 a3 b3 → LinkedLengths h a b h3 a3 b3
linked-then x y = record { head = y.head ∙ x.head; after = y.after ∙ x.after; behind = y.behind ∙ x.behind }

-- the arrays of n atoms and m bonds have room for what is noted and linked
pub note-room : {bonds : List ℤ} {n m : ℕ} {head after behind ea eb ks sums : List ℕ} → BondsFit (walk_bond bonds) n m → Places n m head after behind ea eb ks → n ≤ length sums → NoteRoom bonds m ea eb ks sums
note-room fit p s = record { firsts = p.firsts; seconds = p.seconds; kinds = p.kinds; summed = λ b h. omega (arith, (fit.ends b h).1, s) }

pub link-room : {bonds : List ℤ} {n m : ℕ} {head after behind ea eb ks : List ℕ} → BondsFit (walk_bond bonds) n m → Places n m head after behind ea eb ks → LinkRoom bonds m head after behind
link-room fit p = record { heads = λ b h. omega (arith, (fit.ends b h).1, p.heads); afters = p.afters; behinds = p.behinds }

pub places-kept : {n m : ℕ} {h a b e f k h2 a2 b2 e2 f2 k2 : List ℕ} → Places n m h a b e f k → length h2 ≡ length h → length a2 ≡ length a → length b2 ≡ length b → length e2 ≡ length e → length f2 ≡ length f → length k2 ≡ length k → Places n m h2 a2 b2 e2 f2 k2
places-kept p h a b e f k =
    record {
      heads = omega (arith, p.heads, h);
      afters = omega (arith, p.afters, a);
      behinds = omega (arith, p.behinds, b);
      firsts = omega (arith, p.firsts, e);
      seconds = omega (arith, p.seconds, f);
      kinds = omega (arith, p.kinds, k);
    }
