-- The pass of a straight walk: the way up from an atom, and one more bond. Assumes nothing.
use Prim.Native.Nat.{ℕ, zero, suc, ◌+◌, ◌-◌, ◌<◌, ◌≤◌}
use native.Mathlib.Omega.{arith}
use native.Mathlib.Numerals.{add-one}
use mathlib.Core.Path.{◌≡◌, refl, sym, ap, ◌∙◌, subst}
use mathlib.Core.Bool.{Bool, true, false}
use mathlib.Core.List.{List}
use lib.ListN.{length, get_or, set, length-set}
use lib.Seq.{get_or-set_same, get_or-set_other}
use lib.Dec.{eqb, ltb}
use borrow.Author.Tests.{eqb-true, eqb-false, ltb-true, ltb-false}
use Rattle.writing_walk.specs.Token.{Bond}
use Rattle.writing_visit.specs.Straight.{Held, Nested, Entry, Passed, Cleared, InTurn}

-- the way up
pub held_start : {up : List ℕ} (a : ℕ) → Held up a a
held_start a = record { held = λ c l h. absurd (omega arith) }

module _ {up : List ℕ} {a hi : ℕ} (nested : Nested up hi) (some : 0 < a) (h : a ≤ hi) where
  pub up-less : get_or up (a - 1) 0 < a
  up-less = let z = nested.before (a - 1) (omega arith) in omega arith

  pub held_up : Held up a hi → Held up (get_or up (a - 1) 0) hi
  held_up x = record { held = λ c l k. go c l k (ltb c a) refl }
    where
      go : (c : ℕ) → get_or up (a - 1) 0 ≤ c → c < hi → (y : Bool) → ltb c a ≡ y → get_or up (a - 1) 0 ≤ get_or up c 0
      go c l k true y = let z = ltb-true c a y in (nested.held (a - 1) (omega arith)).held c l (omega arith)
      go c l k false y = let z = x.held c (ltb-false c a y) k in let q = up-less in omega arith

pub held-cast : {up : List ℕ} {a b hi : ℕ} → a ≡ b → Held up a hi → Held up b hi
held-cast {up} {hi = hi} e x = subst (λ (k : ℕ). Held up k hi) e x

held_same : {up up2 : List ℕ} {lo hi : ℕ} → ((c : ℕ) → c < hi → get_or up2 c 0 ≡ get_or up c 0) → Held up lo hi → Held up2 lo hi
held_same same x = record { held = λ c l k. let z = x.held c l k in let e = same c k in omega arith }

-- cells that are cleared one by one
pub cleared-start : {lo : ℕ} (x : List ℕ) → Cleared lo lo x x
cleared-start x = record { long = refl; same = λ c h. refl; clear = λ c l h. absurd (omega arith) }

pub cleared-step : {lo a : ℕ} {x y z : List ℕ} → Cleared lo a x y → lo ≤ a → a < length y → z ≡ set y a 0 → Cleared lo (a + 1) x z
cleared-step {lo} {a} {x} {y} {z} k l h e =
    record {
      long = ap length e ∙ length-set y a 0 ∙ k.long;
      same = λ c i. ap (λ (t : List ℕ). get_or t c 0) e ∙ get_or-set_other y a c 0 0 (λ q. omega arith) ∙ k.same c i;
      clear = λ c i j. ap (λ (t : List ℕ). get_or t c 0) e ∙ go c i j (eqb c a) refl;
    }
  where
    go : (c : ℕ) → lo ≤ c → c < a + 1 → (w : Bool) → eqb c a ≡ w → get_or (set y a 0) c 0 ≡ 0
    go c i j true w = let q : c ≡ a = eqb-true c a w in rw (q, get_or-set_same y a 0 0 h)
    go c i j false w = let q = eqb-false c a w in get_or-set_other y a c 0 0 q ∙ k.clear c i (omega arith)

pub cleared-end : {lo a hi : ℕ} {x y : List ℕ} → Cleared lo a x y → hi ≤ a → Cleared lo hi x y
cleared-end k h = record { long = k.long; same = k.same; clear = λ c l j. k.clear c l (omega arith) }

pub nested-clear : {next a : ℕ} {up up2 : List ℕ} → Nested up next → Cleared next a up up2 → Nested up2 a
nested-clear {next} {a} {up} {up2} x k =
    record { before = λ c h. go c h (ltb c next) refl; held = λ c h. deep c h (ltb c next) refl }
  where
    go : (c : ℕ) → c < a → (y : Bool) → ltb c next ≡ y → get_or up2 c 0 ≤ c
    go c h true y = let e = k.same c (ltb-true c next y) in let z = x.before c (ltb-true c next y) in omega arith
    go c h false y = let e = k.clear c (ltb-false c next y) h in omega arith

    deep : (c : ℕ) → c < a → (y : Bool) → ltb c next ≡ y → Held up2 (get_or up2 c 0) (suc c)
    deep c h true y =
        let i = ltb-true c next y in
        held-cast (sym (k.same c i)) (held_same (λ d j. k.same d (omega arith)) (x.held c i))
    deep c h false y = held-cast (sym (k.clear c (ltb-false c next y) h)) (record { held = λ d l j. omega arith })

-- what held of the bonds before b and holds of b
upon : (P : ℕ → Type 0) (b : ℕ) → ((i : ℕ) → i < b → P i) → P b → (i : ℕ) → i < suc b → P i
upon P b old new i h = go (ltb i b) refl
  where
    go : (y : Bool) → ltb i b ≡ y → P i
    go true y = old i (ltb-true i b y)
    go false y = let z = ltb-false i b y in let e : b ≡ i = omega arith in subst P e new

-- one more bond
module _ {bonds : ℕ → Bond} where
  pub passed_start : (up kind : List ℕ) → Passed bonds 0 0 up kind
  passed_start up kind =
      record {
        below = λ i h. absurd (omega arith);
        ascending = λ i j l h. absurd (omega arith);
        entries = λ c p h e. absurd (omega arith);
        roots = λ c h e. absurd (omega arith);
        held = λ i h. absurd (omega arith);
      }

  entry-cast : {b p c k k2 : ℕ} → k ≡ k2 → Entry bonds b p c k → Entry bonds b p c k2
  entry-cast {b} {p} {c} e x = subst (λ (q : ℕ). Entry bonds b p c q) e x

  entry_more : {b p c k : ℕ} → Entry bonds b p c k → Entry bonds (suc b) p c k
  entry_more {b} {p} {c} x =
      let l = x.below in
      record { at = x.at; below = omega arith; lo = x.lo; hi = x.hi; kind = x.kind; first = λ i h e. go i h e (ltb i b) refl }
    where
      go : (i : ℕ) → i < suc b → (bonds i).hi ≡ c → (y : Bool) → ltb i b ≡ y → x.at ≤ i
      go i h e true y = x.first i (ltb-true i b y) e
      go i h e false y = let l = x.below in let z = ltb-false i b y in omega arith

  ascends : {b next : ℕ} {up kind : List ℕ} → Passed bonds b next up kind → next ≤ suc (bonds b).hi → (i j : ℕ) → i ≤ j → j < suc b → (bonds i).hi ≤ (bonds j).hi
  ascends {b} {next} x h i j l k = go (ltb j b) refl (ltb i b) refl
    where
      go : (y : Bool) → ltb j b ≡ y → (z : Bool) → ltb i b ≡ z → (bonds i).hi ≤ (bonds j).hi
      go true y z q = x.ascending i j l (ltb-true j b y)
      go false y true q =
          let f = ltb-false j b y in
          let e : j ≡ b = omega arith in
          let w = x.below i (ltb-true i b q) in
          subst (λ (k : ℕ). (bonds i).hi ≤ (bonds k).hi) (sym e) (omega arith)
      go false y false q =
          let f = ltb-false j b y in
          let g = ltb-false i b q in
          let e : i ≡ j = omega arith in
          subst (λ (k : ℕ). (bonds i).hi ≤ (bonds k).hi) e (omega arith)

  pub nested-of : {b next : ℕ} {up kind : List ℕ} → ((i : ℕ) → i < b → (bonds i).lo < (bonds i).hi) → Passed bonds b next up kind → Nested up next
  nested-of {b} {next} {up} {kind} ends x = record { before = λ c h. low c h (get_or up c 0) refl; held = λ c h. deep c h (get_or up c 0) refl }
    where
      low : (c : ℕ) → c < next → (u : ℕ) → get_or up c 0 ≡ u → u ≤ c
      low c h zero e = omega arith
      low c h (suc p) e = let y = x.entries c p h e in let z = ends y.at y.below in omega (arith, y.lo, y.hi)

      deep : (c : ℕ) → c < next → (u : ℕ) → get_or up c 0 ≡ u → Held up u (suc c)
      deep c h zero e = record { held = λ d l j. omega arith }
      deep c h (suc p) e =
          let y = x.entries c p h e in
          subst (λ (k : ℕ). Held up (suc p) (suc k)) y.hi (subst (λ (k : ℕ). Held up (suc k) (suc (bonds y.at).hi)) y.lo (x.held y.at y.below))

  pub passed-clear : {b next a : ℕ} {up kind up2 kind2 : List ℕ} → Passed bonds b next up kind → next ≤ a → Cleared next a up up2 → Cleared next a kind kind2 → Passed bonds b a up2 kind2
  passed-clear {b} {next} {a} {up} {kind} {up2} {kind2} x h ku kk =
      record {
        below = λ i l. let z = x.below i l in omega arith;
        ascending = x.ascending;
        entries = λ c p l e. entry c p l e (ltb c next) refl;
        roots = λ c l e. root c l e (ltb c next) refl;
        held = λ i l. let z = x.below i l in held_same (λ c j. ku.same c (omega arith)) (x.held i l);
      }
    where
      entry : (c p : ℕ) → c < a → get_or up2 c 0 ≡ suc p → (y : Bool) → ltb c next ≡ y → Entry bonds b p c (get_or kind2 c 0)
      entry c p l e true y = let i = ltb-true c next y in entry-cast (sym (kk.same c i)) (x.entries c p i (sym (ku.same c i) ∙ e))
      entry c p l e false y = absurd (let z = ku.clear c (ltb-false c next y) l in omega arith)

      root : (c : ℕ) → c < a → get_or up2 c 0 ≡ 0 → (y : Bool) → ltb c next ≡ y → get_or kind2 c 0 ≡ 0
      root c l e true y = let i = ltb-true c next y in kk.same c i ∙ x.roots c i (sym (ku.same c i) ∙ e)
      root c l e false y = kk.clear c (ltb-false c next y) l

  -- a further bond to the last atom, from above it
  pub passed-again : {b next : ℕ} {up kind : List ℕ} → Passed bonds b next up kind → suc (bonds b).hi ≡ next → Held up (suc (bonds b).lo) next → Passed bonds (suc b) next up kind
  passed-again {b} {next} {up} x e k =
      record {
        below = upon (λ i. (bonds i).hi < next) b x.below (omega arith);
        ascending = ascends x (omega arith);
        entries = λ c p h q. entry_more (x.entries c p h q);
        roots = x.roots;
        held = upon (λ i. Held up (suc (bonds i).lo) (suc (bonds i).hi)) b x.held (subst (λ (j : ℕ). Held up (suc (bonds b).lo) j) (sym e) k);
      }

  -- a new atom is entered
  module _ {b a parent q : ℕ} {up kind up2 kind2 : List ℕ} (x : Passed bonds b a up kind) (hi : (bonds b).hi ≡ a) (lo : suc (bonds b).lo ≡ parent) (link : (bonds b).kind ≡ q) (k : Held up parent a)
      (lu : a < length up) (lk : a < length kind) (eu : up2 ≡ set up a parent) (ek : kind2 ≡ set kind a q) where
    here : get_or up2 a 0 ≡ parent
    here = ap (λ (t : List ℕ). get_or t a 0) eu ∙ get_or-set_same up a parent 0 lu

    same : (c : ℕ) → c < a → get_or up2 c 0 ≡ get_or up c 0
    same c h = ap (λ (t : List ℕ). get_or t c 0) eu ∙ get_or-set_other up a c parent 0 (λ e. omega arith)

    here-kind : get_or kind2 a 0 ≡ q
    here-kind = ap (λ (t : List ℕ). get_or t a 0) ek ∙ get_or-set_same kind a q 0 lk

    same_kind : (c : ℕ) → c < a → get_or kind2 c 0 ≡ get_or kind c 0
    same_kind c h = ap (λ (t : List ℕ). get_or t c 0) ek ∙ get_or-set_other kind a c q 0 (λ e. omega arith)

    pub passed-enter : Passed bonds (suc b) (suc a) up2 kind2
    passed-enter =
        record {
          below = upon (λ i. (bonds i).hi < suc a) b (λ i l. let z = x.below i l in omega arith) (omega arith);
          ascending = ascends x (omega arith);
          entries = λ c p l e. entry c p l e (ltb c a) refl;
          roots = λ c l e. root c l e (ltb c a) refl;
          held = upon (λ i. Held up2 (suc (bonds i).lo) (suc (bonds i).hi)) b (λ i l. let z = x.below i l in held_same (λ c j. same c (omega arith)) (x.held i l)) new;
        }
      where
        new-entry : (p : ℕ) → get_or up2 a 0 ≡ suc p → Entry bonds (suc b) p a (get_or kind2 a 0)
        new-entry p e =
            let z = here in
            record {
              at = b;
              below = omega arith;
              lo = omega arith;
              hi = hi;
              kind = link ∙ sym here-kind;
              first = λ i l f. go i l f (ltb i b) refl;
            }
          where
            go : (i : ℕ) → i < suc b → (bonds i).hi ≡ a → (y : Bool) → ltb i b ≡ y → b ≤ i
            go i l f true y = absurd (let z = x.below i (ltb-true i b y) in omega arith)
            go i l f false y = ltb-false i b y

        entry : (c p : ℕ) → c < suc a → get_or up2 c 0 ≡ suc p → (y : Bool) → ltb c a ≡ y → Entry bonds (suc b) p c (get_or kind2 c 0)
        entry c p l e true y = let i = ltb-true c a y in entry-cast (sym (same_kind c i)) (entry_more (x.entries c p i (sym (same c i) ∙ e)))
        entry c p l e false y =
            let f = ltb-false c a y in
            let z : a ≡ c = omega arith in
            subst (λ (d : ℕ). Entry bonds (suc b) p d (get_or kind2 d 0)) z (new-entry p (ap (λ (d : ℕ). get_or up2 d 0) z ∙ e))

        root : (c : ℕ) → c < suc a → get_or up2 c 0 ≡ 0 → (y : Bool) → ltb c a ≡ y → get_or kind2 c 0 ≡ 0
        root c l e true y = let i = ltb-true c a y in same_kind c i ∙ x.roots c i (sym (same c i) ∙ e)
        root c l e false y =
            let f = ltb-false c a y in
            let z : a ≡ c = omega arith in
            absurd (let w = here in let u = ap (λ (d : ℕ). get_or up2 d 0) z ∙ e in omega arith)

        new-held : (c : ℕ) → parent ≤ c → c < suc a → (y : Bool) → ltb c a ≡ y → parent ≤ get_or up2 c 0
        new-held c l h true y = let i = ltb-true c a y in let z = k.held c l i in let e = same c i in omega arith
        new-held c l h false y =
            let f = ltb-false c a y in
            let z : a ≡ c = omega arith in
            let w = here in
            let u : get_or up2 a 0 ≡ get_or up2 c 0 = ap (λ (d : ℕ). get_or up2 d 0) z in
            omega arith

        new : Held up2 (suc (bonds b).lo) (suc (bonds b).hi)
        new = subst (λ (d : ℕ). Held up2 (suc (bonds b).lo) (suc d)) (sym hi) (subst (λ (d : ℕ). Held up2 d (suc a)) (sym lo) (record { held = λ c l h. new-held c l h (ltb c a) refl }))

pub passed-all : {bonds : ℕ → Bond} {b m next : ℕ} {up kind : List ℕ} → Passed bonds b next up kind → b ≤ m → m ≤ b → Passed bonds m next up kind
passed-all {bonds} {b} {m} {next} {up} {kind} x h l = let e : b ≡ m = omega arith in subst (λ (k : ℕ). Passed bonds k next up kind) e x

-- the same as the code has it
module _ {bonds : ℕ → Bond} {b next a parent : ℕ} {up kind : List ℕ} (x : Passed bonds b next up kind) where
  pub pass-enter : {q : ℕ} {up1 kind1 up2 kind2 : List ℕ} → next ≤ a → Cleared next a up up1 → Cleared next a kind kind1 → (bonds b).hi ≡ a → (bonds b).lo + 1 ≡ parent → (bonds b).kind ≡ q
      → Held up1 parent a → a < length up1 → a < length kind1 → up2 ≡ set up1 a parent → kind2 ≡ set kind1 a q → Passed bonds (suc b) (a + 1) up2 kind2
  pass-enter h ku kk hi lo link k lu lk eu ek =
      let p : suc (bonds b).lo ≡ parent = omega arith in
      rw (add-one a) (passed-enter (passed-clear x h ku kk) hi p link k lu lk eu ek)

  pub pass-again : a < next → next ≤ a + 1 → (bonds b).hi ≡ a → (bonds b).lo + 1 ≡ parent → Held up parent next → Passed bonds (suc b) next up kind
  pass-again h l hi lo k =
      let p : parent ≡ suc (bonds b).lo = omega arith in
      passed-again x (omega arith) (held-cast p k)

-- the atoms by ascending number, one by one
pub turn-start : (o v : List ℕ) → InTurn 0 o v
turn-start o v = record { order = λ a h. absurd (omega arith); number = λ a h. absurd (omega arith) }

pub turn_step : {n : ℕ} {o v o2 v2 : List ℕ} → InTurn n o v → n < length o → n < length v → o2 ≡ set o n n → v2 ≡ set v n (n + 1) → InTurn (n + 1) o2 v2
turn_step {n} {o} {v} {o2} {v2} x ho hv eo ev = record { order = λ a h. first a h (eqb a n) refl; number = λ a h. second a h (eqb a n) refl }
  where
    first : (a : ℕ) → a < n + 1 → (y : Bool) → eqb a n ≡ y → get_or o2 a 0 ≡ a
    first a h true y = let e : a ≡ n = eqb-true a n y in rw (eo, e) (get_or-set_same o n n 0 ho)
    first a h false y = let e = eqb-false a n y in ap (λ (t : List ℕ). get_or t a 0) eo ∙ get_or-set_other o n a n 0 e ∙ x.order a (omega arith)

    second : (a : ℕ) → a < n + 1 → (y : Bool) → eqb a n ≡ y → get_or v2 a 0 ≡ suc a
    second a h true y = let e : a ≡ n = eqb-true a n y in let s : suc n ≡ n + 1 = omega arith in rw (ev, e, s) (get_or-set_same v n (n + 1) 0 hv)
    second a h false y = let e = eqb-false a n y in ap (λ (t : List ℕ). get_or t a 0) ev ∙ get_or-set_other v n a (n + 1) 0 e ∙ x.number a (omega arith)

pub turn_end : {n a : ℕ} {o v : List ℕ} → InTurn a o v → n ≤ a → InTurn n o v
turn_end x h = record { order = λ c l. x.order c (omega arith); number = λ c l. x.number c (omega arith) }
