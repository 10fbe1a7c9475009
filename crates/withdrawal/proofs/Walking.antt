-- The walk over the entries of a register. Assumes nothing.
use Prim.Native.Nat.{ℕ, zero, suc, ◌+◌, ◌-◌, ◌≤◌, ◌<◌}
use native.Mathlib.Omega.{arith}
use native.Mathlib.Numerals.{add-one}
use native.Mathlib.Decide.{ℕ_discrete, dec_lt}
use mathlib.Core.Path.{◌≡◌, refl, sym, ap, ◌∙◌, subst}
use mathlib.Core.Bool.{Bool, true, false, ◌&&◌}
use mathlib.Core.List.{List}
use lib.ListN.{get_or}
use lib.Dec.{eqb, leb, ltb}
use borrow.Author.Tests.{eq-eqb, ne_eqb, lt-ltb, le-ltb, leb-true}
use Rattle.loops.specs.Loop.{pick, each}
use Rattle.loops.proofs.Loops.{and_left, and_right}
use Rattle.table.proofs.Keys.{never}
use Rattle.register.specs.Layout.{max_entries, count, tag_of, body_of, valid_entry, valid}
use Rattle.same_model.specs.Same.{Molecule}
use Rattle.folding.specs.Folding.{folded}
use Rattle.withdrawal.specs.declared.verdict.Verdict.{Verdict}
use Rattle.withdrawal.specs.declared.walk.Withdrawn.{Withdrawn}
use Rattle.withdrawal.specs.Withdrawal.{is_listed, is_unsure, Place, nowhere, at, or_else, first_of, answers, of_unsure, of_listed, judged_by}
use Rattle.withdrawal.specs.Verdict.{Says, Holds}
use Rattle.withdrawal.specs.Answer.{said_of}
use Rattle.std.specs.Prelude.{Option, None, Some}
use Rattle.std.specs.Option.{option_or}
use Rattle.withdrawal.specs.Walk.{place_of, left_of, Seen, Walked}

-- what is said of a body by a verdict, under other names of both
pub said : {b d : List ℕ} (y : Molecule) {v w : Verdict} → b ≡ d → v ≡ w → Says b y v → Says d y w
said {b} {d} y {v} {w} e f z = subst (λ (u : Verdict). Says d y u) f (subst (λ (c : List ℕ). Says c y v) e z)

-- ---- first places
or-nowhere : (q : Place) → or_else q nowhere ≡ q
or-nowhere nowhere = refl
or-nowhere (at p) = refl

first-same : (f g : ℕ → Bool) (n : ℕ) → ((q : ℕ) → q < n → f q ≡ g q) → first_of f n ≡ first_of g n
unfolding first_of
first-same f g zero h = refl
first-same f g (suc n) h = rw (first-same f g n (λ q l. h q (omega arith)), h n (omega arith))

first_more : (f : ℕ → Bool) (n : ℕ) → first_of f (n + 1) ≡ or_else (first_of f n) (pick (f n) (at n) nowhere)
unfolding first_of
first_more f n = ap (first_of f) (add-one n)

first-stays : (f : ℕ → Bool) (n q m : ℕ) → first_of f n ≡ at q → first_of f (m + n) ≡ at q
unfolding first_of
first-stays f n q zero e = let z : 0 + n ≡ n = omega arith in ap (first_of f) z ∙ e
first-stays f n q (suc m) e = let z : suc m + n ≡ suc (m + n) = omega arith in ap (first_of f) z ∙ ap (λ (z : Place). or_else z (pick (f (m + n)) (at (m + n)) nowhere)) (first-stays f n q m e)

-- ---- one verdict more
abbrev more : (ℕ → Verdict) → ℕ → Verdict → Verdict → ℕ → Verdict
more v p w rest q = pick (eqb q p) w (pick (ltb q p) (v q) rest)

more-at : (v : ℕ → Verdict) (p : ℕ) (w rest : Verdict) → more v p w rest p ≡ w
more-at v p w rest = rw (eq-eqb p p refl)

more-before : (v : ℕ → Verdict) (p : ℕ) (w rest : Verdict) (q : ℕ) → q < p → more v p w rest q ≡ v q
more-before v p w rest q l = rw (ne_eqb q p (λ e. omega arith), lt-ltb q p l)

more-after : (v : ℕ → Verdict) (p : ℕ) (w rest : Verdict) (q : ℕ) → p < q → more v p w rest q ≡ rest
more-after v p w rest q l = rw (ne_eqb q p (λ e. omega arith), le-ltb q p (omega arith))

module _ (r : List ℕ) (y : Molecule) where
  pub seen_start : Seen r y None 0
  unfolding first_of
  seen_start = record { verdict = λ q. Verdict.Unsure; within = omega arith; says = λ q l. absurd (omega arith); none_listed = refl; first_unsure = refl; reason = λ q e. cc }

  pub seen_same : {u v : Option ℕ} {p : ℕ} → v ≡ u → Seen r y u p → Seen r y v p
  seen_same {u} {v} {p} e s = subst (λ (z : Option ℕ). Seen r y z p) (sym e) s

  module _ {u : Option ℕ} {p : ℕ} (s : Seen r y u p) where
    -- what is said of the entries up to this one
    up_to : (w rest : Verdict) → Holds (body_of r p) y w → (q : ℕ) → q < p + 1 → Holds (body_of r q) y (more s.verdict p w rest q)
    up_to w rest z q l = go (ℕ_discrete q p)
      where
        go : Dec (q ≡ p) → Holds (body_of r q) y (more s.verdict p w rest q)
        go (yes e) = rw e (rw (more-at s.verdict p w rest) z)
        go (no e) = rw (more-before s.verdict p w rest q (omega arith)) (s.says q (omega arith))

    -- the first place with a test, one verdict more
    one_more : (t : Verdict → Bool) (w rest : Verdict) → first_of (λ q. t (more s.verdict p w rest q)) (p + 1) ≡ or_else (first_of (λ q. t (s.verdict q)) p) (pick (t w) (at p) nowhere)
    one_more t w rest =
        first_more (λ q. t (more s.verdict p w rest q)) p
        ∙ ap (λ (z : Place). or_else z (pick (t (more s.verdict p w rest p)) (at p) nowhere)) (first-same (λ q. t (more s.verdict p w rest q)) (λ q. t (s.verdict q)) p (λ q l. ap t (more-before s.verdict p w rest q l)))
        ∙ ap (λ (z : Verdict). or_else (first_of (λ q. t (s.verdict q)) p) (pick (t z) (at p) nowhere)) (more-at s.verdict p w rest)

    seen_more : (w : Verdict) → is_listed w ≡ false → p < count r → Holds (body_of r p) y w → (u' : Option ℕ) → or_else (place_of u) (pick (is_unsure w) (at p) nowhere) ≡ place_of u'
        → ((q : ℕ) → u' ≡ Some q → (q < p + 1) × Says (body_of r q) y Verdict.Unsure) → Seen r y u' (p + 1)
    seen_more w h l z u' e g =
        record {
          verdict = more s.verdict p w Verdict.Unsure;
          within = omega arith;
          says = up_to w Verdict.Unsure z;
          none_listed = one_more is_listed w Verdict.Unsure ∙ ap (λ (k : Place). or_else k (pick (is_listed w) (at p) nowhere)) s.none_listed ∙ ap (λ (k : Bool). pick k (at p) nowhere) h;
          first_unsure = one_more is_unsure w Verdict.Unsure ∙ ap (λ (k : Place). or_else k (pick (is_unsure w) (at p) nowhere)) s.first_unsure ∙ e;
          reason = g;
        }

    earlier : (q : ℕ) → u ≡ Some q → (q < p + 1) × Says (body_of r q) y Verdict.Unsure
    earlier q f = (omega (arith, (s.reason q f).0), (s.reason q f).1)

    pub seen_other : p < count r → Says (body_of r p) y Verdict.Other → Seen r y u (p + 1)
    seen_other l z = seen_more Verdict.Other refl l z u (or-nowhere (place_of u)) earlier

    pub seen-unsure : p < count r → Says (body_of r p) y Verdict.Unsure → {u' : Option ℕ} → u' ≡ option_or u (Some p) → Seen r y u' (p + 1)
    seen-unsure l z {u'} e = subst (λ (k : Option ℕ). Seen r y k (p + 1)) (sym e) (seen_more Verdict.Unsure refl l tt (option_or u (Some p)) (go u) (why u refl))
      where
        go : (k : Option ℕ) → or_else (place_of k) (at p) ≡ place_of (option_or k (Some p))
        go None = refl
        go (Some q) = refl

        why : (k : Option ℕ) → u ≡ k → (q : ℕ) → option_or k (Some p) ≡ Some q → (q < p + 1) × Says (body_of r q) y Verdict.Unsure
        why None d q f = let x : p ≡ q = cc in subst (λ (n : ℕ). (n < p + 1) × Says (body_of r n) y Verdict.Unsure) x (omega arith, z)
        why (Some k) d q f = earlier q (d ∙ f)

    -- the end of the register
    pub walked_end : count r ≤ p → {x : Withdrawn} → x ≡ left_of u → Walked r y x
    unfolding judged_by
    walked_end l {x} e =
        let d : p ≡ count r = omega (arith, s.within) in
        record {
          verdict = s.verdict;
          says = λ q k. s.says q (omega arith);
          is =
              ap said_of e ∙ go u
              ∙ sym (ap (λ (k : Place). of_listed r k (place_of u)) s.none_listed) ∙ ap (λ (k : Place). of_listed r (first_of (λ q. is_listed (s.verdict q)) p) k) (sym s.first_unsure)
              ∙ ap (λ (z : ℕ). of_listed r (first_of (λ q. is_listed (s.verdict q)) z) (first_of (λ q. is_unsure (s.verdict q)) z)) d;
          undecided = subst (λ (x : Withdrawn). (said_of x).answer ≡ 2 → ((said_of x).entry < count r) × Says (body_of r (said_of x).entry) y Verdict.Unsure) (sym e) (why u refl);
        }
      where
        why : (k : Option ℕ) → u ≡ k → (said_of (left_of k)).answer ≡ 2 → ((said_of (left_of k)).entry < count r) × Says (body_of r (said_of (left_of k)).entry) y Verdict.Unsure
        why None d f = absurd (omega (arith, f))
        why (Some q) d f = (omega (arith, (s.reason q d).0, s.within), (s.reason q d).1)

        go : (k : Option ℕ) → said_of (left_of k) ≡ of_unsure (place_of k)
        go None = refl
        go (Some q) = refl

    -- an entry that is listed: those after it are not asked
    pub walked-listed : p < count r → {t : ℕ} → t ≡ tag_of r p → Says (body_of r p) y Verdict.Listed → Walked r y (Withdrawn.Listed t p)
    unfolding judged_by
    walked-listed l {t} e z =
        let v = more s.verdict p Verdict.Listed Verdict.Unsure in
        let f : first_of (λ q. is_listed (v q)) (p + 1) ≡ at p = one_more is_listed Verdict.Listed Verdict.Unsure ∙ ap (λ (k : Place). or_else k (at p)) s.none_listed in
        record {
          verdict = v;
          says = λ q k. after q k (dec_lt p q);
          is =
              ap (λ (z : ℕ). answers 1 z p) e
              ∙ ap (λ (k : Place). of_listed r k (first_of (λ q. is_unsure (v q)) (count r))) (sym (all f));
          undecided = λ h. absurd (omega (arith, h));
        }
      where
        after : (q : ℕ) → q < count r → Dec (p < q) → Holds (body_of r q) y (more s.verdict p Verdict.Listed Verdict.Unsure q)
        after q k (yes m) = rw (more-after s.verdict p Verdict.Listed Verdict.Unsure q m) tt
        after q k (no m) = up_to Verdict.Listed Verdict.Unsure z q (omega arith)

        all : first_of (λ q. is_listed (more s.verdict p Verdict.Listed Verdict.Unsure q)) (p + 1) ≡ at p → first_of (λ q. is_listed (more s.verdict p Verdict.Listed Verdict.Unsure q)) (count r) ≡ at p
        all f = subst (λ (n : ℕ). first_of (λ q. is_listed (more s.verdict p Verdict.Listed Verdict.Unsure q)) n ≡ at p) (omega arith) (first-stays (λ q. is_listed (more s.verdict p Verdict.Listed Verdict.Unsure q)) (p + 1) p (count r - (p + 1)) f)

-- a walk against what a molecule folds to
pub walked-folded : {r : List ℕ} {z : Molecule} (x : Molecule) {w : Withdrawn} → z ≡ folded x → Walked r z w → Walked r (folded x) w
walked-folded {r} {z} x {w} e v = subst (λ (y : Molecule). Walked r y w) e v
