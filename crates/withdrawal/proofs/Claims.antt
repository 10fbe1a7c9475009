-- THE CLAUSE: a withdrawal holds for every drawing. Assumes nothing.
use Prim.Native.Nat.{ℕ, ◌<◌}
use native.Mathlib.Omega.{arith}
use mathlib.Core.Path.{◌≡◌, refl, sym, ap, ◌∙◌}
use mathlib.Core.Bool.{true, false}
use mathlib.Core.List.{List}
use lib.ListN.{length}
use lib.Dec.{ltb}
use Rattle.table.proofs.Keys.{never}
use Rattle.register.specs.Layout.{size, valid, count, body_of}
use Rattle.redrawing.proofs.Claims.{redrawn-sym, redrawn-trans}
use Rattle.withdrawal.specs.declared.verdict.Verdict.{Verdict}
use Rattle.withdrawal.specs.Withdrawal.{accepted, Drawings, is_listed, is_unsure, Place, nowhere, at, first_of, WithdrawnOut, of_listed, judged_by, Open, Answered}
use Rattle.withdrawal.proofs.First.{Found, found}

-- which verdict a test tells
is-listed : (v : Verdict) → is_listed v ≡ true → v ≡ Verdict.Listed
is-listed Verdict.Listed e = refl
is-listed Verdict.Other e = never e
is-listed Verdict.Unsure e = never e

is-other : (v : Verdict) → is_listed v ≡ false → is_unsure v ≡ false → v ≡ Verdict.Other
is-other Verdict.Listed d e = never (sym d)
is-other Verdict.Other d e = refl
is-other Verdict.Unsure d e = never (sym e)

-- what an answer says of the verdicts
module _ (v : ℕ → Verdict) (r : List ℕ) where
  clear-by : (y o : Place) → Found (λ p. is_listed (v p)) (count r) y → Found (λ p. is_unsure (v p)) (count r) o → (of_listed r y o).answer ≡ 0 → (p : ℕ) → p < count r → v p ≡ Verdict.Other
  clear-by (at q) o w u e p l = absurd (omega (arith, e))
  clear-by nowhere (at q) w u e p l = absurd (omega (arith, e))
  clear-by nowhere nowhere w u e p l = is-other (v p) (w p l) (u p l)

  pub clear-means : (judged_by v r).answer ≡ 0 → (p : ℕ) → p < count r → v p ≡ Verdict.Other
  unfolding judged_by
  clear-means e p l = clear-by (first_of (λ q. is_listed (v q)) (count r)) (first_of (λ q. is_unsure (v q)) (count r)) (found (λ q. is_listed (v q)) (count r)) (found (λ q. is_unsure (v q)) (count r)) e p l

  listed_by : (y o : Place) → Found (λ p. is_listed (v p)) (count r) y → (of_listed r y o).answer ≡ 1 → (p : ℕ) × (p < count r) × (v p ≡ Verdict.Listed)
  listed_by (at q) o w e = (q, w.0, is-listed (v q) w.1)
  listed_by nowhere (at q) w e = absurd (omega (arith, e))
  listed_by nowhere nowhere w e = absurd (omega (arith, e))

  pub withdrawn-means : (judged_by v r).answer ≡ 1 → (p : ℕ) × (p < count r) × (v p ≡ Verdict.Listed)
  unfolding judged_by
  withdrawn-means e = listed_by (first_of (λ q. is_listed (v q)) (count r)) (first_of (λ q. is_unsure (v q)) (count r)) (found (λ q. is_listed (v q)) (count r)) e

-- a register of full length and right layout
module _ (r : List ℕ) (full : ltb (length r) size ≡ false) (right : valid r ≡ true) where
  -- THE CLAUSE: if the register lists a text, and Q draws the compound of that text, Q is never clear
  pub never-clear : (q : List ℕ) (out : WithdrawnOut) → Answered r q out → (p : ℕ) → p < count r → Drawings (body_of r p) q → out.answer ≡ 0 → ⊥
  never-clear q out w p l d e =
      let j = w.judged full right d.second in
      (j.true_verdicts.no p l (clear-means j.verdict r (sym (ap (λ (o : WithdrawnOut). o.answer) j.is) ∙ e) p l)).1 d.redrawn

  -- withdrawn only by an entry that draws the text's compound, whose place and tag are told
  pub withdrawn-by : (q : List ℕ) (out : WithdrawnOut) → Answered r q out → accepted q ≡ true → out.answer ≡ 1 → (p : ℕ) × (p < count r) × Drawings (body_of r p) q
  withdrawn-by q out w a e =
      let j = w.judged full right a in
      let m = withdrawn-means j.verdict r (sym (ap (λ (o : WithdrawnOut). o.answer) j.is) ∙ e) in
      (m.0, m.1, j.true_verdicts.yes m.0 m.1 m.2)

  -- undecided only by an entry whose body is not read, or whose compound has the key of the text's
  pub undecided-by : (q : List ℕ) (out : WithdrawnOut) → Answered r q out → accepted q ≡ true → out.answer ≡ 2 → (out.entry < count r) × Open (body_of r out.entry) q
  undecided-by q out w a e = (w.judged full right a).undecided e

  -- a drawing does not matter: where one drawing of a compound is clear, no other is withdrawn
  pub drawing-no-matter : (q s : List ℕ) (out1 out2 : WithdrawnOut) → Answered r q out1 → Answered r s out2 → Drawings q s → out1.answer ≡ 0 → out2.answer ≡ 1 → ⊥
  drawing-no-matter q s out1 out2 w1 w2 d e1 e2 =
      let y = withdrawn-by s out2 w2 d.second e2 in
      never-clear q out1 w1 y.0 y.1 (record { first = y.2.first; second = d.first; redrawn = redrawn-trans y.2.redrawn (redrawn-sym d.redrawn) }) e1
