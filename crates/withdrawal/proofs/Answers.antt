-- From what reading and the walk hand back to what is said of a text. Assumes nothing.
use Prim.Native.Nat.{ℕ, ◌≤◌, ◌<◌}
use mathlib.Core.Path.{◌≡◌, refl, sym, ap, ◌∙◌, subst}
use mathlib.Core.Bool.{Bool, true, false}
use mathlib.Core.List.{List}
use lib.ListN.{length}
use lib.IntN.{ℤ}
use lib.Dec.{ltb}
use borrow.Author.Tests.{lt-ltb, le-ltb, ltb-true, ltb-false}
use Rattle.refusal.specs.declared.Refusal.{Refusal}
use Rattle.refusal.specs.Code.{code_of}
use Rattle.table.proofs.Keys.{never}
use Rattle.reading.specs.Read.{ReadResult}
use Rattle.std.proofs.Common.{Result, Ok, Err}
use Rattle.reader.specs.declared.answer.Counts.{Counts}
use Rattle.reader.specs.declared.answer.TextRefusal.{TextRefusal}
use Rattle.reader.specs.Ending.{told, counted, refused_text}
use Rattle.register.specs.declared.RegisterError.{RegisterError}
use Rattle.register.specs.declared.RegisterError.TheVariants.{Short, Invalid}
use Rattle.register.specs.Answers as register
use Rattle.register.specs.Answers.{refusing, ready_of}
use Rattle.register.specs.Layout.{size, valid, body_of}
use Rattle.same_model.specs.Same.{molecule}
use Rattle.folding.specs.Folding.{folded}
use Rattle.redrawing.specs.Redrawn.{Redrawn}
use Rattle.withdrawal.specs.declared.verdict.Verdict.{Verdict}
use Rattle.withdrawal.specs.declared.walk.Withdrawn.{Withdrawn}
use Rattle.withdrawal.specs.Withdrawal.{read_text, accepted, drawn, Drawings, refused_with, Answered}
use Rattle.withdrawal.specs.Verdict.{Holds}
use Rattle.withdrawal.specs.Answer.{said_of}
use Rattle.withdrawal.specs.Walk.{Walked}
use Rattle.withdrawal.proofs.Calls.{read_blank}
use Rattle.withdrawal.proofs.Verdicts.{text-refused, text-accepted, text-drawn}

-- two Bools that one thing cannot both be
apart : {A : Type 0} {b : Bool} → b ≡ true → b ≡ false → A
apart e d = never (sym d ∙ e)

-- verdicts that say what they say of the bodies are true
listed-drawings : (b s : List ℕ) (v : Verdict) → accepted s ≡ true → v ≡ Verdict.Listed → Holds b (folded (drawn s)) v → Drawings b s
listed-drawings b s v a e w = let z = subst (Holds b (folded (drawn s))) e w in record { first = z.0; second = a; redrawn = record { drawing = z.1 } }

other_none : (b s : List ℕ) (v : Verdict) → v ≡ Verdict.Other → Holds b (folded (drawn s)) v → (accepted b ≡ true) × (Redrawn (drawn b) (drawn s) → ⊥)
other_none b s v e w = let z = subst (Holds b (folded (drawn s))) e w in (z.0, λ d. z.1 d.drawing)

module _ (r s : List ℕ) where
  pub short-answered : length r < size → Answered r s (refused_with 1 0)
  short-answered l =
      let t = lt-ltb (length r) size l in
      record { short = λ e. refl; invalid = λ e v. apart t e; unread = λ e v a. apart t e; judged = λ e v a. apart t e }

  module _ (l : size ≤ length r) where
    full : ltb (length r) size ≡ false
    full = le-ltb (length r) size l

    pub invalid-answered : valid r ≡ false → Answered r s (refused_with 17 0)
    invalid-answered v = record { short = λ e. apart e full; invalid = λ e u. refl; unread = λ e u a. apart u v; judged = λ e u a. apart u v }

  not-ready-by : (e : RegisterError) (a b : Bool) → ltb (length r) size ≡ a → valid r ≡ b → Err e ≡ ready_of r → Answered r s (refused_with (register.error_code e) 0)
  unfolding refusing
  not-ready-by e true b x y h =
      let z : e ≡ Short = let w = simp x at h in cc in
      subst (λ (k : RegisterError). Answered r s (refused_with (register.error_code k) 0)) (sym z) (short-answered (ltb-true _ _ x))
  not-ready-by e false false x y h =
      let z : e ≡ Invalid = let w = simp (x, y) at h in cc in
      subst (λ (k : RegisterError). Answered r s (refused_with (register.error_code k) 0)) (sym z) (invalid-answered (ltb-false _ _ x) y)
  not-ready-by e false true x y h = let w = simp (x, y) at h in cc

  pub not-ready-answered : (e : RegisterError) → Err e ≡ ready_of r → Answered r s (refused_with (register.error_code e) 0)
  not-ready-answered e h = not-ready-by e _ _ refl refl h

  module _ (l : size ≤ length r) where
    module _ (v : valid r ≡ true) (a b : List ℤ) (x : Result Counts TextRefusal) (read : told x a b ≡ read_blank s) where
      pub unread-answered : {c : Refusal} {p : ℕ} → x ≡ refused_text c p → Answered r s (refused_with (code_of c) p)
      unfolding read_text
      unread-answered {c} {p} e =
          let t : told (refused_text c p) a b ≡ read_blank s = sym (ap (λ (y : Result Counts TextRefusal). told y a b) e) ∙ read in
          let n = text-refused s a b x read e in
          record {
            short = λ e. apart e (full l);
            invalid = λ e u. apart v u;
            unread = λ e u h. ap (λ (q : ReadResult). refused_with q.code q.offset) t;
            judged = λ e u h. apart h n;
          }

      pub asked-answered : {n m k : ℕ} → x ≡ counted n m k → {w : Withdrawn} → Walked r (folded (molecule a b n m)) w → Answered r s (said_of w)
      asked-answered {n} {m} {k} e {w} walked =
          let h = text-accepted s a b x read e in
          let q : Walked r (folded (drawn s)) w = subst (λ y. Walked r (folded y) w) (text-drawn s a b x read e) walked in
          record {
            short = λ e. apart e (full l);
            invalid = λ e u. apart v u;
            unread = λ e u g. apart h g;
            judged = λ e u g.
                record {
                  verdict = q.verdict;
                  true_verdicts =
                      record {
                        yes = λ p l f. listed-drawings (body_of r p) s (q.verdict p) h f (q.says p l);
                        no = λ p l f. other_none (body_of r p) s (q.verdict p) f (q.says p l);
                      };
                  is = q.is;
                  undecided = q.undecided;
                };
          }
