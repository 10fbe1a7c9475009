use Rattle.std.proofs.Common.{ℕ, List, ◌≡◌, rules, Err}
use Rattle.register.specs.declared.RegisterError.{RegisterError}
use Rattle.register.specs.Answers.{ready_of, found_out, found_of}
use Rattle.register.proofs.Paths.{refused, at-missing, at-found}
use Rattle.register.proofs.entry.Goals as goal

not-ready : (r : List ℕ) (p : ℕ) (e : RegisterError) → Err e ≡ ready_of r → found_out (Err e) ≡ found_of r p
unfolding found_of
not-ready r p e h = refused r (λ i. found_out (Err i)) _ e h

pub returns-in_err-ready : goal.returns-in_err-ready
returns-in_err-ready c = search (rules, not-ready)

pub returns-then-count-place : goal.returns-then-count-place
unfolding found_of
returns-then-count-place c = let h = c.in_ok-ready.ensures.ok in at-missing _ _ _ _ _ _ _ h.full h.sound c.count.ensures c.if-count-place.true

pub returns : goal.returns
unfolding found_of
returns c = let h = c.in_ok-ready.ensures.ok in
    simp (c.length-length.ensures.value, c.start-start.ensures.value, c.tag-tag.ensures)
    (at-found _ _ _ _ _ _ _ h.full h.sound c.count.ensures c.if-count-place.false)
