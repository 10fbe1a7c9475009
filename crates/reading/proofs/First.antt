-- "Given exactly when": reading answers a code and an offset exactly if 01's condition for them is the one that is told. Assumes nothing.
use Prim.Native.Nat.{ℕ, ◌+◌, ◌≤◌, ◌<◌}
use native.Mathlib.Omega.{arith}
use native.Mathlib.Decide.{ℕ_discrete, dec_lt}
use mathlib.Core.Path.{◌≡◌, refl, sym, subst}
use mathlib.Core.Logic.{◌⊎◌, inl, inr, ⊎_elim, ◌↔◌, ◌≢◌}
use mathlib.Core.List.{List}
use lib.ListN.{length, get_or}
use lib.IntN.{ℤ}
use borrow.Author.Tests.{le-leb, lt-leb}
use Rattle.reading_grammar.specs.declared.MachineState.TheVariants.{Start as start}
use Rattle.reading_grammar.specs.Place.{Place}
use Rattle.reading_grammar.specs.Fold.{going, halted}
use Rattle.reading_grammar.proofs.Fold.{Halts, read-halts}
use Rattle.ids.specs.Limits.{max_text}
use Rattle.reading.specs.Act.{act}
use Rattle.reading.specs.Read.{ReadResult, zeros, refused, beginning, read_from, read_of}
use Rattle.reading.specs.Conditions.{bytes_read, Fits, Holds, First, Refused}
use Rattle.reading.proofs.Refusals.{why}
use Rattle.reading.proofs.Holding.{refused-holds}
use Rattle.reading.proofs.Halting.{holds-halts}
use Rattle.reading.proofs.Outcome.{Outcome, outcome}
use Rattle.reading.proofs.Accepted.{halt-code}
use Rattle.reading.proofs.Texts.{reads-texts}
use Rattle.reading.proofs.Ending.{read-unclosed, unclosed-read, late-iff, late-read, unmatched-iff, unmatched-read}

module _ (s : List ℕ) (atoms bonds : List ℤ) where
  -- ---- what is told holds
  halted-holds : (c p : ℕ) → c ≢ 3 → bytes_read s atoms bonds ≡ halted c p → Holds s atoms bonds c p
  halted-holds c p n e = split (read-halts act s 0 start (beginning (zeros atoms) (zeros bonds)) c p e)
    where
      split : Halts act 0 (going start (beginning (zeros atoms) (zeros bonds))) s c p → Holds s atoms bonds c p
      split (Halts.by-grammar k τ ν l g a q h) = absurd (n q)
      split (Halts.by-action k τ ν l g a x) =
          let z : 0 + k ≡ k = omega arith in
          refused-holds s atoms bonds {k = k} {σ = τ} {μ = ν} (record { within = l; reached = g }) a (rw z at (why τ (get_or s k 0) (0 + k) ν c p x))

  told-holds : Fits s atoms bonds → 3 ≤ (read_of s atoms bonds).code → (read_of s atoms bonds).code ≤ 9 → Holds s atoms bonds (read_of s atoms bonds).code (read_of s atoms bonds).offset
  told-holds f = split (ℕ_discrete (read_of s atoms bonds).code 3)
    where
      go : (t : ReadResult) → Outcome s atoms bonds t → t.code ≢ 3 → 3 ≤ t.code → t.code ≤ 9 → Holds s atoms bonds t.code t.offset
      go t (Outcome.too_short e) n l h = absurd (omega arith)
      go t (Outcome.too_long e k) n l h = absurd (omega arith)
      go t (Outcome.halts {c} {p} f e) n l h = halted-holds c p n e
      go t (Outcome.unfinished f e a) n l h = absurd (n refl)
      go t (Outcome.unclosed f e a k) n l h = absurd (omega arith)
      go t (Outcome.late f e a k p) n l h = absurd (omega (arith, p.0))
      go t (Outcome.unmatched f e a k p m) n l h = absurd (omega arith)
      go t (Outcome.accepts f e a k p m) n l h = absurd (omega arith)

      split : Dec ((read_of s atoms bonds).code ≡ 3) → 3 ≤ (read_of s atoms bonds).code → (read_of s atoms bonds).code ≤ 9 → Holds s atoms bonds (read_of s atoms bonds).code (read_of s atoms bonds).offset
      split (yes e) l h = subst (λ (c : ℕ). Holds s atoms bonds c (read_of s atoms bonds).offset) (sym e) (Holds.grammar ((reads-texts s atoms bonds f).place e))
      split (no n) l h = go (read_of s atoms bonds) (outcome s atoms bonds) n l h

  -- ---- what holds is told, or something before it
  pub record AtMost (t : ReadResult) (c p : ℕ) : Type 0 where
    pub low : 3 ≤ t.code
    pub high : t.code ≤ 9
    pub place : t.offset ≤ p
    pub number : t.offset ≡ p → t.code ≤ c

  -- 3 by the grammar alone, or one of 4 to 9
  by_code : {c p : ℕ} → Holds s atoms bonds c p → ((c ≡ 3) × Place s p) ⊎ ((4 ≤ c) × (c ≤ 9))
  by_code (Holds.grammar g) = inl (refl, g)
  by_code (Holds.atom_over w h) = inr (omega arith, omega arith)
  by_code (Holds.child_over w d h) = inr (omega arith, omega arith)
  by_code (Holds.bridge_over w h) = inr (omega arith, omega arith)
  by_code (Holds.branch_65 w h) = inr (omega arith, omega arith)
  by_code (Holds.to_itself w h) = inr (omega arith, omega arith)
  by_code (Holds.joined_twice w h) = inr (omega arith, omega arith)
  by_code (Holds.symbols_differ w h) = inr (omega arith, omega arith)

  halted-told : Fits s atoms bonds → (c p : ℕ) → bytes_read s atoms bonds ≡ halted c p → read_of s atoms bonds ≡ refused c p atoms bonds
  unfolding read_of read_from
  halted-told f c p e = rw (f.room, le-leb (length s) max_text f.short, e)

  at_most : (f : Fits s atoms bonds) {c p : ℕ} → Holds s atoms bonds c p → AtMost (read_of s atoms bonds) c p
  at_most f {c} {p} w = split (by_code w)
    where
      grammar : c ≡ 3 → (((read_of s atoms bonds).code ≡ 3) × ((read_of s atoms bonds).offset ≡ p)) ⊎ ((4 ≤ (read_of s atoms bonds).code) × ((read_of s atoms bonds).code ≤ 9) × ((read_of s atoms bonds).offset < p)) → AtMost (read_of s atoms bonds) c p
      grammar q (inl e) = record { low = omega (arith, e.0); high = omega (arith, e.0); place = omega (arith, e.1); number = λ o. omega (arith, e.0) }
      grammar q (inr e) = record { low = omega (arith, e.0); high = e.1; place = omega (arith, e.2); number = λ o. absurd (omega (arith, e.2)) }

      split : ((c ≡ 3) × Place s p) ⊎ ((4 ≤ c) × (c ≤ 9)) → AtMost (read_of s atoms bonds) c p
      split (inl g) = grammar g.0 ((reads-texts s atoms bonds f).refused p g.1)
      split (inr l) =
          let h = holds-halts s atoms bonds w l.0 in
          subst (λ (t : ReadResult). AtMost t c p) (sym (halted-told f h.code p h.halts))
          (record { low = omega (arith, h.low); high = omega (arith, h.most, l.1); place = omega arith; number = λ o. h.most })

  -- ---- 3 to 9, both ways
  first-told : (f : Fits s atoms bonds) → 3 ≤ (read_of s atoms bonds).code → (read_of s atoms bonds).code ≤ 9 → First s atoms bonds (read_of s atoms bonds).code (read_of s atoms bonds).offset
  first-told f l h =
      record {
        holds = told-holds f l h;
        smallest_place = λ d q less w. omega (arith, (at_most f w).place);
        smallest_number = λ d less w. omega (arith, (at_most f w).number refl);
      }

  told-first : (f : Fits s atoms bonds) {c p : ℕ} → First s atoms bonds c p → ((read_of s atoms bonds).code ≡ c) × ((read_of s atoms bonds).offset ≡ p)
  told-first f {c} {p} w =
      let m = at_most f w.holds in
      let h = told-holds f m.low m.high in
      let place : (read_of s atoms bonds).offset ≡ p = equal (read_of s atoms bonds).offset p m.place (λ less. w.smallest_place (read_of s atoms bonds).code (read_of s atoms bonds).offset less h) in
      let number : (read_of s atoms bonds).code ≡ c = equal (read_of s atoms bonds).code c (m.number place) (λ less. w.smallest_number (read_of s atoms bonds).code less (subst (Holds s atoms bonds (read_of s atoms bonds).code) place h)) in
      (number, place)
    where
      equal : (a b : ℕ) → a ≤ b → (a < b → ⊥) → a ≡ b
      equal a b l n = split (dec_lt a b)
        where
          split : Dec (a < b) → a ≡ b
          split (yes q) = absurd (n q)
          split (no q) = omega arith

  -- ---- 1 to 11, both ways
  refusal : (t : ReadResult) → read_of s atoms bonds ≡ t → Outcome s atoms bonds t → 0 < t.code → Refused s atoms bonds t.code t.offset
  refusal t q (Outcome.too_short e) l = Refused.too_short e
  refusal t q (Outcome.too_long e n) l = Refused.too_long e n
  refusal t q (Outcome.halts f e) l =
      let h = halt-code s atoms bonds e in
      subst (λ (u : ReadResult). Refused s atoms bonds u.code u.offset) q (Refused.first f (first-told f (rw q h.0) (rw q h.1)))
  refusal t q (Outcome.unfinished f e a) l =
      subst (λ (u : ReadResult). Refused s atoms bonds u.code u.offset) q (Refused.first f (first-told f (rw q (omega arith)) (rw q (omega arith))))
  refusal t q (Outcome.unclosed f e a n) l = Refused.unclosed (rw q at (read-unclosed s atoms bonds (rw q)))
  refusal t q (Outcome.late {σ} {μ} f e a n p) l = Refused.late ((late-iff s atoms bonds p.0).0 (rw q))
  refusal t q (Outcome.unmatched f e a n p m) l = Refused.unmatched ((unmatched-iff s atoms bonds).0 (rw q))
  refusal t q (Outcome.accepts f e a n p m) l = absurd (omega arith)

  refused-told : {c p : ℕ} → Refused s atoms bonds c p → ((read_of s atoms bonds).code ≡ c) × ((read_of s atoms bonds).offset ≡ p)
  unfolding read_of
  refused-told (Refused.too_short e) = rw e (refl, refl)
  refused-told (Refused.too_long e l) = rw (e, lt-leb (length s) max_text l) (refl, refl)
  refused-told (Refused.first f w) = told-first f w
  refused-told (Refused.unclosed u) = rw (unclosed-read s atoms bonds u) (refl, refl)
  refused-told (Refused.late u) = rw (late-read s atoms bonds u) (refl, refl)
  refused-told (Refused.unmatched u) = rw (unmatched-read s atoms bonds u) (refl, refl)

  refused-code : {c p : ℕ} → Refused s atoms bonds c p → 0 < c
  refused-code (Refused.too_short e) = omega arith
  refused-code (Refused.too_long e l) = omega arith
  refused-code (Refused.first f w) = ⊎_elim (λ e. omega (arith, e.0)) (λ e. omega (arith, e.0)) (by_code w.holds)
  refused-code (Refused.unclosed u) = omega arith
  refused-code (Refused.late u) = u.some
  refused-code (Refused.unmatched u) = omega arith

  -- THE STATEMENT: a refusal is told exactly when 01 says so
  pub refused-iff : (c p : ℕ) → 0 < c → (((read_of s atoms bonds).code ≡ c) × ((read_of s atoms bonds).offset ≡ p)) ↔ Refused s atoms bonds c p
  refused-iff c p l = (λ e. there e.0 e.1, refused-told)
    where
      there : (read_of s atoms bonds).code ≡ c → (read_of s atoms bonds).offset ≡ p → Refused s atoms bonds c p
      there e q = subst (λ (x : ℕ). Refused s atoms bonds x p) e (subst (Refused s atoms bonds (read_of s atoms bonds).code) q (refusal (read_of s atoms bonds) refl (outcome s atoms bonds) (omega arith)))

  -- and a text is accepted exactly when no refusal is to be told
  pub accepted-iff : ((read_of s atoms bonds).code ≡ 0) ↔ ((c p : ℕ) → Refused s atoms bonds c p → ⊥)
  accepted-iff = (none, λ n. split n (ℕ_discrete (read_of s atoms bonds).code 0))
    where
      none : (read_of s atoms bonds).code ≡ 0 → (c p : ℕ) → Refused s atoms bonds c p → ⊥
      none e c p w = omega (arith, (refused-told w).0, refused-code w)

      split : ((c p : ℕ) → Refused s atoms bonds c p → ⊥) → Dec ((read_of s atoms bonds).code ≡ 0) → (read_of s atoms bonds).code ≡ 0
      split n (yes e) = e
      split n (no e) = absurd (n _ _ (refusal (read_of s atoms bonds) refl (outcome s atoms bonds) (omega arith)))
