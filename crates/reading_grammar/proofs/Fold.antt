-- What an answer says of the grammar.
use mathlib.Core.Path.{◌≡◌, refl, sym, ap, subst, ◌∙◌}
use mathlib.Core.Bool.{Bool, true, false}
use mathlib.Core.List.{List, [], ◌∷◌, ◌++◌, append_assoc}
use mathlib.Core.Logic.{◌≢◌}
use Prim.Native.Nat.{ℕ, suc, ◌+◌, ◌≤◌, ◌<◌}
use native.Mathlib.Omega.{arith}
use native.Mathlib.Decide.{dec_lt}
use native.Mathlib.Nat.{add-zero}
use lib.ListN.{length, get_or, take, drop, take-append-drop}
use lib.Seq.{take-take}
use Rattle.reading_grammar.specs.Grammar.{pick, Text}
use Rattle.reading_grammar.specs.Machine.{MachineState, start, step, run, alive, accepting, reach}
use Rattle.reading_grammar.specs.Place.{Viable, Place}
use Rattle.reading_grammar.proofs.Sound.{sound}
use Rattle.reading_grammar.proofs.Complete.{complete}
use Rattle.reading_grammar.proofs.Viable.{viable, live, reach-from, apart, reach-place}
use Rattle.reading_grammar.specs.Fold.{Act, keeps, refuses, Action, Reading, going, halted, after, feed, read, good, bad, finish, answer}

prefix-viable : (i : ℕ) (s : List ℕ) → Viable s → Viable (take i s)
prefix-viable i s v = (drop i s ++ v.0, subst Text (ap (λ (l : List ℕ). l ++ v.0) (sym (take-append-drop i s)) ∙ append_assoc (take i s) (drop i s) v.0) v.1)

text-viable : (s : List ℕ) → Text s → (i : ℕ) → Viable (take i s)
text-viable s x i = (drop i s, subst Text (sym (take-append-drop i s)) x)

reach-dies : (σ : MachineState) (b : ℕ) (s : List ℕ) → alive (step σ b) ≡ false → reach σ (b ∷ s) ≡ 0
unfolding reach
reach-dies σ b s e = rw e

reach-lives : (σ : MachineState) (b : ℕ) (s : List ℕ) → alive (step σ b) ≡ true → reach σ (b ∷ s) ≡ suc (reach (step σ b) s)
unfolding reach
reach-lives σ b s e = rw e

-- a reading that did not halt
pub data Goes {M : Type 0} : Reading M → Type 0 where
  goes : {σ : MachineState} {μ : M} → Goes (going σ μ)

module _ {M : Type 0} (act : Action M) where
  -- where a reading from a state ends
  pub data Ends (i : ℕ) (σ : MachineState) (s : List ℕ) : Reading M → Type 0 where
    goes_on : {τ : MachineState} {μ : M} → run σ s ≡ τ → alive τ ≡ true → Ends i σ s (going τ μ)
    by-grammar : {c p : ℕ} → c ≡ 3 → p ≡ i + reach σ s → reach σ s < length s → Ends i σ s (halted c p)
    by-action : {c p : ℕ} (k j : ℕ) (τ : MachineState) (b : ℕ) (μ : M) → j ≡ i + k → k < length s → alive (run σ (take (suc k) s)) ≡ true → act τ b j μ ≡ refuses c p → Ends i σ s (halted c p)

  pub read-halted : (s : List ℕ) (i c p : ℕ) → read act i (halted c p) s ≡ halted c p
  unfolding read feed
  read-halted [] i c p = refl
  read-halted (b ∷ s) i c p = read-halted s (suc i) c p

  shift : {i b : ℕ} {σ : MachineState} {s : List ℕ} {r : Reading M} → alive (step σ b) ≡ true → Ends (suc i) (step σ b) s r → Ends i σ (b ∷ s) r
  unfolding run
  shift e (goes_on q a) = goes_on q a
  shift {i} {b} {σ} {s} e (by-grammar {p = p} c q h) = by-grammar {p = p} c (omega (arith, reach-lives σ b s e)) (omega (arith, reach-lives σ b s e))
  shift {i} {b} {σ} {s} e (by-action k j τ c μ q h a x) = by-action (suc k) j τ c μ (omega arith) (omega arith) a x

  read-ends : (s : List ℕ) (i : ℕ) (σ : MachineState) (μ : M) → alive σ ≡ true → Ends i σ s (read act i (going σ μ) s)
  unfolding read feed run
  read-ends [] i σ μ l = goes_on refl l
  read-ends (b ∷ s) i σ μ l = split (alive (step σ b)) refl (act σ b i μ) refl (read-ends s (suc i) (step σ b))
    where
      split : (t : Bool) → alive (step σ b) ≡ t → (a : Act M) → act σ b i μ ≡ a
          → ((ν : M) → alive (step σ b) ≡ true → Ends (suc i) (step σ b) s (read act (suc i) (going (step σ b) ν) s))
          → Ends i σ (b ∷ s) (read act (suc i) (pick t (after (step σ b) a) (halted 3 i)) s)
      split true e (keeps ν) q f = shift e (f ν e)
      split true e (refuses c p) q f = subst (Ends i σ (b ∷ s)) (sym (read-halted s (suc i) c p)) (by-action 0 i σ b μ (omega arith) (omega arith) e q)
      split false e a q f = subst (Ends i σ (b ∷ s)) (sym (read-halted s (suc i) 3 i)) (by-grammar {p = i} refl (omega (arith, reach-dies σ b s e)) (omega (arith, reach-dies σ b s e)))

  -- an accepted text is a text
  pub good-text : (μ ν : M) (s : List ℕ) → answer act μ s ≡ good ν → Text s
  unfolding answer
  good-text μ ν s = go (read act 0 (going start μ) s) (read-ends s 0 start μ refl)
    where
      ok : (t : Bool) (ξ : M) → pick t (good ξ) (bad 3 (length s)) ≡ good ν → t ≡ true
      ok true ξ h = refl
      ok false ξ h = absurd (let z : ◌≡◌ {A = ℕ} 0 1 = cc in omega arith)

      go : (r : Reading M) → Ends 0 start s r → finish (length s) r ≡ good ν → Text s
      go (going τ ξ) (goes_on q a) h = sound s (ap accepting q ∙ ok (accepting τ) ξ h)
      go (halted c p) e h = absurd (let z : ◌≡◌ {A = ℕ} 0 1 = cc in omega arith)

  not-accepting : (s : List ℕ) → reach start s < length s → accepting (run start s) ≡ false
  not-accepting s h = split (accepting (run start s)) refl
    where
      split : (t : Bool) → accepting (run start s) ≡ t → t ≡ false
      split true e = absurd (apart (alive (run start (take (suc (reach start s)) s)))
          (live (take (suc (reach start s)) s) (text-viable s (sound s e) (suc (reach start s)))) ((reach-from s start refl).here h))
      split false e = refl

  place_end : (s : List ℕ) → alive (run start s) ≡ true → accepting (run start s) ≡ false → Place s (length s)
  place_end s a h = record {
    fits = omega arith;
    before = λ i q. prefix-viable i s (viable s a);
    here = λ q. absurd (omega arith);
    ending = λ q t. apart (accepting (run start s)) (complete t) h;
  }

  -- refusal 3 stands at the place of the grammar
  pub bad-3 : ((σ : MachineState) (b i : ℕ) (μ : M) (p : ℕ) → act σ b i μ ≡ refuses 3 p → ⊥) → (μ : M) (s : List ℕ) (p : ℕ) → answer act μ s ≡ bad 3 p → Place s p
  unfolding answer
  bad-3 never3 μ s p = go (read act 0 (going start μ) s) (read-ends s 0 start μ refl)
    where
      stop-at : (t : Bool) (ξ : M) → pick t (good ξ) (bad 3 (length s)) ≡ bad 3 p → (t ≡ false) × (length s ≡ p)
      stop-at true ξ h = absurd (let z : ◌≡◌ {A = ℕ} 0 1 = cc in omega arith)
      stop-at false ξ h = (refl, cc)

      go : (r : Reading M) → Ends 0 start s r → finish (length s) r ≡ bad 3 p → Place s p
      go (going τ ξ) (goes_on q a) h =
          let z = stop-at (accepting τ) ξ h in
          subst (Place s) z.1 (place_end s (ap alive q ∙ a) (ap accepting q ∙ z.0))
      go (halted c n) (by-grammar c3 q l) h =
          let e : n ≡ p = cc in
          let f : reach start s ≡ p = omega arith in
          subst (Place s) f (reach-place s (not-accepting s l))
      go (halted c n) (by-action k j τ b ν q l a x) h =
          let e : act τ b j ν ≡ refuses 3 p = cc in
          absurd (never3 τ b j ν p e)

  -- another refusal is told at a byte up to which some text goes: before the place of the grammar, if there is one
  pub bad-other : ((σ : MachineState) (b i : ℕ) (μ : M) (c p : ℕ) → act σ b i μ ≡ refuses c p → p ≤ i) → (μ : M) (s : List ℕ) (c p : ℕ) → c ≢ 3 → answer act μ s ≡ bad c p
      → (k : ℕ) × (p ≤ k) × (k < length s) × Viable (take (suc k) s)
  unfolding answer
  bad-other early μ s c p n3 = go (read act 0 (going start μ) s) (read-ends s 0 start μ refl)
    where
      stopped : (t : Bool) (ξ : M) → pick t (good ξ) (bad 3 (length s)) ≡ bad c p → c ≡ 3
      stopped true ξ h = absurd (let z : ◌≡◌ {A = ℕ} 0 1 = cc in omega arith)
      stopped false ξ h = cc

      go : (r : Reading M) → Ends 0 start s r → finish (length s) r ≡ bad c p → (k : ℕ) × (p ≤ k) × (k < length s) × Viable (take (suc k) s)
      go (going τ ξ) (goes_on q a) h = absurd (n3 (stopped (accepting τ) ξ h))
      go (halted e n) (by-grammar e3 q l) h = let f : c ≡ 3 = cc in absurd (n3 f)
      go (halted e n) (by-action k j τ b ν q l a x) h =
          let f : act τ b j ν ≡ refuses c p = cc in
          let g : p ≤ j = early τ b j ν c p f in
          (k, omega arith, l, viable (take (suc k) s) a)

  pub other-first : ((σ : MachineState) (b i : ℕ) (μ : M) (c p : ℕ) → act σ b i μ ≡ refuses c p → p ≤ i) → (μ : M) (s : List ℕ) (c p q : ℕ) → c ≢ 3 → answer act μ s ≡ bad c p → Place s q → p < q
  other-first early μ s c p q n3 h x =
      let b = bad-other early μ s c p n3 h in
      split (dec_lt p q) b
    where
      split : Dec (p < q) → (k : ℕ) × (p ≤ k) × (k < length s) × Viable (take (suc k) s) → p < q
      split (yes l) b = l
      split (no l) b = absurd (x.here (omega (arith, b.1, b.2)) (subst Viable (shorter (suc q) (suc b.0) s (omega (arith, b.1))) (prefix-viable (suc q) (take (suc b.0) s) b.3)))
        where
          shorter : (m n : ℕ) (l : List ℕ) → m ≤ n → take m (take n l) ≡ take m l
          shorter m n l h = take-take m n l h

  -- ---- in pieces
  pub read-append : (s t : List ℕ) (i : ℕ) (r : Reading M) → read act i r (s ++ t) ≡ read act (i + length s) (read act i r s) t
  unfolding read
  read-append [] t i r = rw (add-zero i)
  read-append (b ∷ s) t i r =
      let e : i + suc (length s) ≡ suc i + length s = omega arith in
      rw e (read-append s t (suc i) (feed act i r b))

  -- a piece before a reading that goes on goes on
  pub prefix-goes : (s t : List ℕ) (i : ℕ) (r : Reading M) {τ : MachineState} {ν : M} → read act i r (s ++ t) ≡ going τ ν → Goes (read act i r s)
  prefix-goes s t i r {τ} {ν} e = split (read act i r s) refl
    where
      split : (q : Reading M) → read act i r s ≡ q → Goes q
      split (going σ μ) h = goes
      split (halted c p) h =
          let f : halted c p ≡ going τ ν = sym (read-halted t (i + length s) c p) ∙ sym (ap (λ (q : Reading M). read act (i + length s) q t) h) ∙ sym (read-append s t i r) ∙ e in
          absurd (let z : ◌≡◌ {A = ℕ} 0 1 = cc in omega arith)

  -- where a reading halts: before that byte it goes on, and there the grammar or the action refuses
  pub data Halts (i : ℕ) (r : Reading M) (s : List ℕ) (c p : ℕ) : Type 0 where
    by-grammar : (k : ℕ) (τ : MachineState) (ν : M) → k < length s → read act i r (take k s) ≡ going τ ν → alive (step τ (get_or s k 0)) ≡ false → c ≡ 3 → p ≡ i + k → Halts i r s c p
    by-action : (k : ℕ) (τ : MachineState) (ν : M) → k < length s → read act i r (take k s) ≡ going τ ν → alive (step τ (get_or s k 0)) ≡ true → act τ (get_or s k 0) (i + k) ν ≡ refuses c p → Halts i r s c p

  later-halt : {i b c p : ℕ} {r : Reading M} {s : List ℕ} → Halts (suc i) (feed act i r b) s c p → Halts i r (b ∷ s) c p
  unfolding read
  later-halt {i} (Halts.by-grammar k τ ν l e a q h) = Halts.by-grammar (suc k) τ ν (omega arith) e a q (omega arith)
  later-halt {i} (Halts.by-action k τ ν l e a q) = let f : i + suc k ≡ suc i + k = omega arith in Halts.by-action (suc k) τ ν (omega arith) e a (rw f q)

  pub read-halts : (s : List ℕ) (i : ℕ) (σ : MachineState) (μ : M) (c p : ℕ) → read act i (going σ μ) s ≡ halted c p → Halts i (going σ μ) s c p
  unfolding read feed
  read-halts [] i σ μ c p e = absurd (let z : ◌≡◌ {A = ℕ} 0 1 = cc in omega arith)
  read-halts (b ∷ s) i σ μ c p g = split (alive (step σ b)) refl (act σ b i μ) refl (read-halts s (suc i) (step σ b)) g
    where
      put : (r : Reading M) → feed act i (going σ μ) b ≡ r → Halts (suc i) r s c p → Halts i (going σ μ) (b ∷ s) c p
      put r f h = later-halt (subst (λ q. Halts (suc i) q s c p) (sym f) h)

      here : i + 0 ≡ i
      here = add-zero i

      split : (t : Bool) → alive (step σ b) ≡ t → (a : Act M) → act σ b i μ ≡ a
          → ((ν : M) (c p : ℕ) → read act (suc i) (going (step σ b) ν) s ≡ halted c p → Halts (suc i) (going (step σ b) ν) s c p)
          → read act (suc i) (pick t (after (step σ b) a) (halted 3 i)) s ≡ halted c p → Halts i (going σ μ) (b ∷ s) c p
      split true e (keeps ν) q f g = put (going (step σ b) ν) (rw (e, q)) (f ν c p g)
      split true e (refuses d o) q f g =
          let z : halted d o ≡ halted c p = sym (read-halted s (suc i) d o) ∙ g in
          let x : act σ b i μ ≡ refuses c p = cc in
          Halts.by-action 0 σ μ (omega arith) refl e (rw here x)
      split false e a q f g =
          let z : halted 3 i ≡ halted c p = sym (read-halted s (suc i) 3 i) ∙ g in
          let x : 3 ≡ c = cc in
          let y : i ≡ p = cc in
          Halts.by-grammar 0 σ μ (omega arith) refl e (sym x) (omega arith)
