-- Reading the bytes of a written text whole holds what reading its tokens holds. Assumes nothing.
use mathlib.Core.Path.{◌≡◌, refl, ap, ◌∙◌, subst}
use mathlib.Core.Bool.{Bool, true, false}
use mathlib.Core.List.{List, [], ◌∷◌, ◌++◌}
use Prim.Native.Nat.{ℕ, zero, suc, ◌+◌, ◌*◌, ◌<◌, ◌≤◌}
use native.Mathlib.Omega.{arith}
use lib.Dec.{eqb, ltb}
use lib.ListN.{length, get_or, length-append, length-replicate, get_or-replicate, get_or-eq_default}
use lib.IntN.{ℤ, pos}
use borrow.Author.Tests.{eqb-true, ltb-true, ltb-false}
use Rattle.loops.proofs.Loops.{and_left, and_right, repeated-at}
use Rattle.reading_grammar.specs.declared.Last.{Last}
use Rattle.reading_grammar.specs.declared.Mode.TheVariants.{Seq as seq}
use Rattle.reading_grammar.specs.declared.MachineState.{MachineState}
use Rattle.reading_grammar.specs.declared.MachineState.TheVariants.{Start as opening, At as at}
use Rattle.reading_grammar.specs.Machine.{accepting, resting}
use Rattle.table.specs.Limits.{max_atoms, max_bonds, atom_cells, bond_cells}
use Rattle.table.proofs.Valid.{AtomFine}
use Rattle.ids.specs.Limits.{max_depth, bridges}
use Rattle.reading_state.specs.State.{key_count, started}
use Rattle.reading.specs.Memory.{Memory, nothing}
use Rattle.reading.specs.Read.{zeros, beginning}
use Rattle.writing_walk.specs.Token.{Tok, apart, along, ring, branch, back}
use Rattle.writing_walk.specs.Reading.{Closure, closure_at, St, st, start_tokens}
use Rattle.writing_walk.specs.Reading as token
use Rattle.writing_walk.specs.Check.{refusal, fine, or_number, reading, grammar, accepted_tokens}
use Rattle.writing_walk.specs.Keyed.{Keyed, keyed, state_of, keys_of, step_keyed, run_keyed, start_keyed}
use Rattle.writing_walk.proofs.Count.{All, none, more}
use Rattle.writing_walk.proofs.Keyed.{bonds_of, step-long}
use Rattle.writing_walk.proofs.Stamps.{InTime, step-in-time, start-in-time}
use Rattle.writing.specs.Spell.{atom_bytes, token_bytes, rest_bytes, tokens_bytes}
use Rattle.roundtrip.proofs.Feed.{Takes, stays, joins}
use Rattle.roundtrip.proofs.Letters.{begins-start}
use Rattle.roundtrip.proofs.Atoms.{draft_row, outside_flag}
use Rattle.roundtrip.proofs.Keying.{keying-later}
use Rattle.roundtrip.proofs.Simulation.{Holds, Keeps}
use Rattle.roundtrip.proofs.Signs.{Stance, after, fresh}
use Rattle.roundtrip.proofs.Tokens.{Good, next_of, depth_of, room-first, room-both, room-depth, Is, Stepped, atom-apart, step-apart, step-along, step-ring, step-branch, step_back}

never : {P : Type 0} → false ≡ true → P
never h = let z : ◌≡◌ {A = ℕ} 0 1 = cc in absurd (omega arith)

-- one token of a reading that is not refused
record Passed (t : Tok) (ts : List Tok) (s s' : St) : Type 0 where
  here : refusal max_atoms max_bonds max_depth t s ≡ 0
  rest : reading max_atoms max_bonds max_depth ts (token.step_token t s) ≡ fine s'

passed : (t : Tok) (ts : List Tok) (s s' : St) → reading max_atoms max_bonds max_depth (t ∷ ts) s ≡ fine s' → Passed t ts s s'
passed t ts s s' = go (refusal max_atoms max_bonds max_depth t s) refl
  where
    go : (c : ℕ) → refusal max_atoms max_bonds max_depth t s ≡ c → or_number c (reading max_atoms max_bonds max_depth ts (token.step_token t s)) ≡ fine s' → Passed t ts s s'
    go zero e h = record { here = e; rest = h }
    go (suc c) e h = absurd (let z : ◌≡◌ {A = ℕ} 0 1 = cc in omega arith)

along-grammar : (k w : ℕ) (ts : List Tok) (d : ℕ) (b : Bool) → grammar (along k w ∷ ts) d b ≡ true → grammar ts d false ≡ true
along-grammar k w ts zero true h = never h
along-grammar k w ts zero false h = h
along-grammar k w ts (suc d) b h = h

-- no stamp and no key is later than the time, and each bond has its keys
record Timely (x : Keyed) : Type 0 where
  in-time : InTime x
  as_many : length (keys_of x) ≡ length (bonds_of (state_of x))

timely-step : (t : Tok) (x : Keyed) → Timely x → Timely (step_keyed t x)
timely-step t (keyed s z ts ks) h = record { in-time = step-in-time t (keyed s z ts ks) h.in-time; as_many = step-long t s z ts ks h.as_many }

module _ (atoms bonds : List ℤ) (N m p q : ℕ) (fine-atoms : (v : ℕ) → v < N → AtomFine atoms v) (proom : atom_cells * max_atoms ≤ p) (qroom : bond_cells * max_bonds ≤ q) where
  abbrev f : ℕ → List ℕ
  f = atom_bytes atoms bonds m

  abbrev Now : St → Memory → Type 0
  Now = Is atoms bonds N m p q fine-atoms proom qroom

  -- the bytes lead to the end of a text
  pub record Finished (i : ℕ) (σ : MachineState) (μ : Memory) (l : List ℕ) (s : St) (x : Keyed) : Type 0 where
    pub last : Last
    pub memory : Memory
    pub takes : Takes i σ μ l (at (seq last) 0) memory
    pub holds : Holds (draft_row atoms bonds m) (outside_flag atoms bonds m) p q s memory
    pub keys : Keeps x (i + length l) memory

  abbrev Rest : List Tok → Keyed → St → Bool → ℕ → Type 0
  Rest ts x s' b d = (i : ℕ) (σ : MachineState) (μ : Memory) → Now (state_of x) μ → Keeps x i μ → μ.pending ≡ nothing → Stance b d σ → Finished i σ μ (rest_bytes f ts) s' (run_keyed ts x)

  onward : {i : ℕ} {σ : MachineState} {μ : Memory} {x : Keyed} {s' : St} {b : Bool} {d : ℕ} (l : List ℕ) (ts : List Tok) → Stepped atoms bonds N m p q fine-atoms proom qroom i σ μ l x b d → Rest ts x s' b d → Finished i σ μ (l ++ rest_bytes f ts) s' (run_keyed ts x)
  onward {i} l ts a k =
      let z = k (i + length l) a.state a.memory a.holds a.keys a.waits a.stance in
      record {
        last = z.last;
        memory = z.memory;
        takes = joins l (rest_bytes f ts) a.takes z.takes;
        holds = z.holds;
        keys = keying-later (let b = length-append l (rest_bytes f ts) in omega arith) z.keys;
      }

  simulate : (ts : List Tok) (k : Keyed) (s : St) (b : Bool) (d i : ℕ) (σ : MachineState) (μ : Memory) → Now (state_of k) μ → Keeps k i μ → Timely k → μ.pending ≡ nothing → Stance b d σ → depth_of (state_of k) ≡ d → 0 < next_of (state_of k) → grammar ts d b ≡ true → reading max_atoms max_bonds max_depth ts (state_of k) ≡ fine s → All (Good N) ts
      → Finished i σ μ (rest_bytes f ts) s (run_keyed ts k)
  unfolding rest_bytes
  simulate [] k s b zero i σ μ h o t e (after {x}) y z g r a =
      record { last = x; memory = μ; takes = stays; holds = subst (λ (s : St). Now s μ) (let w : state_of k ≡ s = cc in w) h; keys = keying-later (omega arith) o }
  simulate [] k s b (suc d) i σ μ h o t e (after {x}) y z g r a = absurd (let w = eqb-true (suc d) 0 (and_left (eqb (suc d) 0) true g) in omega arith)
  simulate [] k s b zero i σ μ h o t e fresh y z g r a = never g
  simulate [] k s b (suc d) i σ μ h o t e fresh y z g r a = never (and_right (eqb (suc d) 0) false g)
  simulate (apart w ∷ ts) (keyed (st xs bs u n hs stk) j ms ks) s b d i σ μ h o t e v y z g r (more c a) =
      let k = keyed (st xs bs u n hs stk) j ms ks in
      let C = passed (apart w) ts (st xs bs u n hs stk) s r in
      let l = ltb-true n max_atoms (room-first (ltb n max_atoms) C.here) in
      onward (46 ∷ f w) ts (step-apart atoms bonds N m p q fine-atoms proom qroom xs bs u n hs stk j ms ks i σ μ b d w c v h o l)
      (λ i σ μ h o e v. simulate ts (step_keyed (apart w) k) s false d i σ μ h o (timely-step (apart w) k t) e v y (omega arith) g C.rest a)
  simulate (along x w ∷ ts) (keyed (st xs bs u n hs stk) j ms ks) s b d i σ μ h o t e v y z g r (more c a) =
      let k = keyed (st xs bs u n hs stk) j ms ks in
      let C = passed (along x w) ts (st xs bs u n hs stk) s r in
      let l = room-both (ltb n max_atoms) (ltb (length bs) max_bonds) C.here in
      onward (token_bytes f (along x w)) ts (step-along atoms bonds N m p q fine-atoms proom qroom xs bs u n hs stk j ms ks i σ μ b d x w c.0 c.1 v e h o (ltb-true n max_atoms l.0) (ltb-true (length bs) max_bonds l.1) z)
      (λ i σ μ h o e v. simulate ts (step_keyed (along x w) k) s false d i σ μ h o (timely-step (along x w) k t) e v y (omega arith) (along-grammar x w ts d b g) C.rest a)
  simulate (ring x w ∷ ts) (keyed (st xs bs u n hs stk) j ms ks) s b d i σ μ h o t e (after {x = p'}) y z g r (more c a) =
      let k = keyed (st xs bs u n hs stk) j ms ks in
      let C = passed (ring x w) ts (st xs bs u n hs stk) s r in
      onward (token_bytes f (ring x w)) ts (step-ring atoms bonds N m p q fine-atoms proom qroom xs bs u n hs stk j ms ks i p' μ d x w c.0 c.1 e h o t.in-time t.as_many C.here)
      (λ i σ μ h o e v. simulate ts (step_keyed (ring x w) k) s false d i σ μ h o (timely-step (ring x w) k t) e v (same (closure_at hs w) ∙ y) (more-atoms (closure_at hs w)) g C.rest a)
    where
      same : (c : Closure) → depth_of (token.bridge c x w xs bs u n hs stk) ≡ length stk
      same token.vacant = refl
      same (token.at v l) = refl

      more-atoms : (c : Closure) → 0 < next_of (token.bridge c x w xs bs u n hs stk)
      more-atoms token.vacant = z
      more-atoms (token.at v l) = z
  simulate (ring x w ∷ ts) (keyed (st xs bs u n hs stk) j ms ks) s b d i σ μ h o t e fresh y z g r a = never g
  simulate (branch ∷ ts) (keyed (st xs bs u n hs stk) j ms ks) s b d i σ μ h o t e (after {x}) y z g r (more c a) =
      let k = keyed (st xs bs u n hs stk) j ms ks in
      let C = passed branch ts (st xs bs u n hs stk) s r in
      onward (40 ∷ []) ts (step-branch atoms bonds N m p q fine-atoms proom qroom xs bs u n hs stk j ms ks i x μ d h o (ltb-true (length stk) max_depth (room-depth (ltb (length stk) max_depth) C.here)) z)
      (λ i σ μ h o e v. simulate ts (step_keyed branch k) s true (suc d) i σ μ h o (timely-step branch k t) e v (ap suc y) z g C.rest a)
  simulate (branch ∷ ts) (keyed (st xs bs u n hs stk) j ms ks) s b d i σ μ h o t e fresh y z g r a = never g
  simulate (back ∷ ts) (keyed (st xs bs u n hs stk) j ms ks) s b zero i σ μ h o t e v y z g r a = never g
  simulate (back ∷ ts) (keyed (st xs bs u n hs []) j ms ks) s b (suc d) i σ μ h o t e v y z g r a = absurd (omega arith)
  simulate (back ∷ ts) (keyed (st xs bs u n hs (w ∷ stk)) j ms ks) s b (suc d) i σ μ h o t e (after {x}) y z g r (more c a) =
      let k = keyed (st xs bs u n hs (w ∷ stk)) j ms ks in
      let C = passed back ts (st xs bs u n hs (w ∷ stk)) s r in
      onward (41 ∷ []) ts (step_back atoms bonds N m p q fine-atoms proom qroom xs bs u n hs w stk j ms ks i x μ d h o)
      (λ i σ μ h o e v. simulate ts (step_keyed back k) s false d i σ μ h o (timely-step back k t) e v (omega arith) z g C.rest a)
  simulate (back ∷ ts) (keyed (st xs bs u n hs (w ∷ stk)) j ms ks) s b (suc d) i σ μ h o t e fresh y z g r a = never g

  -- ---- the beginning
  module _ (A B : List ℤ) (la : length A ≡ p) (lb : length B ≡ q) where
    zero-cell : (T : List ℤ) (j : ℕ) → get_or (zeros T) j (pos 0) ≡ pos 0
    zero-cell T j = go (ltb j (length T)) refl
      where
        go : (x : Bool) → ltb j (length T) ≡ x → get_or (zeros T) j (pos 0) ≡ pos 0
        go true e = get_or-replicate (length T) j (pos 0) (pos 0) (ltb-true j (length T) e)
        go false e = get_or-eq_default (zeros T) (pos 0) (let w = ltb-false j (length T) e in let z = length-replicate (length T) (pos 0) in omega arith)

    begins-empty : Now start_tokens (beginning (zeros A) (zeros B))
    unfolding started
    begins-empty = record {
      hub = refl;
      atoms = refl;
      bonds = refl;
      depth = refl;
      below = λ z. absurd (omega arith);
      hubs = none;
      bridging = record {
        openers = λ r l. get_or-replicate bridges (suc r) 0 0 l;
        symbols = λ r l. get_or-replicate bridges (suc r) 0 0 l;
        unused = refl;
        opener-length = refl;
        symbol-length = refl;
      };
      branching = record { hubs = tt; long = refl };
      table = record {
        many = refl;
        flags = λ a l. absurd (omega arith);
        cells = λ a f l k. absurd (omega arith);
        after = λ j l. zero-cell A j;
        outside-length = refl;
        long = length-replicate (length A) (pos 0) ∙ la;
      };
      bonding = record { ordered = none; cells = λ b f l k. absurd (omega arith); after = λ j l. zero-cell B j; long = length-replicate (length B) (pos 0) ∙ lb };
    }

    begins-keyed : Keeps start_keyed 0 (beginning (zeros A) (zeros B))
    unfolding started
    begins-keyed = record {
      offsets = [];
      timed = refl;
      rising = λ a b l k. absurd (omega arith);
      past = none;
      opened = λ r u j l e. absurd (let z : ◌≡◌ {A = ℕ} 0 1 = cc in omega arith);
      long = refl;
      table = record { low = λ b l. absurd (omega arith); high = λ b l. absurd (omega arith); after = λ j l. repeated-at {A = ℕ} key_count j 0; long = refl };
    }

    begins-timely : Timely start_keyed
    begins-timely = record { in-time = start-in-time; as_many = refl }

    -- THE TEXT: the bytes of accepted tokens are read to an accepted end, with what the tokens hold
    pub record Held (l : List ℕ) (s : St) (x : Keyed) : Type 0 where
      pub state : MachineState
      pub memory : Memory
      pub takes : Takes 0 opening (beginning (zeros A) (zeros B)) l state memory
      pub ends : accepting state ≡ true
      pub holds : Holds (draft_row atoms bonds m) (outside_flag atoms bonds m) p q s memory
      pub keys : Keeps x (length l) memory

    pub text-read : (ts : List Tok) (s : St) → accepted_tokens ts ≡ true → reading max_atoms max_bonds max_depth ts start_tokens ≡ fine s → All (Good N) ts → Held (tokens_bytes f ts) s (run_keyed ts start_keyed)
    unfolding tokens_bytes accepting resting started
    text-read [] s g r a = record {
      state = opening;
      memory = beginning (zeros A) (zeros B);
      takes = stays;
      ends = refl;
      holds = subst (λ (s : St). Now s (beginning (zeros A) (zeros B))) (let w : start_tokens ≡ s = cc in w) begins-empty;
      keys = begins-keyed;
    }
    text-read (apart w ∷ ts) s g r (more t a) =
        let c = passed (apart w) ts start_tokens s r in
        let b = atom-apart atoms bonds N m p q fine-atoms proom qroom [] [] 0 0 [] [] 0 [] [] 0 opening 0 (beginning (zeros A) (zeros B)) w t begins-start begins-empty begins-keyed (omega arith) refl in
        let z = onward (f w) ts b (λ i σ μ h o e v. simulate ts (step_keyed (apart w) start_keyed) s false 0 i σ μ h o (timely-step (apart w) start_keyed begins-timely) e v refl (omega arith) g c.rest a) in
        record { state = at (seq z.last) 0; memory = z.memory; takes = z.takes; ends = refl; holds = z.holds; keys = keying-later (omega arith) z.keys }
    text-read (along k w ∷ ts) s g r a = never g
    text-read (ring k o ∷ ts) s g r a = never g
    text-read (branch ∷ ts) s g r a = never g
    text-read (back ∷ ts) s g r a = never g
