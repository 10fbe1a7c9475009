-- The reading state keeps naming atoms that were read. Assumes nothing.
use Prim.Native.Nat.{ℕ, suc, ◌+◌, ◌*◌, ◌-◌, ◌≤◌, ◌<◌}
use native.Mathlib.Omega.{arith}
use native.Mathlib.Decide.{ℕ_discrete}
use mathlib.Core.Path.{◌≡◌, ◌∙◌}
use mathlib.Core.List.{List}
use lib.ListN.{length, get_or, set, length-set, length-replicate}
use lib.Seq.{get_or-set_same, get_or-set_other}
use lib.Dec.{ltb}
use Rattle.loops.proofs.Loops.{repeated-at}
use Rattle.kinds.specs.Kind.{max_kind}
use Rattle.table.specs.Limits.{max_atoms, max_bonds}
use Rattle.ids.specs.Limits.{max_depth, bridges}
use Rattle.reading_state.specs.State.{Steering, key_count, started, opened, closed, keyed, keys_after, bridged}
use Rattle.reading.specs.Memory.{with_next_atom}
use Rattle.reading.proofs.Cases.{by-test}
use Rattle.reading.proofs.Sane.{Steers}

-- what holds of a value, and of every cell, holds of every cell after the value is written
set-each : (P : ℕ → Type 0) (l : List ℕ) (i v : ℕ) → i < length l → P v → ((k : ℕ) → P (get_or l k 0)) → (k : ℕ) → P (get_or (set l i v) k 0)
set-each P l i v h pv pl k = split (ℕ_discrete k i)
  where
    split : Dec (k ≡ i) → P (get_or (set l i v) k 0)
    split (yes e) = rw (e, get_or-set_same l i v 0 h) pv
    split (no n) = rw (get_or-set_other l i k v 0 n) (pl k)

pub started-steering : Steers 0 started
unfolding started
started-steering =
    record {
      stack-length = length-replicate {A = ℕ} max_depth 0;
      opener-length = length-replicate {A = ℕ} bridges 0;
      symbol-length = length-replicate {A = ℕ} bridges 0;
      offset-length = length-replicate {A = ℕ} bridges 0;
      outside-length = length-replicate {A = ℕ} max_atoms 0;
      keys_length = length-replicate {A = ℕ} key_count 0;
      depth = omega arith;
      stack = λ k l. absurd (omega arith);
      opener = λ r. omega (arith, repeated-at {A = ℕ} bridges r 0);
      symbol = λ r. omega (arith, repeated-at {A = ℕ} bridges r 0);
      offset = λ r l. absurd (omega (arith, repeated-at {A = ℕ} bridges r 0));
      keys = λ k. omega (arith, repeated-at {A = ℕ} key_count k 0);
    }

module _ {i : ℕ} {s : Steering} (w : Steers i s) where
  -- a byte later
  pub later : Steers (suc i) s
  later =
      record {
        stack-length = w.stack-length;
        opener-length = w.opener-length;
        symbol-length = w.symbol-length;
        offset-length = w.offset-length;
        outside-length = w.outside-length;
        keys_length = w.keys_length;
        depth = w.depth;
        stack = w.stack;
        opener = w.opener;
        symbol = w.symbol;
        offset = λ r l. omega (arith, w.offset r l);
        keys = λ k. omega (arith, w.keys k);
      }

  -- one atom more
  pub extended-steering : (x m : ℕ) → Steers (suc i) (with_next_atom s x m)
  extended-steering x m =
      record {
        stack-length = w.stack-length;
        opener-length = w.opener-length;
        symbol-length = w.symbol-length;
        offset-length = w.offset-length;
        outside-length = length-set s.outside s.atoms x ∙ w.outside-length;
        keys_length = w.keys_length;
        depth = w.depth;
        stack = λ k l. omega (arith, w.stack k l);
        opener = λ r. omega (arith, w.opener r);
        symbol = w.symbol;
        offset = λ r l. omega (arith, w.offset r l);
        keys = λ k. omega (arith, w.keys k);
      }

  -- a branch more
  pub opened-steering : s.depth < max_depth → s.hub.0 < s.atoms → Steers (suc i) (opened s)
  unfolding opened
  opened-steering d h =
      record {
        stack-length = length-set s.stack s.depth s.hub.0 ∙ w.stack-length;
        opener-length = w.opener-length;
        symbol-length = w.symbol-length;
        offset-length = w.offset-length;
        outside-length = w.outside-length;
        keys_length = w.keys_length;
        depth = omega arith;
        stack = stack;
        opener = w.opener;
        symbol = w.symbol;
        offset = λ r l. omega (arith, w.offset r l);
        keys = λ k. omega (arith, w.keys k);
      }
    where
      stack : (k : ℕ) → k < s.depth + 1 → get_or (set s.stack s.depth s.hub.0) k 0 < s.atoms
      stack k l = split (ℕ_discrete k s.depth)
        where
          split : Dec (k ≡ s.depth) → get_or (set s.stack s.depth s.hub.0) k 0 < s.atoms
          split (yes e) = rw (e, get_or-set_same s.stack s.depth s.hub.0 0 (omega (arith, w.stack-length))) h
          split (no n) = rw (get_or-set_other s.stack s.depth k s.hub.0 0 n) (w.stack k (omega arith))

  -- a branch less
  pub closed-steering : 0 < s.depth → Steers (suc i) (closed s)
  unfolding closed
  closed-steering d =
      record {
        stack-length = length-set s.stack (s.depth - 1) 0 ∙ w.stack-length;
        opener-length = w.opener-length;
        symbol-length = w.symbol-length;
        offset-length = w.offset-length;
        outside-length = w.outside-length;
        keys_length = w.keys_length;
        depth = omega (arith, w.depth);
        stack = λ k l. rw (get_or-set_other s.stack (s.depth - 1) k 0 0 (λ e. omega arith)) (w.stack k (omega arith));
        opener = w.opener;
        symbol = w.symbol;
        offset = λ r l. omega (arith, w.offset r l);
        keys = λ k. omega (arith, w.keys k);
      }

  -- the hub after a branch is an atom
  pub closed-hub : 0 < s.depth → (closed s).hub.0 < (closed s).atoms
  unfolding closed
  closed-hub d = w.stack (s.depth - 1) (omega arith)

  -- the keys of a bond more
  keyed-keys : (b p q : ℕ) → 2 * b + 1 < key_count → p ≤ i → q ≤ i → (c : ℕ) → get_or (keyed s.keys b p q) c 0 ≤ suc i
  keyed-keys b p q h hp hq =
      set-each (λ v. v ≤ suc i) (set s.keys (2 * b) (p + 1)) (2 * b + 1) (q + 1) (simp length-set (omega (arith, w.keys_length))) (omega arith)
      (set-each (λ v. v ≤ suc i) s.keys (2 * b) (p + 1) (omega (arith, w.keys_length)) (omega arith) (λ c. omega (arith, w.keys c)))

  keyed-length : (b p q : ℕ) → length (keyed s.keys b p q) ≡ key_count
  keyed-length b p q = length-set (set s.keys (2 * b) (p + 1)) (2 * b + 1) (q + 1) ∙ length-set s.keys (2 * b) (p + 1) ∙ w.keys_length

  module _ (r p : ℕ) where
    pub keys-after-length : length (keys_after s r p) ≡ key_count
    keys-after-length = by-test (λ (y : List ℕ). length y ≡ key_count) (ltb (get_or s.opener r 0 - 1) s.hub.0) _ _ (λ e. keyed-length s.bonds (get_or s.offset r 0) p) (λ e. keyed-length s.bonds p (get_or s.offset r 0))

    pub keys-after : s.bonds < max_bonds → 0 < get_or s.opener r 0 → p ≤ i → (c : ℕ) → get_or (keys_after s r p) c 0 ≤ suc i
    keys-after h o hp c =
        by-test (λ (y : List ℕ). get_or y c 0 ≤ suc i) (ltb (get_or s.opener r 0 - 1) s.hub.0) _ _
        (λ e. keyed-keys s.bonds (get_or s.offset r 0) p (omega arith) (omega (arith, w.offset r o)) hp c)
        (λ e. keyed-keys s.bonds p (get_or s.offset r 0) (omega arith) hp (omega (arith, w.offset r o)) c)

  -- another opener, symbol and offset of a bridge number
  pub bridged-steering : (r a k p m : ℕ) (y : List ℕ) → r < bridges → a ≤ s.atoms → k ≤ max_kind → p ≤ i → length y ≡ key_count → ((c : ℕ) → get_or y c 0 ≤ suc i) → Steers (suc i) (bridged s r a k p m y)
  bridged-steering r a k p m y h ha hk hp hl hy =
      record {
        stack-length = w.stack-length;
        opener-length = length-set s.opener r a ∙ w.opener-length;
        symbol-length = length-set s.symbol r k ∙ w.symbol-length;
        offset-length = length-set s.offset r p ∙ w.offset-length;
        outside-length = w.outside-length;
        keys_length = hl;
        depth = w.depth;
        stack = w.stack;
        opener = set-each (λ v. v ≤ s.atoms) s.opener r a (omega (arith, w.opener-length)) ha w.opener;
        symbol = set-each (λ v. v ≤ max_kind) s.symbol r k (omega (arith, w.symbol-length)) hk w.symbol;
        offset = offset;
        keys = hy;
      }
    where
      offset : (c : ℕ) → 0 < get_or (set s.opener r a) c 0 → get_or (set s.offset r p) c 0 < suc i
      offset c = split (ℕ_discrete c r)
        where
          split : Dec (c ≡ r) → 0 < get_or (set s.opener r a) c 0 → get_or (set s.offset r p) c 0 < suc i
          split (yes e) l = rw (e, get_or-set_same s.offset r p 0 (omega (arith, w.offset-length))) (omega arith)
          split (no n) l =
              let o : get_or (set s.opener r a) c 0 ≡ get_or s.opener c 0 = get_or-set_other s.opener r c a 0 n in
              rw (get_or-set_other s.offset r c p 0 n) (omega (arith, w.offset c (omega arith)))
