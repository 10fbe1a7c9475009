-- The cases of the lease's definitions, one law for each way through the code
use mathlib.Core.Path.{◌≡◌}
use mathlib.Core.Bool.{true, false}
use Prim.Native.Nat.{ℕ, ◌+◌, ◌-◌, ◌≤◌, ◌<◌}
use lib.Dec.{leb}
use borrow.Author.Tests.{lt-ltb, le-ltb, le-leb, lt-leb, eq-eqb, ne_eqb}
use Rattle.lease.specs.declared.Lease.{Lease}
use Rattle.std.specs.Prelude.{Err}
use Rattle.lease.specs.declared.Withheld.TheVariants.{Withdrawn, Undecided, Stale, Halted}
use Rattle.lease.specs.Lease.{halted, heard_of, stored_of, fresh_of, yes, release_of}

module _ (s : Lease) (asked head : ℕ) where
  pub heard-halted : 1 < s.phase → halted s ≡ heard_of s asked head
  unfolding heard_of
  heard-halted p = simp (lt-ltb 1 s.phase p)

  pub heard-back : s.phase ≤ 1 → head < s.head → halted s ≡ heard_of s asked head
  unfolding heard_of
  heard-back p q = simp (le-ltb 1 s.phase p, lt-ltb head s.head q)

  pub heard-below : s.phase ≤ 1 → s.head ≤ head → head < s.held → halted s ≡ heard_of s asked head
  unfolding heard_of
  heard-below p q r = simp (le-ltb 1 s.phase p, le-ltb head s.head q, lt-ltb head s.held r)

  pub heard-on : s.phase ≤ 1 → s.head ≤ head → s.held ≤ head → record { phase = 1; held = s.held; head = head; asked = asked } ≡ heard_of s asked head
  unfolding heard_of
  heard-on p q r = simp (le-ltb 1 s.phase p, le-ltb head s.head q, le-ltb head s.held r)

module _ (s : Lease) (number : ℕ) where
  pub stored-halted : 1 < s.phase → halted s ≡ stored_of s number
  unfolding stored_of
  stored-halted p = simp (lt-ltb 1 s.phase p)

  pub stored-gap : s.phase ≤ 1 → (number ≡ s.held + 1 → ⊥) → halted s ≡ stored_of s number
  unfolding stored_of
  stored-gap p q = simp (le-ltb 1 s.phase p, ne_eqb number (s.held + 1) q)

  pub stored_next : s.phase ≤ 1 → number ≡ s.held + 1 → record { phase = s.phase; held = number; head = s.head; asked = s.asked } ≡ stored_of s number
  unfolding stored_of
  stored_next p q = simp (le-ltb 1 s.phase p, eq-eqb number (s.held + 1) q)

module _ (s : Lease) (now limit : ℕ) where
  pub unheard : (s.phase ≡ 1 → ⊥) → false ≡ fresh_of s now limit
  unfolding fresh_of
  unheard p = simp (ne_eqb s.phase 1 p)

  pub behind : s.phase ≡ 1 → s.held < s.head → false ≡ fresh_of s now limit
  unfolding fresh_of
  behind p q = simp (eq-eqb s.phase 1 p, lt-leb s.head s.held q)

  pub to-come : s.phase ≡ 1 → s.head ≤ s.held → now < s.asked → false ≡ fresh_of s now limit
  unfolding fresh_of
  to-come p q r = simp (eq-eqb s.phase 1 p, le-leb s.head s.held q, lt-leb s.asked now r)

  pub by-age : s.phase ≡ 1 → s.head ≤ s.held → s.asked ≤ now → leb (now - s.asked) limit ≡ fresh_of s now limit
  unfolding fresh_of
  by-age p q r = simp (eq-eqb s.phase 1 p, le-leb s.head s.held q, le-leb s.asked now r)

module _ (s : Lease) (now limit verdict : ℕ) where
  pub told-halted : 1 < s.phase → Err Halted ≡ release_of s now limit verdict
  unfolding release_of
  told-halted p = simp (lt-ltb 1 s.phase p)

  pub told-withdrawn : s.phase ≤ 1 → verdict ≡ 1 → Err Withdrawn ≡ release_of s now limit verdict
  unfolding release_of
  told-withdrawn p q = simp (le-ltb 1 s.phase p, eq-eqb verdict 1 q)

  pub told-undecided : s.phase ≤ 1 → (verdict ≡ 1 → ⊥) → (verdict ≡ 0 → ⊥) → Err Undecided ≡ release_of s now limit verdict
  unfolding release_of
  told-undecided p q r = simp (le-ltb 1 s.phase p, ne_eqb verdict 1 q, ne_eqb verdict 0 r)

  pub told-yes : s.phase ≤ 1 → (verdict ≡ 1 → ⊥) → verdict ≡ 0 → fresh_of s now limit ≡ true → yes s.held (now - s.asked) ≡ release_of s now limit verdict
  unfolding release_of
  told-yes p q r f = simp (le-ltb 1 s.phase p, ne_eqb verdict 1 q, eq-eqb verdict 0 r, f)

  pub told-stale : s.phase ≤ 1 → (verdict ≡ 1 → ⊥) → verdict ≡ 0 → fresh_of s now limit ≡ false → Err (Stale (now - s.asked)) ≡ release_of s now limit verdict
  unfolding release_of
  told-stale p q r f = simp (le-ltb 1 s.phase p, ne_eqb verdict 1 q, eq-eqb verdict 0 r, f)
