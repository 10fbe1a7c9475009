-- What is told after the last byte: 10 at the leftmost opening, the late checks, and 11 exactly where there is no matching. Assumes nothing.
use Prim.Native.Nat.{ℕ, ◌<◌, ◌≤◌}
use native.Mathlib.Omega.{arith}
use mathlib.Core.Path.{◌≡◌, ap}
use mathlib.Core.Logic.{◌↔◌}
use mathlib.Core.List.{List}
use lib.ListN.{length}
use lib.IntN.{ℤ}
use borrow.Author.Tests.{ne_eqb, le-leb, le-ltb, lt-ltb}
use Rattle.ids.specs.Limits.{max_text}
use Rattle.reading.specs.Read.{ReadResult, refused, leftmost, ended, read_from, read_of}
use Rattle.table.specs.Marks.{CrowdedEnd, StrayMark}
use Rattle.table.specs.Sound.{LooseAtom, UnfitAtom}
use Rattle.table.proofs.Sound.{crowded-late, stray-late, loose-late, unfit-late}
use Rattle.reading.specs.Conditions.{atoms_of, Unclosed, Late, Unmatched}
use Rattle.reading.proofs.Leftmost.{closed_none, leftmost-open, none_open, opening-leftmost}
use Rattle.reading.proofs.Outcome.{Outcome, outcome}
use Rattle.reading.proofs.Accepted.{halt-code, read-sane, early}

module _ (s : List ℕ) (atoms bonds : List ℤ) where
  pub read-unclosed : (read_of s atoms bonds).code ≡ 10 → Unclosed s atoms bonds (read_of s atoms bonds).offset
  read-unclosed = go (read_of s atoms bonds) (outcome s atoms bonds)
    where
      go : (t : ReadResult) → Outcome s atoms bonds t → t.code ≡ 10 → Unclosed s atoms bonds t.offset
      go t (Outcome.too_short e) z = absurd (omega arith)
      go t (Outcome.too_long e l) z = absurd (omega arith)
      go t (Outcome.halts f e) z = let h = halt-code s atoms bonds e in absurd (omega arith)
      go t (Outcome.unfinished f e a) z = absurd (omega arith)
      go t (Outcome.unclosed {σ} {μ} f e a l) z =
          record { state = σ; memory = μ; reads = record { fits = f; reached = e; ends = a }; leftmost = leftmost-open μ.st.opener μ.st.offset (read-sane s atoms bonds f e).steering.opener-length l }
      go t (Outcome.late f e a l p) z = absurd (omega (arith, p.0))
      go t (Outcome.unmatched f e a l p m) z = absurd (omega arith)
      go t (Outcome.accepts f e a l p m) z = absurd (omega arith)

  read-unmatched : (read_of s atoms bonds).code ≡ 11 → Unmatched s atoms bonds
  read-unmatched = go (read_of s atoms bonds) (outcome s atoms bonds)
    where
      go : (t : ReadResult) → Outcome s atoms bonds t → t.code ≡ 11 → Unmatched s atoms bonds
      go t (Outcome.too_short e) z = absurd (omega arith)
      go t (Outcome.too_long e l) z = absurd (omega arith)
      go t (Outcome.halts f e) z = let h = halt-code s atoms bonds e in absurd (omega arith)
      go t (Outcome.unfinished f e a) z = absurd (omega arith)
      go t (Outcome.unclosed f e a l) z = absurd (omega arith)
      go t (Outcome.late f e a l p) z = absurd (omega (arith, p.0))
      go t (Outcome.unmatched {σ} {μ} f e a l p m) z =
          let w = read-sane s atoms bonds f e in
          record {
            state = σ;
            memory = μ;
            reads = record { fits = f; reached = e; ends = a };
            no_open_bridge = none_open μ.st.opener μ.st.offset w.steering.opener-length (early s atoms bonds f w) l;
            passes = p;
            none = m;
          }
      go t (Outcome.accepts f e a l p m) z = absurd (omega arith)

  pub unmatched-read : (u : Unmatched s atoms bonds) → read_of s atoms bonds ≡ refused 11 0 (atoms_of u.memory) u.memory.bonds
  unfolding read_of read_from ended
  unmatched-read u =
      let μ = u.memory in
      let room = u.reads.fits.room in
      let size = le-leb (length s) max_text u.reads.fits.short in
      let last = u.reads.reached in
      let ends = u.reads.ends in
      let none = le-ltb (leftmost μ.st.opener μ.st.offset) max_text (closed_none μ.st.opener μ.st.offset u.no_open_bridge) in
      rw (room, size, last, ends, none, u.passes, u.none)

  pub unmatched-iff : ((read_of s atoms bonds).code ≡ 11) ↔ Unmatched s atoms bonds
  unmatched-iff = (read-unmatched, λ u. ap (λ (t : ReadResult). t.code) (unmatched-read u))

  -- a late code exactly where the molecule read fails that check first
  read-late : {c : ℕ} → 20 ≤ c → (read_of s atoms bonds).code ≡ c → Late s atoms bonds c
  read-late {c} h = go (read_of s atoms bonds) (outcome s atoms bonds)
    where
      go : (t : ReadResult) → Outcome s atoms bonds t → t.code ≡ c → Late s atoms bonds c
      go t (Outcome.too_short e) z = absurd (omega arith)
      go t (Outcome.too_long e l) z = absurd (omega arith)
      go t (Outcome.halts f e) z = let k = halt-code s atoms bonds e in absurd (omega arith)
      go t (Outcome.unfinished f e a) z = absurd (omega arith)
      go t (Outcome.unclosed f e a l) z = absurd (omega arith)
      go t (Outcome.late {σ} {μ} f e a l p) z =
          let w = read-sane s atoms bonds f e in
          record {
            state = σ;
            memory = μ;
            reads = record { fits = f; reached = e; ends = a };
            no_open_bridge = none_open μ.st.opener μ.st.offset w.steering.opener-length (early s atoms bonds f w) l;
            fails = z;
            some = omega arith;
          }
      go t (Outcome.unmatched f e a l p m) z = absurd (omega arith)
      go t (Outcome.accepts f e a l p m) z = absurd (omega arith)

  pub late-read : {c : ℕ} (u : Late s atoms bonds c) → read_of s atoms bonds ≡ refused c 0 (atoms_of u.memory) u.memory.bonds
  unfolding read_of read_from ended
  late-read {c} u =
      let μ = u.memory in
      let room = u.reads.fits.room in
      let size = le-leb (length s) max_text u.reads.fits.short in
      let last = u.reads.reached in
      let ends = u.reads.ends in
      let none = le-ltb (leftmost μ.st.opener μ.st.offset) max_text (closed_none μ.st.opener μ.st.offset u.no_open_bridge) in
      let fails = u.fails in
      let some = ne_eqb c 0 (λ e. omega (arith, u.some)) in
      rw (room, size, last, ends, none, fails, some)

  pub late-iff : {c : ℕ} → 20 ≤ c → ((read_of s atoms bonds).code ≡ c) ↔ Late s atoms bonds c
  late-iff l = (read-late l, λ u. ap (λ (t : ReadResult). t.code) (late-read u))

  -- 20 exactly where two marked neighbours of an end of a double bond of the molecule read lie on the same side, 21 where else a mark touches no double bond, 22 where else a selected atom has fewer than two bonds; no bridge being open
  pub crowded-read : (read_of s atoms bonds).code ≡ 20 → (u : Late s atoms bonds 20) × CrowdedEnd u.memory.bonds u.memory.st.bonds
  crowded-read e = let u = read-late (omega arith) e in (u, (crowded-late (atoms_of u.memory) u.memory.bonds u.memory.st.atoms u.memory.st.bonds).0 u.fails)

  pub stray-read : (read_of s atoms bonds).code ≡ 21 → (u : Late s atoms bonds 21) × ((¬ CrowdedEnd u.memory.bonds u.memory.st.bonds) × StrayMark u.memory.bonds u.memory.st.bonds)
  stray-read e = let u = read-late (omega arith) e in (u, (stray-late (atoms_of u.memory) u.memory.bonds u.memory.st.atoms u.memory.st.bonds).0 u.fails)

  pub loose-read : (read_of s atoms bonds).code ≡ 22
      → (u : Late s atoms bonds 22) × ((¬ CrowdedEnd u.memory.bonds u.memory.st.bonds) × (¬ StrayMark u.memory.bonds u.memory.st.bonds) × LooseAtom (atoms_of u.memory) u.memory.bonds u.memory.st.atoms u.memory.st.bonds)
  loose-read e = let u = read-late (omega arith) e in (u, (loose-late (atoms_of u.memory) u.memory.bonds u.memory.st.atoms u.memory.st.bonds).0 u.fails)

  -- 23 where none of these, and a marked atom has not four neighbours with at most one hydrogen
  pub unfit-read : (read_of s atoms bonds).code ≡ 23
      → (u : Late s atoms bonds 23) × ((¬ CrowdedEnd u.memory.bonds u.memory.st.bonds) × (¬ StrayMark u.memory.bonds u.memory.st.bonds) × (¬ LooseAtom (atoms_of u.memory) u.memory.bonds u.memory.st.atoms u.memory.st.bonds) × UnfitAtom (atoms_of u.memory) u.memory.bonds u.memory.st.atoms u.memory.st.bonds)
  unfit-read e = let u = read-late (omega arith) e in (u, (unfit-late (atoms_of u.memory) u.memory.bonds u.memory.st.atoms u.memory.st.bonds).0 u.fails)

  pub unclosed-read : {p : ℕ} (u : Unclosed s atoms bonds p) → read_of s atoms bonds ≡ refused 10 p u.memory.atoms u.memory.bonds
  unfolding read_of read_from ended
  unclosed-read {p} u =
      let μ = u.memory in
      let f = u.reads.fits in
      let w = read-sane s atoms bonds f u.reads.reached in
      let low : p < max_text = omega (arith, u.leftmost.opening, early s atoms bonds f w u.leftmost.number u.leftmost.still_open) in
      let e : leftmost μ.st.opener μ.st.offset ≡ p = opening-leftmost μ.st.opener μ.st.offset w.steering.opener-length u.leftmost low in
      let room = f.room in
      let size = le-leb (length s) max_text f.short in
      let last = u.reads.reached in
      let ends = u.reads.ends in
      rw (room, size, last, ends, e, lt-ltb p max_text low)
