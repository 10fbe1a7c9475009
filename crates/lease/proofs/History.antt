-- What a yes says of the whole history, and the clause: a withdrawal that was missed is younger than the lease
use mathlib.Core.Path.{◌≡◌, refl, sym, ap, ◌∙◌}
use mathlib.Core.Bool.{Bool, true, false, ◌&&◌, ◌||◌, not, true≢false}
use mathlib.Core.List.{List, [], ◌∷◌}
use Prim.Native.Nat.{ℕ, ◌+◌, ◌-◌, ◌≤◌, ◌<◌}
use native.Mathlib.Omega.{arith}
use lib.Dec.{eqb, leb, ltb}
use borrow.Author.Tests.{ltb-true, ltb-false, leb-true, le-leb, eqb-true, eqb-false, not-false}
use Rattle.lease.specs.declared.Lease.{Lease}
use Rattle.std.specs.Prelude.{Err}
use Rattle.lease.specs.declared.Release.{Release}
use Rattle.lease.specs.declared.Withheld.TheVariants.{Withdrawn, Undecided, Stale, Halted}
use Rattle.lease.specs.Lease.{heard_of, stored_of, fresh_of, yes, release_of}
use Rattle.loops.specs.Loop.{pick}
use Rattle.lease.proofs.Laws.{heard-halted, heard-back, heard-below, heard-on, stored-halted, stored-gap, stored_next, told-yes, by-age}
use Rattle.lease.specs.History.{Event, heard, stored, failed, after, last_stored, Hearing, never, at, last_heard, head_of, broken, is_stored, Released}

-- what the hearing makes of the three cells
abbrev asked_of : Hearing → ℕ
asked_of never = 0
asked_of (at t h) = t

abbrev phase_of : Hearing → ℕ
phase_of never = 0
phase_of (at t h) = 1

-- the lease after an unbroken history, by the history alone
abbrev shown : ℕ → List Event → Lease
shown start events = record { phase = phase_of (last_heard events); held = last_stored start events; head = head_of (last_heard events); asked = asked_of (last_heard events) }

small : (w : Hearing) → phase_of w ≤ 1
small never = omega arith
small (at t h) = omega arith

neither : (a b : Bool) → (a || b) ≡ false → (a ≡ false) × (b ≡ false)
neither true b e = absurd (true≢false e)
neither false b e = (refl, e)

-- an unbroken history is all that the lease knows
unbroken-shown : (start : ℕ) (events : List Event) → broken start events ≡ false → after start events ≡ shown start events
unfolding broken after last_heard last_stored
unbroken-shown start [] e = refl
unbroken-shown start (heard t h ∷ past) e =
    let w : Hearing = last_heard past in
    let p : (broken start past ≡ false) × ((ltb h (head_of w) || ltb h (last_stored start past)) ≡ false) = neither _ _ e in
    let q : (ltb h (head_of w) ≡ false) × (ltb h (last_stored start past) ≡ false) = neither _ _ p.1 in
    rw (unbroken-shown start past p.0)
    (sym (heard-on (shown start past) t h (small w) (ltb-false _ _ q.0) (ltb-false _ _ q.1)))
unbroken-shown start (stored n ∷ past) e =
    let p : (broken start past ≡ false) × (not (eqb n (last_stored start past + 1)) ≡ false) = neither _ _ e in
    rw (unbroken-shown start past p.0) (sym (stored_next (shown start past) n (small (last_heard past)) (eqb-true _ _ (not-false _ p.1))))
unbroken-shown start (failed ∷ past) e = absurd (true≢false e)

-- a broken one has halted it
broken-halts : (start : ℕ) (events : List Event) → broken start events ≡ true → 1 < (after start events).phase
unfolding broken after
broken-halts start [] e = absurd (true≢false (sym e))
broken-halts start (heard t h ∷ past) e = go (broken start past) refl (ltb h (head_of (last_heard past))) refl (ltb h (last_stored start past)) refl (broken-halts start past) e
  where
    go : (b : Bool) → broken start past ≡ b → (x : Bool) → ltb h (head_of (last_heard past)) ≡ x → (y : Bool) → ltb h (last_stored start past) ≡ y → (broken start past ≡ true → 1 < (after start past).phase) → (b || (x || y)) ≡ true → 1 < (heard_of (after start past) t h).phase
    go true p x q y r i z = rw (← heard-halted (after start past) t h (i p)) (omega arith)
    go false p true q y r i z = rw (unbroken-shown start past p) (rw (← heard-back (shown start past) t h (small (last_heard past)) (ltb-true _ _ q)) (omega arith))
    go false p false q true r i z = rw (unbroken-shown start past p) (rw (← heard-below (shown start past) t h (small (last_heard past)) (ltb-false _ _ q) (ltb-true _ _ r)) (omega arith))
    go false p false q false r i z = absurd (true≢false (sym z))
broken-halts start (stored n ∷ past) e = go (broken start past) refl (eqb n (last_stored start past + 1)) refl (broken-halts start past) e
  where
    go : (b : Bool) → broken start past ≡ b → (x : Bool) → eqb n (last_stored start past + 1) ≡ x → (broken start past ≡ true → 1 < (after start past).phase) → (b || not x) ≡ true → 1 < (stored_of (after start past) n).phase
    go true p x q i z = rw (← stored-halted (after start past) n (i p)) (omega arith)
    go false p false q i z = rw (unbroken-shown start past p) (rw (← stored-gap (shown start past) n (small (last_heard past)) (eqb-false _ _ q)) (omega arith))
    go false p true q i z = absurd (true≢false (sym z))
broken-halts start (failed ∷ past) e = omega arith

-- what a yes needs of the tests
record Needs (a c d : Bool) (h g x y : ℕ) : Type 0 where
  runs : a ≡ false
  clear : c ≡ true
  fresh : d ≡ true
  held : x ≡ h
  age : y ≡ g

needed : (a b c d : Bool) (h g x y : ℕ) → pick a (Err Halted) (pick b (Err Withdrawn) (pick c (pick d (yes h g) (Err (Stale g))) (Err Undecided))) ≡ yes x y → Needs a c d h g x y
needed true b c d h g x y e = absurd (let z : ◌≡◌ {A = ℕ} 0 1 = cc in omega arith)
needed false true c d h g x y e = absurd (let z : ◌≡◌ {A = ℕ} 0 1 = cc in omega arith)
needed false false false d h g x y e = absurd (let z : ◌≡◌ {A = ℕ} 0 1 = cc in omega arith)
needed false false true false h g x y e = absurd (let z : ◌≡◌ {A = ℕ} 0 1 = cc in omega arith)
needed false false true true h g x y e =
    let z : ◌≡◌ {A = Release} (record { held = x; age = y }) (record { held = h; age = g }) = cc in
    record { runs = refl; clear = refl; fresh = refl; held = ap (λ (r : Release). r.held) z; age = ap (λ (r : Release). r.age) z }

-- what a fresh lease needs of the numbers
record Fresh (s : Lease) (now limit : ℕ) : Type 0 where
  heard : s.phase ≡ 1
  whole : s.head ≤ s.held
  past : s.asked ≤ now
  young : now - s.asked ≤ limit

all-four : (a b c d : Bool) → (a && (b && (c && d))) ≡ true → (a ≡ true) × (b ≡ true) × (c ≡ true) × (d ≡ true)
all-four true true true true e = (refl, refl, refl, refl)
all-four false b c d e = absurd (true≢false (sym e))
all-four true false c d e = absurd (true≢false (sym e))
all-four true true false d e = absurd (true≢false (sym e))
all-four true true true false e = absurd (true≢false (sym e))

fresh-needs : (s : Lease) (now limit : ℕ) → fresh_of s now limit ≡ true → Fresh s now limit
unfolding fresh_of
fresh-needs s now limit e =
    let p : (eqb s.phase 1 ≡ true) × (leb s.head s.held ≡ true) × (leb s.asked now ≡ true) × (leb (now - s.asked) limit ≡ true) = all-four _ _ _ _ e in
    record { heard = eqb-true _ _ p.0; whole = leb-true _ _ p.1; past = leb-true _ _ p.2; young = leb-true _ _ p.3 }

yes-needs : (s : Lease) (now limit verdict held age : ℕ) → release_of s now limit verdict ≡ yes held age → Needs (ltb 1 s.phase) (eqb verdict 0) (fresh_of s now limit) s.held (now - s.asked) held age
unfolding release_of
yes-needs s now limit verdict held age e = needed (ltb 1 s.phase) (eqb verdict 1) (eqb verdict 0) (fresh_of s now limit) s.held (now - s.asked) held age e

-- a yes tells of the whole history: nothing withdrawn or undecided, no fault, gap or head that went back, everything up to the last head held, and that asked for within the limit
pub yes-released : (start : ℕ) (events : List Event) (now limit verdict held age : ℕ) → release_of (after start events) now limit verdict ≡ yes held age → Released start events now limit verdict held age
yes-released start events now limit verdict held age e =
    let s : Lease = after start events in
    let k : Needs (ltb 1 s.phase) (eqb verdict 0) (fresh_of s now limit) s.held (now - s.asked) held age = yes-needs s now limit verdict held age e in
    go k (fresh-needs s now limit k.fresh) (broken start events) refl (last_heard events) refl
  where
    go : Needs (ltb 1 (after start events).phase) (eqb verdict 0) (fresh_of (after start events) now limit) (after start events).held (now - (after start events).asked) held age → Fresh (after start events) now limit
        → (b : Bool) → broken start events ≡ b → (w : Hearing) → last_heard events ≡ w → Released start events now limit verdict held age
    go k f true p w q = absurd (omega (arith, broken-halts start events p, ltb-false 1 (after start events).phase k.runs))
    go k f false p never q = absurd (omega (arith, f.heard, ap (λ (x : Lease). x.phase) (unbroken-shown start events p), ap phase_of q))
    go k f false p (at t h) q =
        let u : after start events ≡ shown start events = unbroken-shown start events p in
        let a : (after start events).asked ≡ t = ap (λ (x : Lease). x.asked) u ∙ ap asked_of q in
        let b : (after start events).head ≡ h = ap (λ (x : Lease). x.head) u ∙ ap head_of q in
        let c : (after start events).held ≡ last_stored start events = ap (λ (x : Lease). x.held) u in
        record {
          asked = t;
          head = h;
          clear = eqb-true verdict 0 k.clear;
          unbroken = p;
          newest = q;
          last = k.held ∙ c;
          whole = omega (arith, f.whole, k.held);
          past = omega (arith, f.past);
          since = k.age ∙ ap (λ (x : ℕ). now - x) a;
          young = omega (arith, f.young, k.age);
        }

-- in an unbroken history each number after the start up to the last was stored
pub all-stored : (start : ℕ) (events : List Event) → broken start events ≡ false → (q : ℕ) → start < q → q ≤ last_stored start events → is_stored q events ≡ true
unfolding broken last_stored is_stored
all-stored start [] e q l u = absurd (omega arith)
all-stored start (heard t h ∷ past) e q l u = all-stored start past (neither _ _ e).0 q l u
all-stored start (stored n ∷ past) e q l u =
    let p : (broken start past ≡ false) × (not (eqb n (last_stored start past + 1)) ≡ false) = neither _ _ e in
    go (eqb-true _ _ (not-false _ p.1)) (eqb q n) refl (all-stored start past p.0 q l)
  where
    go : n ≡ last_stored start past + 1 → (x : Bool) → eqb q n ≡ x → (q ≤ last_stored start past → is_stored q past ≡ true) → (x || is_stored q past) ≡ true
    go m true d i = refl
    go m false d i = i (let z : q ≡ n → ⊥ = eqb-false q n d in omega (arith, z))
all-stored start (failed ∷ past) e q l u = absurd (true≢false e)

-- the clause: where the last head told covers all that was committed before it was asked for, a yes means that every withdrawal committed longer ago than the limit is stored
pub missed-is-younger : (start : ℕ) (events : List Event) (now limit verdict held age : ℕ) (committed : ℕ → ℕ)
    → ((asked head : ℕ) → last_heard events ≡ at asked head → (q : ℕ) → committed q < asked → q ≤ head)
    → release_of (after start events) now limit verdict ≡ yes held age
    → (q : ℕ) → start < q → committed q + limit < now → is_stored q events ≡ true
missed-is-younger start events now limit verdict held age committed honest e q l c =
    let r : Released start events now limit verdict held age = yes-released start events now limit verdict held age e in
    let m : q ≤ r.head = honest r.asked r.head r.newest q (omega (arith, r.since, r.young, r.past)) in
    all-stored start events r.unbroken q l (omega (arith, r.whole, r.last, m))

-- and the other way round: a history that shows all of it gets its yes
pub released-yes : (start : ℕ) (events : List Event) (now limit verdict held age : ℕ) → Released start events now limit verdict held age → release_of (after start events) now limit verdict ≡ yes held age
released-yes start events now limit verdict held age r =
    let s : Lease = after start events in
    let u : s ≡ shown start events = unbroken-shown start events r.unbroken in
    let p : s.phase ≡ 1 = ap (λ (x : Lease). x.phase) u ∙ ap phase_of r.newest in
    let a : s.asked ≡ r.asked = ap (λ (x : Lease). x.asked) u ∙ ap asked_of r.newest in
    let b : s.head ≡ r.head = ap (λ (x : Lease). x.head) u ∙ ap head_of r.newest in
    let c : held ≡ s.held = r.last ∙ sym (ap (λ (x : Lease). x.held) u) in
    let d : age ≡ now - s.asked = r.since ∙ sym (ap (λ (x : ℕ). now - x) a) in
    let f : fresh_of s now limit ≡ true = sym (by-age s now limit p (omega (arith, r.whole)) (omega (arith, r.past))) ∙ le-leb (now - s.asked) limit (omega (arith, r.young)) in
    rw (c, d) (sym (told-yes s now limit verdict (omega arith) (λ e. omega (arith, r.clear)) r.clear f))
