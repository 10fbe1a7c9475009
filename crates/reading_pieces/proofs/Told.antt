-- 02, P11: when each answer is given: a refusal with the piece that brings its byte, never 25 to what was handed back, 24 after the end. Assumes nothing.
use Prim.Native.Nat.{ℕ, zero, suc, ◌+◌, ◌-◌, ◌≤◌, ◌<◌}
use native.Mathlib.Omega.{arith}
use mathlib.Core.Path.{◌≡◌, refl, sym, ap, ◌∙◌, subst}
use mathlib.Core.Bool.{true, false}
use mathlib.Core.List.{List, [], ◌∷◌, ◌++◌, flatten}
use lib.ListN.{length, take, drop, take-append-drop}
use lib.Seq.{take-append-le}
use lib.IntN.{ℤ}
use Rattle.table.specs.Valid.{enough}
use Rattle.reading_grammar.specs.declared.MachineState.TheVariants.{Start as start}
use Rattle.reading_grammar.specs.Fold.{Reading, going, halted}
use Rattle.reading_grammar.proofs.Fold.{Goes, goes}
use Rattle.reading.specs.Memory.{Memory}
use Rattle.reading.specs.Read.{ReadResult, zeros, beginning}
use Rattle.reading_pieces.specs.Bounded.{read_on}
use Rattle.reading_pieces.specs.State.{blank_state, ended_code, has_ended}
use Rattle.reading_pieces.specs.Broken.{broken_of}
use Rattle.reading_pieces.specs.Calls.{Fed, unchanged, start_of, fed_to, fed_of, end_of}
use Rattle.reading_pieces.specs.Whole.{fed_all, end_after, told_by, place_by}
use Rattle.reading_pieces.proofs.Bounded.{read_on-halted, read_on-append, Coded}
use Rattle.reading_pieces.proofs.Unbroken.{unbroken}
use Rattle.reading_pieces.proofs.Calls.{ended-feed, ended-end, going_end, told-unbroken, enough-same, halted-end}
use Rattle.reading_pieces.proofs.Whole.{reading, coded, live, fed-pieces, pieces_whole, whole-lengths}

-- ---- with its byte
module _ (a b : List ℤ) where
  -- a piece before a reading that goes on goes on; after one that halted it has halted
  reading-goes : (t u : List ℕ) → Goes (reading (t ++ u) a b) → Goes (reading t a b)
  reading-goes t u g = split (reading t a b) refl
    where
      split : (r : Reading Memory) → reading t a b ≡ r → Goes r
      split (going σ μ) e = goes
      split (halted c p) e =
          let f : reading (t ++ u) a b ≡ halted c p = read_on-append t u 0 (going start (beginning (zeros a) (zeros b))) ∙ ap (λ (r : Reading Memory). read_on (0 + length t) r u) e ∙ read_on-halted u (0 + length t) c p in
          absurd (no f g)
        where
          no : {r : Reading Memory} {c p : ℕ} → r ≡ halted c p → Goes r → ⊥
          no e goes = let z : ◌≡◌ {A = ℕ} 0 1 = cc in omega arith

  reading-halted : (t u : List ℕ) {c p : ℕ} → reading t a b ≡ halted c p → reading (t ++ u) a b ≡ halted c p
  reading-halted t u {c} {p} e = read_on-append t u 0 (going start (beginning (zeros a) (zeros b))) ∙ ap (λ (r : Reading Memory). read_on (0 + length t) r u) e ∙ read_on-halted u (0 + length t) c p

  goes-told : {r : Reading Memory} → Goes r → (told_by r ≡ 0) × (place_by r ≡ 0)
  goes-told goes = (refl, refl)

  module _ (room : enough a b ≡ true) where
    -- what the last call said is what the bytes so far say
    pub fed-says : (ps : List (List ℕ)) → ((fed_all ps (start_of a b)).result.code ≡ told_by (reading (flatten ps) a b)) × ((fed_all ps (start_of a b)).result.offset ≡ place_by (reading (flatten ps) a b))
    fed-says ps = (
      ap (λ (f : Fed). f.result.code) (fed-pieces a b room ps) ∙ code (reading (flatten ps) a b),
      ap (λ (f : Fed). f.result.offset) (fed-pieces a b room ps) ∙ offset (reading (flatten ps) a b),
    )
      where
        code : (r : Reading Memory) → (fed_to (length (flatten ps)) a b r).result.code ≡ told_by r
        code (going σ μ) = refl
        code (halted c p) = refl

        offset : (r : Reading Memory) → (fed_to (length (flatten ps)) a b r).result.offset ≡ place_by r
        offset (going σ μ) = refl
        offset (halted c p) = refl

    -- "A refusal at a byte is told as soon as that byte is known to be refused, and later pieces repeat it": the byte k of the text s is refused; ps are the pieces so far, u what is still to come
    module _ (s : List ℕ) (k c p : ℕ) (before : Goes (reading (take k s) a b)) (there : reading (take (suc k) s) a b ≡ halted c p) (ps : List (List ℕ)) (u : List ℕ) (cut : flatten ps ++ u ≡ s) where
      pub not-before : length (flatten ps) ≤ k → ((fed_all ps (start_of a b)).result.code ≡ 0) × ((fed_all ps (start_of a b)).result.offset ≡ 0)
      not-before l =
          let t = flatten ps in
          let e : take k s ≡ t ++ take (k - length t) u = ap (take k) (sym cut) ∙ take_past t u k l in
          let g = goes-told (reading-goes t (take (k - length t) u) (subst (λ (x : List ℕ). Goes (reading x a b)) e before)) in
          let w = fed-says ps in
          (w.0 ∙ g.0, w.1 ∙ g.1)
        where
          take_past : (t u : List ℕ) (k : ℕ) → length t ≤ k → take k (t ++ u) ≡ t ++ take (k - length t) u
          take_past [] u k l = let d : k - 0 ≡ k = omega arith in rw d
          take_past (x ∷ t) u zero l = absurd (omega arith)
          take_past (x ∷ t) u (suc k) l = let d : suc k - suc (length t) ≡ k - length t = omega arith in rw d (ap (λ (y : List ℕ). x ∷ y) (take_past t u k (omega arith)))

      pub from-then-on : k < length (flatten ps) → ((fed_all ps (start_of a b)).result.code ≡ c) × ((fed_all ps (start_of a b)).result.offset ≡ p)
      from-then-on l =
          let t = flatten ps in
          let e : take (suc k) s ≡ take (suc k) t = ap (take (suc k)) (sym cut) ∙ take-append-le (suc k) t u (omega arith) in
          let h : reading (take (suc k) t) a b ≡ halted c p = ap (λ (x : List ℕ). reading x a b) (sym e) ∙ there in
          let f : reading t a b ≡ halted c p = ap (λ (x : List ℕ). reading x a b) (sym (take-append-drop (suc k) t)) ∙ reading-halted (take (suc k) t) (drop (suc k) t) h in
          let w = fed-says ps in
          (w.0 ∙ ap told_by f, w.1 ∙ ap place_by f)

-- ---- never 25 to what was handed back; 24 after the end
module _ (a b : List ℤ) (room : enough a b ≡ true) (ps : List (List ℕ)) where
  -- what the feeds handed back, and what the end did
  abbrev fed : Fed
  fed = fed_all ps (start_of a b)

  abbrev over : Fed
  over = end_after fed

  fed-unbroken : (t : List ℕ) (r : Reading Memory) → reading t a b ≡ r → let f : Fed = fed_to (length t) a b r in broken_of f.state f.result.atoms f.result.bonds ≡ false
  fed-unbroken t (going σ μ) e = let w = live a b room t e in unbroken σ μ w.sane w.shown w.within
  fed-unbroken t (halted c q) e = let w : (2 ≤ c) × (c ≤ 9) = subst Coded e (coded a b room t) in told-unbroken c q (zeros a) (zeros b) (λ z. omega (arith, w.0))

  pub never-25 : broken_of fed.state fed.result.atoms fed.result.bonds ≡ false
  never-25 =
      ap (λ (f : Fed). broken_of f.state f.result.atoms f.result.bonds) (fed-pieces a b room ps)
      ∙ fed-unbroken (flatten ps) (reading (flatten ps) a b) refl

  end-state : (t : List ℕ) (r : Reading Memory) → reading t a b ≡ r → (end_after (fed_to (length t) a b r)).state ≡ blank_state ended_code 0
  end-state t (going σ μ) e = let w = live a b room t e in ap (λ (f : Fed). f.state) (going_end (length t) σ μ w.sane w.shown w.within w.large)
  end-state t (halted c q) e = let w : (2 ≤ c) × (c ≤ 9) = subst Coded e (coded a b room t) in ap (λ (f : Fed). f.state) (halted-end c q a b room w.0 w.1)

  pub over-state : over.state ≡ blank_state ended_code 0
  over-state = ap (λ (f : Fed). (end_after f).state) (fed-pieces a b room ps) ∙ end-state (flatten ps) (reading (flatten ps) a b) refl

  over-room : enough over.result.atoms over.result.bonds ≡ true
  over-room =
      let w = whole-lengths a b room (flatten ps) in
      enough-same a b over.result.atoms over.result.bonds
      (ap (λ (t : ReadResult). length t.atoms) (pieces_whole ps a b) ∙ w.0)
      (ap (λ (t : ReadResult). length t.bonds) (pieces_whole ps a b) ∙ w.1)
      ∙ room

  pub never-25-over : broken_of over.state over.result.atoms over.result.bonds ≡ false
  never-25-over = rw over-state (told-unbroken ended_code 0 over.result.atoms over.result.bonds (λ e. omega arith))

  ended-over : has_ended over.state ≡ true
  unfolding blank_state
  ended-over = rw over-state

  -- "a piece, empty or not, or a second end after that is refused as 24 and changes nothing"
  pub fed-after-end : (s : List ℕ) → fed_of over.state s over.result.atoms over.result.bonds ≡ unchanged 24 over.state over.result.atoms over.result.bonds
  fed-after-end s = ended-feed over.state over.result.atoms over.result.bonds s over-room never-25-over ended-over

  pub end-after-end : end_of over.state over.result.atoms over.result.bonds ≡ unchanged 24 over.state over.result.atoms over.result.bonds
  end-after-end = ended-end over.state over.result.atoms over.result.bonds over-room never-25-over ended-over
