-- 02, P11: reading in pieces is reading whole. Assumes nothing.
use Prim.Native.Nat.{ℕ, ◌+◌, ◌≤◌}
use native.Mathlib.Omega.{arith}
use native.Mathlib.Decide.{dec_le}
use mathlib.Core.Path.{◌≡◌, refl, sym, ap, ◌∙◌, subst}
use mathlib.Core.Bool.{Bool, true, false}
use mathlib.Core.List.{List, [], ◌∷◌, ◌++◌, append_assoc, append-nil, flatten}
use lib.ListN.{length, take, length-append, length-replicate}
use lib.IntN.{ℤ, pos}
use lib.Dec.{leb}
use borrow.Author.Tests.{le-leb, lt-leb}
use Rattle.loops.specs.Loop.{pick}
use Rattle.ids.specs.Limits.{max_text}
use Rattle.table.specs.Valid.{enough}
use Rattle.reading_grammar.specs.declared.MachineState.{MachineState}
use Rattle.reading_grammar.specs.declared.MachineState.TheVariants.{Start as start}
use Rattle.reading_grammar.specs.Fold.{Reading, going, halted}
use Rattle.reading.specs.Memory.{Memory}
use Rattle.reading.specs.Read.{ReadResult, zeros, refused, short, beginning, finished, read_from, read_of}
use Rattle.reading.specs.Conditions.{bytes_read}
use Rattle.reading_pieces.specs.Bounded.{read_on}
use Rattle.reading_pieces.specs.State.{blank_state}
use Rattle.reading_pieces.specs.Calls.{Fed, unchanged, start_of, fed_to, fed_of, rest_cleared}
use Rattle.reading_pieces.specs.Whole.{fed_all, end_after, in_pieces, overlong, whole_of}
use Rattle.reading_pieces.proofs.Bounded.{read_on-halted, read_on-append, read_on-within, read_on-beyond, read_on-coded, going-within, past_limit, Coded}
use Rattle.reading.proofs.Sane.{Sane}
use Rattle.reading_pieces.proofs.Shown.{Shown, Kept, kept_piece, kept-beginning}
use Rattle.reading_pieces.proofs.Calls.{short-feed, short-end, going-feed, going_end, enough-same, halted-feed, halted-end, start-fresh, start-short}
use Rattle.reading_pieces.proofs.Cleared.{refused-cleared, read-cleared, read-lengths}

-- the reading of bytes that came in any pieces
abbrev pub reading : List ℕ → List ℤ → List ℤ → Reading Memory
reading s a b = read_on 0 (going start (beginning (zeros a) (zeros b))) s

-- what a call leaves depends on the lent tables by their lengths only
fed-same : (i : ℕ) (r : Reading Memory) (a b a' b' : List ℤ) → length a' ≡ length a → length b' ≡ length b → fed_to i a' b' r ≡ fed_to i a b r
fed-same i (going σ μ) a b a' b' e f = refl
fed-same i (halted c q) a b a' b' e f = rw (e, f)

finished-same : (i : ℕ) (r : Reading Memory) (a b a' b' : List ℤ) → length a' ≡ length a → length b' ≡ length b → finished i a' b' r ≡ finished i a b r
finished-same i (going σ μ) a b a' b' e f = rw (e, f)
finished-same i (halted c q) a b a' b' e f = rw (e, f)

module _ (a b : List ℤ) (room : enough a b ≡ true) where
  -- ---- a reading after the bytes t
  kept : (t : List ℕ) → Kept (length a) (length b) (0 + length t) (reading t a b)
  kept t = kept_piece (length a) (length b) t 0 (going start (beginning (zeros a) (zeros b))) (kept-beginning a b room)

  pub coded : (t : List ℕ) → Coded (reading t a b)
  coded t = read_on-coded t 0 (going start (beginning (zeros a) (zeros b))) tt

  -- while it goes on: its state and its tables are in order
  pub record Live (t : List ℕ) (σ : MachineState) (μ : Memory) : Type 0 where
    pub sane : Sane (length a) (length b) σ (length t) μ
    pub shown : Shown σ μ
    pub within : length t ≤ max_text
    pub large : enough μ.atoms μ.bonds ≡ true

  pub live : (t : List ℕ) {σ : MachineState} {μ : Memory} → reading t a b ≡ going σ μ → Live t σ μ
  live t {σ} {μ} e =
      let n : 0 + length t ≡ length t = omega arith in
      let k : Kept (length a) (length b) (length t) (going σ μ) = subst (λ (r : Reading Memory). Kept (length a) (length b) (length t) r) e (rw n at (kept t)) in
      record {
        sane = k.0;
        shown = k.1;
        within = omega (arith, going-within t 0 (going start (beginning (zeros a) (zeros b))) (omega arith) e);
        large = enough-same a b μ.atoms μ.bonds k.0.tables.atom-length k.0.tables.bond-length ∙ room;
      }

  -- what it left is fed the piece s
  module _ (t s : List ℕ) where
    one_more : (r : Reading Memory) → reading t a b ≡ r → let f : Fed = fed_to (length t) a b r in fed_of f.state s f.result.atoms f.result.bonds ≡ fed_to (length t + length s) a b (read_on (length t) r s)
    one_more (going σ μ) e =
        let w = live t e in
        going-feed (length t) σ μ w.sane w.shown w.within w.large s
        ∙ fed-same (length t + length s) (read_on (length t) (going σ μ) s) a b μ.atoms μ.bonds w.sane.tables.atom-length w.sane.tables.bond-length
    one_more (halted c q) e =
        let w : (2 ≤ c) × (c ≤ 9) = subst Coded e (coded t) in
        halted-feed c q a b room w.0 w.1 s ∙ ap (fed_to (length t + length s) a b) (sym (read_on-halted s (length t) c q))

    piece : let f : Fed = fed_to (length t) a b (reading t a b) in fed_of f.state s f.result.atoms f.result.bonds ≡ fed_to (length (t ++ s)) a b (reading (t ++ s) a b)
    piece =
        let n : 0 + length t ≡ length t = omega arith in
        one_more (reading t a b) refl
        ∙ ap (λ (n : ℕ). fed_to n a b (read_on (length t) (reading t a b) s)) (sym (length-append t s))
        ∙ ap (fed_to (length (t ++ s)) a b) (sym (rw n at (read_on-append t s 0 (going start (beginning (zeros a) (zeros b))))))

  pieces-from : (ps : List (List ℕ)) (t : List ℕ) → fed_all ps (fed_to (length t) a b (reading t a b)) ≡ fed_to (length (t ++ flatten ps)) a b (reading (t ++ flatten ps) a b)
  unfolding fed_all flatten
  pieces-from [] t = rw (append-nil t)
  pieces-from (s ∷ ps) t =
      ap (fed_all ps) (piece t s)
      ∙ pieces-from ps (t ++ s)
      ∙ ap (λ (u : List ℕ). fed_to (length u) a b (reading u a b)) (append_assoc t s (flatten ps))

  -- after any pieces, the answer, the state and the tables are those of their bytes: a refusal is told with the piece that brings its byte, and by every later one
  pub fed-pieces : (ps : List (List ℕ)) → fed_all ps (start_of a b) ≡ fed_to (length (flatten ps)) a b (reading (flatten ps) a b)
  unfolding read_on
  fed-pieces ps = ap (fed_all ps) (start-fresh a b room) ∙ pieces-from ps []

  -- ---- the end
  end-from : (t : List ℕ) (r : Reading Memory) → reading t a b ≡ r → (end_after (fed_to (length t) a b r)).result ≡ rest_cleared (finished (length t) a b r)
  end-from t (going σ μ) e =
      let w = live t e in
      ap (λ (f : Fed). f.result) (going_end (length t) σ μ w.sane w.shown w.within w.large)
      ∙ ap rest_cleared (finished-same (length t) (going σ μ) a b μ.atoms μ.bonds w.sane.tables.atom-length w.sane.tables.bond-length)
  end-from t (halted c q) e =
      let w : (2 ≤ c) × (c ≤ 9) = subst Coded e (coded t) in
      ap (λ (f : Fed). f.result) (halted-end c q a b room w.0 w.1) ∙ sym (refused-cleared c q a b)

  -- within the limit
  short-whole : (t : List ℕ) → length t ≤ max_text → finished (length t) a b (reading t a b) ≡ read_of t a b
  unfolding read_of read_from
  short-whole t l = rw (room, le-leb (length t) max_text l) (ap (finished (length t) a b) (read_on-within t 0 (going start (beginning (zeros a) (zeros b))) (omega arith)))

  past-overlong : (n : ℕ) (r : Reading Memory) → finished n a b (past_limit r) ≡ overlong a b r
  past-overlong n (going σ μ) = refl
  past-overlong n (halted c p) = refl

  overlong-cleared : (r : Reading Memory) → rest_cleared (overlong a b r) ≡ overlong a b r
  overlong-cleared (going σ μ) = refused-cleared 2 max_text a b
  overlong-cleared (halted c p) = refused-cleared c p a b

  room_whole : (t : List ℕ) → rest_cleared (finished (length t) a b (reading t a b)) ≡ whole_of t a b
  unfolding whole_of
  room_whole t = split (dec_le (length t) max_text)
    where
      split : Dec (length t ≤ max_text) → rest_cleared (finished (length t) a b (reading t a b)) ≡ pick (leb (length t) max_text) (read_of t a b) (pick (enough a b) (overlong a b (bytes_read (take max_text t) a b)) (short a b))
      split (yes l) = rw (le-leb (length t) max_text l) (ap rest_cleared (short-whole t l) ∙ read-cleared t a b room)
      split (no l) =
          rw (lt-leb (length t) max_text (omega arith), room)
          (ap (λ (r : Reading Memory). rest_cleared (finished (length t) a b r)) (read_on-beyond t (going start (beginning (zeros a) (zeros b))) (omega arith))
          ∙ ap rest_cleared (past-overlong (length t) (bytes_read (take max_text t) a b))
          ∙ overlong-cleared (bytes_read (take max_text t) a b))

  overlong-lengths : (r : Reading Memory) → (length (overlong a b r).atoms ≡ length a) × (length (overlong a b r).bonds ≡ length b)
  overlong-lengths (going σ μ) = (length-replicate (length a) (pos 0), length-replicate (length b) (pos 0))
  overlong-lengths (halted c p) = (length-replicate (length a) (pos 0), length-replicate (length b) (pos 0))

  pub whole-lengths : (t : List ℕ) → (length (whole_of t a b).atoms ≡ length a) × (length (whole_of t a b).bonds ≡ length b)
  unfolding whole_of
  whole-lengths t = split (leb (length t) max_text)
    where
      split : (x : Bool) → let w : ReadResult = pick x (read_of t a b) (pick (enough a b) (overlong a b (bytes_read (take max_text t) a b)) (short a b)) in (length w.atoms ≡ length a) × (length w.bonds ≡ length b)
      split true = read-lengths t a b room
      split false = rw room (overlong-lengths (bytes_read (take max_text t) a b))

-- ---- tables that are too short: 1 throughout
short-pieces : (a b : List ℤ) → enough a b ≡ false → (ps : List (List ℕ)) → fed_all ps (unchanged 1 (blank_state 0 0) a b) ≡ unchanged 1 (blank_state 0 0) a b
unfolding fed_all
short-pieces a b e [] = refl
short-pieces a b e (s ∷ ps) = ap (fed_all ps) (short-feed (blank_state 0 0) a b s e) ∙ short-pieces a b e ps

short-whole-too : (a b : List ℤ) → enough a b ≡ false → (t : List ℕ) → whole_of t a b ≡ short a b
unfolding whole_of read_of
short-whole-too a b e t = split (leb (length t) max_text)
  where
    split : (x : Bool) → pick x (pick (enough a b) (pick x (read_from t a b) (refused 2 max_text a b)) (short a b)) (pick (enough a b) (overlong a b (bytes_read (take max_text t) a b)) (short a b)) ≡ short a b
    split true = rw e
    split false = rw e

-- 02, P11: "However the text is cut, empty pieces included, the final answer, place and tables equal those of the whole text read at once"
pub pieces_whole : (ps : List (List ℕ)) (a b : List ℤ) → in_pieces ps a b ≡ whole_of (flatten ps) a b
pieces_whole ps a b = split (enough a b) refl
  where
    split : (x : Bool) → enough a b ≡ x → in_pieces ps a b ≡ whole_of (flatten ps) a b
    split true e =
        ap (λ (f : Fed). (end_after f).result) (fed-pieces a b e ps)
        ∙ end-from a b e (flatten ps) (reading (flatten ps) a b) refl
        ∙ room_whole a b e (flatten ps)
    split false e =
        ap (λ (f : Fed). (end_after f).result) (ap (fed_all ps) (start-short a b e) ∙ short-pieces a b e ps)
        ∙ ap (λ (f : Fed). f.result) (short-end (blank_state 0 0) a b e)
        ∙ sym (short-whole-too a b e (flatten ps))
