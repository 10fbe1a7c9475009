-- The tokens of the walk, as the emission by arrays writes them. Assumes nothing.
use Prim.Native.Nat.{ℕ, zero, suc, ◌+◌, ◌<◌, ◌≤◌}
use native.Mathlib.Omega.{arith}
use mathlib.Core.Path.{◌≡◌, refl, sym, ap, ◌∙◌}
use mathlib.Core.Bool.{Bool, true, false, ◌&&◌, cond}
use mathlib.Core.List.{List, [], ◌∷◌, ◌++◌, append_assoc, append-nil}
use lib.ListN.{length, get_or, drop, drop_of_length-le}
use lib.Seq.{drop-cons}
use lib.Dec.{eqb, ltb}
use borrow.Author.Tests.{ne_eqb, lt-ltb, le-ltb, ltb-true, ltb-false}
use Rattle.kinds.specs.Kind.{bond_symbol}
use Rattle.loops.specs.Loop.{pick, up_to}
use Rattle.ids.specs.Limits.{bridges}
use Rattle.writing_walk.specs.Token.{Bond, Tok, apart, along, ring, branch, back}
use Rattle.writing_walk.specs.Emit.{Slot, find, release, lowest, insert, close_all, close_toks, open_all, open_toks, rings, ring_toks}
use Rattle.writing_walk.specs.Walk.{member, closing_bonds, opening_bonds}
use Rattle.writing_walk.specs.Flat.{Position, root, first, later, WalkRow, walk_row, lead, child, flat, position_of, rows_of}
use Rattle.writing_walk.proofs.Count.{All, none, more}
use Rattle.writing_walk.proofs.Bridges.{Low, close-low, close-length, insert-length}
use Rattle.writing.specs.Spell.{kind_bytes, bridge_bytes, token_bytes, rest_bytes, tokens_bytes}
use Rattle.writing.specs.Write.{few_bridges}
use Rattle.writing_bridges.specs.Slots.{slot_count, Bridged, closes_from, opens_from, close_bytes, open_bytes, fits}
use Rattle.writer.specs.Emit.{leave_bytes, enter_bytes, lead_bytes, Pending, next_slots, bytes_from, few_from}
use Rattle.writer.proofs.Emission.{closes-are, opens-are, open-there, pending_next}

module _ (g : ℕ → List ℕ) where
  rest-append : (a b : List Tok) → rest_bytes g (a ++ b) ≡ rest_bytes g a ++ rest_bytes g b
  unfolding rest_bytes
  rest-append [] b = refl
  rest-append (x ∷ a) b = ap (λ (l : List ℕ). token_bytes g x ++ l) (rest-append a b) ∙ sym (append_assoc (token_bytes g x) (rest_bytes g a) (rest_bytes g b))

  close-rest : (l : List Bond) (t : List Slot) → rest_bytes g (close_toks l t) ≡ close_bytes l t
  unfolding rest_bytes close_bytes kind_bytes bond_symbol
  close-rest [] t = refl
  close-rest (b ∷ l) t = ap (λ (y : List ℕ). bridge_bytes (find b t) ++ y) (close-rest l (release b t))

  open-rest : (l : List Bond) (t : List Slot) → rest_bytes g (open_toks l t) ≡ open_bytes l t
  unfolding rest_bytes open_bytes
  open-rest [] t = refl
  open-rest (b ∷ l) t = ap (λ (y : List ℕ). (kind_bytes b.kind ++ bridge_bytes (lowest t)) ++ y) (open-rest l (insert b t))

  child-rest : (m : Bool) (k w : ℕ) → rest_bytes g (child m k w) ≡ enter_bytes m ++ (kind_bytes k ++ g w)
  unfolding rest_bytes enter_bytes
  child-rest true k w = ap (λ (l : List ℕ). 40 ∷ l) (append-nil (kind_bytes k ++ g w))
  child-rest false k w = append-nil (kind_bytes k ++ g w)

  lead-rest : (x u k w : ℕ) (m : Bool) → 0 < x → rest_bytes g (lead (position_of u x) m k w) ≡ lead_bytes x u m k ++ g w
  unfolding rest_bytes lead_bytes leave_bytes
  lead-rest x zero k w m h = rw (ne_eqb x 0 (omega arith)) (ap (λ (l : List ℕ). 46 ∷ l) (append-nil (g w)))
  lead-rest x (suc u) k w m h = go (eqb (suc u) x)
    where
      tail : (l : List ℕ) → l ++ (enter_bytes m ++ (kind_bytes k ++ g w)) ≡ (l ++ (enter_bytes m ++ kind_bytes k)) ++ g w
      tail l = sym (append_assoc l (enter_bytes m ++ kind_bytes k) (g w) ∙ ap (λ (y : List ℕ). l ++ y) (append_assoc (enter_bytes m) (kind_bytes k) (g w)))

      go : (e : Bool) → rest_bytes g (lead (cond e first later) m k w) ≡ (pick e [] (41 ∷ []) ++ (enter_bytes m ++ kind_bytes k)) ++ g w
      go true = child-rest m k w ∙ tail []
      go false = ap (λ (l : List ℕ). 41 ∷ l) (child-rest m k w) ∙ tail (41 ∷ [])

few-append : (a b : List Tok) → few_bridges (a ++ b) ≡ (few_bridges a && few_bridges b)
unfolding few_bridges
few-append [] b = refl
few-append (apart w ∷ a) b = few-append a b
few-append (along k w ∷ a) b = few-append a b
few-append (ring k r ∷ a) b = ap (λ (t : Bool). ltb (suc r) bridges && t) (few-append a b) ∙ sym (and_assoc (ltb (suc r) bridges) (few_bridges a) (few_bridges b))
  where
    and_assoc : (p q s : Bool) → ((p && q) && s) ≡ (p && (q && s))
    and_assoc true q s = refl
    and_assoc false q s = refl
few-append (branch ∷ a) b = few-append a b
few-append (back ∷ a) b = few-append a b

few-lead : (s : Position) (m : Bool) (k w : ℕ) → few_bridges (lead s m k w) ≡ true
unfolding few_bridges
few-lead root m k w = refl
few-lead first true k w = refl
few-lead first false k w = refl
few-lead later true k w = refl
few-lead later false k w = refl

few-low : (l : List Tok) → All (Low slot_count) l → few_bridges l ≡ true
unfolding few_bridges
few-low [] none = refl
few-low (apart w ∷ l) (more h a) = few-low l a
few-low (along k w ∷ l) (more h a) = few-low l a
few-low (ring k r ∷ l) (more h a) = rw (lt-ltb (suc r) bridges (omega arith)) (few-low l a)
few-low (branch ∷ l) (more h a) = few-low l a
few-low (back ∷ l) (more h a) = few-low l a

ltb-suc : (a b : ℕ) → ltb (suc a) (suc b) ≡ ltb a b
ltb-suc a b = go (ltb a b) refl
  where
    go : (t : Bool) → ltb a b ≡ t → ltb (suc a) (suc b) ≡ t
    go true e = let h = ltb-true a b e in lt-ltb (suc a) (suc b) (omega arith)
    go false e = let h = ltb-false a b e in le-ltb (suc a) (suc b) (omega arith)

few-open : (l : List Bond) (t : List Slot) → few_bridges (open_toks l t) ≡ fits slot_count l t
unfolding few_bridges fits
few-open [] t = refl
few-open (b ∷ l) t = λ i. ltb-suc (lowest t) slot_count i && few-open l (insert b t) i

fits-long : (l : List Bond) (t : List Slot) → length t ≤ slot_count → fits slot_count l t ≡ true → length (open_all l t) ≤ slot_count
unfolding fits
fits-long [] t h e = h
fits-long (b ∷ l) t h e = go (ltb (lowest t) slot_count) refl e (fits-long l (insert b t))
  where
    go : (s : Bool) → ltb (lowest t) slot_count ≡ s → (s && fits slot_count l (insert b t)) ≡ true → (length (insert b t) ≤ slot_count → fits slot_count l (insert b t) ≡ true → length (open_all l (insert b t)) ≤ slot_count) → length (open_all l (insert b t)) ≤ slot_count
    go true q e r = r (insert-length slot_count b t h (ltb-true (lowest t) slot_count q)) e
    go false q e r = absurd (let z : ◌≡◌ {A = ℕ} 0 1 = cc in omega arith)

-- the walk's lists, from the place x on
module _ (ws ks us : List ℕ) (n : ℕ) (lw : length ws ≡ n) (lk : length ks ≡ n) (lu : length us ≡ n) where
  abbrev pub rows_from : ℕ → List WalkRow
  rows_from x = rows_of (drop x ws) (drop x ks) (drop x us) x

  abbrev pub later_one : ℕ → Bool
  later_one x = member (get_or us x 0) (drop (suc x) us)

  rows_step : (x : ℕ) → x < n → rows_from x ≡ walk_row (get_or ws x 0) (get_or ks x 0) (position_of (get_or us x 0) x) (later_one x) ∷ rows_from (suc x)
  rows_step x h =
      let a : x < length ws = omega arith in
      let b : x < length ks = omega arith in
      let c : x < length us = omega arith in
      λ i. rows_of (drop-cons ws x 0 a i) (drop-cons ks x 0 b i) (drop-cons us x 0 c i) x

  pub rows_end : (x : ℕ) → n ≤ x → rows_from x ≡ []
  rows_end x h =
      let a : length ws ≤ x = omega arith in
      ap (λ (l : List ℕ). rows_of l (drop x ks) (drop x us) x) (drop_of_length-le ws a)

  module _ (f : ℕ → Bond) (k : ℕ) {los his : List ℕ} (br : Bridged f n k los his) (g : ℕ → List ℕ) where
    abbrev pub c : ℕ → List Bond
    c = closing_bonds n (up_to f 0 k)

    abbrev pub o : ℕ → List Bond
    o = opening_bonds n (up_to f 0 k)

    abbrev pub head_at : ℕ → List ℕ
    head_at x = lead_bytes x (get_or us x 0) (later_one x) (get_or ks x 0) ++ g (get_or ws x 0)

    ring-rest : (x : ℕ) (t : List Slot) → rest_bytes g (ring_toks c o x t) ≡ close_bytes (closes_from f n k x 0) t ++ open_bytes (opens_from f n k x 0) (close_all (closes_from f n k x 0) t)
    ring-rest x t =
        rest-append g (close_toks (c x) t) (open_toks (o x) (close_all (c x) t))
        ∙ (λ i. close-rest g (c x) t i ++ open-rest g (o x) (close_all (c x) t) i)
        ∙ (λ i. close_bytes (closes-are br x i) t ++ open_bytes (opens-are br x i) (close_all (closes-are br x i) t))

    next-is : (x : ℕ) (t : List Slot) → rings c o x t ≡ next_slots f n k x t
    next-is x t = λ i. open_all (opens-are br x i) (close_all (closes-are br x i) t)

    pub flat_step : (x : ℕ) (t : List Slot) → x < n → flat c o (rows_from x) x t
        ≡ lead (position_of (get_or us x 0) x) (later_one x) (get_or ks x 0) (get_or ws x 0) ++ (ring_toks c o x t ++ flat c o (rows_from (suc x)) (suc x) (next_slots f n k x t))
    flat_step x t h =
        ap (λ (l : List WalkRow). flat c o l x t) (rows_step x h)
        ∙ ap (λ (s : List Slot). lead (position_of (get_or us x 0) x) (later_one x) (get_or ks x 0) (get_or ws x 0) ++ (ring_toks c o x t ++ flat c o (rows_from (suc x)) (suc x) s)) (next-is x t)

    -- the bytes
    pub bytes-from : (d x : ℕ) (t : List Slot) → x + d ≡ n → 0 < x → rest_bytes g (flat c o (rows_from x) x t) ≡ bytes_from head_at f n k x d t
    unfolding bytes_from rest_bytes
    bytes-from zero x t e h = ap (λ (l : List WalkRow). rest_bytes g (flat c o l x t)) (rows_end x (omega arith))
    bytes-from (suc d) x t e h =
        let L = lead (position_of (get_or us x 0) x) (later_one x) (get_or ks x 0) (get_or ws x 0) in
        let R = ring_toks c o x t in
        let T = flat c o (rows_from (suc x)) (suc x) (next_slots f n k x t) in
        ap (rest_bytes g) (flat_step x t (omega arith)) ∙ rest-append g L (R ++ T) ∙ ap (λ (l : List ℕ). rest_bytes g L ++ l) (rest-append g R T)
        ∙ (λ i. lead-rest g x (get_or us x 0) (get_or ks x 0) (get_or ws x 0) (later_one x) h i ++ (ring-rest x t i ++ bytes-from d (suc x) (next_slots f n k x t) (omega arith) (omega arith) i))
        ∙ sym (append_assoc (head_at x) (close_bytes (closes_from f n k x 0) t ++ open_bytes (opens_from f n k x 0) (close_all (closes_from f n k x 0) t)) (bytes_from head_at f n k (suc x) d (next_slots f n k x t)))

    -- the first atom is a root, and no dot stands before it
    text-first : (d : ℕ) (t : List Slot) → suc d ≡ n → get_or us 0 0 ≡ 0 → tokens_bytes g (flat c o (rows_from 0) 0 t) ≡ bytes_from head_at f n k 0 (suc d) t
    unfolding bytes_from tokens_bytes lead_bytes
    text-first d t e z =
        let R = ring_toks c o 0 t in
        let T = flat c o (rows_from 1) 1 (next_slots f n k 0 t) in
        let w = get_or ws 0 0 in
        let H : head_at 0 ≡ g w = ap (λ (u : ℕ). lead_bytes 0 u (later_one 0) (get_or ks 0 0) ++ g w) z in
        ap (tokens_bytes g) (flat_step 0 t (omega arith) ∙ ap (λ (u : ℕ). lead (position_of u 0) (later_one 0) (get_or ks 0 0) w ++ (R ++ T)) z)
        ∙ ap (λ (l : List ℕ). g w ++ l) (rest-append g R T ∙ (λ i. ring-rest 0 t i ++ bytes-from d 1 (next_slots f n k 0 t) (omega arith) (omega arith) i))
        ∙ sym (append_assoc (g w) (close_bytes (closes_from f n k 0 0) t ++ open_bytes (opens_from f n k 0 0) (close_all (closes_from f n k 0 0) t)) (bytes_from head_at f n k 1 d (next_slots f n k 0 t)))
        ∙ ap (λ (h : List ℕ). (h ++ (close_bytes (closes_from f n k 0 0) t ++ open_bytes (opens_from f n k 0 0) (close_all (closes_from f n k 0 0) t))) ++ bytes_from head_at f n k 1 d (next_slots f n k 0 t)) (sym H)

    text-none : (t : List Slot) → 0 ≡ n → tokens_bytes g (flat c o (rows_from 0) 0 t) ≡ bytes_from head_at f n k 0 0 t
    unfolding bytes_from tokens_bytes
    text-none t e = ap (λ (l : List WalkRow). tokens_bytes g (flat c o l 0 t)) (rows_end 0 (omega arith))

    pub text-bytes : (d : ℕ) (t : List Slot) → d ≡ n → (0 < n → get_or us 0 0 ≡ 0) → tokens_bytes g (flat c o (rows_from 0) 0 t) ≡ bytes_from head_at f n k 0 d t
    text-bytes zero t e z = text-none t e
    text-bytes (suc d) t e z = text-first d t e (z (omega arith))

    pub few-from : (d x : ℕ) (t : List Slot) → x + d ≡ n → Pending (up_to f 0 k) x t → length t ≤ slot_count → few_bridges (flat c o (rows_from x) x t) ≡ few_from slot_count f n k x d t
    unfolding few_from few_bridges
    few-from zero x t e v l = ap (λ (r : List WalkRow). few_bridges (flat c o r x t)) (rows_end x (omega arith))
    few-from (suc d) x t e v l =
        let L = lead (position_of (get_or us x 0) x) (later_one x) (get_or ks x 0) (get_or ws x 0) in
        let C = closes_from f n k x 0 in
        let O = opens_from f n k x 0 in
        let T = flat c o (rows_from (suc x)) (suc x) (next_slots f n k x t) in
        let low : few_bridges (close_toks C t) ≡ true = few-low (close_toks C t) (close-low slot_count C t (open-there br x t v) l) in
        ap few_bridges (flat_step x t (omega arith)) ∙ few-append L (ring_toks c o x t ++ T)
        ∙ (λ i. few-lead (position_of (get_or us x 0) x) (later_one x) (get_or ks x 0) (get_or ws x 0) i && few-append (ring_toks c o x t) T i)
        ∙ ap (λ (r : List Tok). few_bridges r && few_bridges T) (λ i. close_toks (closes-are br x i) t ++ open_toks (opens-are br x i) (close_all (closes-are br x i) t))
        ∙ ap (λ (b : Bool). b && few_bridges T) (few-append (close_toks C t) (open_toks O (close_all C t)) ∙ (λ i. low i && few-open O (close_all C t) i))
        ∙ go (fits slot_count O (close_all C t)) refl (few-from d (suc x) (next_slots f n k x t) (omega arith) (pending_next br x t v))
      where
        go : (b : Bool) → fits slot_count (opens_from f n k x 0) (close_all (closes_from f n k x 0) t) ≡ b
            → (length (next_slots f n k x t) ≤ slot_count → few_bridges (flat c o (rows_from (suc x)) (suc x) (next_slots f n k x t)) ≡ few_from slot_count f n k (suc x) d (next_slots f n k x t))
            → (b && few_bridges (flat c o (rows_from (suc x)) (suc x) (next_slots f n k x t))) ≡ (b && few_from slot_count f n k (suc x) d (next_slots f n k x t))
        go true q r = r (fits-long (opens_from f n k x 0) (close_all (closes_from f n k x 0) t) (rw (close-length (closes_from f n k x 0) t) l) q)
        go false q r = refl
