-- The register is a plain list of entries: each call, and every list of calls. Assumes nothing.
use Prim.Native.Nat.{ℕ, zero, suc, ◌+◌, ◌≤◌, ◌<◌}
use native.Mathlib.Omega.{arith}
use mathlib.Core.Path.{◌≡◌, refl, sym, ap, ◌∙◌}
use mathlib.Core.Bool.{Bool, true, false}
use mathlib.Core.Logic.{◌⊎◌, inl, inr, ⊎_elim}
use mathlib.Core.List.{List, [], ◌∷◌, ◌++◌}
use lib.ListN.{length, get_or, set, take, length-take, length-drop, length-set}
use lib.Seq.{get_or-set_same, get_or-set_other}
use borrow.Author.Tests.{lt-ltb, le-ltb}
use Rattle.loops.specs.Loop.{each, up_to}
use Rattle.loops.proofs.Loops.{length-up_to, up_to-at}
use Rattle.std.specs.Prelude.{Ok, Err, None}
use Rattle.register.specs.declared.RegisterError.TheVariants.{Invalid, Full}
use Rattle.register.specs.Layout.{size, first_body, count, start_of, length_of, tag_of, end_before, valid, used, invalid, listed, Entry, body_of, entry_of, entries_of, listed_of}
use Rattle.register.specs.Adding.{fits, steps, added_after, new_entry}
use Rattle.register.specs.Answers.{code_of, out, emptied, emptied_of, added_of, found_at, found_out, found_of, body_at}
use Rattle.register.specs.Calls.{Call, emptying, adding, cutting, reading, TagsFit, entry, cut_after, leaves_all, tells_all, bytes_of, room_for, add_to, add_told, entry_from, read_from, Plain, done, made, lost, got}
use Rattle.register.specs.Calls as calls
use Rattle.register.proofs.Rules.{Valid, valid-is, listed-valid, up_to-more, take-up_to}
use Rattle.register.proofs.Stores.{lt-or-le, after-length}
use Rattle.register.proofs.PowerCut.{fits-is, cut-before, cut-after}
use Rattle.register.proofs.Paths.{is-invalid, picks-yes, picks-no, adding-short, adding-invalid, adding-full, adding-done, Way, way-short, way-invalid, way-full, way-done, way}

-- the bytes of a list
pub bytes-more : (es : List Entry) (x : Entry) → bytes_of (es ++ (x ∷ [])) ≡ bytes_of es + length x.body
unfolding bytes_of
bytes-more [] x = omega arith
bytes-more (y ∷ es) x = omega (arith, bytes-more es x)

module _ (r : List ℕ) (full : size ≤ length r) (w : Valid r) where
  body-length : (j : ℕ) → j < count r → length (body_of r j) ≡ length_of r j
  body-length j h = simp (length-take, length-drop) (omega (arith, (w.entries j h).inside))

  -- the bodies before entry n are the bytes of the entries before it
  ends-are : (n : ℕ) → n ≤ count r → end_before r n ≡ first_body + bytes_of (up_to (entry_of r) 0 n)
  unfolding end_before bytes_of up_to
  ends-are zero h = refl
  ends-are (suc n) h =
      let b : bytes_of (up_to (entry_of r) 0 (suc n)) ≡ bytes_of (up_to (entry_of r) 0 n) + length (body_of r n) = ap bytes_of (up_to-more (entry_of r) n) ∙ bytes-more (up_to (entry_of r) 0 n) (entry_of r n) in
      omega (arith, b, ends-are n (omega arith), body-length n (omega arith), (w.entries n (omega arith)).start)

  -- there is room in the register when there is room for the list
  room-same : (m : ℕ) → room_for (entries_of r) m ≡ fits r m
  unfolding room_for fits entries_of
  room-same m = rw (length-up_to, sym (ends-are (count r) (omega arith)))

  -- a body starts after those before it
  start_is : (p : ℕ) → p < count r → start_of r p ≡ first_body + bytes_of (take p (entries_of r))
  unfolding entries_of
  start_is p h =
      (w.entries p h).start ∙ ends-are p (omega arith)
      ∙ ap (λ es. first_body + bytes_of es) (sym (take-up_to (entry_of r) p (count r) (omega arith)))

listed-invalid : (r : List ℕ) → valid r ≡ false → listed_of r ≡ invalid
unfolding listed_of
listed-invalid r e = rw e

-- what a cut leaves, by the ways of adding
module _ (r : List ℕ) (t : ℕ) (b : List ℕ) (k : ℕ) where
  pub cut_short : length r < size → cut_after r t b k ≡ r
  unfolding cut_after
  cut_short h = sym (ap (λ o. o.register) (adding-short r (length b) (added_after r t b k) h))

  pub cut-invalid : size ≤ length r → valid r ≡ false → cut_after r t b k ≡ r
  unfolding cut_after
  cut-invalid h e = sym (ap (λ o. o.register) (adding-invalid r (length b) (added_after r t b k) h e))

  pub cut-full : size ≤ length r → valid r ≡ true → fits r (length b) ≡ false → cut_after r t b k ≡ r
  unfolding cut_after
  cut-full h e f = sym (ap (λ o. o.register) (adding-full r (length b) (added_after r t b k) h e f))

  pub cut-done : size ≤ length r → valid r ≡ true → fits r (length b) ≡ true → cut_after r t b k ≡ added_after r t b k
  unfolding cut_after
  cut-done h e f = sym (ap (λ o. o.register) (adding-done r (length b) (added_after r t b k) h e f))

  cut-length-by : Way r (length b) → length (cut_after r t b k) ≡ length r
  cut-length-by (way-short h) = ap length (cut_short h)
  cut-length-by (way-invalid h e) = ap length (cut-invalid h e)
  cut-length-by (way-full h e f) = ap length (cut-full h e f)
  cut-length-by (way-done h e f) = ap length (cut-done h e f) ∙ after-length (count r) (used r) t b r k

  pub cut-length : length (cut_after r t b k) ≡ length r
  cut-length = cut-length-by (way r (length b))

-- an add is all its steps
pub add_is : (r : List ℕ) (t : ℕ) (b : List ℕ) → (added_of r t b).register ≡ cut_after r t b (steps (length b))
unfolding added_of cut_after
add_is r t b = refl

module _ (r : List ℕ) (full : size ≤ length r) (t : ℕ) (b : List ℕ) where
  list_full : valid r ≡ true → fits r (length b) ≡ false → listed (entries_of r) ≡ add_to t b (listed (entries_of r))
  list_full e f = let x : room_for (entries_of r) (length b) ≡ false = room-same r full (valid-is r e) (length b) ∙ f in rw x

  list-room : valid r ≡ true → fits r (length b) ≡ true → listed (entries_of r ++ (new_entry t b ∷ [])) ≡ add_to t b (listed (entries_of r))
  list-room e f = let x : room_for (entries_of r) (length b) ≡ true = room-same r full (valid-is r e) (length b) ∙ f in rw x

  module _ (two : t < 65536) where
    made-is : (k : ℕ) → steps (length b) ≤ k → valid r ≡ true → fits r (length b) ≡ true → listed_of (cut_after r t b k) ≡ add_to t b (listed_of r)
    made-is k h e f =
        ap listed_of (cut-done r t b k full e f)
        ∙ cut-after r t b full (valid-is r e) (fits-is r (length b) f) two k h
        ∙ list-room e f ∙ ap (add_to t b) (sym (listed-valid r e))

    cut-is-by : (k : ℕ) → Way r (length b) → (listed_of (cut_after r t b k) ≡ listed_of r) ⊎ (listed_of (cut_after r t b k) ≡ add_to t b (listed_of r))
    cut-is-by k (way-short h) = absurd (omega (arith, h))
    cut-is-by k (way-invalid h e) = inl (ap listed_of (cut-invalid r t b k full e))
    cut-is-by k (way-full h e f) = inl (ap listed_of (cut-full r t b k full e f))
    cut-is-by k (way-done h e f) =
        ⊎_elim (λ l. inl (ap listed_of (cut-done r t b k full e f) ∙ cut-before r t b full (valid-is r e) (fits-is r (length b) f) k l)) (λ l. inr (made-is k l e f))
        (lt-or-le k (steps (length b)))

    -- AN ADD THAT WAS CUT counts as made or as not made, on any register of full length
    pub cut-is : (k : ℕ) → (listed_of (cut_after r t b k) ≡ listed_of r) ⊎ (listed_of (cut_after r t b k) ≡ add_to t b (listed_of r))
    cut-is k = cut-is-by k (way r (length b))

    added-by : Way r (length b) → listed_of (added_of r t b).register ≡ add_to t b (listed_of r)
    added-by (way-short h) = absurd (omega (arith, h))
    added-by (way-invalid h e) = ap listed_of (add_is r t b ∙ cut-invalid r t b (steps (length b)) full e) ∙ listed-invalid r e ∙ ap (add_to t b) (sym (listed-invalid r e))
    added-by (way-full h e f) =
        ap listed_of (add_is r t b ∙ cut-full r t b (steps (length b)) full e f)
        ∙ listed-valid r e ∙ list_full e f ∙ ap (add_to t b) (sym (listed-valid r e))
    added-by (way-done h e f) = ap listed_of (add_is r t b) ∙ made-is (steps (length b)) (omega arith) e f

    -- adding, on the list
    pub added_is : listed_of (added_of r t b).register ≡ add_to t b (listed_of r)
    added_is = added-by (way r (length b))

  told-by : Way r (length b) → (added_of r t b).code ≡ code_of (add_told (listed_of r) (length b))
  unfolding added_of
  told-by (way-short h) = absurd (omega (arith, h))
  told-by (way-invalid h e) =
      sym (ap (λ o. o.code) (adding-invalid r (length b) (added_after r t b (steps (length b))) full e))
      ∙ ap (λ s. code_of (add_told s (length b))) (sym (listed-invalid r e))
  told-by (way-full h e f) =
      let x : room_for (entries_of r) (length b) ≡ false = room-same r full (valid-is r e) (length b) ∙ f in
      let y : code_of (Err Full) ≡ code_of (add_told (listed (entries_of r)) (length b)) = rw x in
      sym (ap (λ o. o.code) (adding-full r (length b) (added_after r t b (steps (length b))) full e f))
      ∙ y ∙ ap (λ s. code_of (add_told s (length b))) (sym (listed-valid r e))
  told-by (way-done h e f) =
      let x : room_for (entries_of r) (length b) ≡ true = room-same r full (valid-is r e) (length b) ∙ f in
      let y : code_of (Ok tt) ≡ code_of (add_told (listed (entries_of r)) (length b)) = rw x in
      sym (ap (λ o. o.code) (adding-done r (length b) (added_after r t b (steps (length b))) full e f))
      ∙ y ∙ ap (λ s. code_of (add_told s (length b))) (sym (listed-valid r e))

  -- the answer of adding, on the list
  pub told_is : (added_of r t b).code ≡ code_of (add_told (listed_of r) (length b))
  told_is = told-by (way r (length b))

module _ (r : List ℕ) (full : size ≤ length r) where
  empty-first : get_or (emptied r) 0 0 ≡ 1
  empty-first = get_or-set_same (set r 1 0) 0 1 0 (simp length-set (omega arith))

  empty-count : count (emptied r) ≡ 0
  empty-count = get_or-set_other (set r 1 0) 0 1 1 0 (λ e. omega arith) ∙ get_or-set_same r 1 0 0 (omega arith)

  empty-out : out (Ok tt) (emptied r) ≡ emptied_of r
  unfolding emptied_of
  empty-out = rw (le-ltb (length r) size full)

  emptied-is : listed_of (emptied r) ≡ listed []
  unfolding listed_of valid entries_of each up_to
  emptied-is = rw (empty-first, empty-count)

  -- emptying: no entries, whatever stood there
  pub empty-is : listed_of (emptied_of r).register ≡ listed []
  empty-is = ap (λ o. listed_of o.register) (sym empty-out) ∙ emptied-is

  pub empty-told : (emptied_of r).code ≡ code_of (Ok tt)
  empty-told = ap (λ o. o.code) (sym empty-out)

  pub empty-length : length (emptied_of r).register ≡ length r
  empty-length = ap (λ o. length o.register) (sym empty-out) ∙ simp length-set

  -- reading, on the list
  module _ (p : ℕ) where
    read-invalid : valid r ≡ false → entry (found_of r p) (body_at r p) ≡ read_from (listed_of r) p
    unfolding found_of body_at
    read-invalid e =
        let x : found_out (Err Invalid) ≡ found_of r p = is-invalid r _ _ _ full e in
        let y : [] ≡ body_at r p = is-invalid r _ _ _ full e in
        rw (sym x, sym y, listed-invalid r e)

    module _ (e : valid r ≡ true) where
      entries-length : length (entries_of r) ≡ count r
      unfolding entries_of
      entries-length = length-up_to (entry_of r) 0 (count r)

      entries_at : p < count r → get_or (entries_of r) p (new_entry 0 []) ≡ entry_of r p
      unfolding entries_of
      entries_at h = up_to-at (entry_of r) (count r) p (new_entry 0 []) h

      read-missing : count r ≤ p → entry (found_of r p) (body_at r p) ≡ read_from (listed_of r) p
      unfolding found_of body_at
      read-missing h =
          let x : found_out (Ok None) ≡ found_of r p = picks-no r _ _ _ _ _ full e (le-ltb p (count r) h) in
          let y : [] ≡ body_at r p = picks-no r _ _ _ _ _ full e (le-ltb p (count r) h) in
          rw (sym x, sym y, listed-valid r e, entries-length, le-ltb p (count r) h)

      from_list : p < count r → entry_from (entries_of r) p (entry_of r p) ≡ entry (found_at (tag_of r p) (start_of r p) (length_of r p)) (body_of r p)
      from_list h = rw (body-length r full (valid-is r e) p h, sym (start_is r full (valid-is r e) p h))

      read_found : p < count r → entry (found_of r p) (body_at r p) ≡ read_from (listed_of r) p
      unfolding found_of body_at
      read_found h =
          let x : found_at (tag_of r p) (start_of r p) (length_of r p) ≡ found_of r p = picks-yes r _ _ _ _ _ full e (lt-ltb p (count r) h) in
          let y : body_of r p ≡ body_at r p = picks-yes r _ _ _ _ _ full e (lt-ltb p (count r) h) in
          let z : entry_from (entries_of r) p (entry_of r p) ≡ read_from (listed (entries_of r)) p = rw (entries-length, lt-ltb p (count r) h, entries_at h) in
          ap (λ f. entry f (body_at r p)) (sym x)
          ∙ ap (λ b. entry (found_at (tag_of r p) (start_of r p) (length_of r p)) b) (sym y)
          ∙ sym (from_list h) ∙ z ∙ ap (λ s. read_from s p) (sym (listed-valid r e))

    read_by : (a : Bool) → valid r ≡ a → entry (found_of r p) (body_at r p) ≡ read_from (listed_of r) p
    read_by false e = read-invalid e
    read_by true e = ⊎_elim (λ h. read_found e h) (λ h. read-missing e h) (lt-or-le p (count r))

    pub read_is : entry (found_of r p) (body_at r p) ≡ read_from (listed_of r) p
    read_is = read_by _ refl

-- THE LIST OF CALLS: whatever calls are made on any register of full length, cuts among them, they tell and leave what a plain list of entries gives
pub plain-list : (cs : List Call) (r : List ℕ) → size ≤ length r → TagsFit cs → Plain (listed_of r) cs (tells_all cs r) (listed_of (leaves_all cs r))
unfolding tells_all leaves_all
plain-list [] r full h = done
plain-list (emptying ∷ cs) r full h =
    calls.emptied (empty-is r full) (empty-told r full) (plain-list cs (emptied_of r).register (omega (arith, empty-length r full)) h)
plain-list (adding t b ∷ cs) r full h =
    calls.added (added_is r full t b h.0) (told_is r full t b)
    (plain-list cs (added_of r t b).register (omega (arith, ap length (add_is r t b), cut-length r t b (steps (length b)))) h.1)
plain-list (cutting t b k ∷ cs) r full h =
    let p = plain-list cs (cut_after r t b k) (omega (arith, cut-length r t b k)) h.1 in
    ⊎_elim (λ e. lost e p) (λ e. made e p) (cut-is r full t b h.0 k)
plain-list (reading p ∷ cs) r full h = got (read_is r full p) (plain-list cs r full h)
