-- Tokens of other payloads are the tokens of the atoms' numbers, payload by payload. Assumes nothing.
use mathlib.Core.Path.{◌≡◌, refl, sym, ap, ◌∙◌}
use mathlib.Core.List.{List, [], ◌∷◌, ◌++◌, map}
use Prim.Native.Nat.{ℕ, suc, ◌+◌}
use Rattle.writing_walk.specs.Token.{Bond, Tok, apart, along, ring, branch, back}
use Rattle.writing_walk.specs.Emit.{Forest, leaf, node, size, Slot, lowest, insert, find, release, close_all, close_toks, open_toks, wrap, rings, ring_toks, after, toks, text}
use Rattle.writing_walk.specs.Walk.{forest_of, relabel, closing_bonds, opening_bonds, unused, write}
use Rattle.writing_walk.proofs.Trip.{size-relabel}

abbrev pub on_tok : (ℕ → ℕ) → Tok → Tok
on_tok f (apart w) = apart (f w)
on_tok f (along k w) = along k (f w)
on_tok f (ring k m) = ring k m
on_tok f branch = branch
on_tok f back = back

module _ (f : ℕ → ℕ) where
  abbrev each : List Tok → List Tok
  each l = map (on_tok f) l

  each_append : (a b : List Tok) → each (a ++ b) ≡ each a ++ each b
  each_append [] b = refl
  each_append (x ∷ a) b = ap (λ (l : List Tok). on_tok f x ∷ l) (each_append a b)

  each-closes : (c : List Bond) (t : List Slot) → each (close_toks c t) ≡ close_toks c t
  each-closes [] t = refl
  each-closes (b ∷ c) t = ap (λ (l : List Tok). ring 0 (find b t) ∷ l) (each-closes c (release b t))

  each_opens : (o : List Bond) (t : List Slot) → each (open_toks o t) ≡ open_toks o t
  each_opens [] t = refl
  each_opens (b ∷ o) t = ap (λ (l : List Tok). ring b.kind (lowest t) ∷ l) (each_opens o (insert b t))

  each-wrap : (g : Forest) (x : List Tok) → each (wrap g x) ≡ wrap (relabel f g) (each x)
  each-wrap leaf x = refl
  each-wrap (node w k h g) x = ap (λ (l : List Tok). branch ∷ l) (each_append x (back ∷ []))

  module _ (c o : ℕ → List Bond) where
    each-rings : (n : ℕ) (t : List Slot) → each (ring_toks c o n t) ≡ ring_toks c o n t
    each-rings n t = each_append (close_toks (c n) t) (open_toks (o n) (close_all (c n) t)) ∙ (λ i. each-closes (c n) t i ++ each_opens (o n) (close_all (c n) t) i)

    after-relabel : (F : Forest) (n : ℕ) (t : List Slot) → after c o (relabel f F) n t ≡ after c o F n t
    after-relabel leaf n t = refl
    after-relabel (node w k h g) n t =
        (λ i. after c o (relabel f g) (suc n + size-relabel f h i) (after-relabel h (suc n) (rings c o n t) i)) ∙ after-relabel g (suc n + size h) (after c o h (suc n) (rings c o n t))

    each-toks : (F : Forest) (n : ℕ) (t : List Slot) → each (toks c o F n t) ≡ toks c o (relabel f F) n t
    each-toks leaf n t = refl
    each-toks (node w k h g) n t =
        let u = rings c o n t in
        let body = along k w ∷ (ring_toks c o n t ++ toks c o h (suc n) u) in
        let e : each body ≡ along k (f w) ∷ (ring_toks c o n t ++ toks c o (relabel f h) (suc n) u) =
        ap (λ (l : List Tok). along k (f w) ∷ l) (each_append (ring_toks c o n t) (toks c o h (suc n) u) ∙ (λ i. each-rings n t i ++ each-toks h (suc n) u i)) in
        each_append (wrap g body) (toks c o g (suc n + size h) (after c o h (suc n) u))
        ∙ (λ i. (each-wrap g body ∙ ap (wrap (relabel f g)) e) i ++ each-toks g (suc n + size h) (after c o h (suc n) u) i)
        ∙ (λ i. wrap (relabel f g) (along k (f w) ∷ (ring_toks c o n t ++ toks c o (relabel f h) (suc n) u)) ++ toks c o (relabel f g) (suc n + sym (size-relabel f h) i) (sym (after-relabel h (suc n) u) i))

    each-text : (F : Forest) (n : ℕ) (t : List Slot) → each (text c o F n t) ≡ text c o (relabel f F) n t
    each-text leaf n t = refl
    each-text (node w k h g) n t =
        let u = rings c o n t in
        let body = ring_toks c o n t ++ toks c o h (suc n) u in
        let e : each body ≡ ring_toks c o n t ++ toks c o (relabel f h) (suc n) u = each_append (ring_toks c o n t) (toks c o h (suc n) u) ∙ (λ i. each-rings n t i ++ each-toks h (suc n) u i) in
        ap (λ (l : List Tok). apart (f w) ∷ l)
        (each_append body (text c o g (suc n + size h) (after c o h (suc n) u))
        ∙ (λ i. e i ++ each-text g (suc n + size h) (after c o h (suc n) u) i)
        ∙ (λ i. (ring_toks c o n t ++ toks c o (relabel f h) (suc n) u) ++ text c o (relabel f g) (suc n + sym (size-relabel f h) i) (sym (after-relabel h (suc n) u) i)))

relabel-same : (F : Forest) → relabel (λ v. v) F ≡ F
relabel-same leaf = refl
relabel-same (node w k f g) = λ i. node w k (relabel-same f i) (relabel-same g i)

-- THE STATEMENT
pub write-natural : (n : ℕ) (pay : ℕ → ℕ) (bs : List Bond) → write n pay bs ≡ map (on_tok pay) (write n (λ v. v) bs)
unfolding write
write-natural n pay bs =
    sym (ap (λ (F : Forest). map (on_tok pay) (text (closing_bonds n (unused n bs)) (opening_bonds n (unused n bs)) F 0 [])) (relabel-same (forest_of n bs))
    ∙ each-text pay (closing_bonds n (unused n bs)) (opening_bonds n (unused n bs)) (forest_of n bs) 0 [])
