-- What is written is in the grammar of tokens. Assumes nothing.
use mathlib.Core.Path.{◌≡◌, refl, ap, ◌∙◌}
use mathlib.Core.Bool.{true, false}
use mathlib.Core.List.{List, [], ◌∷◌, ◌++◌, append_assoc}
use Prim.Native.Nat.{ℕ, zero, suc, ◌+◌}
use Rattle.writing_walk.specs.Token.{Bond, Tok, along, back}
use Rattle.writing_walk.specs.Emit.{Forest, leaf, node, size, Slot, close_all, close_toks, open_toks, insert, release, wrap, rings, ring_toks, after, toks, text}
use Rattle.writing_walk.specs.Walk.{forest_of, relabel, closing_bonds, opening_bonds, unused, write}
use Rattle.writing_walk.specs.Check.{grammar, accepted_tokens}

close-grammar : (c : List Bond) (t : List Slot) (d : ℕ) (r : List Tok) → grammar (close_toks c t ++ r) d false ≡ grammar r d false
close-grammar [] t d r = refl
close-grammar (b ∷ c) t d r = close-grammar c (release b t) d r

open-grammar : (o : List Bond) (t : List Slot) (d : ℕ) (r : List Tok) → grammar (open_toks o t ++ r) d false ≡ grammar r d false
open-grammar [] t d r = refl
open-grammar (b ∷ o) t d r = open-grammar o (insert b t) d r

module _ (c o : ℕ → List Bond) where
  ring-grammar : (n : ℕ) (t : List Slot) (d : ℕ) (r : List Tok) → grammar (ring_toks c o n t ++ r) d false ≡ grammar r d false
  ring-grammar n t d r =
      ap (λ (l : List Tok). grammar l d false) (append_assoc (close_toks (c n) t) (open_toks (o n) (close_all (c n) t)) r)
      ∙ close-grammar (c n) t d (open_toks (o n) (close_all (c n) t) ++ r) ∙ open-grammar (o n) (close_all (c n) t) d r

  wrap-grammar : (g : Forest) (k w : ℕ) (x : List Tok) (d : ℕ) (r : List Tok) → ((d : ℕ) (r : List Tok) → grammar (x ++ r) d false ≡ grammar r d false)
      → grammar (wrap g (along k w ∷ x) ++ r) d false ≡ grammar r d false
  wrap-grammar leaf k w x zero r h = h zero r
  wrap-grammar leaf k w x (suc d) r h = h (suc d) r
  wrap-grammar (node w' k' f g) k w x d r h = ap (λ (l : List Tok). grammar l (suc d) false) (append_assoc x (back ∷ []) r) ∙ h (suc d) (back ∷ r)

  toks-grammar : (F : Forest) (n : ℕ) (t : List Slot) (d : ℕ) (r : List Tok) → grammar (toks c o F n t ++ r) d false ≡ grammar r d false
  toks-grammar leaf n t d r = refl
  toks-grammar (node w k f g) n t d r =
      let x = ring_toks c o n t ++ toks c o f (suc n) (rings c o n t) in
      let y = toks c o g (suc n + size f) (after c o f (suc n) (rings c o n t)) in
      ap (λ (l : List Tok). grammar l d false) (append_assoc (wrap g (along k w ∷ x)) y r)
      ∙ wrap-grammar g k w x d (y ++ r) (λ d r. ap (λ (l : List Tok). grammar l d false) (append_assoc (ring_toks c o n t) (toks c o f (suc n) (rings c o n t)) r) ∙ ring-grammar n t d (toks c o f (suc n) (rings c o n t) ++ r) ∙ toks-grammar f (suc n) (rings c o n t) d r)
      ∙ toks-grammar g (suc n + size f) (after c o f (suc n) (rings c o n t)) d r

  text-grammar : (F : Forest) (n : ℕ) (t : List Slot) → grammar (text c o F n t) 0 false ≡ true
  text-grammar leaf n t = refl
  text-grammar (node w k f g) n t =
      let y = text c o g (suc n + size f) (after c o f (suc n) (rings c o n t)) in
      ap (λ (l : List Tok). grammar l 0 false) (append_assoc (ring_toks c o n t) (toks c o f (suc n) (rings c o n t)) y)
      ∙ ring-grammar n t 0 (toks c o f (suc n) (rings c o n t) ++ y) ∙ toks-grammar f (suc n) (rings c o n t) 0 y
      ∙ text-grammar g (suc n + size f) (after c o f (suc n) (rings c o n t))

  accepts : (F : Forest) → accepted_tokens (text c o F 0 []) ≡ true
  accepts leaf = refl
  accepts (node w k f g) = text-grammar (node w k f g) 0 []

-- THE STATEMENT
pub written-grammar : (n : ℕ) (pay : ℕ → ℕ) (bs : List Bond) → accepted_tokens (write n pay bs) ≡ true
unfolding write
written-grammar n pay bs = accepts (closing_bonds n (unused n bs)) (opening_bonds n (unused n bs)) (relabel pay (forest_of n bs))
