-- The rows that pass a test of their two parts are each row that passes the first test followed by each that passes the second. Assumes nothing.
use mathlib.Core.Path.{◌≡◌, refl, sym, ap, ◌∙◌}
use mathlib.Core.Bool.{Bool, true, false, ◌&&◌}
use mathlib.Core.List.{List, [], ◌∷◌, ◌++◌, map, append_assoc, append-nil}
use Prim.Native.Nat.{ℕ, zero, suc, ◌+◌, ◌*◌}
use native.Mathlib.Nat.{zero-add, suc-add}
use native.Mathlib.Omega.{arith}
use lib.ListN.{length, length-append, length-map}
use Rattle.matching.specs.Enumeration.{Row, rows, cons_if, passing, matchings}
use Rattle.matching.proofs.Enumeration.{matchings-suc, passing-none, passing-same}
use Rattle.mixture_rows.specs.Rows.{behind, followed}

-- ---- laws of `followed`
followed-append : (ps qs second : List Row) → followed (ps ++ qs) second ≡ followed ps second ++ followed qs second
unfolding followed
followed-append [] qs second = refl
followed-append (r ∷ ps) qs second = ap (λ (l : List Row). behind r second ++ l) (followed-append ps qs second) ∙ sym (append_assoc (behind r second) (followed ps second) (followed qs second))

map-append : (x : ℕ) (ps qs : List Row) → map (λ s. x ∷ s) (ps ++ qs) ≡ map (λ s. x ∷ s) ps ++ map (λ s. x ∷ s) qs
map-append x [] qs = refl
map-append x (r ∷ ps) qs = ap (λ (l : List Row). (x ∷ r) ∷ l) (map-append x ps qs)

behind-cons : (x : ℕ) (r : Row) (second : List Row) → map (λ s. x ∷ s) (behind r second) ≡ behind (x ∷ r) second
behind-cons x r [] = refl
behind-cons x r (s ∷ second) = ap (λ (l : List Row). (x ∷ (r ++ s)) ∷ l) (behind-cons x r second)

followed-cons : (x : ℕ) (ps second : List Row) → map (λ s. x ∷ s) (followed ps second) ≡ followed (map (λ s. x ∷ s) ps) second
unfolding followed
followed-cons x [] second = refl
followed-cons x (r ∷ ps) second =
    map-append x (behind r second) (followed ps second)
    ∙ ap (λ (l : List Row). l ++ map (λ s. x ∷ s) (followed ps second)) (behind-cons x r second)
    ∙ ap (λ (l : List Row). behind (x ∷ r) second ++ l) (followed-cons x ps second)

behind-nil : (second : List Row) → behind [] second ≡ second
behind-nil [] = refl
behind-nil (s ∷ second) = ap (λ (l : List Row). s ∷ l) (behind-nil second)

-- "Their number is the product"
pub followed-length : (ps second : List Row) → length (followed ps second) ≡ length ps * length second
unfolding followed
followed-length [] second = omega arith
followed-length (r ∷ ps) second = omega (arith, length-append (behind r second) (followed ps second), length-map second (λ (s : Row). r ++ s), followed-length ps second)

-- ---- the product
-- no bond in the first part
none_first : (p q : Row → Bool) (x : Bool) (k : ℕ) → ((s : Row) → p s ≡ (x && q s)) → matchings p k ≡ followed (cons_if x [] []) (matchings q k)
unfolding followed
none_first p q true k h = passing-same p q h (rows k) ∙ sym (append-nil (behind [] (matchings q k)) ∙ behind-nil (matchings q k))
none_first p q false k h = passing-same p (λ s. false) h (rows k) ∙ passing-none (rows k)

-- a test of rows over m + k bonds that asks one test of the first m numbers and one of the rest
pub product : (m k : ℕ) (p first second : Row → Bool) → ((r s : Row) → length r ≡ m → p (r ++ s) ≡ (first r && second s)) → matchings p (m + k) ≡ followed (matchings first m) (matchings second k)
unfolding rows passing
product zero k p first second h = ap (matchings p) (zero-add k) ∙ none_first p second (first []) k (λ s. h [] s refl)
product (suc m) k p first second h =
    let one = product m k (λ s. p (1 ∷ s)) (λ r. first (1 ∷ r)) second (λ r s e. h (1 ∷ r) s (ap suc e)) in
    let none = product m k (λ s. p (0 ∷ s)) (λ r. first (0 ∷ r)) second (λ r s e. h (0 ∷ r) s (ap suc e)) in
    ap (matchings p) (suc-add m k)
    ∙ matchings-suc p (m + k)
    ∙ (λ i. map (λ s. 1 ∷ s) (one i) ++ map (λ s. 0 ∷ s) (none i))
    ∙ (λ i. followed-cons 1 (matchings (λ r. first (1 ∷ r)) m) (matchings second k) i ++ followed-cons 0 (matchings (λ r. first (0 ∷ r)) m) (matchings second k) i)
    ∙ sym (followed-append (map (λ s. 1 ∷ s) (matchings (λ r. first (1 ∷ r)) m)) (map (λ s. 0 ∷ s) (matchings (λ r. first (0 ∷ r)) m)) (matchings second k))
    ∙ ap (λ (l : List Row). followed l (matchings second k)) (sym (matchings-suc first m))
