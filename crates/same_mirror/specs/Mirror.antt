-- auxiliary: lists that send the atoms of a matrix to like atoms: where an atom cannot go to one of two that are alike, it cannot go to the other
use Rattle.std.specs.Prelude.{ℕ, ◌*◌, ◌+◌, ◌-◌, ◌<◌, ◌≤◌, ◌≡◌, List, get_or}
use Rattle.same_model.specs.Same.{max_same, image}
use Rattle.same_open.specs.Open.{classes, bit, Among}

-- each atom goes to its own
pub record Onto (n : ℕ) (l : List ℕ) : Type 0 where
  pub below : (e : ℕ) → e < n → image l e < n
  pub one : (d e : ℕ) → d < n → e < n → image l d ≡ image l e → d ≡ e

-- what is allowed beside an atom is allowed beside the one it goes to
abbrev pub SameFaces : List ℕ → ℕ → List ℕ → Type 0
SameFaces allowed n l = (c d e : ℕ) → c < classes → d < n → e < n → bit (get_or allowed (max_same * c + d) 0) e ≡ bit (get_or allowed (max_same * c + image l d) 0) (image l e)

-- as many masks as classes have atoms
abbrev pub allowed_masks : ℕ
allowed_masks = max_same * classes

-- the bits of a mask go to those of another
abbrev pub Carries : ℕ → List ℕ → ℕ → ℕ → Type 0
Carries n l x y = (e : ℕ) → e < n → bit x e ≡ bit y (image l e)

-- two masks are those of the class before
pub record Repeated (allowed : List ℕ) (i j : ℕ) : Type 0 where
  pub later : (max_same ≤ i) × (max_same ≤ j)
  pub first : get_or allowed i 0 ≡ get_or allowed (i - max_same) 0
  pub second : get_or allowed j 0 ≡ get_or allowed (j - max_same) 0

-- the bits of a mask go to those of another, where those of the class before do
abbrev pub FacedAfter : List ℕ → ℕ → List ℕ → ℕ → ℕ → Type 0
FacedAfter allowed n l i j = (max_same ≤ i → max_same ≤ j → Carries n l (get_or allowed (i - max_same) 0) (get_or allowed (j - max_same) 0)) → Carries n l (get_or allowed i 0) (get_or allowed j 0)

-- the candidates of each atom go to its candidates
abbrev pub SameCandidates : List ℕ → ℕ → List ℕ → Type 0
SameCandidates cand n l = (a e : ℕ) → a < n → e < n → bit (get_or cand a 0) e ≡ bit (get_or cand a 0) (image l e)

pub record Like (allowed cand : List ℕ) (n : ℕ) (l : List ℕ) : Type 0 where
  pub onto : Onto n l
  pub faces : SameFaces allowed n l
  pub candidates : SameCandidates cand n l

-- the atom v cannot go to x
abbrev pub Gone : List ℕ → List ℕ → List ℕ → ℕ → ℕ → ℕ → Type 0
Gone p allowed cand n v x = (t : List ℕ) → Among p allowed cand n t → image t v ≡ x → ⊥

-- nor to any that is marked
abbrev pub AllGone : List ℕ → List ℕ → List ℕ → ℕ → ℕ → List ℕ → Type 0
AllGone p allowed cand n v dead = (x : ℕ) → x < n → get_or dead x 0 ≡ 1 → Gone p allowed cand n v x

-- where those that are marked are gone, so are those that are marked after, if the list sends atoms to like atoms
pub record Spreads (n : ℕ) (l dead dead' : List ℕ) : Type 0 where
  pub spread : (p allowed cand : List ℕ) (v : ℕ) → v < n → Like allowed cand n l → AllGone p allowed cand n v dead → AllGone p allowed cand n v dead'
