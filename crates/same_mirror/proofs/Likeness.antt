-- Where an atom cannot go to one of two that are alike, it cannot go to the other. Assumes nothing.
use mathlib.Core.Path.{◌≡◌, sym, ap, ◌∙◌}
use mathlib.Core.List.{List}
use Prim.Native.Nat.{ℕ, ◌+◌, ◌*◌, ◌<◌}
use lib.ListN.{get_or}
use Rattle.loops.specs.Loop.{up_to}
use Rattle.loops.proofs.Loops.{up_to-at}
use Rattle.same_model.specs.Same.{max_same, image}
use Rattle.same_model.specs.Redrawing.{Renumbering}
use Rattle.same_model.proofs.Onto.{made, inverse, inverse-renumbers, image-back}
use Rattle.same_place.specs.Place.{entry}
use Rattle.same_open.specs.Open.{class_of, bit, Among}
use Rattle.same_open.proofs.Laws.{class_low}
use Rattle.same_mirror.specs.Mirror.{Onto, Like, Gone}

-- the list back
module _ {n : ℕ} {l : List ℕ} (o : Onto n l) where
  abbrev back : List ℕ
  back = inverse n (up_to (image l) 0 n)

  renumbers : Renumbering n (up_to (image l) 0 n)
  renumbers = made n (image l) o.below o.one

  back_low : (d : ℕ) → d < n → image back d < n
  back_low d i = (inverse-renumbers renumbers).below d i

  there : (d : ℕ) → d < n → image l (image back d) ≡ d
  there d i = sym (up_to-at (image l) n (image back d) 0 (back_low d i)) ∙ image-back renumbers d i

module _ {p allowed cand : List ℕ} {n : ℕ} {l : List ℕ} (w : Like allowed cand n l) {t : List ℕ} (m : Among p allowed cand n t) where
  -- first where t goes, then back
  abbrev turned : List ℕ
  turned = up_to (λ (a : ℕ). image (back w.onto) (image t a)) 0 n

  turned-at : (a : ℕ) → a < n → image turned a ≡ image (back w.onto) (image t a)
  turned-at a i = up_to-at (λ (a : ℕ). image (back w.onto) (image t a)) n a 0 i

  turned-low : (a : ℕ) → a < n → image turned a < n
  turned-low a i = rw (turned-at a i) (back_low w.onto (image t a) (m.below a i))

  turned-there : (a : ℕ) → a < n → image l (image turned a) ≡ image t a
  turned-there a i = ap (image l) (turned-at a i) ∙ there w.onto (image t a) (m.below a i)

  turned-faces : (a b : ℕ) → a < n → b < n → (a ≡ b → ⊥) → bit (get_or allowed (max_same * class_of (entry p a b) + image turned a) 0) (image turned b) ≡ 1
  turned-faces a b i j e =
      w.faces (class_of (entry p a b)) (image turned a) (image turned b) (class_low (entry p a b)) (turned-low a i) (turned-low b j)
      ∙ (λ k. bit (get_or allowed (max_same * class_of (entry p a b) + turned-there a i k) 0) (turned-there b j k))
      ∙ m.faces a b i j e

  turned-among : Among p allowed cand n turned
  turned-among =
      record {
        below = turned-low;
        kept = λ a i. w.candidates a (image turned a) i (turned-low a i) ∙ ap (bit (get_or cand a 0)) (turned-there a i) ∙ m.kept a i;
        faces = turned-faces;
      }

pub like-gone : {p allowed cand : List ℕ} {n v d e : ℕ} {l : List ℕ} → Like allowed cand n l → v < n → d < n → image l d ≡ e → Gone p allowed cand n v d → Gone p allowed cand n v e
like-gone {v = v} {d = d} w i j q g t m h = g (turned w m) (turned-among w m) (w.onto.one (image (turned w m) v) d (turned-low w m v i) j (turned-there w m v i ∙ h ∙ sym q))
