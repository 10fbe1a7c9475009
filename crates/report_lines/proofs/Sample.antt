-- 01's sample report with 02's P10, line by line, by computation. Assumes nothing.
use mathlib.Core.Path.{◌≡◌, refl}
use mathlib.Core.List.{[], ◌∷◌}
use Rattle.report_lines.specs.Format.{dec_by, dec_of, accepted_line, refused_line, totals_line}

-- `1: 0 6 6 0 101010 C1=CC=CC=C1`, `2: 7 2`, `3: 0 0 0 0 - -`, `accepted 2 refused 1`
pub sample : (accepted_line 1 6 6 0 (1 ∷ 0 ∷ 1 ∷ 0 ∷ 1 ∷ 0 ∷ []) (67 ∷ 49 ∷ 61 ∷ 67 ∷ 67 ∷ 61 ∷ 67 ∷ 67 ∷ 61 ∷ 67 ∷ 49 ∷ []) ≡ 49 ∷ 58 ∷ 32 ∷ 48 ∷ 32 ∷ 54 ∷ 32 ∷ 54 ∷ 32 ∷ 48 ∷ 32 ∷ 49 ∷ 48 ∷ 49 ∷ 48 ∷ 49 ∷ 48 ∷ 32 ∷ 67 ∷ 49 ∷ 61 ∷ 67 ∷ 67 ∷ 61 ∷ 67 ∷ 67 ∷ 61 ∷ 67 ∷ 49 ∷ 10 ∷ []) × (refused_line 2 7 2 ≡ 50 ∷ 58 ∷ 32 ∷ 55 ∷ 32 ∷ 50 ∷ 10 ∷ []) × (accepted_line 3 0 0 0 [] [] ≡ 51 ∷ 58 ∷ 32 ∷ 48 ∷ 32 ∷ 48 ∷ 32 ∷ 48 ∷ 32 ∷ 48 ∷ 32 ∷ 45 ∷ 32 ∷ 45 ∷ 10 ∷ []) × (totals_line 2 1 ≡ 97 ∷ 99 ∷ 99 ∷ 101 ∷ 112 ∷ 116 ∷ 101 ∷ 100 ∷ 32 ∷ 50 ∷ 32 ∷ 114 ∷ 101 ∷ 102 ∷ 117 ∷ 115 ∷ 101 ∷ 100 ∷ 32 ∷ 49 ∷ 10 ∷ [])
unfolding dec_by dec_of accepted_line refused_line totals_line
sample = (refl, refl, refl, refl)
