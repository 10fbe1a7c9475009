-- However the input is cut into blocks, a run writes its report. Assumes nothing.
use Prim.Native.Nat.{ℕ}
use mathlib.Core.Path.{◌≡◌, refl, sym, ap, ◌∙◌}
use mathlib.Core.List.{List, [], ◌++◌, append_assoc}
use native.Mathlib.Omega.{arith}
use lib.ListN.{take, drop, drop_of_length-le}
use Rattle.buffer.proofs.Laws.{laid}
use Rattle.report_lines.specs.Format.{header}
use Rattle.report_blocks.specs.declared.Progress.{Progress}
use Rattle.report_blocks.specs.Report.{report_of}
use Rattle.report_blocks.specs.Blocks.{remaining}
use Rattle.report_blocks.specs.Run.{whole, Turns, over, turn, Blocks, none, block, Run, ran}

turns-law : {g h : Progress} {s w : List ℕ} {from : ℕ} → Turns g s from w h → (more : List ℕ) → remaining g (drop from s ++ more) ≡ w ++ remaining h more
turns-law (over {g} {s} l) more = ap (λ d. remaining g (d ++ more)) (drop_of_length-le s l)
turns-law (turn {h = h} {out = out} {w = w} {r = r} t rest) more =
    t.text more ∙ ap (λ x. take r.used out ++ x) (turns-law rest more) ∙ sym (append_assoc (take r.used out) w (remaining h more))

blocks-law : {g h : Progress} {bs : List (List ℕ)} {w : List ℕ} → Blocks g bs w h → remaining g (whole bs) ≡ w ++ remaining h []
unfolding whole
blocks-law none = refl
blocks-law (block {k = k} {w = w} {v = v} {bs = bs} t rest) =
    turns-law t (whole bs) ∙ ap (λ x. w ++ x) (blocks-law rest) ∙ sym (append_assoc w v (remaining k []))

-- THE LAW: what a run writes is the report of the whole input, however it is cut into blocks
pub run-report : {bs : List (List ℕ)} {w : List ℕ} → Run bs w → w ≡ report_of (whole bs)
run-report (ran {bs = bs} {w = w} b t room l) =
    ap (λ x. header ++ (w ++ x)) (laid l (omega (arith, room))).front ∙ sym (b.text (whole bs) ∙ ap (λ x. header ++ x) (blocks-law t))
