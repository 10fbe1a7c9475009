-- The turns of `report_block`: what is laid so far and what remains are what remained. Assumes nothing.
use Prim.Native.Nat.{ℕ, ◌+◌, ◌≤◌, ◌<◌}
use mathlib.Core.Path.{◌≡◌, refl, sym, ap, ◌∙◌}
use mathlib.Core.List.{List, [], ◌++◌, append_assoc}
use mathlib.Core.Bool.{true, false}
use mathlib.Core.Logic.{◌⊎◌, inl, inr, ⊎_elim}
use native.Mathlib.Omega.{arith}
use lib.ListN.{length, take, drop, drop_of_length-le}
use Rattle.buffer.specs.Buffer.{buffer_at}
use Rattle.buffer.proofs.Laws.{Laid, laid}
use Rattle.report_lines.specs.declared.input.Line.{Line}
use Rattle.report_lines.specs.declared.input.Filled.{Filled}
use Rattle.report_lines.specs.Lines.{lines_after}
use Rattle.report_lines.specs.Cut.{gathered, Bounded, Fills}
use Rattle.report_lines.proofs.Cut.{at-close, line-ended, line-reached, block-reached, block-ended}
use Rattle.report_entry.specs.Entry.{line_of, accepted_of}
use Rattle.report_entry.specs.Laid.{line_room, Reports}
use Rattle.report_entry.specs.declared.Reported.{Reported}
use Rattle.report_entry.proofs.Laws.{line-within}
use Rattle.report_blocks.specs.declared.Tally.{Tally}
use Rattle.report_blocks.specs.declared.Progress.{Progress}
use Rattle.report_blocks.specs.Report.{counted, report_from}
use Rattle.report_blocks.specs.Blocks.{remaining, Advances}
use Rattle.report_blocks.proofs.Lines.{next-line, no_line, gathered-short}

abbrev pub progress : Line → Tally → Progress
progress l t = record { line = l; tally = t }

-- from g at a place of a block: `used` bytes are laid, and what remains starts at `at`
pub record Going (g : Progress) (s : List ℕ) (from : ℕ) (out : List ℕ) (l : Line) (t : Tally) (at used : ℕ) : Type 0 where
  pub text : (more : List ℕ) → remaining g (drop from s ++ more) ≡ take used out ++ remaining (progress l t) (drop at s ++ more)
  pub within : used ≤ length out
  pub bounded : Bounded l
  pub forth : from ≤ at
  pub first : (used ≡ 0) ⊎ (from < at)

pub going_start : (g : Progress) (s : List ℕ) (from : ℕ) (out : List ℕ) → Bounded g.line → Going g s from out g.line g.tally from 0
going_start g s from out b =
    record { text = λ more. refl; within = omega arith; bounded = b; forth = omega arith; first = inl refl }

module _ {g : Progress} {s : List ℕ} {from : ℕ} {out : List ℕ} {l : Line} {t : Tally} {at used : ℕ} (w : Going g s from out l t at used) where
  -- a line ended, and its report is laid
  pub going-line : {f : Filled} {r : Reported} {u : Tally} {after : List ℕ} → Fills l s at f → f.done ≡ true → used + line_room ≤ length out → Reports t.number (gathered f.line) r (buffer_at out used) after → u ≡ counted r.accepted t → Going g s from after (record { bytes = f.line.bytes; len = 0 }) u f.at r.at
  going-line {f} {r} {u} {after} v e h q n =
      let d : Laid (line_of t.number (gathered f.line)) out used after r.at = laid q.text (omega (arith, line-within t.number (gathered f.line))) in
      let reached : (at < f.at) × (f.at ≤ length s) = line-reached l s at f v e in
      record {
        text =
            λ more. w.text more
            ∙ ap (λ x. take used out ++ x) (next-line t (gathered l) (gathered f.line) (drop at s) (drop f.at s) more (gathered-short l w.bounded) (line-ended l s at f v e))
            ∙ sym (append_assoc (take used out) (line_of t.number (gathered f.line)) (report_from (counted (accepted_of (gathered f.line)) t) (lines_after [] (drop f.at s ++ more))))
            ∙ ap (λ x. x ++ report_from (counted (accepted_of (gathered f.line)) t) (lines_after [] (drop f.at s ++ more))) (sym d.front)
            ∙ ap (λ b. take r.at after ++ report_from (counted b t) (lines_after [] (drop f.at s ++ more))) (sym q.flag)
            ∙ ap (λ c. take r.at after ++ report_from c (lines_after [] (drop f.at s ++ more))) (sym n);
        within = omega (arith, d.place, d.size, line-within t.number (gathered f.line));
        bounded = record { short = omega arith; whole = v.bounded.whole };
        forth = omega (arith, w.forth, reached.0);
        first = inr (omega (arith, w.forth, reached.0));
      }

  -- no line ended in what is left of the block
  pub going-over : {f : Filled} → Fills l s at f → f.done ≡ false → Advances g s from (record { at = f.at; used = used; progress = progress f.line t }) out
  going-over {f} v e =
      record {
        text =
            λ more. w.text more
            ∙ ap (λ x. take used out ++ x)
            (no_line t (gathered l) (gathered f.line) (drop at s) more (gathered-short l w.bounded) (gathered-short f.line v.bounded) (block-ended l s at f v e ∙ at-close (gathered f.line) s f.at (block-reached l s at f v e))
            ∙ ap (λ d. report_from t (lines_after (gathered f.line) (d ++ more))) (sym (drop_of_length-le s (block-reached l s at f v e))));
        forth = λ room h. omega (arith, h, block-reached l s at f v e);
        within = w.within;
        bounded = v.bounded;
      }

  -- no room for another line
  pub going-full : length out < used + line_room → Advances g s from (record { at = at; used = used; progress = progress l t }) out
  going-full h =
      record {
        text = w.text;
        forth = λ room n. ⊎_elim (λ e. absurd (omega (arith, h, room, e))) (λ e. e) w.first;
        within = w.within;
        bounded = w.bounded;
      }
