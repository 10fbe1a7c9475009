-- How the report goes on at the end of a line, of a block and of the input. Assumes nothing.
use Prim.Native.Nat.{ℕ, ◌+◌, ◌≤◌}
use mathlib.Core.Path.{◌≡◌, refl, sym, ap, ◌∙◌}
use mathlib.Core.List.{List, [], ◌∷◌, ◌++◌}
use mathlib.Core.Bool.{Bool, true, false}
use native.Mathlib.Omega.{arith}
use lib.ListN.{length, take, length-append}
use lib.Seq.{take_all, length-take-le}
use Rattle.buffer.specs.Buffer.{following, BufferAt, buffer_at, Wrote}
use Rattle.buffer.proofs.Laws.{also, as_is}
use Rattle.report_lines.specs.declared.input.Line.{Line}
use Rattle.report_lines.specs.Lines.{lines_after}
use Rattle.report_lines.specs.Cut.{max_line, no_lines, line_then, cut_of, cut_then, clipped, gathered, Bounded}
use Rattle.report_lines.proofs.Cut.{all_of, cut-append, cut-clipped}
use Rattle.report_lines.specs.Format.{header, totals_line}
use Rattle.report_lines.proofs.Format.{totals-within}
use Rattle.report_entry.specs.Entry.{line_of, accepted_of}
use Rattle.report_entry.specs.Laid.{line_room, Reports}
use Rattle.report_entry.specs.declared.Reported.{Reported}
use Rattle.report_entry.proofs.Laws.{line-clipped, accepted-clipped, line-within}
use Rattle.report_blocks.specs.declared.Tally.{Tally}
use Rattle.report_blocks.specs.Report.{start, counted, report_from, report_of}

-- a report sees no more of a line than is gathered
report-clipped : (t : Tally) (ls : List (List ℕ)) → report_from t (clipped ls) ≡ report_from t ls
unfolding report_from clipped
report-clipped t [] = refl
report-clipped t (l ∷ ls) =
    ap (λ x. x ++ report_from (counted (accepted_of (take max_line l)) t) (clipped ls)) (line-clipped t.number l)
    ∙ ap (λ b. line_of t.number l ++ report_from (counted b t) (clipped ls)) (accepted-clipped l)
    ∙ ap (λ x. line_of t.number l ++ x) (report-clipped (counted (accepted_of l) t) ls)

report-cut : (t : Tally) (p s : List ℕ) → length p ≤ max_line → report_from t (lines_after p s) ≡ report_from t (all_of (cut_of p s))
report-cut t p s h =
    sym (report-clipped t (lines_after p s)) ∙ ap (report_from t) (cut-clipped p s) ∙ ap (λ q. report_from t (all_of (cut_of q s))) (take_all max_line p h)

-- a line ended: its report, and the report of what follows it
pub next-line : (t : Tally) (p q d e more : List ℕ) → length p ≤ max_line → cut_of p d ≡ line_then q (cut_of [] e) → report_from t (lines_after p (d ++ more)) ≡ line_of t.number q ++ report_from (counted (accepted_of q) t) (lines_after [] (e ++ more))
unfolding report_from
next-line t p q d e more h w =
    report-cut t p (d ++ more) h
    ∙ ap (λ c. report_from t (all_of c)) (cut-append p d more)
    ∙ ap (λ c. report_from t (all_of (cut_then c (cut_of c.rest more)))) w
    ∙ ap (λ c. line_of t.number q ++ report_from (counted (accepted_of q) t) (all_of c)) (sym (cut-append [] e more))
    ∙ ap (λ x. line_of t.number q ++ x) (sym (report-cut (counted (accepted_of q) t) [] (e ++ more) (omega arith)))

-- the block ended inside a line: the report of what follows it
pub no_line : (t : Tally) (p q d more : List ℕ) → length p ≤ max_line → length q ≤ max_line → cut_of p d ≡ no_lines q → report_from t (lines_after p (d ++ more)) ≡ report_from t (lines_after q more)
no_line t p q d more h g w =
    report-cut t p (d ++ more) h
    ∙ ap (λ c. report_from t (all_of c)) (cut-append p d more)
    ∙ ap (λ c. report_from t (all_of (cut_then c (cut_of c.rest more)))) w
    ∙ sym (report-cut t q more g)

-- what is gathered fits a line
pub gathered-length : (l : Line) → Bounded l → length (gathered l) ≡ l.len
gathered-length l b = length-take-le l.len l.bytes (omega (arith, b.short, b.whole))

pub gathered-short : (l : Line) → Bounded l → length (gathered l) ≤ max_line
gathered-short l b = omega (arith, gathered-length l b, b.short)

-- before the first byte
pub from_nothing : (p input : List ℕ) → p ≡ [] → report_of input ≡ header ++ report_from start (lines_after p input)
unfolding report_of
from_nothing p input e = ap (λ q. header ++ report_from start (lines_after q input)) (sym e)

-- after the last byte: the totals, or the unfinished line and the totals
pub no_last : (t : Tally) (p : List ℕ) → length p ≡ 0 → report_from t (lines_after p []) ≡ totals_line t.accepted t.refused
unfolding report_from lines_after
no_last t [] e = refl
no_last t (b ∷ p) e = absurd (omega arith)

pub a-last : (t : Tally) (p : List ℕ) → (length p ≡ 0 → ⊥) → report_from t (lines_after p []) ≡ line_of t.number p ++ totals_line (counted (accepted_of p) t).accepted (counted (accepted_of p) t).refused
unfolding report_from lines_after
a-last t [] e = absurd (e refl)
a-last t (b ∷ p) e = refl

-- the unfinished line and the totals are laid
pub last-told : (l : Line) (t : Tally) {u : Tally} {r : Reported} {p q : BufferAt} {after : List ℕ} → Bounded l → (l.len ≡ 0 → ⊥) → Reports t.number (gathered l) r p after → u ≡ counted r.accepted t → Wrote (totals_line u.accepted u.refused) (buffer_at after r.at) q → Wrote (report_from t (lines_after (gathered l) [])) p q
last-told l t b h w e v =
    as_is
    (a-last t (gathered l) (λ n. h (sym (gathered-length l b) ∙ n))
    ∙ ap (λ c. line_of t.number (gathered l) ++ totals_line (counted c t).accepted (counted c t).refused) (sym w.flag)
    ∙ ap (λ c. line_of t.number (gathered l) ++ totals_line c.accepted c.refused) (sym e))
    (also w.text v)

-- the counts after a line
pub counted-accepted : (t : Tally) (b : Bool) (k a : ℕ) → b ≡ true → k ≡ following t.number → a ≡ following t.accepted → record { number = k; accepted = a; refused = t.refused } ≡ counted b t
counted-accepted t b k a e f g = (λ i. record { number = f i; accepted = g i; refused = t.refused }) ∙ ap (λ c. counted c t) (sym e)

pub counted-refused : (t : Tally) (b : Bool) (k a : ℕ) → b ≡ false → k ≡ following t.number → a ≡ following t.refused → record { number = k; accepted = t.accepted; refused = a } ≡ counted b t
counted-refused t b k a e f g = (λ i. record { number = f i; accepted = t.accepted; refused = g i }) ∙ ap (λ c. counted c t) (sym e)

-- room that is enough for them
pub last_within : (t : Tally) (p : List ℕ) → length (report_from t (lines_after p [])) ≤ line_room + 60
unfolding report_from lines_after
last_within t [] = omega (arith, totals-within t.accepted t.refused)
last_within t (b ∷ p) =
    simp length-append
    (omega (arith, line-within t.number (b ∷ p), totals-within (counted (accepted_of (b ∷ p)) t).accepted (counted (accepted_of (b ∷ p)) t).refused))
