-- The totals equal the lines, and the lines are numbered from 1. Assumes nothing.
use Prim.Native.Nat.{ℕ, suc, ◌+◌, ◌≤◌, ◌<◌}
use mathlib.Core.Path.{◌≡◌, refl, sym, ap, ◌∙◌}
use mathlib.Core.List.{List, [], ◌∷◌, ◌++◌, append_assoc}
use mathlib.Core.Bool.{Bool, true, false}
use native.Mathlib.Omega.{arith}
use lib.ListN.{length}
use Rattle.loops.specs.Loop.{pick}
use Rattle.buffer.specs.Buffer.{most_count, following}
use Rattle.buffer.proofs.Laws.{follows}
use Rattle.report_lines.specs.Lines.{lines_after}
use Rattle.report_lines.specs.Format.{header, totals_line}
use Rattle.report_entry.specs.Entry.{line_of, accepted_of}
use Rattle.report_blocks.specs.declared.Tally.{Tally}
use Rattle.report_blocks.specs.Report.{counted, report_from, report_of}
use Rattle.report_blocks.specs.Totals.{accepted_in, refused_in, numbered}

abbrev tally : ℕ → ℕ → ℕ → Tally
tally k a r = record { number = k; accepted = a; refused = r }

-- the report from counts that leave room for every line
unfoldable Counts : ℕ → ℕ → ℕ → List (List ℕ) → Type 0
Counts k a r ls = report_from (tally k a r) ls ≡ numbered k ls ++ totals_line (a + accepted_in ls) (r + refused_in ls)

counts-cons : (k a r : ℕ) (l : List ℕ) (ls : List (List ℕ)) (b : Bool) → accepted_of l ≡ b → k < most_count → a < most_count → r < most_count → Counts (suc k) (suc a) r ls → Counts (suc k) a (suc r) ls → Counts k a r (l ∷ ls)
unfolding Counts report_from numbered accepted_in refused_in
counts-cons k a r l ls true e hk ha hr f g =
    let i : suc a + accepted_in ls ≡ a + suc (accepted_in ls) = omega arith in
    ap (λ b. line_of k l ++ report_from (counted b (tally k a r)) ls) e
    ∙ ap (λ n. line_of k l ++ report_from (tally n (following a) r) ls) (follows k hk)
    ∙ ap (λ n. line_of k l ++ report_from (tally (suc k) n r) ls) (follows a ha)
    ∙ ap (λ x. line_of k l ++ x) f
    ∙ sym (append_assoc (line_of k l) (numbered (suc k) ls) (totals_line (suc a + accepted_in ls) (r + refused_in ls)))
    ∙ ap (λ n. (line_of k l ++ numbered (suc k) ls) ++ totals_line n (r + refused_in ls)) i
    ∙ sym (ap (λ b. (line_of k l ++ numbered (suc k) ls) ++ totals_line (a + pick b (suc (accepted_in ls)) (accepted_in ls)) (r + pick b (refused_in ls) (suc (refused_in ls)))) e)
counts-cons k a r l ls false e hk ha hr f g =
    let i : suc r + refused_in ls ≡ r + suc (refused_in ls) = omega arith in
    ap (λ b. line_of k l ++ report_from (counted b (tally k a r)) ls) e
    ∙ ap (λ n. line_of k l ++ report_from (tally n a (following r)) ls) (follows k hk)
    ∙ ap (λ n. line_of k l ++ report_from (tally (suc k) a n) ls) (follows r hr)
    ∙ ap (λ x. line_of k l ++ x) g
    ∙ sym (append_assoc (line_of k l) (numbered (suc k) ls) (totals_line (a + accepted_in ls) (suc r + refused_in ls)))
    ∙ ap (λ n. (line_of k l ++ numbered (suc k) ls) ++ totals_line (a + accepted_in ls) n) i
    ∙ sym (ap (λ b. (line_of k l ++ numbered (suc k) ls) ++ totals_line (a + pick b (suc (accepted_in ls)) (accepted_in ls)) (r + pick b (refused_in ls) (suc (refused_in ls)))) e)

counts-law : (k a r : ℕ) (ls : List (List ℕ)) → k + length ls ≤ most_count → a + length ls ≤ most_count → r + length ls ≤ most_count → Counts k a r ls
unfolding Counts report_from numbered accepted_in refused_in
counts-law k a r [] hk ha hr =
    let i : a ≡ a + 0 = omega arith in
    let j : r ≡ r + 0 = omega arith in
    ap (λ n. totals_line n r) i ∙ ap (λ n. totals_line (a + 0) n) j
counts-law k a r (l ∷ ls) hk ha hr =
    counts-cons k a r l ls (accepted_of l) refl (omega arith) (omega arith) (omega arith)
    (counts-law (suc k) (suc a) r ls (omega arith) (omega arith) (omega arith))
    (counts-law (suc k) a (suc r) ls (omega arith) (omega arith) (omega arith))

-- THE LAW: the lines are numbered from 1, and the totals are the numbers of accepted and refused lines
pub totals-equal : (input : List ℕ) → length (lines_after [] input) < most_count → report_of input ≡ header ++ (numbered 1 (lines_after [] input) ++ totals_line (accepted_in (lines_after [] input)) (refused_in (lines_after [] input)))
unfolding report_of Counts
totals-equal input h =
    let all : List (List ℕ) = lines_after [] input in
    let a : 0 + accepted_in all ≡ accepted_in all = omega arith in
    let r : 0 + refused_in all ≡ refused_in all = omega arith in
    ap (λ x. header ++ x) (counts-law 1 0 0 all (omega arith) (omega arith) (omega arith))
    ∙ ap (λ n. header ++ (numbered 1 all ++ totals_line n (0 + refused_in all))) a
    ∙ ap (λ n. header ++ (numbered 1 all ++ totals_line (accepted_in all) n)) r

in-cons : (n a r : ℕ) (b : Bool) → a + r ≡ n → pick b (suc a) a + pick b r (suc r) ≡ suc n
in-cons n a r true e = omega arith
in-cons n a r false e = omega arith

-- each line is counted once
pub lines-counted : (ls : List (List ℕ)) → accepted_in ls + refused_in ls ≡ length ls
unfolding accepted_in refused_in
lines-counted [] = refl
lines-counted (l ∷ ls) = in-cons (length ls) (accepted_in ls) (refused_in ls) (accepted_of l) (lines-counted ls)
