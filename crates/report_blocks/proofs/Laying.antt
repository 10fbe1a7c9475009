-- The report of a whole input: line after line, and how it fits the output. Assumes nothing.
use Prim.Native.Nat.{ℕ, ◌+◌, ◌-◌, ◌≤◌, ◌<◌}
use mathlib.Core.Path.{◌≡◌, refl, sym, ap, ◌∙◌}
use mathlib.Core.Bool.{Bool, true, false}
use mathlib.Core.List.{List, [], ◌∷◌, ◌++◌}
use native.Mathlib.Omega.{arith}
use lib.ListN.{length, take, drop, replicate, drop_of_length-le}
use lib.Dec.{ltb}
use borrow.Author.Tests.{le-leb, lt-leb, lt-ltb, ltb-false}
use Rattle.loops.specs.Loop.{pick}
use Rattle.buffer.specs.Buffer.{most_count, capped, BufferAt, buffer_at, Wrote}
use Rattle.buffer.proofs.Laws.{also, as_is, Laid, laid}
use Rattle.writing.specs.Write.{filled}
use Rattle.report_lines.specs.Lines.{lines_after}
use Rattle.report_lines.specs.Cut.{Ends}
use Rattle.report_lines.specs.Format.{header, totals_line}
use Rattle.report_entry.specs.Entry.{line_of, accepted_of}
use Rattle.report_entry.specs.Laid.{Reports}
use Rattle.report_entry.specs.declared.Reported.{Reported}
use Rattle.report_blocks.specs.declared.Tally.{Tally}
use Rattle.std.proofs.Common.{Ok, Err}
use Rattle.refusal.specs.declared.Refusal.TheVariants.{Short}
use Rattle.report_blocks.specs.Report.{start, counted, report_from, report_of}
use Rattle.report_blocks.specs.Reply.{printed, reply_of}

-- between two lines: with what remains, all that follows the header is laid
pub record Between (input : List ℕ) (p : BufferAt) (t : Tally) (from : ℕ) (q : BufferAt) : Type 0 where
  pub text : (z : BufferAt) → Wrote (report_from t (lines_after [] (drop from input))) q z → Wrote (report_from start (lines_after [] input)) p z

pub between_start : (input : List ℕ) (p : BufferAt) → Between input p start 0 p
between_start input p = record { text = λ z w. w }

-- the report of a line, and of those after it
line_first : (t : Tally) (l : List ℕ) (rest input : List ℕ) (from : ℕ) → lines_after [] (drop from input) ≡ l ∷ lines_after [] rest → report_from t (lines_after [] (drop from input)) ≡ line_of t.number l ++ report_from (counted (accepted_of l) t) (lines_after [] rest)
unfolding report_from
line_first t l rest input from e = ap (report_from t) e

no_lines : (t : Tally) → report_from t (lines_after [] []) ≡ totals_line t.accepted t.refused
unfolding report_from lines_after
no_lines t = refl

module _ {input : List ℕ} {p : BufferAt} {t : Tally} {from at : ℕ} {out : List ℕ} (b : Between input p t from (buffer_at out at)) where
  pub between-line : {e : ℕ} {r : Reported} {u : Tally} {after : List ℕ} → Ends input from e → Reports t.number (take (e - from) (drop from input)) r (buffer_at out at) after → u ≡ counted r.accepted t → Between input p u (e + 1) (buffer_at after r.at)
  between-line {e} {r} {u} {after} d w c =
      record {
        text =
            λ z v. b.text z (as_is
            (line_first t (take (e - from) (drop from input)) (drop (e + 1) input) input from d.line
            ∙ ap (λ x. line_of t.number (take (e - from) (drop from input)) ++ report_from (counted x t) (lines_after [] (drop (e + 1) input))) (sym w.flag)
            ∙ ap (λ x. line_of t.number (take (e - from) (drop from input)) ++ report_from x (lines_after [] (drop (e + 1) input))) (sym c))
            (also w.text v));
      }

  -- the input is taken to its end
  pub between-over : {z : BufferAt} → length input ≤ from → Wrote (totals_line t.accepted t.refused) (buffer_at out at) z → Wrote (report_from start (lines_after [] input)) p z
  between-over {z} l w = b.text z (as_is (ap (λ d. report_from t (lines_after [] d)) (drop_of_length-le input l) ∙ no_lines t) w)

-- the header before it
pub whole-laid : (input : List ℕ) {p q z : BufferAt} → Wrote header p q → Wrote (report_from start (lines_after [] input)) q z → Wrote (report_of input) p z
unfolding report_of
whole-laid input w v = also w v

-- ---- the output

capped-within : (n m : ℕ) → m < most_count → capped n ≤ m → n ≤ m
capped-within n m h g = go (ltb n most_count) refl
  where
    go : (t : Bool) → ltb n most_count ≡ t → n ≤ m
    go true e = omega (arith, ap (λ t. pick t n most_count) e, g)
    go false e = absurd (omega (arith, ap (λ t. pick t n most_count) e, g, h))

capped-above : (n m : ℕ) → m < capped n → m < n
capped-above n m g = go (ltb n most_count) refl
  where
    go : (t : Bool) → ltb n most_count ≡ t → m < n
    go true e = omega (arith, ap (λ t. pick t n most_count) e, g)
    go false e = omega (arith, ap (λ t. pick t n most_count) e, g, ltb-false n most_count e)

capped_same : (n m : ℕ) → n ≤ m → m < most_count → capped n ≡ n
capped_same n m h g = ap (λ t. pick t n most_count) (lt-ltb n most_count (omega (arith, h, g)))

module _ (input out : List ℕ) (size : ℕ) (e : size ≡ capped (length (report_of input))) where
  -- the report does not fit
  pub reply-short : length out < size → printed (Err Short) out ≡ reply_of input out
  unfolding reply_of
  reply-short h =
      sym (ap (λ t. pick t (record { code = 0; size = length (report_of input); output = filled (report_of input) (length out) }) (printed (Err Short) out))
      (lt-leb (length (report_of input)) (length out) (capped-above (length (report_of input)) (length out) (omega (arith, e, h)))))

  -- it fits, is laid, and zeros follow
  pub reply-fits : {after last : List ℕ} {r : ℕ} → length out < most_count → size ≤ length out → Wrote (report_of input) (buffer_at out 0) (buffer_at after r) → last ≡ take size after ++ replicate (length after - size) 0 → printed (Ok size) last ≡ reply_of input out
  unfolding reply_of
  reply-fits {after} {last} {r} m h w c =
      let n : ℕ = length (report_of input) in
      let fits : n ≤ length out = capped-within n (length out) m (omega (arith, e, h)) in
      let d : Laid (report_of input) out 0 after r = laid w (omega (arith, fits)) in
      let whole : size ≡ n = e ∙ capped_same n (length out) fits m in
      let place : r ≡ size = omega (arith, d.place, whole) in
      let front : take size after ≡ report_of input = ap (λ k. take k after) (sym place) ∙ d.front in
      let bytes : last ≡ filled (report_of input) (length out) =
      c ∙ ap (λ x. x ++ replicate (length after - size) 0) front ∙ ap (λ k. report_of input ++ replicate (k - size) 0) d.size ∙ ap (λ k. report_of input ++ replicate (length out - k) 0) whole in
      (λ i. record { code = 0; size = whole i; output = bytes i })
      ∙ sym (ap (λ t. pick t (record { code = 0; size = n; output = filled (report_of input) (length out) }) (record { code = 1; size = 0; output = out })) (le-leb n (length out) fits))
