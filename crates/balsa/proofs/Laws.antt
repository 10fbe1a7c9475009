-- An answer's code beside the buffers that the answer leaves. Assumes nothing.
use Prim.Native.Nat.{ℕ}
use mathlib.Core.Path.{◌≡◌, ap, ◌∙◌}
use mathlib.Core.List.{List}
use lib.IntN.{ℤ}
use Rattle.kekule.specs.Kekule.{CallReply, call_reply, KekulizeReply, kekulize_reply}
use Rattle.kekule.specs.Calls.{Replayed, replay_out}
use Rattle.conformation.specs.Sides.{SidesReply, sides_reply}
use Rattle.kekule_forced.specs.Forced.{ForcedCallReply, forced_call_reply}
use Rattle.std.proofs.Common.{Result, Ok, Err}
use Rattle.refusal.specs.declared.Refusal.{Refusal}
use Rattle.reader.specs.declared.answer.Counts.{Counts}
use Rattle.reader.specs.declared.answer.TextRefusal.{TextRefusal}
use Rattle.reader.specs.Ending.{told}
use Rattle.reading.specs.Read.{ReadResult}
use Rattle.reading_pieces.specs.Calls.{Fed}
use Rattle.reader_pieces.specs.declared.Fed as reader
use Rattle.reader_pieces.specs.Answer.{fed_is}
use Rattle.writer.specs.Told.{told as writer-told}
use Rattle.writing.specs.Write as write
use Rattle.standard.specs.Standard.{StandardOut, told as standard-told}
use Rattle.standard.specs.declared.Written.{Written}
use Rattle.same_model.specs.Same.{SameReply, same_reply}
use Rattle.same.specs.Answer.{sameness_code, same_out}
use Rattle.same.specs.declared.Sameness.{Sameness}
use Rattle.balsa.specs.declared.ReadReply.{ReadReply}
use Rattle.balsa.specs.declared.WriteReply.{WriteReply}
use Rattle.balsa.specs.declared.pieces_call.FedReply.{FedReply}
use Rattle.balsa.specs.declared.standard_call.StandardReply.{StandardReply}
use Rattle.balsa.specs.Replies.{read_reply_of, read_out, write_reply_of, write_out}
use Rattle.balsa.specs.Pieces.{fed_reply_of, fed_out}
use Rattle.balsa.specs.Standard.{standard_reply_of, standard_out}

pub read-law : (a : Result Counts TextRefusal) {r : ReadReply} {atoms bonds : List ℤ} {t : ReadResult} → r ≡ read_reply_of a → told a atoms bonds ≡ t → read_out r atoms bonds ≡ t
read-law (Ok x) {atoms = atoms} {bonds} e g = ap (λ (x : ReadReply). read_out x atoms bonds) e ∙ g
read-law (Err x) {atoms = atoms} {bonds} e g = ap (λ (x : ReadReply). read_out x atoms bonds) e ∙ g

pub write-law : (w : Result ℕ Refusal) {r : WriteReply} {out ren : List ℕ} {t : write.WriteResult} → r ≡ write_reply_of w → writer-told w out ren ≡ t → write_out r out ren ≡ t
write-law (Ok k) {out = out} {ren} e g = ap (λ (x : WriteReply). write_out x out ren) e ∙ g
write-law (Err c) {out = out} {ren} e g = ap (λ (x : WriteReply). write_out x out ren) e ∙ g

pub row-law : {c d : ℕ} {row : List ℕ} {o : CallReply} → c ≡ d → call_reply d row ≡ o → call_reply c row ≡ o
row-law {row = row} e g = ap (λ (k : ℕ). call_reply k row) e ∙ g

pub sides-law : {c d : ℕ} {row : List ℕ} {o : SidesReply} → c ≡ d → sides_reply d row ≡ o → sides_reply c row ≡ o
sides-law {row = row} e g = ap (λ (k : ℕ). sides_reply k row) e ∙ g

pub tables-law : {c d : ℕ} {atoms bonds : List ℤ} {t : KekulizeReply} → c ≡ d → kekulize_reply d atoms bonds ≡ t → kekulize_reply c atoms bonds ≡ t
tables-law {atoms = atoms} {bonds} e g = ap (λ (k : ℕ). kekulize_reply k atoms bonds) e ∙ g

pub replay-law : {c d : ℕ} {row codes : List ℕ} {r : Replayed} → c ≡ d → replay_out d row codes ≡ r → replay_out c row codes ≡ r
replay-law {row = row} {codes} e g = ap (λ (k : ℕ). replay_out k row codes) e ∙ g

pub forced-law : {c d k : ℕ} {row pairs : List ℕ} {o : ForcedCallReply} → c ≡ d → forced_call_reply d row k pairs ≡ o → forced_call_reply c row k pairs ≡ o
forced-law {k = k} {row} {pairs} e g = ap (λ (x : ℕ). forced_call_reply x row k pairs) e ∙ g

pub same-law : (a : Sameness) {c : ℕ} {row1 row2 ren : List ℕ} {o : SameReply} → c ≡ sameness_code a → same_out a row1 row2 ren ≡ o → same_reply c row1 row2 ren ≡ o
same-law a {row1 = row1} {row2} {ren} e g = ap (λ (k : ℕ). same_reply k row1 row2 ren) e ∙ g

pub fed-law : (f : reader.Fed) {r : FedReply} {atoms bonds : List ℤ} {t : Fed} → r ≡ fed_reply_of f → fed_is f atoms bonds ≡ t → fed_out r atoms bonds ≡ t
fed-law f {atoms = atoms} {bonds} e g = ap (λ (x : FedReply). fed_out x atoms bonds) e ∙ g

pub standard-law : (x : Result Written TextRefusal) {r : StandardReply} {out : List ℕ} {t : StandardOut} → r ≡ standard_reply_of x → standard-told x out ≡ t → standard_out r out ≡ t
standard-law (Ok w) {out = out} e g = ap (λ (y : StandardReply). standard_out y out) e ∙ g
standard-law (Err e') {out = out} e g = ap (λ (y : StandardReply). standard_out y out) e ∙ g
