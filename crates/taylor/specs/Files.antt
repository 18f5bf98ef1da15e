-- The face: what reading and writing an array file answered is read back, from the word and, of writing, from the
-- length that was written. Reading refuses by 5 and 10, writing by 1, 2 and 5, so that a word that is done stands for
-- nothing else. What stood where the length goes makes no difference.
use Rattle.std.specs.Prelude.{Ok, Err, ℕ, false, cond, List, ◌≡◌, eqb, leb, length, Float}
use Rattle.std.proofs.Common.{ap, ◌∙◌, arith, ne_eqb}
use Rattle.std.proofs.lemmas.Bool.{eqb-false}
use Rattle.lists.specs.Test.{decide}
use Rattle.model.specs.Results.{Answer}
use Rattle.model.specs.declared.Refusal.{Refusal}
use Rattle.model.specs.Header.{no_header}
use Rattle.model.specs.Refusals.{refused_by, no_refusal, is_none, answer_by}
use Rattle.model.specs.Gates.{full}
use Rattle.npy_files.specs.Results.{Written}
use Rattle.npy_files.specs.Shapes.{head_of}
use Rattle.npy_files.specs.Reads as npy
use Rattle.npy_files.specs.Writes.{file_length, write_gate, write_answer}
use Rattle.taylor.specs.Face.{word_of_refusal, word_of_answer, FileRead, word_of_written, length_after}
use Rattle.gates.specs.Small.{at_small}
use Rattle.taylor.specs.Apart.{Few, asked, by_word, none, refusal_from, refusal_from_lem, answer_from, back}

-- ---- reading

module _ {t : List ℕ} {old : List Float} where
  word_read : {new : List Float} {a : Answer} → npy.Reading t old a new → answer_from (word_of_answer a) ≡ a
  unfolding answer_by
  word_read (npy.Reading.other n) = back (refused_by 10) (at_small 10 64 (omega arith) (omega arith)) no_header
  word_read (npy.Reading.sizes v s f) = back (refused_by 5) (at_small 5 64 (omega arith) (omega arith)) no_header
  word_read (npy.Reading.unlike v s f g) = back (refused_by 10) (at_small 10 64 (omega arith) (omega arith)) no_header
  word_read (npy.Reading.done v s f g) = back no_refusal none (head_of v.shape)

  pub file-read-back : {new : List Float} {w : ℕ} (r : FileRead t old w new) → answer_from w ≡ r.answer
  file-read-back r = ap answer_from r.word ∙ word_read r.reading

-- ---- writing

-- what a word and a length stand for
unfoldable pub written_from : ℕ → ℕ → Written
written_from w n = cond (eqb w 0) (Ok n) (Err (refusal_from w))

gate-few : (w m n : ℕ) → Few (write_gate w m n)
unfolding write_gate
gate-few w m n = by_word w (asked (full w m) 2 (omega arith) (asked (leb (file_length w) n) 5 (omega arith) none))

pub written_back : (w : ℕ) (a : List Float) (file : List ℕ) (n : ℕ)
    → written_from (word_of_written (write_answer w a file)) (length_after (write_answer w a file) n) ≡ write_answer w a file
unfolding written_from write_answer
written_back w a file n =
    let r : Refusal = write_gate w (length a) (length file) in
    decide (is_none r)
    (λ t. rw t)
    (λ t.
    let z : eqb (word_of_refusal r) 0 ≡ false = ne_eqb (word_of_refusal r) 0 (λ e. eqb-false r.number 0 t (omega (arith, e))) in
    rw (t, z) (ap Err (refusal_from_lem r (gate-few w (length a) (length file)))))
