-- Reading what `write` wrote: the header word's limits and lengths are the stored lengths, and the floats are the same.
use Rattle.std.specs.Prelude.{Ok, ℕ, zero, suc, ◌+◌, ◌*◌, ◌≤◌, ◌<◌, List, [], ◌∷◌, ◌++◌}
use Rattle.std.specs.Prelude.{Bool, true, false, ◌&&◌, ◌≡◌, refl, leb, ltb, length, take, drop, Float}
use Rattle.std.proofs.Common.{sym, ◌∙◌, subst, arith, length-take-le, get_or-take, take_at, take_all}
use Rattle.std.proofs.Math.Path.{ap}
use Rattle.std.proofs.Math.ListN.{get_or, get_or-eq_default}
use borrow.Author.Tests.{le-leb, ltb-true, ltb-false}
use Rattle.lists.specs.Four.{at, four, each, four_same}
use Rattle.lists.specs.Grow.{over, take-over}
use Rattle.lists.specs.Test.{decide}
use Rattle.model.specs.declared.Header.{Header}
use Rattle.model.specs.Header.{stored, len, count}
use Rattle.model.specs.Refusals.{no_refusal}
use Rattle.model.specs.Word.{header_of, good_word, word_of}
use Rattle.shape_words.specs.Rules.{Good, Regular, ruled-at}
use Rattle.shape_words.specs.Words.{good_word_lem, unpack-pack}
use Rattle.npy_files.specs.Shapes.{all_in_range, product, good_shape, lengths_of, head_of, shape_of}
use Rattle.npy_files.specs.Sizes.{product-count}
use Rattle.npy_files.specs.Reads.{Reading}
use Rattle.npy_files.specs.Writes.{file_out, file_length, write_gate, write_answer, write_file}
use Rattle.npy_reading.specs.Heads.{range_in, shape-regular}
use Rattle.npy_laws.specs.Back.{all_fit, file-long, read_back}

-- a word that `read` answers says the shape, as limits and as lengths
pub word-shape : (s : List ℕ) → good_shape s ≡ true → header_of (word_of (head_of s)) ≡ head_of s
word-shape s g = unpack-pack (head_of s) (shape-regular s g)

module _ (h : Header) (g : Good h) where
  abbrev n : List ℕ
  n = h.lengths

  long : length n ≡ 4
  long = ap length g.regular.ns

  in_list : (k : ℕ) → k < 4 → get_or n k 1 ≡ at n k
  in_list k l = ap (λ (x : List ℕ). get_or x k 1) g.regular.ns ∙ each (λ i. get_or (four (len h)) i 1 ≡ len h i) refl refl refl refl k l

  back_at : (k : ℕ) → k < 4 → get_or (shape_of h) k 1 ≡ len h k
  back_at k l =
      decide (ltb k h.vars)
      (λ t. get_or-take h.vars n k 1 (ltb-true k h.vars t) ∙ in_list k l)
      (λ t.
      let m = ltb-false k h.vars t in
      let r = ruled-at g.regular.rules k l in
      let z = r.gone m in
      get_or-eq_default (shape_of h) 1 (omega
      (arith, m, length-take-le h.vars n (omega (arith, long, g.regular.rules.few))))
      ∙ omega (arith, z, r.pos, r.fit))

  -- the lengths come back
  pub lengths-back : lengths_of (shape_of h) ≡ h.lengths
  lengths-back = four_same (λ k. get_or (shape_of h) k 1) (len h) back_at ∙ sym g.regular.ns

  shape-long : length (shape_of h) ≡ h.vars
  shape-long = length-take-le h.vars n (omega (arith, long, g.regular.rules.few))

  pub shape-product : product (shape_of h) ≡ stored h
  shape-product = product-count (shape_of h) (omega (arith, shape-long, g.regular.rules.few)) ∙ ap count lengths-back

  pub shape-good : good_shape (shape_of h) ≡ true
  unfolding good_shape
  shape-good =
      rw (
        le-leb (length (shape_of h)) 4 (omega (arith, shape-long, g.regular.rules.few)),
        range_in (shape_of h) (λ k l. ranged k (omega (arith, l, shape-long, g.regular.rules.few))),
        le-leb (product (shape_of h)) 4096 (omega (arith, shape-product, g.most)),
      )
    where
      ranged : (k : ℕ) → k < 4 → (1 ≤ get_or (shape_of h) k 1) × (get_or (shape_of h) k 1 ≤ 64)
      ranged k l =
          let r = ruled-at g.regular.rules k l in
          let e = back_at k l in
          (omega (arith, e, r.pos), omega (arith, e, r.fit, r.most))

-- w and a: what was written into `file`; out: the buffer that it is read into
module _ (newer : Bool) (w : ℕ) (a : List Float) (file : List ℕ) (good : good_word w ≡ true)
    (full : stored (header_of w) ≤ length a) (room : file_length w ≤ length file) where
  abbrev s : List ℕ
  s = shape_of (header_of w)

  abbrev xs : List Float
  xs = take (stored (header_of w)) a

  many : length xs ≡ product s
  many = length-take-le (stored (header_of w)) a full ∙ sym (shape-product (header_of w) (good_word_lem w good))

  open-gate : write_gate w (length a) (length file) ≡ no_refusal
  unfolding write_gate
  open-gate = rw (good, le-leb (stored (header_of w)) (length a) full, le-leb (file_length w) (length file) room)

  written_is : take (file_length w) (write_file newer w a file) ≡ file_out newer s xs
  unfolding write_file
  written_is =
      rw open-gate
      (take-over (file_out newer s xs) file (file_length w)
      (file-long s (shape-good (header_of w) (good_word_lem w good)) newer xs many ∙ ap (λ (k : ℕ). 128 + 8 * k) (length-take-le
      (stored (header_of w)) a full)))

  pub written_back : all_fit xs → (out : List Float) → length xs ≤ length out
      → Reading (take (file_length w) (write_file newer w a file)) out (Ok (word_of (head_of s))) (xs ++ drop (length xs) out)
  written_back f out l =
      subst (λ (t : List ℕ). Reading t out (Ok (word_of (head_of s))) (xs ++ drop (length xs) out)) (sym written_is)
      (read_back s (shape-good (header_of w) (good_word_lem w good)) newer xs many f out l)

  -- whose lengths are those that were written
  pub written-lengths : (header_of (word_of (head_of s))).lengths ≡ (header_of w).lengths
  written-lengths =
      ap (λ (h : Header). h.lengths) (word-shape s (shape-good (header_of w) (good_word_lem w good))) ∙ lengths-back (header_of w) (good_word_lem w good)

-- what is written of a word and as many coefficients as it says, into a buffer that is long enough
pub write_done : (newer : Bool) (w : ℕ) (xs : List Float) (file : List ℕ) → good_word w ≡ true → length xs ≡ stored (header_of w) → file_length w ≤ length file
    → (write_answer w xs file ≡ Ok (file_length w)) × (write_file newer w xs file ≡ over (file_out newer (shape_of (header_of w)) xs) file)
unfolding write_answer write_file
write_done newer w xs file good many room =
    let g : write_gate w (length xs) (length file) ≡ no_refusal = open-gate newer w xs file good (omega (arith, many)) room in
    (rw g, rw g (ap (λ (a : List Float). over (file_out newer (shape_of (header_of w)) a) file) (take_all (stored (header_of w)) xs (omega (arith, many)))))
