-- The row i of v, as `subst_var` takes it (document 01, port order 7), is the coefficient of v to the i: every power of
-- v counts, also one past the limit.
use Rattle.std.specs.Prelude.{◌≡◌, List, ℕ, ◌<◌, eqb, length, set, ℤ}
use Rattle.std.proofs.Common.{sym, ◌∙◌, arith}
use Rattle.std.proofs.Math.Bool.{true≢false}
use borrow.Author.Tests.{eqb-true, eqb-false, eq-eqb}
use Rattle.lists.specs.Test.{decide}
use Rattle.lists.specs.Table.{table}
use Rattle.lists.specs.Four.{at, one-changed, at_same, at_other}
use Rattle.model.specs.Header.{count}
use Rattle.model.specs.Places.{index}
use Rattle.model.specs.Limits.{cut_to}
use Rattle.model.specs.Poly.{Block, block, read_at}
use Rattle.model.specs.Substitute.{row_at}
use Rattle.model_textbook.specs.Textbook.{series_of, coefficient_of}
use Rattle.shape_words.specs.Lengths.{Inside, is_inside_lem, inside-four, inside-at}
use Rattle.shape.specs.Cut.{cut_at}
use Rattle.laws_exact.specs.Wholes.{Wholes, Is, whole-at, stored_at, past-at, index_read, wholes-at}
use Rattle.laws_exact.specs.Firsts.{outside}

module _ (l : List ℕ) (v : ℕ) {a : Block} {z : ℕ → ℤ} (h : v < 4) (u : Wholes a z) (i : ℕ) (below : i < at a.lengths v) where
  abbrev lengths : List ℕ
  lengths = set (cut_to l a.lengths) v 1

  here : at lengths v ≡ 1
  unfolding cut_to
  here = at_same (cut_to l a.lengths) v 1 h

  other : (w : ℕ) → w < 4 → (w ≡ v → ⊥) → at lengths w ≡ at (cut_to l a.lengths) w
  other w m o = at_other (cut_to l a.lengths) v w 1 o

  module _ (k : List ℕ) (f : length k ≡ 4) where
    -- what the row stores is stored at i in v, and the other way round under the limits
    row-stored : Inside lengths k → Inside a.lengths (set k v i)
    row-stored j =
        inside-four (one-changed (λ w x. x < at a.lengths w) k v i (rw f h) below
        (λ w m o. omega (arith, inside-at j w m, other w m o, cut_at l a.lengths w m)))

    stored_row : Inside l k → at k v ≡ 0 → Inside a.lengths (set k v i) → Inside lengths k
    stored_row j e s = inside-four (λ w m.
        decide (eqb w v)
        (λ t. let o : w ≡ v = eqb-true w v t in rw (o, here) (omega arith))
        (λ t. let o = eqb-false w v t in rw (other w m o, cut_at l a.lengths w m) (omega (arith, inside-at j w m, inside-at s w m, at_other k v w i o))))

  pub row_is : Is l (row_at l v a i) (coefficient_of v i (series_of a.lengths z))
  unfolding row_at coefficient_of
  row_is = record {
    at = λ k f j.
        whole-at (block lengths (table (count lengths) (λ p. read_at a (set (index lengths p) v i)))) k
        (λ s. rw (
          index_read lengths (λ k. read_at a (set k v i)) k f s,
          eq-eqb (at k v) 0 (omega (arith, inside-at s v h, here)),
        ) (stored_at a (set k v i) (wholes-at u (set k v i)) (row-stored k f s)))
        (λ t. decide (eqb (at k v) 0)
        (λ e. rw e (past-at a (set k v i) (wholes-at u (set k v i))
        (outside a.lengths (set k v i) (λ s.
        true≢false (sym (is_inside_lem (stored_row k f j (eqb-true (at k v) 0 e) s)) ∙ t)))))
        (λ e. rw e));
  }
