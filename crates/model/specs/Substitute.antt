-- REFERENCE 4.14. Document 01, port order 7: `subst_var`, b for the variable v of a. A variable that a lacks: a
-- unchanged. Tested uncut: b zero; b linear in v with c zero.
-- Else Horner from the highest power, every power counted, cut at every step. Every path cuts to the smaller limits.
-- Refusals 1, 2, 5, 6.
use Rattle.std.specs.Prelude.{ℕ, zero, suc, List, false, ◌&&◌, cond, ltb, eqb, length, set, Float}
use Rattle.std.specs.Float.Ieee.{mul, eq}
use Rattle.std.specs.Float.{binary64}
use Rattle.lists.specs.Table.{table}
use Rattle.lists.specs.Walk.{walk}
use Rattle.lists.specs.Four.{at}
use Rattle.model.specs.declared.Refusal.{Refusal}
use Rattle.model.specs.Results.{Answer}
use Rattle.model.specs.declared.Family.TheVariants.{Substitution}
use Rattle.model.specs.Header.{count}
use Rattle.model.specs.Places.{index}
use Rattle.model.specs.Limits.{cut_to}
use Rattle.model.specs.Announced.{announced}
use Rattle.model.specs.Refusals.{zero_f}
use Rattle.model.specs.Gates.{pair_gate, announced_pair}
use Rattle.model.specs.Poly.{Poly, Block, block, block_of, poly_of, held, read_at}
use Rattle.model.specs.Answers.{answered, out_after, scratch_after}
use Rattle.model.specs.Readings.{one_f}
use Rattle.model.specs.Linear.{linear}
use Rattle.model.specs.Add.{joined_block}
use Rattle.model.specs.Product.{is_zero, constant_block, multiplied}

-- l the limits, v the variable, a the polynomial's block, b what is put for v
module _ (l : List ℕ) (v : ℕ) (a : Block) where
  -- the row i of v, with length 1 there, cut to the limits elsewhere
  unfoldable pub row_at : ℕ → Block
  row_at i = let n = set (cut_to l a.lengths) v 1 in block n (table (count n) (λ p. read_at a (set (index n p) v i)))

  -- row k times m to the k, by running products from 1.0
  unfoldable pub powered : Float → Block
  powered m =
      let n = cut_to l a.lengths in
      block n (table (count n) (λ p. let i = index n p in mul binary64 (read_at a i) (walk (λ j f. mul binary64 f m) (at i v) 0 one_f)))

  -- the running value, then times b plus each of the first n rows, the highest first
  unfoldable pub horner : ℕ → Block → Block → Block
  horner zero b res = res
  horner (suc n) b res = horner n b (joined_block false (multiplied l res b) (row_at n))

  unfoldable pub substituted : Block → Block
  substituted b =
      let line = linear b in
      cond (is_zero b) (row_at 0)
      (cond ((line.yes && eqb line.variable v) && eq line.c zero_f) (powered line.m)
      (horner (at a.lengths v) b (constant_block zero_f)))

unfoldable pub substitute_poly : ℕ → Poly → Poly → Poly
substitute_poly v p q =
    let h = announced (Substitution v) p.head q.head in
    cond (ltb v p.head.vars) (poly_of h (substituted h.limits v (block_of p) (block_of q))) p

-- w and u the header words, a and b the coefficients, out and scratch the buffers as they came
module _ (v w : ℕ) (a : List Float) (u : ℕ) (b out scratch : List Float) where
  abbrev pub substitute_gate : Refusal
  substitute_gate = pair_gate (Substitution v) w (length a) u (length b) (length out) (length scratch)

  unfoldable pub substitute_answer : Answer
  substitute_answer = answered substitute_gate (substitute_poly v (held w a) (held u b))

  unfoldable pub substitute_out : List Float
  substitute_out = out_after substitute_gate (announced_pair (Substitution v) w u) (substitute_poly v (held w a) (held u b)) out

  unfoldable pub substitute_scratch : List Float
  substitute_scratch = scratch_after substitute_gate (announced_pair (Substitution v) w u) scratch
