-- REFERENCE 4.11. Document 01, port order 7: `pow` by squaring, without the last squaring, which reaches no answer. 0
-- gives one with no variables, 1 a copy.
-- The exponent is any u32. Refusals 1, 2, 5, 6.
use Rattle.std.specs.Prelude.{ℕ, zero, suc, ◌/◌, ◌%◌, List, cond, leb, eqb, length, Float}
use Rattle.model.specs.declared.Refusal.{Refusal}
use Rattle.model.specs.Results.{Answer}
use Rattle.model.specs.declared.Family.TheVariants.{Power}
use Rattle.model.specs.Header.{no_header}
use Rattle.model.specs.Announced.{announced}
use Rattle.model.specs.Gates.{work_gate, announced_one}
use Rattle.model.specs.Poly.{Poly, Block, block_of, poly_of, held}
use Rattle.model.specs.Answers.{answered, out_after, scratch_after}
use Rattle.model.specs.Readings.{one_f}
use Rattle.model.specs.Constructed.{constant}
use Rattle.model.specs.Product.{constant_block, multiplied}

-- what is reached and the base's running square, under the limits l: at most n turns, one for each bit of the exponent
-- left
unfoldable pub squared : ℕ → List ℕ → ℕ → Block → Block → Block
squared zero l e res base = res
squared (suc n) l e res base =
    let next = cond (eqb (e % 2) 1) (multiplied l res base) res in
    cond (leb e 1) next (squared n l (e / 2) next (multiplied l base base))

unfoldable pub power_poly : ℕ → Poly → Poly
power_poly e p =
    let h = announced (Power e) p.head no_header in
    cond (eqb e 0) (constant no_header one_f)
    (cond (eqb e 1) p
    (poly_of h (squared 32 h.limits e (constant_block one_f) (block_of p))))

-- w the header word, a the coefficients, e the exponent, out and scratch the buffers as they came
module _ (w : ℕ) (a : List Float) (e : ℕ) (out scratch : List Float) where
  abbrev pub power_gate : Refusal
  power_gate = work_gate (Power e) w (length a) (length out) (length scratch)

  unfoldable pub power_answer : Answer
  power_answer = answered power_gate (power_poly e (held w a))

  unfoldable pub power_out : List Float
  power_out = out_after power_gate (announced_one (Power e) w) (power_poly e (held w a)) out

  unfoldable pub power_scratch : List Float
  power_scratch = scratch_after power_gate (announced_one (Power e) w) scratch
