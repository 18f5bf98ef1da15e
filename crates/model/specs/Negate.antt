-- REFERENCE 4.5. Document 01, port order 3: negate. Each place by itself; limits and lengths unchanged; refusals 1, 2,
-- 5.
use Rattle.std.specs.Prelude.{ℕ, List, length, get_or, Float}
use Rattle.std.specs.Float.{nan}
use Rattle.std.specs.Float.Ieee.{neg}
use Rattle.lists.specs.Table.{table}
use Rattle.model.specs.declared.Refusal.{Refusal}
use Rattle.model.specs.Results.{Answer}
use Rattle.model.specs.declared.Family.TheVariants.{Same}
use Rattle.model.specs.Header.{stored, no_header}
use Rattle.model.specs.Announced.{announced}
use Rattle.model.specs.Gates.{one_gate, announced_one}
use Rattle.model.specs.Poly.{Poly, poly, held}
use Rattle.model.specs.Answers.{answered, out_after}

abbrev pub negated_at : List Float → ℕ → Float
negated_at a k = neg (get_or a k nan)

unfoldable pub negated : Poly → Poly
negated p = poly (announced Same p.head no_header) (table (stored p.head) (negated_at p.coeffs))

-- w the header word, a the coefficients, out the buffer as it came
module _ (w : ℕ) (a out : List Float) where
  abbrev pub negate_gate : Refusal
  negate_gate = one_gate Same w (length a) (length out)

  unfoldable pub negate_answer : Answer
  negate_answer = answered negate_gate (negated (held w a))

  unfoldable pub negate_out : List Float
  negate_out = out_after negate_gate (announced_one Same w) (negated (held w a)) out
