-- Operands that lie beside the part that a step writes. Those that lie before it do (`Placed`), and their values are
-- the same there.
use Rattle.std.specs.Prelude.{ℕ, ◌+◌, ◌≤◌, List, Bool, ◌≡◌, length, take, Float}
use Rattle.std.proofs.Common.{sym, ap, ◌∙◌, arith}
use Rattle.model.specs.declared.Header.{Header}
use Rattle.model_recipes.specs.declared.Step.{Step}
use Rattle.model.specs.Poly.{Poly}
use Rattle.shape_operands.specs.Lent.{lying, Aside, aside_fewer, before-aside, lying-before}
use Rattle.recipes_steps.specs.Ready.{value_of, Placed}

-- where the operands with the headers x and y lie, beside the n places from `at` on
pub record Beside (x : Header) (xi : Bool) (xf : ℕ) (y : Header) (yi : Bool) (yf at n mc mp : ℕ) : Type 0 where
  pub left : Aside x xi xf at n mc mp
  pub right : Aside y yi yf at n mc mp

module _ {x : Header} {xi : Bool} {xf : ℕ} {y : Header} {yi : Bool} {yf at mc : ℕ} where
  pub beside_fewer : {n m mp : ℕ} → Beside x xi xf y yi yf at n mc mp → m ≤ n → Beside x xi xf y yi yf at m mc mp
  beside_fewer b l = record { left = aside_fewer b.left l; right = aside_fewer b.right l }

  pub placed-beside : {n mp : ℕ} → Placed x xi xf y yi yf at mc → at + n ≤ mp → Beside x xi xf y yi yf at n mc mp
  placed-beside {n} p l = record { left = before-aside xi n p.left (omega arith); right = before-aside yi n p.right (omega arith) }

pub value_before : (s : Step) {x : Header} {xi : Bool} {xf : ℕ} {y : Header} {yi : Bool} {yf at : ℕ} (cs pool : List Float)
    → Placed x xi xf y yi yf at (length cs)
    → value_of s (lying xi cs pool xf x) (lying yi cs pool yf y) ≡ value_of s (lying xi cs (take at pool) xf x) (lying yi cs (take at pool) yf y)
value_before s {x} {xi} {xf} {y} {yi} {yf} {at} cs pool p =
    ap (λ (a : Poly). value_of s a (lying yi cs pool yf y)) (sym (lying-before xi cs pool p.left))
    ∙ ap (value_of s (lying xi cs (take at pool) xf x)) (sym (lying-before yi cs pool p.right))
