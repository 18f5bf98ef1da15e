-- An operand's polynomial, and that its coefficients are there.
use Rattle.std.specs.Prelude.{ℕ, ◌+◌, ◌-◌, ◌≤◌, List, ◌++◌, true, ◌≡◌, length, take, drop, Float}
use Rattle.std.proofs.Common.{sym, ap, ◌∙◌, arith, take-append-drop}
use Rattle.model.specs.Header.{stored}
use Rattle.model.specs.Poly.{Poly}
use Rattle.lists.specs.Part.{Kept}
use Rattle.shape_operands.specs.declared.Operand.{Operand}
use Rattle.shape_operands.specs.Lent.{source, lying, Aside, aside-source, length-operand}

-- the value with the operand's header that lies where the operand says
abbrev pub taken : Operand → List Float → List Float → Poly
taken p given before = lying p.input given before p.from p.head

pub record Within (p : Operand) (given before : List Float) : Type 0 where
  pub full : p.count ≡ stored p.head
  pub ends : p.from + stored p.head ≤ length (source p.input given before)

-- it does not overlap the n places from `at` on where it is not given; mg and mp the lengths of what is given and of
-- the buffer
pub record AsideAt (p : Operand) (at n mg mp : ℕ) : Type 0 where
  pub full : p.count ≡ stored p.head
  pub aside : Aside p.head p.input p.from at n mg mp

pub aside-within : {p : Operand} {at n : ℕ} (given buffer : List Float) → AsideAt p at n (length given) (length buffer) → Within p given buffer
aside-within given buffer h = record { full = h.full; ends = aside-source given buffer h.aside }

-- one that is given is so whatever the buffer holds
pub given-within : {p : Operand} {at n mp : ℕ} (given before : List Float) → AsideAt p at n (length given) mp → p.input ≡ true → Within p given before
given-within given before h e = record { full = h.full; ends = rw e (rw e at h.aside.ends) }

module _ {p : Operand} {given before : List Float} (w : Within p given before) where
  pub within-full : length (taken p given before).coeffs ≡ stored p.head
  within-full = length-operand p.from (stored p.head) (source p.input given before) w.ends

  pub within-ends : p.from + p.count ≤ length (source p.input given before)
  within-ends = omega (arith, w.full, w.ends)

  pub within-is : {o : List Float} → o ≡ take p.count (drop p.from (source p.input given before)) → o ≡ (taken p given before).coeffs
  within-is e = e ∙ ap (λ (k : ℕ). take k (drop p.from (source p.input given before))) w.full

-- what was written to the front of a buffer
pub kept-front : (n : ℕ) {xs w w' : List Float} → Kept 0 (0 + n) xs w w' → w' ≡ xs ++ drop n w
kept-front n {xs} {w} {w'} k =
    let i : 0 + n - 0 ≡ n = omega arith in
    let j : 0 + n ≡ n = omega arith in
    let f : take n w' ≡ xs = ap (λ (m : ℕ). take m w') (sym i) ∙ k.holds in
    let g : drop n w' ≡ drop n w = ap (λ (m : ℕ). drop m w') (sym j) ∙ (k.above ∙ ap (λ (m : ℕ). drop m w) j) in
    sym (take-append-drop n w') ∙ (ap (λ (l : List Float). l ++ drop n w') f ∙ ap (λ (l : List Float). xs ++ l) g)
