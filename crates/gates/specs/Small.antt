-- Refusals of small numbers: n at most, m at most for the place, and a variable and a cause as faults have them.
use Rattle.std.specs.Prelude.{ℕ, ◌≤◌, Bool, true, false, List, leb}
use Rattle.std.proofs.Common.{arith}
use Rattle.model.specs.declared.Fault.{Fault}
use Rattle.model.specs.declared.Refusal.{Refusal}
use Rattle.model.specs.Faults.{sound_limit, limits_fault}
use Rattle.model.specs.Refusals.{refused_at, refused_for, ask_for}
use Rattle.model.specs.Gates.{bad_word}
use Rattle.shape_words.specs.Faults.{SmallFault, fault-small, none-small, word-fault-small}

pub record Small (n m : ℕ) (r : Refusal) : Type 0 where
  pub number : r.number ≤ n
  pub place : r.place ≤ m
  pub variable : r.variable ≤ 4
  pub cause : r.cause ≤ 6

module _ {n m : ℕ} where
  pub at_small : (k p : ℕ) → k ≤ n → p ≤ m → Small n m (refused_at k p)
  at_small k p a b = record { number = a; place = b; variable = omega arith; cause = omega arith }

  for-small : {f : Fault} (p : ℕ) → SmallFault f → 1 ≤ n → p ≤ m → Small n m (refused_for f p)
  for-small p s a b = record { number = a; place = b; variable = s.variable; cause = s.cause }

  pub word_small : (w p : ℕ) → 1 ≤ n → p ≤ m → Small n m (bad_word w p)
  word_small w p = for-small p (word-fault-small w)

  -- a test in a chain
  pub asked-small : (b : Bool) {q next : Refusal} → Small n m q → Small n m next → Small n m (ask_for b q next)
  asked-small true s t = t
  asked-small false s t = s

  pub small-up : {k p : ℕ} {r : Refusal} → Small k p r → k ≤ n → p ≤ m → Small n m r
  small-up s a b = record { number = omega (arith, s.number); place = omega (arith, s.place); variable = s.variable; cause = s.cause }

-- of the limits given to a constructor
limits_fault-small : (vars : ℕ) (l : List ℕ) → SmallFault (limits_fault vars l)
unfolding limits_fault
limits_fault-small vars l =
    fault-small (leb vars 4) (record { variable = omega arith; cause = omega arith })
    (fault-small (sound_limit vars l 0) (record { variable = omega arith; cause = omega arith })
    (fault-small (sound_limit vars l 1) (record { variable = omega arith; cause = omega arith })
    (fault-small (sound_limit vars l 2) (record { variable = omega arith; cause = omega arith })
    (fault-small (sound_limit vars l 3) (record { variable = omega arith; cause = omega arith }) none-small))))

pub limits-small : {n m : ℕ} (vars : ℕ) (l : List ℕ) → 1 ≤ n → 64 ≤ m → Small n m (refused_for (limits_fault vars l) 64)
limits-small vars l a b = for-small 64 (limits_fault-small vars l) a b
