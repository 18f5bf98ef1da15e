-- Limits given to a constructor: under good ones its header keeps the rules.
use Prim.Native.Nat.{ℕ, suc, ◌≤◌, ◌<◌}
use Rattle.std.specs.Prelude.{List, Bool, true, ◌≡◌, leb, ltb, eqb}
use Rattle.std.proofs.Common.{arith, leb-true, le-ltb, ltb-true, eqb-true}
use Rattle.std.proofs.lemmas.Bool.{lt-leb}
use Rattle.lists.specs.Test.{and_left, and_right, or_right, decide, of-both}
use Rattle.lists.specs.Four.{at, four, at-four, each}
use Rattle.model.specs.Header.{limit, limit_or_one, zero_with, two_at_most, var_with}
use Rattle.model.specs.Faults.{good_limit, sound_limit, limits_fault}
use Rattle.model.specs.Gates.{good_limits}
use Rattle.shape_words.specs.Sound.{unless-none}
use Rattle.shape_words.specs.Rules.{Regular, regular-four}
use Rattle.shape.specs.Limits.{Range}

pub good_limit_lem : (l : ℕ) → good_limit l ≡ true → Range l
good_limit_lem l h = record { lo = leb-true _ _ (and_left (leb 1 l) (leb l 64) h); hi = leb-true _ _ (and_right (leb 1 l) (leb l 64) h) }

-- the first `vars` of the limits l
pub record Given (vars : ℕ) (l : List ℕ) : Type 0 where
  pub few : vars ≤ 4
  pub range : (k : ℕ) → k < 4 → k < vars → Range (at l k)

pub good_limits_lem : (vars : ℕ) (l : List ℕ) → good_limits vars l ≡ true → Given vars l
unfolding limits_fault
good_limits_lem vars l h =
    let t : ℕ → Bool = sound_limit vars l in
    let a = unless-none (leb vars 4) _ _ (λ z. omega (arith, z)) (eqb-true (limits_fault vars l).cause 0 h) in
    let b = unless-none (t 0) _ _ (λ z. omega (arith, z)) a.1 in
    let c = unless-none (t 1) _ _ (λ z. omega (arith, z)) b.1 in
    let d = unless-none (t 2) _ _ (λ z. omega (arith, z)) c.1 in
    let e = unless-none (t 3) _ _ (λ z. omega (arith, z)) d.1 in
    let one : (k : ℕ) → t k ≡ true → k < vars → Range (at l k) = λ k e p. good_limit_lem _ (or_right (leb vars k) (good_limit (at l k)) e (lt-leb _ _ p)) in
    record {
      few = leb-true _ _ a.0;
      range = each (λ k. k < vars → Range (at l k)) (one 0 b.0) (one 1 c.0) (one 2 d.0) (one 3 e.0);
    }

-- one limit for every variable up to v
pub given-same : {v l : ℕ} → v ≤ 3 → Range l → Given (suc v) (four (λ k. l))
given-same {v} {l} h r = record { few = omega arith; range = λ k p _. rw (at-four (λ k. l) k p) r }

module _ {vars : ℕ} {l : List ℕ} (g : Given vars l) where
  limit-range : (k : ℕ) → k < 4 → Range (limit_or_one vars k (at l k))
  limit-range k p = decide (ltb k vars) (λ t. rw t (g.range k p (ltb-true k vars t))) (λ t. rw t (record { lo = omega arith; hi = omega arith }))

  limit-gone : (k : ℕ) → vars ≤ k → limit_or_one vars k (at l k) ≡ 1
  limit-gone k h = simp (le-ltb _ _ h)

  pub zero-regular : Regular (zero_with vars l)
  unfolding zero_with
  zero-regular =
      regular-four vars (λ k. limit_or_one vars k (at l k)) (λ k. 1) g.few (omega arith)
      (λ k p. let r = limit-range k p in record { pos = omega arith; fit = r.lo; most = r.hi; gone = limit-gone k })

  pub var-regular : (v : ℕ) → Regular (var_with v vars l)
  unfolding var_with zero_with
  var-regular v =
      let f : ℕ → ℕ = λ k. limit_or_one vars k (at l k) in
      regular-four vars f (λ k. two_at_most v k (limit (zero_with vars l) k)) g.few (omega arith)
      (λ k p. let r = limit-range k p in
      let e : limit (zero_with vars l) k ≡ f k = at-four f k p in
      record {
        pos = rw e (of-both (λ (n : ℕ). 1 ≤ n) (eqb k v) (omega (arith, r)) (omega arith));
        fit = rw e (of-both (λ (n : ℕ). n ≤ f k) (eqb k v) (omega arith) r.lo);
        most = r.hi;
        gone = limit-gone k;
      })
