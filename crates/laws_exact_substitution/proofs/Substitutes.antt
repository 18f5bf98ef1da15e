-- What rests on laws of specs/ (Substitutes).
use Rattle.std.specs.Prelude.{◌≡◌, ltb, ℤ}
use Rattle.std.proofs.Math.Path.{refl, sym, ap}
use Rattle.std.proofs.Common.{◌∙◌, le_of_eq, mul-one, arith}
use mathlib.Core.List.{List}
use Prim.Native.Nat.{ℕ, ◌+◌, ◌-◌, ◌*◌, ◌^◌, ◌≤◌, ◌<◌, max}
use Rattle.std.proofs.Math.Nat.{le_trans, pow-zero}
use Rattle.std.proofs.Math.ListN.{length}
use Rattle.std.proofs.Math.IntN.{nat_abs}
use borrow.Author.Tests.{ltb-true, ltb-false}
use Rattle.lists.specs.Test.{decide}
use Rattle.lists.specs.Four.{at, four, each, at-four}
use Rattle.model.specs.declared.Family.TheVariants.{Substitution}
use Rattle.model.specs.Header.{len}
use Rattle.model_textbook.specs.Sum.{add_n}
use Rattle.model.specs.Announced.{announced, paired}
use Rattle.model.specs.Poly.{Poly, block_of, coefficient_at}
use Rattle.model.specs.Substitute.{substitute_poly}
use Rattle.model_textbook.specs.Textbook.{Series, weight, substitute}
use Rattle.laws_whole.specs.Whole.{Whole}
use Rattle.laws_whole.specs.Index.{Within}
use Rattle.laws_whole.specs.BoxLaws.{box-same}
use Rattle.laws_whole.specs.BoxSizes.{box_n-part}
use Rattle.shape_words.specs.Rules.{Regular}
use Rattle.shape_words.specs.Lengths.{Inside}
use Rattle.laws_exact.specs.Windows.{at-within}
use Rattle.laws_exact.specs.Wholes.{Wholes, Is, is_same_lem, wholes-is}
use Rattle.laws_exact.specs.Sums.{series_in, weight_in}
use Rattle.laws_exact.specs.Results.{Result, result}
use Rattle.laws_keeps.proofs.SubstituteKeeps.{substitute-keeps}
use Rattle.laws_exact_substitution.specs.Hornered.{running, running-all}
use Rattle.laws_exact_substitution.specs.Horners.{made-weight}
use Rattle.laws_exact_substitution.specs.Substituted.{substituted-is}
use Rattle.laws_exact_substitution.specs.Substitutes.{lacks-weight, powers, powers_in, puts, unchanged, weight_with}

module _ (v : ℕ) (p q : Poly) (g : Regular p.head) (h : Regular q.head) (a b : ℕ → ℤ) (u : Wholes (block_of p) a)
    (w : Wholes (block_of q) b) (bound : weight_with v p a q b ≤ 2 ^ 53) where
  abbrev A : Series
  A = series_in p a

  abbrev B : Series
  B = series_in q b

  -- ---- a variable that the polynomial has

  module _ (i : v < 4) where
    pub has-weight : (n : List ℕ) → length n ≡ 4 → weight n (substitute v (powers_in v p) A B) ≤ weight_with v p a q b
    unfolding weight
    has-weight n f =
        let r : List ℕ = four (λ w. at n w + len p.head v) in
        let x : Within n r = at-within n r f (each (λ w. at n w ≤ at r w) (omega arith) (omega arith) (omega arith) (omega arith)) in
        rw (powers v p q g h a b u w bound i)
        (le_trans (box_n-part (λ k. nat_abs (substitute v (len p.head v) A B k)) x)
        (le_trans (le_of_eq (box-same add_n _ _ r (λ k c. ap nat_abs (sym (running-all v A B (len p.head v) k)))
        ∙ sym (mul-one _) ∙ ap (λ (z : ℕ). weight r (running v A B 0 (len p.head v)) * z)
        (sym (pow-zero (max 1 (weight_in q b))))))
        (made-weight (puts v p q g h a b u w bound i) r refl (rw (at-four (λ w. at n w + len p.head v) v i) (omega arith)) 0 (len p.head v) (omega arith))))

  pub substitute-is : Is (announced (Substitution v) p.head q.head).limits (block_of (substitute_poly v p q)) (substitute v (powers_in v p) A B)
  unfolding announced paired substitute_poly
  substitute-is =
      decide (ltb v p.head.vars)
      (λ t. let i : v < 4 = omega (arith, ltb-true v p.head.vars t, g.rules.few) in rw (t, (powers v p q g h a b u w bound) i)
      (substituted-is ((puts v p q g h a b u w bound) i)))
      (λ t. rw t (is_same_lem (λ k f i. sym ((unchanged v p q g h a b u w bound) (ltb-false v p.head.vars t) k f i)) (wholes-is u p.head.limits)))

  pub substitute-exact : (k : List ℕ) → length k ≡ 4 → Inside (announced (Substitution v) p.head q.head).limits k
      → Whole (coefficient_at (block_of (substitute_poly v p q)) k) (substitute v (powers_in v p) A B k)
  substitute-exact = substitute-is.at

  pub substitute-weight : weight (substitute_poly v p q).head.lengths (substitute v (powers_in v p) A B) ≤ weight_with v p a q b
  unfolding substitute_poly
  substitute-weight =
      decide (ltb v p.head.vars)
      (λ t. has-weight (omega (arith, ltb-true v p.head.vars t, g.rules.few))
      (substitute_poly v p q).head.lengths (ap length (substitute-keeps v p q g h u.full).regular.ns))
      (λ t. rw t ((lacks-weight v p q g h a b u w bound) (ltb-false v p.head.vars t)))

  pub substitute-result : Result (announced (Substitution v) p.head q.head).limits (substitute_poly v p q)
      (substitute v (powers_in v p) A B) (weight_with v p a q b)
  substitute-result = result (substitute-keeps v p q g h u.full) substitute-is substitute-weight
