-- Document 01, 'Where the result is exact': substitution into a polynomial with whole coefficients is the exact
-- truncated one where max(1,|A|) times max(1,|B|) to the p - 1 is at most 2 ^ 53, at every index under the announced
-- limits and on the zero, linear, missing and Horner paths. The result is a polynomial with whole coefficients again.
use Rattle.std.specs.Prelude.{◌≡◌, ltb, eqb, set, ℤ, pos}
use Rattle.std.proofs.Math.Path.{refl, sym, ap}
use Rattle.std.proofs.Common.{◌∙◌, le_of_eq, mul-one, mul-le-mul, arith}
use mathlib.Core.List.{List}
use Prim.Native.Nat.{ℕ, ◌+◌, ◌-◌, ◌*◌, ◌^◌, ◌≤◌, ◌<◌, max}
use Rattle.std.proofs.Math.Nat.{le_trans, pow-zero, one-le-pow}
use Rattle.std.proofs.Math.ListN.{length}
use Rattle.std.proofs.Math.Seq.{set-get_or}
use Rattle.std.proofs.Math.IntN.{nat_abs}
use borrow.Author.Tests.{ltb-true, ltb-false, eqb-true, eqb-false, eq-eqb}
use Rattle.lists.specs.Test.{decide}
use Rattle.lists.specs.Four.{at, four, each, at-four, long}
use Rattle.model.specs.declared.Family.TheVariants.{Substitution}
use Rattle.model.specs.Header.{len}
use Rattle.model_textbook.specs.Sum.{add_n}
use Rattle.model.specs.Announced.{announced, paired}
use Rattle.model.specs.Poly.{Poly, block_of, coefficient_at}
use Rattle.model.specs.Substitute.{substitute_poly}
use Rattle.model_textbook.specs.Textbook.{Series, weight, coefficient_of, substitute}
use Rattle.laws_whole.specs.Whole.{Whole}
use Rattle.laws_whole.specs.Index.{Within}
use Rattle.laws_whole.specs.IndexLaws.{in-box-length}
use Rattle.laws_whole.specs.BoxLaws.{box-same}
use Rattle.laws_whole.specs.BoxSizes.{box_n-part}
use Rattle.laws_whole.specs.StoredLaws.{in-box-inside}
use Rattle.shape_words.specs.Rules.{Regular, ruled-at}
use Rattle.shape_words.specs.Lengths.{Inside, inside_is, inside-four, inside-at}
use Rattle.shape.specs.Limits.{min_limit-pos}
use Rattle.laws_keeps.specs.Keeps.{limits_of}
use Rattle.laws_exact.specs.Windows.{at-within}
use Rattle.laws_exact.specs.Factors.{positive}
use Rattle.laws_exact.specs.Wholes.{Wholes, Is, is_same_lem, wholes-is}
use Rattle.laws_exact.specs.Sums.{series_in, weight_in}
use Rattle.laws_exact.specs.Products.{own-sits}
use Rattle.laws_exact.specs.Results.{Result, result}
use Rattle.laws_keeps.proofs.SubstituteKeeps.{substitute-keeps}
use Rattle.laws_exact_substitution.specs.Hornered.{running, running-all, substitute-one}
use Rattle.laws_exact_substitution.specs.Horners.{Puts, made-weight}
use Rattle.laws_exact_substitution.specs.Substituted.{substituted-is}

-- the uncut length of v; 1 where the polynomial lacks v
abbrev pub powers_in : ℕ → Poly → ℕ
powers_in v p = max 1 (len p.head v)

-- what a substitution into p may weigh
abbrev pub weight_with : ℕ → Poly → (ℕ → ℤ) → Poly → (ℕ → ℤ) → ℕ
weight_with v p a q b = max 1 (weight_in p a) * max 1 (weight_in q b) ^ (powers_in v p - 1)

-- past the end of a list
past_end : (k : List ℕ) (v : ℕ) → length k ≤ v → at k v ≡ 0
past_end k v h = decide (eqb (at k v) 0) (eqb-true (at k v) 0) (λ t. absurd (let l = long k v (positive (at k v) (eqb-false (at k v) 0 t)) in omega arith))

module _ (v : ℕ) (p q : Poly) (g : Regular p.head) (h : Regular q.head) (a b : ℕ → ℤ) (u : Wholes (block_of p) a)
    (w : Wholes (block_of q) b) (bound : weight_with v p a q b ≤ 2 ^ 53) where
  abbrev A : Series
  A = series_in p a

  abbrev B : Series
  B = series_in q b

  -- ---- a variable that the polynomial has

  module _ (i : v < 4) where
    pub powers : powers_in v p ≡ len p.head v
    powers = let o = (ruled-at g.rules v i).pos in omega arith

    pub puts : Puts (limits_of p q) v (block_of p) (block_of q) a b
    puts = record {
      var = i;
      pos_l = min_limit-pos p.head q.head g.rules h.rules;
      left = own-sits p g u.full;
      right = own-sits q h w.full;
      wholes_left = u;
      wholes_right = w;
      bound = rw powers at bound;
    }

  -- ---- one that it lacks

  module _ (o : p.head.vars ≤ v) where
    none : powers_in v p ≡ 1
    none =
        decide (ltb v 4)
        (λ t. let r = ruled-at g.rules v (ltb-true v 4 t) in omega (arith, r.gone o, r.fit, r.pos))
        (λ t. omega (arith, past_end p.head.lengths v (omega (arith, ltb-false v 4 t, ap length g.ns))))

    first-row : (k : List ℕ) → length k ≡ 4 → Inside p.head.limits k → at k v ≡ 0
    first-row k f i =
        decide (ltb v 4)
        (λ t. let l = ltb-true v 4 t in omega (arith, (ruled-at g.rules v l).gone o, inside-at i v l))
        (λ t. past_end k v (omega (arith, ltb-false v 4 t)))

    pub unchanged : (k : List ℕ) → length k ≡ 4 → Inside p.head.limits k → substitute v (powers_in v p) A B k ≡ A k
    unfolding coefficient_of
    unchanged k f i =
        let z : at k v ≡ 0 = first-row k f i in
        rw none (substitute-one v A B k ∙ rw (eq-eqb (at k v) 0 z) (ap A (ap (set k v) (sym z) ∙ set-get_or k v 0)))

    pub lacks-weight : weight p.head.lengths (substitute v (powers_in v p) A B) ≤ weight_with v p a q b
    unfolding weight
    lacks-weight =
        let n : List ℕ = p.head.lengths in
        let f : length n ≡ 4 = ap length g.ns in
        let under : (k : List ℕ) → Inside n k → Inside p.head.limits k =
        λ k i. inside-four (λ v l. omega (arith, inside-at i v l, (ruled-at g.rules v l).fit)) in
        le_trans (le_of_eq (box-same add_n _ (λ k. nat_abs (A k)) n
        (λ k c. ap nat_abs (unchanged k (in-box-length c ∙ f) (under k (inside_is n k (in-box-inside n f c)))))
        ∙ sym (mul-one (weight_in p a))))
        (mul-le-mul (omega arith) (one-le-pow (powers_in v p - 1) (max 1 (weight_in q b)) (omega arith)))
    -- ---- the paths
