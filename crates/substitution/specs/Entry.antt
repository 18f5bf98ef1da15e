-- What the entry hands on, and what it shows: the value is the definition's, its header keeps what an operation owes.
use Rattle.std.specs.Prelude.{ℕ, ◌-◌, ◌≤◌, ◌<◌, List, [], true, ◌≡◌, refl, ltb, length, take, Float}
use Rattle.std.proofs.Math.Path.{sym, ap}
use Rattle.std.proofs.Common.{◌∙◌, arith, length-take-le, lt-ltb, le-ltb}
use Rattle.std.proofs.Math.Seq.{take-length}
use Rattle.lists.specs.Test.{decide}
use Rattle.lists.specs.Table.{length-table}
use Rattle.model.specs.declared.Header.{Header}
use Rattle.model.specs.declared.Family.TheVariants.{Substitution}
use Rattle.model.specs.Header.{header, len, count, stored}
use Rattle.model.specs.Limits.{min_degrees_p1}
use Rattle.model.specs.Announced.{announced, paired}
use Rattle.model.specs.Refusals.{zero_f, zeros}
use Rattle.model.specs.Poly.{Block, poly, block, poly_of, held}
use Rattle.model.specs.Substitute.{substitute_poly}
use Rattle.shape_words.specs.Rules.{Ruled, Regular, ruled-at}
use Rattle.shape_words.specs.Lengths.{Lengths, lengths_of_lem, count_most}
use Rattle.shape.specs.Limits.{min_limit-pos, min_degrees-range}
use Rattle.shape.specs.Announced.{announced-regular}
use Rattle.shape.specs.Keeps.{Keeps}
use Rattle.gates.specs.Gate.{PairReady}
use Rattle.laws_keeps.specs.Sits.{Sits}
use Rattle.laws_keeps.specs.SubstituteKeeps.{lengths-fit}
use Rattle.laws_keeps.proofs.SubstituteKeeps.{substitute-keeps}
use Rattle.product.specs.Room.{Stands}
use Rattle.product.specs.Ways.{count_less}
use Rattle.substitution_way.specs.Way.{put_for}
use Rattle.substitution.specs.Room.{Given, Puts}

-- ---- the value

module _ (v : ℕ) (x y : Header) (a b : List Float) {h : Header} (eh : h ≡ announced (Substitution v) x y) where
  abbrev value : Block
  value = put_for x.vars h.limits v (block x.lengths a) (block y.lengths b)

  pub poly-is : substitute_poly v (poly x a) (poly y b) ≡ poly_of h value
  unfolding substitute_poly put_for announced
  poly-is = decide (ltb v x.vars) (λ t. rw (t, eh, t)) (λ t. rw (t, eh, t))

-- another name for what stands there
pub stands_same : {p q : Block} {o : List Float} {r : List ℕ} → p ≡ q → Stands q o r → Stands p o r
stands_same e s = rw e s

-- all of it was copied
pub copied-stands : (n : List ℕ) (a : List Float) {o : List Float} {m : ℕ} → o ≡ take m a → m ≡ length a → Stands (block n a) o n
copied-stands n a {o} e f =
    let q : o ≡ a = e ∙ (ap (λ (j : ℕ). take j a) f ∙ take-length a) in
    record { lengths = refl; front = ap (take (length a)) q ∙ take-length a }

-- ---- what was given

module _ {x y h : Header} {v n ma mb mo mw : ℕ} (g : Given x y h v n ma mb mo mw) where
  given-regular : Regular h
  given-regular = rw g.is (announced-regular (Substitution v) g.left g.right)

  pub given-small : n ≤ 16777216
  given-small = omega (arith, g.all, count_most (lengths_of_lem given-regular.rules))

  pub given-lens : Lengths x.lengths × Lengths y.lengths
  given-lens = (lengths_of_lem g.left.rules, lengths_of_lem g.right.rules)

  -- a variable that is not there
  pub given-same : x.vars ≤ v → n ≡ ma
  unfolding announced
  given-same l = let e : h ≡ x = g.is ∙ (rw (le-ltb v x.vars l)) in g.all ∙ (ap stored e ∙ sym g.full_a)

  module _ (l : v < x.vars) where
    paired_is : h ≡ paired (Substitution v) (len x v) x y
    unfolding announced
    paired_is = g.is ∙ (rw (lt-ltb v x.vars l))

    var : v < 4
    var = omega (arith, g.left.rules.few)

    limits_are : h.limits ≡ min_degrees_p1 x y
    unfolding paired
    limits_are = ap (λ (z : Header). z.limits) paired_is

    pub given-puts : Puts x.lengths y.lengths h.limits v n ma mb mo mw
    unfolding paired
    given-puts = record {
      left = given-lens.0;
      right = given-lens.1;
      var = var;
      positive = rw limits_are (min_limit-pos x y g.left.rules g.right.rules);
      caps = record { most = λ k i. rw limits_are (min_degrees-range x y g.left.rules g.right.rules k i).hi };
      most = h.lengths;
      all = g.all;
      small = given-small;
      fit = rw paired_is (lengths-fit v (poly x (zeros (stored x))) (poly y []) g.left g.right (length-table (λ k. zero_f) (stored x)) var);
      full_a = g.full_a;
      full_b = g.full_b;
      out = g.out;
      work = g.work;
    }

  -- the result sits under the announced lengths
  module _ (a b : List Float) (la : length a ≡ ma) where
    keeps : Keeps h (poly_of h (value v x y a b g.is))
    keeps = rw (← poly-is v x y a b g.is) (rw g.is (substitute-keeps v (poly x a) (poly y b) g.left g.right (la ∙ g.full_a)))

    given-sits : Sits h.lengths (value v x y a b g.is)
    given-sits = record {
      ns = keeps.regular.ns;
      lo = λ k i. (ruled-at keeps.regular.rules k i).pos;
      hi = keeps.under.most;
      full = keeps.full;
    }

    module _ {out : List Float} {r : List ℕ} (s : Stands (value v x y a b g.is) out r) where
      pub into-lens : Lengths r
      into-lens = rw s.lengths (lengths_of_lem keeps.regular.rules)

      pub into-full : {z : ℕ} → z ≡ count r → z ≡ length (value v x y a b g.is).places
      into-full e = e ∙ (ap count s.lengths ∙ sym given-sits.full)

      pub into-small : {z : ℕ} → z ≡ count r → z ≤ n
      into-small e = omega (arith, e, ap count s.lengths, g.all, count_less h.lengths (value v x y a b g.is).lengths given-sits.hi)

-- ---- the entry

module _ {v w u ma mb mo ms : ℕ} (g : PairReady (Substitution v) w ma u mb mo ms) where
  -- the true header keeps the rules
  pub entry_ruled : (a b : List Float) → ma ≡ length a → Ruled (substitute_poly v (held w a) (held u b)).head
  entry_ruled a b e =
      (substitute-keeps v (held w a) (held u b) g.good_a.regular g.good_b.regular
      (length-take-le _ a (omega (arith, e, g.full_a)))).regular.rules
