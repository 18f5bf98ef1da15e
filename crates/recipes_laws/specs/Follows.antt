-- What the values of a run's places keep to: each has exactly the limits that its place announces, no length above the
-- announced one, and as many coefficients as its true header says. A step's value keeps to it whatever its fields hold:
-- each operation's law for the true headers, and then announced headers, which are no smaller.
use Rattle.std.specs.Prelude.{ℕ, zero, suc, ◌≤◌, true, false, cond, List, [], ◌∷◌, ◌++◌, ◌≡◌, refl, length, drop, get_or, Float}
use Rattle.std.proofs.Common.{ap, arith, length-drop, length-take-le}
use Rattle.lists.specs.All.{All, all_snoc}
use Rattle.lists.specs.Test.{decide}
use Rattle.lists.specs.Grow.{length_snoc}
use Rattle.model.specs.declared.Header.{Header}
use Rattle.model_recipes.specs.declared.Step.{Step}
use Rattle.model.specs.declared.Family.TheVariants.{Constant}
use Rattle.model.specs.Header.{stored, no_header}
use Rattle.model.specs.Word.{header_of}
use Rattle.model.specs.Announced.{announced}
use Rattle.model.specs.Poly.{Poly}
use Rattle.model.specs.Readings.{one_f, first}
use Rattle.model.specs.Power.{power_poly}
use Rattle.model_exponential.specs.Head.{exp_head}
use Rattle.model_exponential.specs.Step.{exponential_poly}
use Rattle.model_recipes.specs.Kinds.{idle, one_like, power_family}
use Rattle.model_recipes.specs.Steps.{step_of}
use Rattle.model_recipes.specs.Recipe.{families, family_of, head_at, announced_step, input_heads, total}
use Rattle.model_recipes.specs.Check.{inputs_refusal}
use Rattle.model_recipes.specs.Run.{input_values, operations, no_value, value_at, step_value}
use Rattle.shape_words.specs.Rules.{Regular, Good}
use Rattle.shape_words.specs.Words.{good_word_lem}
use Rattle.shape.specs.Under.{Under, under_same, under_then, announced-under}
use Rattle.shape.specs.Keeps.{Keeps, none-keeps, one-keeps}
use Rattle.recipes_kinds.specs.Known.{Known, step-regular}
use Rattle.laws_keeps.specs.Keeps.{negated-keeps, combined-keeps}
use Rattle.laws_keeps.proofs.ProductKeeps.{product-keeps}
use Rattle.laws_keeps.specs.QuotientKeeps.{quotient-keeps}
use Rattle.laws_keeps.proofs.PowerKeeps.{power-keeps}
use Rattle.laws_keeps.specs.SeriesKeeps.{exp-keeps}
use Rattle.laws_keeps.specs.ShiftKeeps.{derivative-keeps, expansion-keeps, shift_down-keeps}
use Rattle.laws_keeps.proofs.SubstituteKeeps.{substitute-keeps}
use Rattle.recipes_check.specs.Inputs.{none-good, inputs-good, first_good}
use Rattle.recipes_laws.specs.EachKind.{by_kind}

-- ---- one operation

module _ (ed : ℕ) (s : Step) (a b : Poly) (g : Regular a.head) (h : Regular b.head) (full : length a.coeffs ≡ stored a.head) where
  power_row_lem : Keeps (announced (power_family ed s.n) a.head b.head) (cond (idle ed s.n) (one_like a) (power_poly s.n a))
  unfolding announced one_like
  power_row_lem = decide (idle ed s.n) (λ t. rw t (one-keeps one_f g)) (λ t. rw t (power-keeps s.n a g full))

  row_keeps : (k : ℕ) → Keeps (announced (get_or (families ed s) k Constant) a.head b.head) (get_or (operations ed s a b) k no_value)
  unfolding families operations announced exponential_poly
  row_keeps =
      by_kind (record {
        k0 = none-keeps _;
        k1 = negated-keeps a g;
        k2 = combined-keeps a b g h false;
        k3 = combined-keeps a b g h true;
        k4 = product-keeps a b g h;
        k5 = quotient-keeps a b g h;
        k6 = power_row_lem;
        k7 = derivative-keeps s.variable s.n a g;
        k8 = expansion-keeps s.variable s.n a g;
        k9 = shift_down-keeps s.variable s.n a g;
        k10 = substitute-keeps s.variable a b g h full;
        k11 = exp-keeps (exp_head (first a.coeffs)) a g;
        past = λ k. none-keeps _;
      })

keeps-under : {t h : Header} {p : Poly} → Keeps t p → Under t h → Keeps h p
keeps-under k u = record { regular = k.regular; under = under_then k.under u; full = k.full }

-- ---- the places of a run

-- two lists of one length, related place by place and past the end, and one place more of each
related-more : {A B : Type 0} (R : A → B → Type 0) {d x : A} {e y : B} (xs : List A) (ys : List B) → length ys ≡ length xs → R d e → R x y
    → ((p : ℕ) → R (get_or xs p d) (get_or ys p e)) → (p : ℕ) → R (get_or (xs ++ (x ∷ [])) p d) (get_or (ys ++ (y ∷ [])) p e)
related-more R [] [] l o n r zero = n
related-more R [] [] l o n r (suc p) = o
related-more R [] (y ∷ ys) l o n r p = absurd (omega (arith, l))
related-more R (x ∷ xs) [] l o n r p = absurd (omega (arith, l))
related-more R (x ∷ xs) (y ∷ ys) l o n r zero = r zero
related-more R (x ∷ xs) (y ∷ ys) l o n r (suc p) = related-more R xs ys (omega (arith, l)) o n (λ q. r (suc q)) p

-- known: what they announce; vs: their values; past the end too
pub record Follows (known : List Header) (vs : List Poly) : Type 0 where
  pub same : length vs ≡ length known
  pub good : All Good no_header known
  pub keeps : (p : ℕ) → Keeps (head_at known p) (value_at vs p)

pub follows-known : {known : List Header} {vs : List Poly} → Follows known vs → Known known
follows-known f = record { at = λ p. (f.good.at p).regular }

module _ (ed w : ℕ) {known : List Header} {vs : List Poly} (f : Follows known vs) where
  pub step_keeps : Keeps (announced_step ed w known) (step_value ed w vs)
  unfolding announced_step step_value
  step_keeps =
      let s = step_of w in
      let a = f.keeps s.a in
      let b = f.keeps s.b in
      keeps-under (row_keeps ed s (value_at vs s.a) (value_at vs s.b) a.regular b.regular a.full s.kind)
      (announced-under (family_of ed s) a.regular.rules b.regular.rules a.under b.under)

  -- a step more, whose announced count is 4,096 at most
  pub follows-more : stored (announced_step ed w known) ≤ 4096 → Follows (known ++ (announced_step ed w known ∷ [])) (vs ++ (step_value ed w vs ∷ []))
  follows-more m =
      record {
        same = omega (arith, f.same, length_snoc known (announced_step ed w known), length_snoc vs (step_value ed w vs));
        good = all_snoc Good no_header none-good f.good (record { regular = step-regular ed w (follows-known f); most = m });
        keeps = related-more Keeps known vs f.same (none-keeps _) step_keeps f.keeps;
      }

-- ---- the inputs, whose coefficients lie end to end: enough of them

pub length-inputs : (hs : List ℕ) (cs : List Float) → length (input_values hs cs) ≡ length (input_heads hs)
unfolding input_values
length-inputs [] cs = refl
length-inputs (w ∷ ws) cs = ap suc (length-inputs ws (drop (stored (header_of w)) cs))

inputs-keep : (p : ℕ) (hs : List ℕ) (cs : List Float) → (inputs_refusal p hs).number ≡ 0 → total (input_heads hs) ≤ length cs
    → (q : ℕ) → Keeps (head_at (input_heads hs) q) (value_at (input_values hs cs) q)
unfolding input_values total
inputs-keep p [] cs e l q = none-keeps _
inputs-keep p (w ∷ ws) cs e l zero =
    record { regular = (good_word_lem w (first_good p w ws e).0).regular; under = under_same _; full = length-take-le (stored (header_of w)) cs (omega arith) }
inputs-keep p (w ∷ ws) cs e l (suc q) =
    inputs-keep (suc p) ws (drop (stored (header_of w)) cs) (first_good p w ws e).1 (omega (arith, length-drop (stored (header_of w)) cs)) q

pub inputs-follow : (hs : List ℕ) (cs : List Float) → (inputs_refusal 0 hs).number ≡ 0 → total (input_heads hs) ≤ length cs
    → Follows (input_heads hs) (input_values hs cs)
inputs-follow hs cs e l = record { same = length-inputs hs cs; good = inputs-good hs e; keeps = inputs-keep 0 hs cs e l }
