-- An operation's gate lets a step pass where every test holds: the operands keep the rules and are full, what it
-- announces is 4,096 at most and fits the places lent, 8 times that fits the scratch, and a shift has its variable and
-- a number below the limit.
use Rattle.std.specs.Prelude.{ℕ, ◌*◌, ◌≤◌, Bool, true, ◌&&◌, cond, List, ◌≡◌, refl, ltb, leb, length, get_or}
use Rattle.std.proofs.Common.{le_refl}
use borrow.Author.Tests.{le-leb}
use Rattle.model.specs.declared.Header.{Header}
use Rattle.model_recipes.specs.declared.Step.{Step}
use Rattle.model.specs.declared.Family.{Family}
use Rattle.model.specs.declared.Family.TheVariants.{Constant, Same, Sum, Product, Quotient, Power, Shift, Series, Substitution, One}
use Rattle.model.specs.Header.{limit, stored, no_header, ones, span, zero_with}
use Rattle.model.specs.Word.{header_of, good_word, word_of}
use Rattle.model.specs.Announced.{announced}
use Rattle.model.specs.Refusals.{no_refusal}
use Rattle.model.specs.Faults.{limits_fault}
use Rattle.model.specs.Gates.{one_gate, work_gate, in_gate, pair_gate, with_gate}
use Rattle.model.specs.Poly.{Poly}
use Rattle.lists.specs.Test.{decide}
use Rattle.model_recipes.specs.Kinds.{idle, power_family}
use Rattle.model_recipes.specs.Steps.{step_of}
use Rattle.model_recipes.specs.Recipe.{families, family_of}
use Rattle.model_recipes.specs.Run.{value_at, gates, step_gate}
use Rattle.shape_words.specs.Rules.{Good}
use Rattle.shape_words.specs.Words.{unpack-pack, packed-good}
use Rattle.recipes_laws.specs.EachKind.{by_kind}

-- an operand: its true header keeps the rules, and it is full
pub record Operand (p : Poly) : Type 0 where
  pub good : Good p.head
  pub full : length p.coeffs ≡ stored p.head

-- n places for the result that h announces, m of scratch
pub record Room (h : Header) (n m : ℕ) : Type 0 where
  pub most : stored h ≤ 4096
  pub fits : stored h ≤ n
  pub spare : 8 * stored h ≤ m

module _ (p : Poly) (o : Operand p) where
  abbrev w : ℕ
  w = word_of p.head

  abbrev x : ℕ
  x = length p.coeffs

  word : good_word w ≡ true
  word = packed-good p.head o.good

  back : header_of w ≡ p.head
  back = unpack-pack p.head o.good.regular

  enough : leb (stored p.head) x ≡ true
  enough = rw o.full (le-leb (stored p.head) (stored p.head) (le_refl _))

  one_passes : (f : Family) {n m : ℕ} → Room (announced f p.head no_header) n m → (one_gate f w x n).number ≡ 0
  unfolding one_gate
  one_passes f r = simp (word, back, enough, le-leb _ _ r.most, le-leb _ _ r.fits)

  work-passes : (f : Family) {n m : ℕ} → Room (announced f p.head no_header) n m → (work_gate f w x n m).number ≡ 0
  unfolding work_gate
  work-passes f r = simp (word, back, enough, le-leb _ _ r.most, le-leb _ _ r.fits, le-leb _ _ r.spare)

  in-passes : (f : Family) (v d : ℕ) {n m : ℕ} → Room (announced f p.head no_header) n m → ltb v p.head.vars ≡ true → ltb d (limit p.head v) ≡ true
      → (in_gate f v d w x n).number ≡ 0
  unfolding in_gate
  in-passes f v d r s t = simp (word, back, enough, s, t, le-leb _ _ r.most, le-leb _ _ r.fits)

pair-passes : (f : Family) (p q : Poly) {n m : ℕ} → Operand p → Operand q → Room (announced f p.head q.head) n m
    → (pair_gate f (word_of p.head) (length p.coeffs) (word_of q.head) (length q.coeffs) n m).number ≡ 0
unfolding pair_gate
pair-passes f p q o u r =
    simp (word p o, word q u, back p o, back q u, enough p o, enough q u, le-leb _ _ r.most, le-leb _ _ r.fits, le-leb _ _ r.spare)

with-passes : {n m : ℕ} → Room no_header n m → (with_gate 0 ones n).number ≡ 0
unfolding with_gate limits_fault zero_with span
with-passes r = simp (le-leb _ _ r.fits)

-- ---- a step

-- only the shifts, kinds 7 to 9, ask for a variable and a number below its limit
abbrev pub in_limit : ℕ → Bool → Bool
in_limit k t = cond (leb 7 k && leb k 9) t true

module _ (ed : ℕ) (s : Step) (a b : Poly) (n m : ℕ) (o : Operand a) (u : Operand b) where
  power-passes : Room (announced (power_family ed s.n) a.head b.head) n m
      → (work_gate (power_family ed s.n) (word_of a.head) (length a.coeffs) n m).number ≡ 0
  unfolding announced
  power-passes r = decide (idle ed s.n) (λ t. rw t (work-passes a o One (rw t at r))) (λ t. rw t (work-passes a o (Power s.n) (rw t at r)))

  gate-passes : (k : ℕ) → Room (announced (get_or (families ed s) k Constant) a.head b.head) n m → in_limit k (ltb s.variable a.head.vars) ≡ true
      → in_limit k (ltb s.n (limit a.head s.variable)) ≡ true → (get_or (gates ed s a b n m) k no_refusal).number ≡ 0
  unfolding families gates announced
  gate-passes =
      by_kind (record {
        k0 = λ r _ _. with-passes r;
        k1 = λ r _ _. one_passes a o Same r;
        k2 = λ r _ _. pair-passes Sum a b o u r;
        k3 = λ r _ _. pair-passes Sum a b o u r;
        k4 = λ r _ _. pair-passes Product a b o u r;
        k5 = λ r _ _. pair-passes Quotient a b o u r;
        k6 = λ r _ _. power-passes r;
        k7 = λ r v d. in-passes a o (Shift s.variable s.n) s.variable s.n r v d;
        k8 = λ r v d. in-passes a o (Shift s.variable s.n) s.variable s.n r v d;
        k9 = λ r v d. in-passes a o (Shift s.variable s.n) s.variable s.n r v d;
        k10 = λ r _ _. pair-passes (Substitution s.variable) a b o u r;
        k11 = λ r _ _. work-passes a o Series r;
        past = λ k r _ _. refl;
      })

-- what the step w works with, its operands' values among vs: n places for the result, m of scratch
pub record StepReady (ed w : ℕ) (vs : List Poly) (n m : ℕ) : Type 0 where
  pub a : Operand (value_at vs (step_of w).a)
  pub b : Operand (value_at vs (step_of w).b)
  pub room : Room (announced (family_of ed (step_of w)) (value_at vs (step_of w).a).head (value_at vs (step_of w).b).head) n m
  pub variable : in_limit (step_of w).kind (ltb (step_of w).variable (value_at vs (step_of w).a).head.vars) ≡ true
  pub number : in_limit (step_of w).kind (ltb (step_of w).n (limit (value_at vs (step_of w).a).head (step_of w).variable)) ≡ true

pub step-passes : (ed w : ℕ) (vs : List Poly) (n m : ℕ) → StepReady ed w vs n m → (step_gate ed w vs n m).number ≡ 0
unfolding step_gate
step-passes ed w vs n m r =
    gate-passes ed (step_of w) (value_at vs (step_of w).a) (value_at vs (step_of w).b) n m r.a r.b (step_of w).kind r.room r.variable r.number
