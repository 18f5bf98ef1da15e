-- A step of any kind but the constant: what it is lent, and that its value is its kind's operation's.
use Rattle.std.specs.Prelude.{ℕ, ◌+◌, ◌-◌, ◌≤◌, ◌<◌, List, [], ◌∷◌, ◌++◌, Bool, true, false, ◌&&◌, not, ◌≡◌, eqb, leb, length, set, Float}
use Rattle.std.proofs.Math.Path.{refl}
use Rattle.std.proofs.Common.{ap, ◌∙◌, arith, le_trans, eqb-true, ne_eqb, leb-true, leb-false}
use Rattle.std.proofs.Math.ListN.{get_or}
use Rattle.std.proofs.lemmas.Bool.{eqb-false, not-true}
use Rattle.lists.specs.Test.{decide, and_left, and_right}
use Rattle.lists.specs.Part.{Kept, kept_set}
use Rattle.model.specs.declared.Header.{Header}
use Rattle.model_recipes.specs.declared.Step.{Step}
use Rattle.model.specs.declared.Family.{Family}
use Rattle.model.specs.declared.Family.TheVariants.{Constant, Power, Series, Substitution}
use Rattle.model.specs.Header.{limit, stored, no_header}
use Rattle.model.specs.Announced.{announced}
use Rattle.model.specs.Refusals.{zeros, padded}
use Rattle.model.specs.Poly.{Poly, poly}
use Rattle.model.specs.Power.{power_poly}
use Rattle.model.specs.Readings.{first}
use Rattle.model.specs.Substitute.{substitute_poly}
use Rattle.model_exponential.specs.Head.{exp_head}
use Rattle.model_exponential.specs.Step.{exponential_poly}
use Rattle.model_recipes.specs.Recipe.{families, family_of}
use Rattle.model_recipes.specs.Run.{operations, no_value}
use Rattle.shape_words.specs.Rules.{Ruled, Good}
use Rattle.shape.specs.Keeps.{Keeps}
use Rattle.shape.specs.Under.{count_under}
use Rattle.shape.specs.Announced.{announced-regular}
use Rattle.laws_keeps.specs.Keeps.{negated-keeps, combined-keeps}
use Rattle.laws_keeps.proofs.ProductKeeps.{product-keeps}
use Rattle.laws_keeps.specs.QuotientKeeps.{quotient-keeps}
use Rattle.laws_keeps.proofs.PowerKeeps.{power-keeps}
use Rattle.laws_keeps.specs.SeriesKeeps.{exp-keeps}
use Rattle.laws_keeps.specs.ShiftKeeps.{derivative-keeps, expansion-keeps, shift_down-keeps}
use Rattle.laws_keeps.proofs.SubstituteKeeps.{substitute-keeps}
use Rattle.shape_operands.specs.Lent.{Lies, Lent, kept_as, kept_then, padded_on}
use Rattle.recipes_singles.specs.Change.{change_family, changed_poly, Changing}
use Rattle.recipes_pairs.specs.Pair.{pair_family, pair_poly, Pairing, pair-sum, pair-product, pair-quotient}
use Rattle.recipes_singles.specs.Power.{Powering}
use Rattle.recipes_singles.specs.Exponential.{Exponential}
use Rattle.shape_operands.specs.Announces.{Announces}

-- the kind's operation in edition 0
unfoldable pub value_of : Step → Poly → Poly → Poly
value_of s a b = get_or (operations 0 s a b) s.kind no_value

-- where the operands with the headers x and y lie
pub record Placed (x : Header) (xi : Bool) (xf : ℕ) (y : Header) (yi : Bool) (yf at mc : ℕ) : Type 0 where
  pub left : Lies x xi xf at mc
  pub right : Lies y yi yf at mc

-- a kind from 1 to 11; the variable and n of a shift, 7 to 9, are tested
pub record Known (s : Step) (x : Header) : Type 0 where
  pub some : 0 < s.kind
  pub most : s.kind ≤ 11
  pub var : 7 ≤ s.kind → s.kind ≤ 9 → s.variable < 4
  pub below : 7 ≤ s.kind → s.kind ≤ 9 → s.n < limit x s.variable

-- x and y the true headers of the operands, and places for what they announce
pub record Ready (s : Step) (x y : Header) (room : ℕ) : Type 0 where
  pub left : Good x
  pub right : Good y
  pub known : Known s x
  pub fits : stored (announced (family_of 0 s) x y) ≤ room

-- h what they announce, n its count
pub record Making (s : Step) (x y h : Header) (n : ℕ) : Type 0 where
  pub left : Good x
  pub right : Good y
  pub known : Known s x
  pub is : h ≡ announced (family_of 0 s) x y
  pub most : stored h ≤ 4096
  pub all : n ≡ stored h

-- ---- kinds

past : {n k : ℕ} → n ≤ k → (k ≡ n → ⊥) → n + 1 ≤ k
past h ne = omega arith

not_last : {n k : ℕ} → k ≤ n + 1 → (k ≡ n + 1 → ⊥) → k ≤ n
not_last h ne = omega arith

-- what holds of 2, 3, 4 and 5
of_pair : (P : ℕ → Type 0) → P 2 → P 3 → P 4 → P 5 → (k : ℕ) → 2 ≤ k → k ≤ 5 → P k
of_pair P p2 p3 p4 p5 k lo hi =
    decide (eqb k 2) (λ e. rw (eqb-true k 2 e) p2)
    (λ n2. decide (eqb k 3) (λ e. rw (eqb-true k 3 e) p3)
    (λ n3. decide (eqb k 4) (λ e. rw (eqb-true k 4 e) p4)
    (λ n4. let e : k ≡ 5 = omega (arith, past (past (past lo (eqb-false k 2 n2)) (eqb-false k 3 n3)) (eqb-false k 4 n4)) in rw e p5)))

-- the test by which a step of two operands is found
abbrev pub pair_test : ℕ → Bool
pair_test k = not (eqb k 1) && leb k 5

pair-low : (k : ℕ) → 0 < k → pair_test k ≡ true → 2 ≤ k
pair-low k some t = omega (arith, eqb-false k 1 (not-true (eqb k 1) (and_left (not (eqb k 1)) (leb k 5) t)))

pair-high : (k : ℕ) → pair_test k ≡ true → k ≤ 5
pair-high k t = leb-true _ _ (and_right (not (eqb k 1)) (leb k 5) t)

-- it is none, nor a power: 1, or above 6
change-high : (k : ℕ) → pair_test k ≡ false → (k ≡ 6 → ⊥) → (k ≡ 1 → ⊥) → 7 ≤ k
change-high k t n6 n1 =
    decide (leb k 5)
    (λ l. absurd (no (rw (ne_eqb k 1 n1, l) at t)))
    (λ l. let h : 6 ≤ k = leb-false _ _ l in past h n6)
  where
    no : true ≡ false → ⊥
    no e = let z : ◌≡◌ {A = ℕ} 0 1 = cc in omega arith

-- what holds of 1, 7, 8 and 9
of-change : (P : ℕ → Type 0) → P 1 → P 7 → P 8 → P 9 → (k : ℕ) → ((k ≡ 1 → ⊥) → 7 ≤ k) → k ≤ 9 → P k
of-change P p1 p7 p8 p9 k lo hi =
    decide (eqb k 1) (λ e. rw (eqb-true k 1 e) p1)
    (λ n1. decide (eqb k 7) (λ e. rw (eqb-true k 7 e) p7)
    (λ n7. decide (eqb k 8) (λ e. rw (eqb-true k 8 e) p8)
    (λ n8. let e : k ≡ 9 = omega (arith, past (past (lo (eqb-false k 1 n1)) (eqb-false k 7 n7)) (eqb-false k 8 n8)) in rw e p9)))

-- what holds of 1 to 11
of_any : (P : ℕ → Type 0) → P 1 → P 2 → P 3 → P 4 → P 5 → P 6 → P 7 → P 8 → P 9 → P 10 → P 11 → (k : ℕ) → 0 < k → k ≤ 11 → P k
of_any P p1 p2 p3 p4 p5 p6 p7 p8 p9 p10 p11 k lo hi =
    decide (eqb k 6) (λ e. rw (eqb-true k 6 e) p6)
    (λ n6. decide (eqb k 10) (λ e. rw (eqb-true k 10 e) p10)
    (λ n10. decide (eqb k 11) (λ e. rw (eqb-true k 11 e) p11)
    (λ n11. decide (pair_test k)
    (λ t. of_pair P p2 p3 p4 p5 k (pair-low k lo t) (pair-high k t))
    (λ t. of-change P p1 p7 p8 p9 k (change-high k t (eqb-false k 6 n6))
    (not_last (not_last hi (eqb-false k 11 n11)) (eqb-false k 10 n10))))))

-- ---- each kind

module _ {s : Step} {x y h : Header} {n : ℕ} (g : Making s x y h n) where
  module _ (e : s.kind ≡ 6) where
    power-is : announced (family_of 0 s) x y ≡ announced (Power s.n) x no_header
    unfolding announced families
    power-is = rw e

    pub to-power : Powering s.n x h n
    to-power = record { left = g.left; is = g.is ∙ power-is; most = g.most; all = g.all }

    pub power-value : (a b : Poly) → power_poly s.n a ≡ value_of s a b
    unfolding value_of operations
    power-value a b = rw e

  module _ (e : s.kind ≡ 10) where
    substitute-is : announced (family_of 0 s) x y ≡ announced (Substitution s.variable) x y
    unfolding families
    substitute-is = rw e

    pub to-substitute : Announces (Substitution s.variable) x y h n
    to-substitute = record { left = g.left; right = g.right; is = g.is ∙ substitute-is; most = g.most; all = g.all }

    pub substitute-value : (a b : Poly) → substitute_poly s.variable a b ≡ value_of s a b
    unfolding value_of operations
    substitute-value a b = rw e

  module _ (e : s.kind ≡ 11) where
    exponential-is : announced (family_of 0 s) x y ≡ announced Series x no_header
    unfolding announced families
    exponential-is = rw e

    pub to_exponential : Exponential x h n
    to_exponential = record { left = g.left; is = g.is ∙ exponential-is; most = g.most; all = g.all }

    pub exponential-value : (a b : Poly) → exponential_poly a ≡ value_of s a b
    unfolding value_of operations
    exponential-value a b = rw e

  module _ (t : pair_test s.kind ≡ true) where
    pair_is : family_of 0 s ≡ pair_family s.kind
    unfolding families
    pair_is =
        of_pair (λ k. get_or (families 0 s) k Constant ≡ pair_family k) refl refl refl refl s.kind
        (pair-low s.kind g.known.some t) (pair-high s.kind t)

    pub to-pair : Pairing s.kind x y h n
    to-pair = record { left = g.left; right = g.right; is = g.is ∙ ap (λ (f : Family). announced f x y) pair_is; most = g.most; all = g.all }

    pub pair-value : (a b : Poly) → pair_poly s.kind a b ≡ value_of s a b
    unfolding value_of operations
    pair-value a b =
        of_pair (λ k. pair_poly k a b ≡ get_or (operations 0 s a b) k no_value)
        (pair-sum 2 a b (omega arith))
        (pair-sum 3 a b (omega arith))
        (pair-product 4 a b (omega arith) refl)
        (pair-quotient 5 a b (omega arith) (λ z. omega arith))
        s.kind (pair-low s.kind g.known.some t) (pair-high s.kind t)

  module _ (n6 : s.kind ≡ 6 → ⊥) (t : pair_test s.kind ≡ false) (n10 : s.kind ≡ 10 → ⊥) (n11 : s.kind ≡ 11 → ⊥) where
    high : (s.kind ≡ 1 → ⊥) → 7 ≤ s.kind
    high = change-high s.kind t n6

    low : s.kind ≤ 9
    low = not_last (not_last g.known.most n11) n10

    change-is : announced (family_of 0 s) x y ≡ announced (change_family s.kind s.variable s.n) x no_header
    unfolding announced families
    change-is =
        of-change (λ k. announced (get_or (families 0 s) k Constant) x y
        ≡ announced (change_family k s.variable s.n) x no_header) refl refl refl refl s.kind high low

    pub to-change : Changing s.kind s.variable s.n x h (stored x) n
    to-change = record {
      regular = g.left.regular;
      is = g.is ∙ change-is;
      var = λ n1. g.known.var (high n1) low;
      below = λ n1. g.known.below (high n1) low;
      full = refl;
      room = g.all;
    }

    pub change-value : (a b : Poly) → changed_poly s.kind s.variable s.n a ≡ value_of s a b
    unfolding value_of operations changed_poly
    change-value a b = of-change (λ k. changed_poly k s.variable s.n a ≡ get_or (operations 0 s a b) k no_value) refl refl refl refl s.kind high low

  -- ---- what the value owes

  module _ (a b : List Float) (la : length a ≡ stored x) where
    value_keeps : Keeps h (value_of s (poly x a) (poly y b))
    unfolding value_of operations families announced exponential_poly
    value_keeps =
        let gx = g.left.regular in
        let gy = g.right.regular in
        let p : Poly = poly x a in
        let q : Poly = poly y b in
        rw g.is (of_any (λ k. Keeps (announced (get_or (families 0 s) k Constant) x y) (get_or (operations 0 s p q) k no_value))
        (negated-keeps p gx)
        (combined-keeps p q gx gy false)
        (combined-keeps p q gx gy true)
        (product-keeps p q gx gy)
        (quotient-keeps p q gx gy)
        (power-keeps s.n p gx la)
        (derivative-keeps s.variable s.n p gx)
        (expansion-keeps s.variable s.n p gx)
        (shift_down-keeps s.variable s.n p gx)
        (substitute-keeps s.variable p q gx gy la)
        (exp-keeps (exp_head (first a)) p gx)
        s.kind g.known.some g.known.most)

    pub value_ruled : Ruled (value_of s (poly x a) (poly y b)).head
    value_ruled = value_keeps.regular.rules

    -- the places up to the announced count of the step are cleared
    pub value-padded : {at room : ℕ} {w w' w'' : List Float} → n ≤ room → Kept at (at + n) (padded n (value_of s (poly x a) (poly y b)).coeffs) w w'
        → Kept (at + n) (at + room) (zeros ((at + room) - (at + n))) w' w'' → Kept at (at + room) (padded room (value_of s (poly x a) (poly y b)).coeffs) w w''
    value-padded {at} {room} less p q =
        let v : List Float = (value_of s (poly x a) (poly y b)).coeffs in
        let few : length v ≤ n = omega (arith, value_keeps.full, count_under value_keeps.under, g.all) in
        let e : (at + room) - (at + n) ≡ room - n = omega arith in
        kept_as (ap (λ (k : ℕ). padded n v ++ zeros k) e ∙ padded_on n room v few less) (kept_then p q (omega arith) (omega arith))

-- what `perform` hands on
module _ {s : Step} {x y : Header} {room at mp ms : ℕ} (r : Ready s x y room) (l : Lent room at mp ms) where
  pub making : {h : Header} {n : ℕ} → h ≡ announced (family_of 0 s) x y → n ≡ stored h → Making s x y h n
  making e k = record { left = r.left; right = r.right; known = r.known; is = e; most = rw e (le_trans r.fits l.small); all = k }

  pub announced-fits : {h : Header} {n : ℕ} → h ≡ announced (family_of 0 s) x y → n ≡ stored h → n ≤ room
  announced-fits e k = rw (k, e) r.fits

  pub lent_fewer : {n : ℕ} → n ≤ room → Lent n at mp ms
  lent_fewer k = record { room = omega (arith, l.room); spare = omega (arith, l.spare); small = omega (arith, l.small) }

  pub announced_ruled : Ruled (announced (family_of 0 s) x y)
  announced_ruled = (announced-regular (family_of 0 s) r.left.regular r.right.regular).rules

-- ---- a constant, and +0.0 after it
pub constant-kept : (at room : ℕ) (w : List Float) (v : Float) {w' : List Float} → 1 ≤ room → at + room ≤ length w
    → Kept (at + 1) (at + room) (zeros ((at + room) - (at + 1))) (set w at v) w'
    → Kept at (at + room) (padded room (v ∷ [])) w w'
constant-kept at room w v some fits q =
    let e : (at + room) - (at + 1) ≡ room - 1 = omega arith in
    kept_as (ap (λ (k : ℕ). (v ∷ []) ++ zeros k) e) (kept_then (kept_set w at v (omega arith)) q (omega arith) (omega arith))
