-- Operands where they lie, and the result in a part of a buffer, which holds the running value of Horner's rule.
use Rattle.std.specs.Prelude.{ℕ, suc, ◌+◌, ◌-◌, ◌*◌, ◌≤◌, ◌<◌, List, ◌++◌, ◌≡◌, refl, true, false, cond, eqb, length, take, drop, set, Float}
use Rattle.std.proofs.Common.{sym, ap, ◌∙◌, arith}
use borrow.Author.Tests.{eq-eqb, ne_eqb, eqb-true, eqb-false}
use Rattle.lists.specs.Test.{decide}
use Rattle.lists.specs.Four.{at as length_at}
use Rattle.lists.specs.Table.{table}
use Rattle.lists.specs.Part.{part, length_part, below_then, Kept}
use Rattle.model.specs.declared.Header.{Header}
use Rattle.substitution_way.specs.declared.Way.{Way}
use Rattle.model.specs.declared.Family.TheVariants.{Substitution}
use Rattle.model.specs.Header.{count, stored, with_lengths}
use Rattle.model.specs.Places.{index}
use Rattle.model.specs.Limits.{cut_to}
use Rattle.model.specs.Refusals.{zero_f, zeros, padded}
use Rattle.model.specs.Poly.{Poly, poly, Block, block, poly_of, read_at}
use Rattle.model.specs.Product.{is_zero, constant_block}
use Rattle.model.specs.Substitute.{row_at, powered, horner, substitute_poly}
use Rattle.shape_words.specs.Lengths.{Lengths}
use Rattle.product.specs.Room.{Stands}
use Rattle.substitution_way.specs.Way.{kind_of, line_of, way_of, put_for}
use Rattle.substitution.specs.Room.{row_of, Given, Puts, Cuts, turns, Hornering}
use Rattle.substitution_turn.specs.Room.{turn_of, Turned}
use Rattle.substitution_way.specs.Ways.{lacks, value_0, has_1, value_1, has_2, line_2, value_2, has_3, some_3, value_3}
use Rattle.substitution.specs.Sizes.{row-cuts, line-cuts}
use Rattle.substitution.specs.Horner.{Runs, value_in, put_in, runs_end, runs-next}
use Rattle.substitution.specs.Entry.{given-same, given-puts, poly-is, into-lens, into-full, into-small}
use Rattle.shape_operands.specs.declared.Operand.{Operand}
use Rattle.shape_operands.specs.Lent.{kept_as, kept-over}
use Rattle.shape_operands.specs.Apart.{kept-apart}
use Rattle.shape_operands.specs.Operand.{taken, AsideAt}
use Rattle.shape_operands.specs.Announces.{Announces}

pub substituting-given : {v : ℕ} {x y h : Header} {n mw : ℕ} → Announces (Substitution v) x y h n → mw ≡ 8 * n → Given x y h v n (stored x) (stored y) n mw
substituting-given g e =
    record {
      left = g.left.regular;
      right = g.right.regular;
      is = g.is;
      all = g.all;
      full_a = refl;
      full_b = refl;
      out = refl;
      work = e;
    }

-- ---- the ways that ask the polynomial alone

unfoldable pub plain_of : Way → List ℕ → ℕ → Block → Block
plain_of w l v a = cond (eqb (kind_of w) 0) a (cond (eqb (kind_of w) 1) (row_at l v a 0) (powered l v a (line_of w).m))

pub record Plain (w : Way) (la l : List ℕ) (v ma mo : ℕ) : Type 0 where
  pub low : kind_of w ≤ 2
  pub same : kind_of w ≡ 0 → mo ≡ ma
  pub row : kind_of w ≡ 1 → Cuts la (row_of l v la) v ma mo
  pub line : (kind_of w ≡ 0 → ⊥) → (kind_of w ≡ 1 → ⊥) → Cuts la (cut_to l la) v ma mo

module _ (w : Way) (l : List ℕ) (v : ℕ) (a : Block) where
  pub plain_0 : kind_of w ≡ 0 → plain_of w l v a ≡ a
  unfolding plain_of
  plain_0 h = rw (eq-eqb _ _ h)

  pub plain_1 : kind_of w ≡ 1 → plain_of w l v a ≡ row_at l v a 0
  unfolding plain_of
  plain_1 h = rw h

  pub plain_2 : (kind_of w ≡ 0 → ⊥) → (kind_of w ≡ 1 → ⊥) → plain_of w l v a ≡ powered l v a (line_of w).m
  unfolding plain_of
  plain_2 h i = rw (ne_eqb _ _ h, ne_eqb _ _ i)

is_2 : {k : ℕ} → k ≤ 2 → (k ≡ 0 → ⊥) → (k ≡ 1 → ⊥) → k ≡ 2
is_2 {k} h i j = omega arith

-- what the chosen way makes, and that it has room
module _ {x y h : Header} {v n mw : ℕ} (g : Given x y h v n (stored x) (stored y) n mw) (a b : List Float) {w : Way}
    (e : w ≡ way_of x.vars v (block y.lengths b)) (low : kind_of w ≤ 2) where
  abbrev A : Block
  A = block x.lengths a

  abbrev B : Block
  B = block y.lengths b

  pub plain-is : plain_of w h.limits v A ≡ put_for x.vars h.limits v A B
  plain-is =
      decide (eqb (kind_of w) 0)
      (λ t. let z = eqb-true _ _ t in plain_0 w h.limits v A z ∙ sym (value_0 x.vars v h.limits A B e z))
      (λ t. decide (eqb (kind_of w) 1)
      (λ u. let z = eqb-true _ _ u in plain_1 w h.limits v A z ∙ sym (value_1 x.vars v h.limits A B e z))
      (λ u. let i = eqb-false _ _ t in let j = eqb-false _ _ u in plain_2 w h.limits v A i j ∙ sym (value_2 x.vars v h.limits A B e (is_2 low i j))))

  pub plain-room : {mo : ℕ} → mo ≡ n → Plain w x.lengths h.limits v (stored x) mo
  plain-room p = rw p (record {
    low = low;
    same = λ z. given-same g (lacks x.vars v h.limits A B e z);
    row = λ z. row-cuts (given-puts g (has_1 x.vars v h.limits A B e z));
    line = λ i j. let z = is_2 low i j in
        line-cuts (given-puts g (has_2 x.vars v h.limits A B e z)) a b (line_of w).m
        (line_2 x.vars v h.limits A B e z);
  })

-- Horner's rule
module _ {x y h : Header} {v n mw : ℕ} (g : Given x y h v n (stored x) (stored y) n mw) (a b : List Float) {w : Way}
    (e : w ≡ way_of x.vars v (block y.lengths b)) (high : 2 < kind_of w) where
  none_0 : kind_of w ≡ 0 → ⊥
  none_0 z = omega (arith, z, high)

  none_1 : kind_of w ≡ 1 → ⊥
  none_1 z = omega (arith, z, high)

  none_2 : kind_of w ≡ 2 → ⊥
  none_2 z = omega (arith, z, high)

  pub horner-puts : Puts x.lengths y.lengths h.limits v n (stored x) (stored y) n mw
  horner-puts = given-puts g (has_3 x.vars v h.limits (block x.lengths a) (block y.lengths b) e none_0 none_1 none_2)

  pub horner-some : is_zero (block y.lengths b) ≡ false
  horner-some = some_3 x.vars v h.limits (block x.lengths a) (block y.lengths b) e none_0 none_1 none_2

  pub horner-is : horner h.limits v (block x.lengths a) (length_at x.lengths v) (block y.lengths b)
      (constant_block zero_f) ≡ put_for x.vars h.limits v (block x.lengths a) (block y.lengths b)
  horner-is = sym (value_3 x.vars v h.limits (block x.lengths a) (block y.lengths b) e none_0 none_1 none_2)

-- ---- a part of the buffer

-- the block p was written to the front of the n places from `at` on, all else is as it was
pub record Wrote (at n : ℕ) (p : Block) (w w' : List Float) (r : List ℕ) : Type 0 where
  pub stays : Kept at (at + n) (part at (at + n) w') w w'
  pub stands : Stands p (part at (at + n) w') r

pub wrote_of : {at n : ℕ} {p : Block} {w w' o : List Float} {r : List ℕ} → Kept at (at + n) o w w' → Stands p o r → Wrote at n p w w' r
wrote_of k s = record { stays = kept_as (sym k.holds) k; stands = rw k.holds s }

pub wrote-same : {at n : ℕ} {p q : Block} {w w' : List Float} {r : List ℕ} → p ≡ q → Wrote at n p w w' r → Wrote at n q w w' r
wrote-same e s = rw e at s

-- written again
pub kept_again : {at e : ℕ} {xs ys w w' w'' : List Float} → Kept at e xs w w' → Kept at e ys w' w'' → Kept at e ys w w''
kept_again p q = record { below = below_then p.below q.below; holds = q.holds; above = q.above ∙ p.above }

-- the header of what was written, and +0.0 after it
module _ (h : Header) {m : Block} {v : Poly} (e : poly_of h m ≡ v) {at n : ℕ} {p p' : List Float} {r : List ℕ} (s : Wrote at n m p p' r) where
  pub wrote-head : with_lengths h r ≡ v.head
  wrote-head = rw s.stands.lengths (ap (λ (q : Poly). q.head) e)

  pub wrote-padded : {c : ℕ} {p'' : List Float} → c ≡ length m.places → c ≤ n
      → Kept (at + c) (at + n) (zeros ((at + n) - (at + c))) p' p'' → Kept at (at + n) (padded n v.coeffs) p p''
  wrote-padded {c} l less last =
      let o : List Float = part at (at + n) p' in
      let i : at + c - at ≡ c = omega arith in
      let j : (at + n) - (at + c) ≡ n - length m.places = omega arith in
      let eq : take (at + c - at) o ++ zeros ((at + n) - (at + c)) ≡ padded n v.coeffs =
      ap (λ (k : ℕ). take k o ++ zeros ((at + n) - (at + c))) (i ∙ l)
      ∙ (ap (λ (t : List Float). t ++ zeros ((at + n) - (at + c))) s.stands.front
      ∙ (ap (λ (k : ℕ). m.places ++ zeros k) j ∙ ap (λ (q : Poly). padded n q.coeffs) e)) in
      kept_as eq (kept-over s.stays last (omega arith) (omega arith))

-- ---- an operand, while the part is written

-- one that is given is the same, whatever lies there
pub given-operand : (p : Operand) (given m m' : List Float) → p.input ≡ true → (taken p given m').coeffs ≡ (taken p given m).coeffs
given-operand p given m m' e = rw e

-- and so is one that does not overlap the part
pub same_operand : (p : Operand) (given : List Float) {at n mg mp : ℕ} {xs m m' : List Float} → AsideAt p at n mg mp → Kept at (at + n) xs m m'
    → (taken p given m').coeffs ≡ (taken p given m).coeffs
same_operand p given {m = m} {m' = m'} a k =
    decide p.input (λ e. given-operand p given m m' e)
    (λ e.
    let z : p.from + stored p.head - p.from ≡ stored p.head = omega arith in
    let q : part p.from (p.from + stored p.head) m' ≡ part p.from (p.from + stored p.head) m = kept-apart (a.aside.apart e) k in
    rw e (ap (λ (j : ℕ). take j (drop p.from m')) (sym z) ∙ (q ∙ ap (λ (j : ℕ). take j (drop p.from m)) z)))

-- ---- Horner's rule, whose running value stands in that part: u was the buffer, w is it

pub record RunsTo (la : List ℕ) (v : ℕ) (a : List Float) (k : ℕ) (r b c l : List ℕ) (n ma : ℕ) (p : Block) (at : ℕ) (u w work : List Float) : Type 0 where
  pub runs : Runs la v a k r b c l n ma p (part at (at + n) w) work
  pub stays : Kept at (at + n) (part at (at + n) w) u w

-- the length of the part
part-long : (at n : ℕ) (w : List Float) → at + n ≤ length w → length (part at (at + n) w) ≡ n
part-long at n w h = length_part at (at + n) w (omega arith) h ∙ omega arith

pub runs-first : {la : List ℕ} {v : ℕ} (a : List Float) {k : ℕ} {r b c l : List ℕ} {n ma at : ℕ} (w work : List Float)
    → Hornering la v k r b c l n ma n (length work)
    → take (count r) (part at (at + n) w) ≡ part n (n + count r) work → at + n ≤ length w
    → RunsTo la v a k r b c l n ma (turns l v (block la a) k (put_in b work) (value_in n r work)) at w w work
runs-first a {n = n} {at = at} w work g f h = record {
  runs = record { room = rw (part-long at n w h) g; front = f; rest = refl };
  stays = record { below = record { len = refl; head = refl }; holds = refl; above = refl };
}

module _ {la : List ℕ} {v : ℕ} {a : List Float} {k : ℕ} {r b c l : List ℕ} {n ma : ℕ} {p : Block} {at : ℕ}
    {u w work : List Float} (s : RunsTo la v a k r b c l n ma p at u w work) where
  pub to_end : k ≤ 0 → Wrote at n p u w r
  to_end h = record { stays = s.stays; stands = runs_end s.runs h }

  pub to-less : (m : ℕ) → k ≡ suc m → RunsTo la v a (suc m) r b c l n ma p at u w work
  to-less m e = rw e at s

pub to-next : {la : List ℕ} {v : ℕ} {a : List Float} {k : ℕ} {r b c l : List ℕ} {n ma : ℕ} {p : Block} {at : ℕ}
    {u w work : List Float} → RunsTo la v a (suc k) r b c l n ma p at u w work
    → {a' work1 : List Float} → a' ≡ a → Kept (2 * n) (2 * n + count c) (table (count c) (λ q. read_at (block la a') (set (index c q) v k))) work work1
    → {x : List ℕ} {o w' work2 : List Float} → Turned (turn_of l n r b c work1) n work1 work2 o x
    → length o ≡ length (part at (at + n) w) → Kept at (at + n) o w w'
    → RunsTo la v a k x b c l n ma p at u w' work2
to-next s ea k1 t lo q =
    let k2 = rw ea at k1 in
    record { runs = rw q.holds (runs-next s.runs k2 t lo); stays = kept_as (sym q.holds) (kept_again s.stays q) }

-- the turns after the first make the whole p of what was written before
pub turns_wrote : {q q' p : Block} {at n : ℕ} {xs u w w' : List Float} {r : List ℕ} → q' ≡ q → Kept at (at + n) xs u w
    → Wrote at n q' w w' r → (Stands q (part at (at + n) w') r → Stands p (part at (at + n) w') r) → Wrote at n p u w' r
turns_wrote e k s f = let t = rw e at s in record { stays = kept_again k t.stays; stands = f t.stands }

-- ---- the value of operands with the coefficients a and b

module _ {v : ℕ} {x y h : Header} {n : ℕ} (g : Announces (Substitution v) x y h n) (a b : List Float) (la : length a ≡ stored x) where
  abbrev made : Block
  made = put_for x.vars h.limits v (block x.lengths a) (block y.lengths b)

  given : Given x y h v n (stored x) (stored y) n (8 * n)
  given = substituting-given g refl

  module _ {at : ℕ} {p p' : List Float} {r : List ℕ} (s : Wrote at n made p p' r) where
    pub value-lengths : Lengths r
    value-lengths = into-lens given a b la s.stands

    pub value_count_lem : {c : ℕ} → c ≡ count r → c ≤ n
    value_count_lem e = into-small given a b la s.stands e

    pub value-head : with_lengths h r ≡ (substitute_poly v (poly x a) (poly y b)).head
    value-head = wrote-head h (sym (poly-is v x y a b g.is)) s

    pub value-kept : {c : ℕ} {p'' : List Float} → c ≡ count r
        → Kept (at + c) (at + n) (zeros ((at + n) - (at + c))) p' p''
        → Kept at (at + n) (padded n (substitute_poly v (poly x a) (poly y b)).coeffs) p p''
    value-kept ec last = wrote-padded h (sym (poly-is v x y a b g.is)) s (into-full given a b la s.stands ec) (value_count_lem ec) last
