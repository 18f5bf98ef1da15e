-- Where the values of a run's places stand: an input's among the coefficients, a step's in the pool, each from its
-- start on.
use Rattle.std.specs.Prelude.{ℕ, zero, suc, ◌+◌, ◌-◌, ◌*◌, ◌^◌, ◌≤◌, ◌<◌, Bool, true, false, List, [], ◌∷◌, ◌++◌}
use Rattle.std.specs.Prelude.{map, ◌≡◌, refl, ltb, eqb, length, get_or, set, take, drop, Float}
use Rattle.std.proofs.Common.{sym, ap, ◌∙◌, arith, add-one, length-append, length-drop, length-set, take_at}
use Rattle.std.proofs.Common.{take-take, drop_at, drop-drop, length-take-le, get_or-drop, get_or-take}
use Rattle.std.proofs.Common.{get_or-set_same, get_or-set_other, take-suc, eqb-true}
use Rattle.std.proofs.lemmas.List.{length-map}
use Rattle.std.proofs.Math.ListN.{get_or-append}
use Rattle.std.specs.Float.Ieee.{of_int, of_bits}
use Rattle.std.proofs.lemmas.Bool.{eqb-false}
use Rattle.lists.specs.Test.{decide, and_left, and_right}
use Rattle.lists.specs.Part.{Kept, drop-take}
use Rattle.model.specs.declared.Header.{Header}
use Rattle.model_recipes.specs.declared.Step.{Step}
use Rattle.model.specs.Header.{stored, no_header, span}
use Rattle.model.specs.Announced.{announced}
use Rattle.model.specs.Word.{header_of}
use Rattle.model.specs.Refusals.{zeros, padded}
use Rattle.model.specs.Constructed.{constant, whole_f}
use Rattle.model.specs.Poly.{Poly, poly}
use Rattle.model.specs.Readings.{one_f}
use Rattle.model_recipes.specs.Kinds.{idle, one_like}
use Rattle.model_recipes.specs.Recipe.{families, family_of, input_heads, head_at, total}
use Rattle.model_recipes.specs.Run.{input_values, operations, no_value, value_at}
use Rattle.shape_words.specs.Lengths.{lengths_of_lem, count_most}
use Rattle.recipes_kinds.specs.Known.{Known, head_at_lem}
use Rattle.recipes_check.specs.Counts.{word_ruled}
use Rattle.shape_operands.specs.Lent.{source, lying, Lies, length-source}
use Rattle.recipes_laws.specs.Editions.{idle_step, same-family, same-value, idle-value}
use Rattle.recipes_steps.specs.Ready.{value_of, Placed, Ready}

-- the kind's operation in the edition e
unfoldable pub value_in : ℕ → Step → Poly → Poly → Poly
value_in e s a b = get_or (operations e s a b) s.kind no_value

-- it is edition 0's, but for a power of zero
pub plain_value : (e : ℕ) (s : Step) (a b : Poly) → idle_step e s ≡ false → value_of s a b ≡ value_in e s a b
unfolding value_of value_in
plain_value e s a b t = sym (same-value e s a b t)

-- 1 is one
pub one_float : whole_f 1 ≡ one_f
unfolding of_int of_bits
one_float = refl

pub one_value : (e : ℕ) (s : Step) (a b : Poly) → idle_step e s ≡ true → one_like a ≡ value_in e s a b
unfolding value_in
one_value e s a b t = sym (idle-value e s a b t)

zero-fits : (e : ℕ) (s : Step) (x y : Header) {room : ℕ} → idle_step e s ≡ true → 1 ≤ room → stored (announced (family_of 0 s) x y) ≤ room
unfolding families announced span
zero-fits e s x y t o =
    let k : s.kind ≡ 6 = eqb-true s.kind 6 (and_left (eqb s.kind 6) (idle e s.n) t) in
    let n : eqb s.n 0 ≡ true = and_right (eqb e 1) (eqb s.n 0) (and_right (eqb s.kind 6) (idle e s.n) t) in
    rw (k, n) o

-- where what a step announces fits, what it announces in edition 0 does
pub plain_fits : (e : ℕ) (s : Step) (x y : Header) {room : ℕ} → 1 ≤ room → stored (announced (family_of e s) x y) ≤ room
    → stored (announced (family_of 0 s) x y) ≤ room
plain_fits e s x y {room} o f = decide (idle_step e s) (λ t. zero-fits e s x y t o) (λ t. rw (← same-family e s t) f)

-- the value of the place q, by its word and its start; k inputs
abbrev pub lying_at : ℕ → List ℕ → List ℕ → List Float → List Float → ℕ → Poly
lying_at k known starts cs before q = lying (ltb q k) cs before (get_or starts q 0) (header_of (get_or known q 0))

-- what a step other than a constant needs
pub record Named (s : Step) (k : ℕ) (known starts : List ℕ) (mc at room : ℕ) : Type 0 where
  pub a_known : s.a < length known
  pub a_starts : s.a < length starts
  pub b_known : s.b < length known
  pub b_starts : s.b < length starts
  pub ready : Ready s (header_of (get_or known s.a 0)) (header_of (get_or known s.b 0)) room
  pub placed : Placed (header_of (get_or known s.a 0)) (ltb s.a k) (get_or starts s.a 0)
      (header_of (get_or known s.b 0)) (ltb s.b k) (get_or starts s.b 0) at mc

pub record StepIn (s : Step) (k : ℕ) (known starts : List ℕ) (mc at room : ℕ) : Type 0 where
  pub some : 1 ≤ room
  pub named : (s.kind ≡ 0 → ⊥) → Named s k known starts mc at room

-- a constant asks for no operand
pub plain-constant : (s : Step) (a b : Poly) → s.kind ≡ 0 → constant no_header (whole_f s.n) ≡ value_of s a b
unfolding value_of operations
plain-constant s a b z = rw z

pub constant-value : (e : ℕ) (s : Step) (a b : Poly) → s.kind ≡ 0 → constant no_header (whole_f s.n) ≡ value_in e s a b
unfolding value_in operations
constant-value e s a b z = rw z

-- ---- the starts of the inputs

-- the first i of them were written
pub record Begun (hs : List ℕ) (i : ℕ) (old starts : List ℕ) : Type 0 where
  pub len : length starts ≡ length old
  pub from : (q : ℕ) → q < i → get_or starts q 0 ≡ total (take q (input_heads hs))

pub begun-none : {hs old : List ℕ} → Begun hs 0 old old
begun-none = record { len = refl; from = λ q l. absurd (omega arith) }

pub begun_more : {hs old starts : List ℕ} {i f : ℕ} → Begun hs i old starts → f ≡ total (take i (input_heads hs))
    → i < length old → Begun hs (i + 1) old (set starts i f)
begun_more {hs} {old} {starts} {i} {f} b e l =
    record {
      len = length-set starts i f ∙ b.len;
      from = λ q h. decide (eqb q i)
          (λ t. let z : q ≡ i = eqb-true q i t in rw z (get_or-set_same starts i f 0 (omega (arith, b.len)) ∙ e))
          (λ t. get_or-set_other starts i q f 0 (eqb-false q i t) ∙ b.from q (omega (arith, eqb-false q i t)));
    }

total_append : (xs : List Header) (h : Header) → total (xs ++ (h ∷ [])) ≡ total xs + stored h
unfolding total
total_append [] h = omega arith
total_append (x ∷ xs) h = omega (arith, total_append xs h)

-- one place more
pub total-more : (known : List Header) (i : ℕ) → i < length known → total (take (suc i) known) ≡ total (take i known) + stored (head_at known i)
total-more known i l = ap total (take-suc known i no_header l) ∙ total_append (take i known) (head_at known i)

-- after i inputs, the next begins at f
pub record Starting (hs old starts : List ℕ) (f i : ℕ) : Type 0 where
  pub begun : Begun hs i old starts
  pub is : f ≡ total (take i (input_heads hs))
  pub most : i ≤ length hs
  pub small : f ≤ 16777216 * i

pub starting-none : {hs old : List ℕ} → Starting hs old old 0 0
unfolding total
starting-none = record { begun = begun-none; is = refl; most = omega arith; small = omega arith }

module _ {hs old starts : List ℕ} {f i : ℕ} (s : Starting hs old starts f i) (g : Known (input_heads hs)) {n : ℕ} (e : n ≡ stored
    (header_of (get_or hs i 0))) where
  pub starting-fits : length hs ≤ 64 → f + n < 2 ^ 64
  starting-fits m = omega (arith, s.small, s.most, count_most (lengths_of_lem (word_ruled hs g i)))

  pub starting-more : i < length hs → length hs ≤ length old → Starting hs old (set starts i f) (f + n) (i + 1)
  starting-more l m =
      let h : head_at (input_heads hs) i ≡ header_of (get_or hs i 0) = head_at_lem hs i in
      record {
        begun = begun_more s.begun s.is (omega arith);
        is = rw (add-one i) (omega (arith, s.is, total-more (input_heads hs) i (omega (arith, length-map hs header_of)), ap stored h));
        most = omega arith;
        small = omega (arith, s.small, count_most (lengths_of_lem (word_ruled hs g i)));
      }

-- ---- where each value begins

-- is: what the inputs announce; js: what the steps do
pub record Placing (is js : List Header) (starts : List ℕ) : Type 0 where
  pub many : length is + length js ≤ length starts
  pub inputs : (q : ℕ) → q < length is → get_or starts q 0 ≡ total (take q is)
  pub steps : (j : ℕ) → j < length js → get_or starts (length is + j) 0 ≡ total (take j js)

get_d_past : (xs ys : List ℕ) {k : ℕ} → length xs ≡ k → (j : ℕ) → get_or (xs ++ ys) (k + j) 0 ≡ get_or ys j 0
get_d_past xs ys {k} e j = sym (get_or-drop k (xs ++ ys) j 0) ∙ ap (λ (z : List ℕ). get_or z j 0) (drop_at xs ys k e)

-- the inputs' starts, then the steps' in the part from k on; rest: what lies behind that
pub placed-both : {hs ws old front mid back : List ℕ} (rest : List ℕ) → Begun hs (length hs) old front → length hs ≤ length front
    → Begun ws (length ws) mid back → length ws ≤ length mid → Placing (input_heads hs) (map header_of ws) (take (length hs) front ++ (back ++ rest))
placed-both {hs} {ws} {front = front} {back = back} rest b l d m =
    let n : length (input_heads hs) ≡ length hs = length-map hs header_of in
    let j : length (map header_of ws) ≡ length ws = length-map ws header_of in
    let f : length (take (length hs) front) ≡ length hs = length-take-le (length hs) front l in
    record {
      many = omega (arith, n, j, f, length-append (take (length hs) front) (back ++ rest), length-append back rest, d.len);
      inputs = λ q h.
          let p : q < length hs = omega (arith, n) in
          get_or-append (take (length hs) front) (back ++ rest) 0 q (omega (arith, f)) ∙ (get_or-take (length hs) front q 0 p ∙ b.from q p);
      steps = λ i h.
          let p : i < length ws = omega (arith, j) in
          rw n (get_d_past (take (length hs) front) (back ++ rest) f i ∙ (get_or-append back rest 0 i (omega (arith, d.len)) ∙ d.from i p));
    }

-- ---- values where they stand

pub record At (input : Bool) (from : ℕ) (cs before : List Float) (v : Poly) : Type 0 where
  pub ends : from + stored v.head ≤ length (source input cs before)
  pub holds : v.coeffs ≡ take (stored v.head) (drop from (source input cs before))

pub at-lying : {input : Bool} {from : ℕ} {cs before : List Float} {v : Poly} → At input from cs before v → lying input cs before from v.head ≡ v
at-lying {v = v} a = ap (poly v.head) (sym a.holds)

pub at_lies : {input : Bool} {from at : ℕ} {cs before : List Float} {v : Poly} → At input from cs before v
    → length before ≡ at → Lies v.head input from at (length cs)
at_lies {input} {cs = cs} {before} a e = record { ends = rw (← e, ← length-source input cs before) a.ends }

front-part : {A : Type 0} (f c n : ℕ) (l : List A) → f + c ≤ n → take c (drop f (take n l)) ≡ take c (drop f l)
front-part f c n l h =
    let e : n ≡ f + (n - f) = omega arith in
    ap (λ (z : ℕ). take c (drop f (take z l))) e ∙ (ap (take c) (drop-take f (n - f) l) ∙ take-take c (n - f) (drop f l) (omega arith))

-- what stands stays, where the pool grows behind it
pub at_later : (input : Bool) {from n : ℕ} {cs before after : List Float} {v : Poly} → At input from cs before v
    → length before ≡ n → take n after ≡ before → n ≤ length after → At input from cs after v
at_later true a e f l = record { ends = a.ends; holds = a.holds }
at_later false {from} {n} {after = after} {v = v} a e f l =
    record {
      ends = omega (arith, a.ends);
      holds =
          a.holds ∙ (ap (λ (z : List Float). take (stored v.head) (drop from z)) (sym f)
          ∙ front-part from (stored v.head) n after (omega (arith, a.ends)));
    }

-- the value that was written last
pub at_new : {at room : ℕ} (cs : List Float) {w w' : List Float} {v : Poly}
    → Kept at (at + room) (padded room v.coeffs) w w' → length v.coeffs ≡ stored v.head
    → stored v.head ≤ room
    → at + room ≤ length w' → At false at cs (take (at + room) w') v
at_new {at} {room} cs {w} {w'} {v} k full less fits =
    let c : ℕ = stored v.head in
    let z : at + room - at ≡ room = omega arith in
    let p : take c (drop at (take (at + room) w')) ≡ v.coeffs =
    front-part at c (at + room) w' (omega arith)
    ∙ (sym (take-take c (at + room - at) (drop at w') (omega arith))
    ∙ (ap (take c) k.holds ∙ take_at v.coeffs (zeros (room - length v.coeffs)) c full)) in
    record { ends = omega (arith, length-take-le (at + room) w' fits); holds = sym p }

-- the inputs
pub input-at : (hs : List ℕ) (cs : List Float) (q : ℕ) → q < length hs → total (input_heads hs) ≤ length cs
    → At true (total (take q (input_heads hs))) cs [] (value_at (input_values hs cs) q)
unfolding input_values total
input-at [] cs q l full = absurd (omega arith)
input-at (w ∷ ws) cs zero l full = record { ends = omega arith; holds = refl }
input-at (w ∷ ws) cs (suc q) l full =
    let n : ℕ = stored (header_of w) in
    let a = input-at ws (drop n cs) q (omega arith) (omega (arith, length-drop n cs)) in
    record {
      ends = omega (arith, a.ends, length-drop n cs);
      holds = a.holds ∙ ap (take (stored (value_at (input_values ws (drop n cs)) q).head)) (drop-drop (total (take q (input_heads ws))) n cs);
    }
