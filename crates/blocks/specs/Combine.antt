-- The sum of two blocks by its three ways.
use Rattle.std.specs.Prelude.{ℕ, ◌<◌, max, List, Bool, true, false, ◌≡◌, length, get_or, set, take, Float}
use Rattle.std.proofs.Common.{sym, ap, ◌∙◌, arith, lit<}
use Rattle.std.proofs.Math.Seq.{take-length}
use Rattle.std.specs.Float.{nan}
use borrow.Author.Tests.{eq-eqb, ne_eqb}
use Rattle.lists.specs.Four.{at}
use Rattle.lists.specs.Table.{table, table_same, table_at}
use Rattle.model.specs.Header.{count}
use Rattle.model.specs.Limits.{max_shape}
use Rattle.model.specs.Places.{index, inside}
use Rattle.model.specs.Poly.{Block, block}
use Rattle.model.specs.Refusals.{zeros, zero_f}
use Rattle.model.specs.Negate.{negated_at}
use Rattle.model.specs.Add.{join, join_at, first_joined, turned, joined, place_joined}
use Rattle.shape_words.specs.Lengths.{Lengths, count-is, count-pos, lengths-pos, is_inside_lem}
use Rattle.shape_words.specs.Places.{index-inside}
use Rattle.shape_words.specs.Spans.{count-one}
use Rattle.blocks.specs.Rows.{Inner, Joining}
use Rattle.blocks.specs.Same.{same_lengths, Same, same-is, same_place, same_count}

-- n and m the operands' lengths, r the result's; la, lb and lt the lengths of the buffers
pub record Combining (n m r : List ℕ) (la lb lt : ℕ) : Type 0 where
  pub left : Lengths n
  pub right : Lengths m
  pub result : Lengths r
  pub shape : r ≡ max_shape n m
  pub full_a : la ≡ count n
  pub full_b : lb ≡ count m
  pub full : lt ≡ count r

-- the result of a sum with a block of count 1 has the other's count
pub count_left : {n m : List ℕ} → Lengths n → Lengths m → count m ≡ 1 → count (max_shape n m) ≡ count n
unfolding max_shape
count_left {n} {m} g h e =
    let k : (v : ℕ) → v < 4 → 0 < at n v → max (at n v) (at m v) ≡ at n v = λ v l p. let o = count-one m (lengths-pos h) e v l in omega arith in
    rw (count-is (max_shape n m), count-is n) (simp (k 0 (lit< tt) g.p0, k 1 (lit< tt) g.p1, k 2 (lit< tt) g.p2, k 3 (lit< tt) g.p3))

pub count-right : {n m : List ℕ} → Lengths n → Lengths m → count n ≡ 1 → count (max_shape n m) ≡ count m
unfolding max_shape
count-right {n} {m} g h e =
    let k : (v : ℕ) → v < 4 → 0 < at m v → max (at n v) (at m v) ≡ at m v = λ v l p. let o = count-one n (lengths-pos g) e v l in omega arith in
    rw (count-is (max_shape n m), count-is m) (simp (k 0 (lit< tt) h.p0, k 1 (lit< tt) h.p1, k 2 (lit< tt) h.p2, k 3 (lit< tt) h.p3))

inner-left : (n m : List ℕ) → Inner (max_shape n m) n
unfolding max_shape
inner-left n m = record { c0 = omega arith; c1 = omega arith; c2 = omega arith; c3 = omega arith }

inner-right : (n m : List ℕ) → Inner (max_shape n m) m
unfolding max_shape
inner-right n m = record { c0 = omega arith; c1 = omega arith; c2 = omega arith; c3 = omega arith }

module _ {n m r : List ℕ} {la lb lt : ℕ} (q : Combining n m r la lb lt) where
  pub combine-left : lb ≡ 1 → lt ≡ la
  combine-left e = q.full ∙ (ap count q.shape ∙ (count_left q.left q.right (sym q.full_b ∙ e) ∙ sym q.full_a))

  pub combine-right : la ≡ 1 → lt ≡ lb
  combine-right e = q.full ∙ (ap count q.shape ∙ (count-right q.left q.right (sym q.full_a ∙ e) ∙ sym q.full_b))

  pub combine-some : (0 < la) × (0 < lb)
  combine-some = (omega (arith, q.full_a, count-pos q.left), omega (arith, q.full_b, count-pos q.right))

  pub joining-left : {l : ℕ} → l ≡ lt → Joining n r la l
  joining-left e =
      record { from = q.left; to = q.result; inner = rw q.shape (inner-left n m); room = omega (arith, q.full_a); full = e ∙ q.full }

  pub joining-right : {l : ℕ} → l ≡ lt → Joining m r lb l
  joining-right e =
      record { from = q.right; to = q.result; inner = rw q.shape (inner-right n m); room = omega (arith, q.full_b); full = e ∙ q.full }

-- the three ways
module _ (minus : Bool) (r : List ℕ) (a b : Block) where
  pub way-left : count b.lengths ≡ 1 → first_joined minus a.places b.places ≡ joined minus r a b
  unfolding joined
  way-left e = simp (eq-eqb _ _ e)

  pub way-right : (count b.lengths ≡ 1 → ⊥) → count a.lengths ≡ 1 → turned minus (first_joined minus b.places a.places) ≡ joined minus r a b
  unfolding joined
  way-right e f = simp (ne_eqb _ _ e, eq-eqb _ _ f)

  pub way-both : (count b.lengths ≡ 1 → ⊥) → (count a.lengths ≡ 1 → ⊥) → table (count r) (place_joined minus a b r) ≡ joined minus r a b
  unfolding joined
  way-both e f = simp (ne_eqb _ _ e, ne_eqb _ _ f)

  -- the third by two passes over zeros
  pub two-passes : (t : List Float) {u v w : List Float} → length t ≡ count r → u ≡ zeros (length t)
      → v ≡ table (count r) (λ k. join_at false (get_or u k nan) a (index r k))
      → w ≡ table (count r) (λ k. join_at minus (get_or v k nan) b (index r k)) → w ≡ table (count r) (place_joined minus a b r)
  two-passes t {u} {v} l z x y =
      let o : (k : ℕ) → k < count r → get_or u k nan ≡ zero_f =
      λ k h. ap (λ (s : List Float). get_or s k nan) z ∙ table_at nan (λ j. zero_f) (length t) k (omega arith) in
      let p : (k : ℕ) → k < count r → get_or v k nan ≡ join_at false zero_f a (index r k) =
      λ k h. ap (λ (s : List Float). get_or s k nan) x ∙ (table_at nan _ (count r) k h ∙ ap (λ (s : Float). join_at false s a (index r k)) (o k h)) in
      y ∙ table_same _ _ (count r) (λ k h. ap (λ (s : Float). join_at minus s b (index r k)) (p k h))

-- and by one, where all lengths are the same

same_left : {n m : List ℕ} → Same n m → Same n (max_shape n m)
unfolding max_shape
same_left e = record { s0 = omega (arith, e.s0); s1 = omega (arith, e.s1); s2 = omega (arith, e.s2); s3 = omega (arith, e.s3) }

same-right : {n m : List ℕ} → Same n m → Same m (max_shape n m)
unfolding max_shape
same-right e = record { s0 = omega (arith, e.s0); s1 = omega (arith, e.s1); s2 = omega (arith, e.s2); s3 = omega (arith, e.s3) }

-- each place is then stored at its own place
same-join : (minus : Bool) (x : Float) (n r : List ℕ) (a : List Float) (k : ℕ) → Same n r → Lengths r → k < count r
    → join minus x (get_or a k nan) ≡ join_at minus x (block n a) (index r k)
unfolding join_at
same-join minus x n r a k e g h =
    let i : List ℕ = index r k in
    let t = index-inside r k g h in
    let u : inside n i ≡ true =
    is_inside_lem (record {
      i0 = omega (arith, e.s0, t.i0);
      i1 = omega (arith, e.s1, t.i1);
      i2 = omega (arith, e.s2, t.i2);
      i3 = omega (arith, e.s3, t.i3);
    }) in
    rw (u, same_place e k)

-- (0 + x) + y, or (0 + x) - y, place by place
abbrev pub line_sum : Bool → List Float → List Float → ℕ → Float
line_sum minus a b k = join minus (join false zero_f (get_or a k nan)) (get_or b k nan)

pub one_pass : (minus : Bool) (n m r : List ℕ) (a b : List Float) {la lb lt : ℕ} {w : List Float} → Combining n m r la lb lt → same_lengths n m ≡ true
    → w ≡ table lt (line_sum minus a b) → w ≡ table (count r) (place_joined minus (block n a) (block m b) r)
one_pass minus n m r a b q s e =
    let x : Same n r = rw q.shape (same_left (same-is n m s)) in
    let y : Same m r = rw q.shape (same-right (same-is n m s)) in
    e
    ∙ (ap (λ (l : ℕ). table l (line_sum minus a b)) q.full
    ∙ table_same _ _ (count r) (λ k h. same-join minus _ m r b k y q.result h
    ∙ ap (λ (z : Float). join_at minus z (block m b) (index r k)) (same-join false zero_f n r a k x q.result h)))

pub one-fits : {n m r : List ℕ} {la lb lt : ℕ} → Combining n m r la lb lt → same_lengths n m ≡ true → (la ≡ lt) × (lb ≡ lt)
one-fits {n} {m} {r} q s =
    let x : Same n r = rw q.shape (same_left (same-is n m s)) in
    let y : Same m r = rw q.shape (same-right (same-is n m s)) in
    (q.full_a ∙ (same_count x ∙ sym q.full), q.full_b ∙ (same_count y ∙ sym q.full))

-- a copy with its first place set
pub first-set : (minus : Bool) (a b t : List Float) {o : List Float} {x : Float} → o ≡ take (length t) a
    → length t ≡ length a → x ≡ join minus (get_or a 0 nan) (get_or b 0 nan)
    → set o 0 x ≡ first_joined minus a b
first-set minus a b t e l f = rw (e, l, take-length a, f)

-- turned or not
pub turned-yes : {minus : Bool} (a : List Float) → minus ≡ true → table (length a) (negated_at a) ≡ turned minus a
turned-yes a e = rw e

pub turned_no : {minus : Bool} (a : List Float) → minus ≡ false → a ≡ turned minus a
turned_no a e = rw e
