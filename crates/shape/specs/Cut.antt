-- Cutting keeps what lies inside the limits, at its index, and nothing else.
use Rattle.std.specs.Prelude.{ℕ, ◌≤◌, ◌<◌, min, List, false, ◌≡◌, refl, length}
use Rattle.std.proofs.Common.{sym, ◌∙◌, arith, lit<}
use Rattle.std.proofs.Math.Path.{ap}
use Rattle.std.proofs.Math.ListN.{get_or}
use Rattle.std.specs.Float.Ieee.{nan}
use Rattle.lists.specs.Test.{decide}
use Rattle.lists.specs.Table.{table_at, length-table}
use Rattle.lists.specs.Four.{at, four, at-four}
use Rattle.model.specs.declared.Header.{Header}
use Rattle.model.specs.Header.{header, count, len}
use Rattle.model.specs.Places.{place, offset, index, inside}
use Rattle.model.specs.Limits.{cut_to}
use Rattle.model.specs.Poly.{Block, read_at, coefficient_at, cut}
use Rattle.shape_words.specs.Rules.{Ruled, Regular, regular-four, ruled-at}
use Rattle.shape.specs.Limits.{Range}
use Rattle.shape_words.specs.Lengths.{Lengths, Inside, inside_is, is_inside_lem, inside-four, inside-at}
use Rattle.shape_words.specs.Places.{place-lt, index-place}

pub cut_at : (l n : List ℕ) (k : ℕ) → k < 4 → at (cut_to l n) k ≡ min (at l k) (at n k)
unfolding cut_to
cut_at l n = at-four (λ k. min (at l k) (at n k))

-- lengths of 1 to 64, cut
pub cut_lengths_lem : (l : List ℕ) {n : List ℕ} → Lengths n → ((k : ℕ) → k < 4 → 1 ≤ at l k) → Lengths (cut_to l n)
unfolding cut_to
cut_lengths_lem l g p =
    let p0 = p 0 (lit< tt) in
    let p1 = p 1 (lit< tt) in
    let p2 = p 2 (lit< tt) in
    let p3 = p 3 (lit< tt) in
    record {
      p0 = omega (arith, g.p0);
      p1 = omega (arith, g.p1);
      p2 = omega (arith, g.p2);
      p3 = omega (arith, g.p3);
      m0 = omega (arith, g.m0);
      m1 = omega (arith, g.m1);
      m2 = omega (arith, g.m2);
      m3 = omega (arith, g.m3);
    }

-- what lies inside the cut lengths lies inside the lengths and the limits, and the other way round
pub cut_inside : (l n : List ℕ) {i : List ℕ} → Inside (cut_to l n) i → Inside n i
cut_inside l n t = inside-four (λ k h. omega (arith, inside-at t k h, cut_at l n k h))

pub cut-limits : (l n : List ℕ) {i : List ℕ} → Inside (cut_to l n) i → Inside l i
cut-limits l n t = inside-four (λ k h. omega (arith, inside-at t k h, cut_at l n k h))

pub inside-cut : {l n i : List ℕ} → Inside l i → Inside n i → Inside (cut_to l n) i
inside-cut {l} {n} s t = inside-four (λ k h. rw (cut_at l n k h) (omega (arith, inside-at s k h, inside-at t k h)))

same_place : (n i : List ℕ) → place n (four (at i)) ≡ place n i
unfolding offset
same_place n i = refl

module _ (l : List ℕ) (b : Block) where
  abbrev cut_lengths : List ℕ
  cut_lengths = cut_to l b.lengths

  -- a place that is kept
  pub cut-read : (i : List ℕ) → Inside cut_lengths i → read_at (cut l b) i ≡ read_at b i
  unfolding cut
  cut-read i t =
      table_at nan (λ k. read_at b (index cut_lengths k)) (count cut_lengths) (place cut_lengths i) (place-lt cut_lengths i t)
      ∙ (ap (read_at b) (index-place cut_lengths i t) ∙ ap (λ (q : ℕ). get_or b.places q nan) (same_place b.lengths i))

  outside : (i : List ℕ) → inside b.lengths i ≡ false → inside cut_lengths i ≡ false
  outside i t =
      decide (inside cut_lengths i)
      (λ c. c ∙ (sym (is_inside_lem (cut_inside l b.lengths (inside_is cut_lengths i c))) ∙ t))
      (λ c. c)

  -- at every index under the limits the coefficient is the same
  pub cut_keeps : (i : List ℕ) → Inside l i → coefficient_at (cut l b) i ≡ coefficient_at b i
  unfolding coefficient_at cut
  cut_keeps i s =
      decide (inside b.lengths i)
      (λ t. let c = inside-cut s (inside_is b.lengths i t) in rw (t, is_inside_lem c) (cut-read i c))
      (λ t. rw (t, outside i t))

  -- as many places as the lengths say
  pub cut-full : length (cut l b).places ≡ count (cut l b).lengths
  unfolding cut
  cut-full = length-table _ (count cut_lengths)

-- under limits that keep the rules the cut header keeps them
pub cut-regular : (v : ℕ) (l : ℕ → ℕ) {h : Header} → v ≤ 4 → Ruled h → ((k : ℕ) → k < 4 → Range (l k))
    → ((k : ℕ) → k < 4 → v ≤ k → l k ≡ 1) → Regular (header v (four l) (cut_to (four l) h.lengths) h.cap)
unfolding cut_to
cut-regular v l {h} few g r gone =
    regular-four v l (λ k. min (at (four l) k) (len h k)) few g.low
    (λ k lt. let a = at-four l k lt in let n = (ruled-at g k lt).pos in
    record { pos = omega (arith, (r k lt).lo); fit = omega arith; most = (r k lt).hi; gone = gone k lt })
