-- What the announced lengths have room for: a row, what is put where there are two rows at least, and the result of
-- every way.
use Rattle.std.specs.Prelude.{ℕ, ◌+◌, ◌-◌, ◌*◌, ◌≤◌, ◌<◌, min, List, [], ◌≡◌, length, set, Float}
use Rattle.std.proofs.Math.Path.{ap}
use Rattle.std.proofs.Common.{◌∙◌, arith, le_trans, le_refl, mul-le-mul_right}
use Rattle.lists.specs.Four.{at, at_same, one-changed}
use Rattle.lists.specs.Table.{table}
use Rattle.model.specs.Header.{count, ones}
use Rattle.model.specs.Places.{index}
use Rattle.model.specs.Limits.{cut_to}
use Rattle.model.specs.Poly.{Block, block, read_at, cut}
use Rattle.model.specs.Substitute.{row_at, powered, substituted}
use Rattle.shape_words.specs.Lengths.{Lengths, lengths-pos}
use Rattle.shape.specs.Cut.{cut_at}
use Rattle.blocks.specs.Rows.{Cutting, inner_of}
use Rattle.readings_row.specs.Rows.{Picking}
use Rattle.laws_keeps.specs.Sits.{cut-sits}
use Rattle.laws_keeps.specs.SubstituteKeeps.{row-sits}
use Rattle.laws_keeps.proofs.SubstituteKeeps.{substituted-most}
use Rattle.product.specs.Room.{Under}
use Rattle.product.specs.Ways.{under-lengths, count_less, sits-under, ones-under}
use Rattle.substitution.specs.Room.{row_of, Puts, Cuts}
use Rattle.substitution_turn.specs.Room.{Adding}

cut-long : (l n : List ℕ) {v : ℕ} → v < 4 → v < length (cut_to l n)
unfolding cut_to
cut-long l n h = h

-- a row is no longer than the polynomial
pub row_in_la : (l la : List ℕ) {v : ℕ} → v < 4 → Lengths la → (k : ℕ) → k < 4 → at (row_of l v la) k ≤ at la k
row_in_la l la {v} h g =
    one-changed (λ k x. x ≤ at la k) (cut_to l la) v 1 (cut-long l la h) (lengths-pos g v h) (λ k i o. rw (cut_at l la k i) (omega arith))

-- and has length 1 in its own variable
pub row-alone : (l la : List ℕ) {v : ℕ} → v < 4 → at (row_of l v la) v ≡ 1
row-alone l la {v} h = at_same (cut_to l la) v 1 (cut-long l la h)

-- what the zero and the linear way are lent: c the lengths worked out
module _ {la c : List ℕ} {v ma mo : ℕ} (t : Cuts la c v ma mo) {r : List ℕ} (e : r ≡ c) where
  pub cuts-lens : Lengths r
  cuts-lens = rw e t.to

  pub cuts-fits : {z : ℕ} → z ≡ count r → z ≤ mo
  cuts-fits k = omega (arith, k, ap count e, t.fits)

  pub cuts_picks : {m : ℕ} → at c v ≡ 1 → m ≡ count r → Picking la r v 0 ma m
  cuts_picks o k =
      record {
        from = t.left;
        to = cuts-lens;
        var = t.var;
        row = lengths-pos t.left v t.var;
        alone = rw e o;
        inner = rw e t.inner;
        room = omega (arith, t.full);
        full = k;
      }

  pub cuts_loads : {m : ℕ} → m ≡ count r → Cutting la r ma m
  cuts_loads k = record { from = t.left; to = cuts-lens; inner = rw e (inner_of t.inner); room = omega (arith, t.full); full = k }

  pub cuts-own : Cuts la r v ma mo
  cuts-own = rw e t

-- a row's lengths and places
pub row-parts : (l : List ℕ) (v : ℕ) (la : List ℕ) (a : List Float) (k : ℕ) {c : List ℕ} {xs : List Float}
    → c ≡ row_of l v la → xs ≡ table (count c) (λ p. read_at (block la a) (set (index c p) v k))
    → (c ≡ (row_at l v (block la a) k).lengths) × (xs ≡ (row_at l v (block la a) k).places)
unfolding row_at
row-parts l v la a k e f = (e, f ∙ (rw e))

module _ {la lb l : List ℕ} {v n ma mb mo mw : ℕ} (p : Puts la lb l v n ma mb mo mw) where
  pub row_under : Under l (row_of l v la)
  unfolding row_at
  row_under = sits-under (row-sits l v (block la []) p.var p.positive (lengths-pos p.left) 0)

  row-most : (k : ℕ) → k < 4 → at (row_of l v la) k ≤ at p.most k
  row-most k h = le_trans (omega (arith, row_under.hi k h)) (p.fit k h)

  row_small : count (row_of l v la) ≤ n
  row_small = omega (arith, p.all, count_less p.most (row_of l v la) row-most)

  pub row_fits : {c : List ℕ} → c ≡ row_of l v la → 2 * n + count c ≤ 8 * n
  row_fits e = rw e (omega (arith, row_small))

  row-lens : Lengths (row_of l v la)
  row-lens = under-lengths row_under p.caps

  pub row-cuts : Cuts la (row_of l v la) v ma mo
  row-cuts =
      record {
        left = p.left;
        to = row-lens;
        var = p.var;
        inner = row_in_la l la p.var p.left;
        full = p.full_a;
        fits = omega (arith, p.out, row_small);
      }

  pub row_picks : {c : List ℕ} {k m : ℕ} → c ≡ row_of l v la → k < at la v → m ≡ count c → Picking la c v k ma m
  row_picks e h f =
      rw e (record {
        from = p.left;
        to = row-lens;
        var = p.var;
        row = h;
        alone = row-alone l la p.var;
        inner = row_in_la l la p.var p.left;
        room = omega (arith, p.full_a);
        full = rw e at f;
      })

  pub put_under : Under l (cut_to l lb)
  unfolding cut
  put_under = sits-under (cut-sits l (block lb []) p.positive (lengths-pos p.right))

  pub put-lens : {c : List ℕ} → c ≡ cut_to l lb → Lengths c
  put-lens e = rw e (under-lengths put_under p.caps)

  pub put_loads : {c : List ℕ} {m : ℕ} → c ≡ cut_to l lb → m ≡ count c → Cutting lb c mb m
  put_loads e k =
      record {
        from = p.right;
        to = put-lens e;
        inner = rw e (inner_of (λ k h. rw (cut_at l lb k h) (omega arith)));
        room = omega (arith, p.full_b);
        full = k;
      }

  -- where there are two rows at least
  put-most : 2 ≤ at la v → (k : ℕ) → k < 4 → at (cut_to l lb) k ≤ at p.most k
  put-most h k i =
      let x : ℕ = min (at l k) (at lb k) - 1 in
      let y : 1 * x ≤ (at la v - 1) * x = mul-le-mul_right x (omega arith) in
      le_trans (rw (cut_at l lb k i) (omega (arith, y, row_under.lo k i))) (p.fit k i)

  pub put_small : 2 ≤ at la v → {c : List ℕ} → c ≡ cut_to l lb → count c ≤ n
  put_small h e = rw e (omega (arith, p.all, count_less p.most (cut_to l lb) (put-most h)))

  -- the result
  result-most : (a b : List Float) (k : ℕ) → k < 4 → at (substituted l v (block la a) (block lb b)).lengths k ≤ at p.most k
  result-most a b k h =
      let m = substituted-most l v (block la a) p.var p.positive (lengths-pos p.left) (block lb b) (lengths-pos p.right) in
      le_trans (omega (arith, m.sits.hi k h, m.most k h)) (p.fit k h)

  pub result-small : (a b : List Float) → count (substituted l v (block la a) (block lb b)).lengths ≤ n
  result-small a b = omega (arith, p.all, count_less p.most (substituted l v (block la a) (block lb b)).lengths (result-most a b))

  cut-lens : Lengths (cut_to l la)
  unfolding cut
  cut-lens = under-lengths (sits-under (cut-sits l (block la []) p.positive (lengths-pos p.left))) p.caps

  -- the linear way
  pub line-cuts : (a b : List Float) (m : Float) → substituted l v (block la a) (block lb b) ≡ powered l v (block la a) m → Cuts la (cut_to l la) v ma mo
  unfolding powered
  line-cuts a b m e = record {
    left = p.left;
    to = cut-lens;
    var = p.var;
    inner = λ k h. rw (cut_at l la k h) (omega arith);
    full = p.full_a;
    fits = omega (arith, p.out, result-small a b, ap (λ (x : Block). count x.lengths) e);
  }

  -- the first turn
  pub puts_adding : {c : List ℕ} {m1 m2 : ℕ} → c ≡ row_of l v la → m1 ≡ mo → m2 ≡ mw → Adding ones c n m1 m2
  puts_adding e e1 e2 = rw e (record {
    most = row_of l v la;
    left = ones-under (record { ns = row_under.ns; lo = row_under.lo; hi = λ k h. le_refl _ });
    right = record { ns = row_under.ns; lo = row_under.lo; hi = λ k h. le_refl _ };
    caps = record { most = λ k h. le_trans (row_under.hi k h) (p.caps.most k h) };
    all = row_small;
    small = p.small;
    out = e1 ∙ p.out;
    work = e2 ∙ p.work;
  })
