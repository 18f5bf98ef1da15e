-- Horner's rule, turn by turn: the rows left to do make of the running value what the whole is, and no turn passes the
-- announced lengths.
use Prim.Native.Nat.{ℕ, zero, suc, ◌+◌, ◌-◌, ◌*◌, ◌≤◌, ◌<◌, min}
use mathlib.Core.List.{List}
use Rattle.std.proofs.Math.Bool.{false}
use Rattle.std.specs.Prelude.{◌≡◌, set, Float}
use Rattle.std.proofs.Math.Path.{refl, sym, ap}
use Rattle.std.proofs.Common.{◌∙◌, le_refl}
use native.Mathlib.Omega.{arith}
use Rattle.std.proofs.Math.Nat.{le_trans}
use Rattle.std.proofs.Math.ListN.{length, take}
use Rattle.lists.specs.Test.{decide}
use Rattle.lists.specs.Four.{at, at-four}
use Rattle.lists.specs.Table.{table}
use Rattle.lists.specs.Part.{part, length_part, Kept, below-part, kept_above}
use Rattle.model.specs.Header.{count}
use Rattle.model.specs.Places.{index}
use Rattle.model.specs.Limits.{cut_to, sum_shape, max_shape}
use Rattle.model.specs.Refusals.{zero_f}
use Rattle.model.specs.Poly.{Block, block, read_at, cut}
use Rattle.model.specs.Add.{joined_block}
use Rattle.model.specs.Product.{is_zero, constant_block, multiplied}
use Rattle.model.specs.Substitute.{row_at, horner}
use Rattle.shape_words.specs.Lengths.{lengths-pos}
use Rattle.shape.specs.Cut.{cut_at}
use Rattle.blocks.specs.Two.{cut_places, cut-is}
use Rattle.readings_row.specs.Rows.{Picking}
use Rattle.laws_keeps.specs.Sits.{Sits, sum_at_lem, max-at, sits-more}
use Rattle.laws_keeps.specs.Keeps.{joined-sits, joined-under}
use Rattle.laws_keeps.specs.ProductKeeps.{constant-sits, shape-under}
use Rattle.laws_keeps.proofs.Running.{multiplied-sits}
use Rattle.laws_keeps.specs.SubstituteKeeps.{row-sits, zero-first}
use Rattle.product.specs.Room.{Stands}
use Rattle.product.specs.Ways.{under-lengths, count_less, under-sits, sits-under}
use Rattle.product.specs.Times.{cut-none}
use Rattle.substitution.specs.Room.{row_of, Puts, turns, Hornering}
use Rattle.substitution_turn.specs.Room.{Turning, times_put, turn_of, Turned}
use Rattle.substitution_turn.specs.Turn.{block-is, times-sits, turn_small, turn-row}
use Rattle.substitution.specs.Sizes.{row-alone, row_in_la, row-parts, row_under, put_under, put_small}

-- ---- what is put, cut beforehand

-- zero was tested uncut
put_is : (l : List ℕ) (res b : Block) → is_zero b ≡ false → Sits l res → times_put l res (cut l b) ≡ multiplied l res b
unfolding times_put multiplied
put_is l res b z s = decide (is_zero res) (λ t. rw t) (λ t. rw (t, z, cut-none s))

horner-none : (l : List ℕ) (v : ℕ) (a b res : Block) (k : ℕ) → k ≡ 0 → horner l v a k b res ≡ res
unfolding horner
horner-none l v a b res k e = rw e

module _ (l : List ℕ) (v : ℕ) (a b : Block) (h : v < 4) (pos_l : (k : ℕ) → k < 4 → 1 ≤ at l k)
    (pos-a : (k : ℕ) → k < 4 → 1 ≤ at a.lengths k) (pos-b : (k : ℕ) → k < 4 → 1 ≤ at b.lengths k)
    (z : is_zero b ≡ false) where
  pub turns-is : (k : ℕ) {res : Block} → Sits l res → turns l v a k (cut l b) res ≡ horner l v a k b res
  unfolding turns horner
  turns-is zero s = refl
  turns-is (suc k) {res} s =
      rw (put_is l res b z s) (turns-is k (joined-under false (multiplied-sits l res b pos_l s.lo pos-b) (row-sits l v a h pos_l pos-a k)))

  -- the first turn multiplies a zero
  pub horner-first : (k : ℕ) → at a.lengths v ≡ suc k
      → horner l v a (at a.lengths v) b (constant_block zero_f)
      ≡ horner l v a k b (joined_block false (constant_block zero_f) (row_at l v a k))
  unfolding horner
  horner-first k e = rw (e, zero-first l v a h pos_l pos-a b pos-b)

-- ---- a turn

-- what a loaded row is
row_is : (l : List ℕ) (v : ℕ) (la : List ℕ) (a : List Float) (k : ℕ) {c : List ℕ} {xs : List Float} → c ≡ row_of l v la
    → xs ≡ table (count c) (λ p. read_at (block la a) (set (index c p) v k)) → block c xs ≡ row_at l v (block la a) k
row_is l v la a k e f = let q = row-parts l v la a k e f in block-is q.0 q.1

module _ {la : List ℕ} {v k : ℕ} {r b c l : List ℕ} {n ma mo mw : ℕ} (g : Hornering la v (suc k) r b c l n ma mo mw) where
  -- the bound after one turn
  more : (j : ℕ) → j < 4 → min (at l j) (g.bound j + (at b j - 1)) ≤ at g.most j
  more j h = le_trans (omega arith) (g.fits j h)

  pub next_picks : {m : ℕ} → m ≡ count c → Picking la c v k ma m
  next_picks e = record {
    from = g.left;
    to = under-lengths g.row g.caps;
    var = g.var;
    row = g.rows;
    alone = rw g.is_c (row-alone l la g.var);
    inner = rw g.is_c (row_in_la l la g.var g.left);
    room = omega (arith, g.full);
    full = e;
  }

  pub next_turning : {m1 m2 : ℕ} → m1 ≡ mo → m2 ≡ mw → Turning r b c l n m1 m2
  next_turning e1 e2 = record {
    value = g.value;
    put = g.put;
    row = g.row;
    caps = g.caps;
    most = g.most;
    all = omega (arith, g.all);
    in_p = λ j h. le_trans (rw (sum_at_lem l r b j h) (omega (arith, g.in_r j h, g.put.lo j h))) (more j h);
    in_c = λ j h. le_trans (omega (arith, g.in_c j h, g.row.hi j h)) (more j h);
    small = g.small;
    out = e1 ∙ g.out;
    work = e2 ∙ g.work;
  }

  pub next_row_lem : count c ≤ n
  next_row_lem = turn-row (next_turning refl refl)

-- the running value and what is put
abbrev pub value_in : ℕ → List ℕ → List Float → Block
value_in n r w = block r (part n (n + count r) w)

abbrev pub put_in : List ℕ → List Float → Block
put_in b w = block b (part 0 (count b) w)

-- k rows are left: they make the whole p of the running value, which stands at the front of `out` too
pub record Runs (la : List ℕ) (v : ℕ) (a : List Float) (k : ℕ) (r b c l : List ℕ) (n ma : ℕ) (p : Block) (out w : List Float) : Type 0 where
  pub room : Hornering la v k r b c l n ma (length out) (length w)
  pub front : take (count r) out ≡ part n (n + count r) w
  pub rest : turns l v (block la a) k (put_in b w) (value_in n r w) ≡ p

module _ {la : List ℕ} {v : ℕ} {a : List Float} {k : ℕ} {r b c l : List ℕ} {n ma : ℕ} {p : Block} {out w : List Float}
    (s : Runs la v a k r b c l n ma p out w) where
  value-small : count r ≤ n
  value-small =
      omega (
        arith,
        s.room.all,
        count_less s.room.most r (λ j h. le_trans (omega (arith, s.room.in_r j h, s.room.value.hi j h)) (s.room.fits j h)),
      )

  pub runs_end : k ≤ 0 → Stands p out r
  unfolding turns
  runs_end h =
      let e : k ≡ 0 = omega arith in
      let q : value_in n r w ≡ p = rw e at s.rest in
      let f : length (part n (n + count r) w) ≡ count r =
      length_part n (n + count r) w (omega arith) (omega (arith, s.room.work, value-small)) ∙ omega arith in
      rw (← q) (record { lengths = refl; front = ap (λ (j : ℕ). take j out) f ∙ s.front })

-- what the next turn makes
module _ {la : List ℕ} {v : ℕ} {a : List Float} {k : ℕ} {r b c l : List ℕ} {n ma : ℕ} {p : Block} {out w : List Float}
    (s : Runs la v a (suc k) r b c l n ma p out w) where
  g : Hornering la v (suc k) r b c l n ma (length out) (length w)
  g = s.room

  smalls : (count r ≤ n) × (count b ≤ n)
  smalls = turn_small (next_turning g refl refl)

  abbrev product : Block
  product = times_put l (value_in n r w) (put_in b w)

  abbrev row : Block
  row = row_at l v (block la a) k

  abbrev next : Block
  next = joined_block false product row

  sits-product : Sits (sum_shape l r b) product
  sits-product =
      times-sits l (value_in n r w) (put_in b w)
      (under-sits g.value (length_part n (n + count r) w (omega arith) (omega (arith, g.work, smalls.0)) ∙ omega arith))
      (under-sits g.put (length_part 0 (count b) w (omega arith) (omega (arith, g.work, smalls.1)) ∙ omega arith))

  sits-row : Sits l row
  sits-row = row-sits l v (block la a) g.var (λ j h. le_trans (g.value.lo j h) (g.value.hi j h)) (lengths-pos g.left) k

  sits-next : Sits (max_shape product.lengths row.lengths) next
  sits-next = joined-sits false (sits-more (shape-under l r b) sits-product) sits-row

  under_next : Sits l next
  under_next = joined-under false (sits-more (shape-under l r b) sits-product) sits-row

  row_len : (j : ℕ) → at row.lengths j ≡ at c j
  unfolding row_at
  row_len j = ap (λ (y : List ℕ). at y j) (sym g.is_c)

  next_low : (j : ℕ) → j < 4 → at next.lengths j ≤ g.bound j + (at b j - 1)
  next_low j h =
      le_trans (sits-next.hi j h)
      (rw (max-at product.lengths row.lengths j h)
      (omega (arith, row_len j, g.in_c j h, g.in_r j h, g.put.lo j h, sits-product.hi j h, sum_at_lem l r b j h)))

  runs-room : {x : List ℕ} {m1 m2 : ℕ} → x ≡ next.lengths → m1 ≡ length out → m2 ≡ length w → Hornering la v k x b c l n ma m1 m2
  runs-room ex lo lw = record {
    left = g.left;
    var = g.var;
    rows = omega (arith, g.rows);
    value = rw ex (sits-under under_next);
    put = g.put;
    row = g.row;
    is_c = g.is_c;
    caps = g.caps;
    most = g.most;
    all = g.all;
    small = g.small;
    bound = λ j. g.bound j + (at b j - 1);
    in_r = rw ex next_low;
    in_c = λ j h. omega (arith, g.in_c j h);
    fits = λ j h. le_trans (omega arith) (g.fits j h);
    full = g.full;
    out = lo ∙ g.out;
    work = lw ∙ g.work;
  }

  -- a row was loaded, and a turn was made
  module _ {w1 : List Float} (k1 : Kept (2 * n) (2 * n + count c) (table (count c) (λ q. read_at (block la a) (set (index c q) v k))) w w1) where
    made-next : turn_of l n r b c w1 ≡ next
    made-next =
        let x1 : part n (n + count r) w1 ≡ part n (n + count r) w = below-part n (n + count r) k1.below (omega arith) (omega (arith, smalls.0)) in
        let x2 : part 0 (count b) w1 ≡ part 0 (count b) w = below-part 0 (count b) k1.below (omega arith) (omega (arith, smalls.1)) in
        let x3 : block c (part (2 * n) (2 * n + count c) w1) ≡ row = row_is l v la a k g.is_c k1.holds in
        rw (x1, x2, x3)

    pub runs-next : {x : List ℕ} {o2 w2 : List Float} → Turned (turn_of l n r b c w1) n w1 w2 o2 x → length o2 ≡ length out → Runs la v a k x b c l n ma p o2 w2
    unfolding turns
    runs-next {x} {o2} {w2} t lo =
        let d : Turned next n w1 w2 o2 x = rw made-next at t in
        let full : count x ≡ length next.places = ap count d.stands.lengths ∙ sym under_next.full in
        let value : value_in n x w2 ≡ next = block-is d.stands.lengths d.kept in
        let put : part 0 (count b) w2 ≡ part 0 (count b) w =
        below-part 0 (count b) d.below (omega arith) smalls.1 ∙ below-part 0 (count b) k1.below (omega arith) (omega (arith, smalls.1)) in
        record {
          room = runs-room d.stands.lengths lo (d.below.len ∙ k1.below.len);
          front = ap (λ (j : ℕ). take j o2) full ∙ (d.stands.front ∙ sym d.kept);
          rest = rw (put, value) s.rest;
        }

-- ---- the start

-- the running value after the first turn
abbrev first_of : List ℕ → ℕ → Block → ℕ → Block
first_of l v a k = joined_block false (constant_block zero_f) (row_at l v a k)

module _ {la lb l : List ℕ} {v n ma mb mo mw : ℕ} (p : Puts la lb l v n ma mb mo mw) (a b : List Float)
    (z : is_zero (block lb b) ≡ false) {k : ℕ} (ek : at la v ≡ suc k) {c : List ℕ} (ec : c ≡ row_of l v la)
    {w w1 : List Float} (k1 : Kept (2 * n) (2 * n + count c) (table (count c) (λ q. read_at (block la a) (set (index c q) v k))) w w1)
    {r : List ℕ} {o w2 : List Float} (t : Turned (joined_block false (constant_block zero_f) (block c (part (2 * n) (2 * n + count c) w1))) n w1 w2 o r) where
  t1 : Turned (first_of l v (block la a) k) n w1 w2 o r
  t1 = rw (row_is l v la a k ec k1.holds) at t

  abbrev poly : Block
  poly = block la a

  abbrev put : Block
  put = block lb b

  whole_is : horner l v poly (at la v) put (constant_block zero_f) ≡ horner l v poly k put (first_of l v poly k)
  whole_is = horner-first l v poly put p.var p.positive (lengths-pos p.left) (lengths-pos p.right) z k ek

  -- one row alone
  pub start-one : k ≡ 0 → Stands (horner l v poly (at la v) put (constant_block zero_f)) o r
  unfolding horner
  start-one e = let q : horner l v poly k put (first_of l v poly k) ≡ first_of l v poly k =
      horner-none l v poly put (first_of l v poly k) k e in
      rw (whole_is ∙ q) t1.stands

  row-sits-k : Sits l (row_at l v poly k)
  row-sits-k = row-sits l v poly p.var p.positive (lengths-pos p.left) k

  sits-first : Sits (max_shape (constant_block zero_f).lengths (row_at l v poly k).lengths) (first_of l v poly k)
  sits-first = joined-sits false (constant-sits zero_f row-sits-k) row-sits-k

  under_first : Sits l (first_of l v poly k)
  under_first = joined-under false (constant-sits zero_f row-sits-k) row-sits-k

  first-low : (j : ℕ) → j < 4 → at (first_of l v poly k).lengths j ≤ at c j
  unfolding row_at
  first-low j h =
      let u : 1 ≤ at (row_of l v la) j = (row_under p).lo j h in
      le_trans (sits-first.hi j h) (rw (max-at (constant_block zero_f).lengths (row_of l v la) j h, ec) (omega (arith, at-four (λ k. 1) j h)))

  -- more rows: what is put was loaded
  module _ (some : 0 < k) {cb : List ℕ} (eb : cb ≡ cut_to l lb) {w3 : List Float} (k3 : Kept 0 (count cb) (cut_places lb cb b) w2 w3) where
    two : 2 ≤ at la v
    two = omega (arith, ek)

    value_same : part n (n + count r) w3 ≡ part n (n + count r) w2
    value_same = kept_above n (n + count r) k3 (put_small p two eb)

    full-r : count r ≡ length (first_of l v poly k).places
    full-r = ap count t1.stands.lengths ∙ sym under_first.full

    pub start-front : take (count r) o ≡ part n (n + count r) w3
    start-front = ap (λ (j : ℕ). take j o) full-r ∙ (t1.stands.front ∙ (sym t1.kept ∙ sym value_same))

    pub start-room : {m1 m2 : ℕ} → m1 ≡ mo → m2 ≡ mw → Hornering la v k r cb c l n ma m1 m2
    start-room e1 e2 = record {
      left = p.left;
      var = p.var;
      rows = omega (arith, ek);
      value = rw t1.stands.lengths (sits-under under_first);
      put = rw eb (put_under p);
      row = rw ec (row_under p);
      is_c = ec;
      caps = p.caps;
      most = p.most;
      all = p.all;
      small = p.small;
      bound = at c;
      in_r = rw t1.stands.lengths first-low;
      in_c = λ j h. le_refl _;
      fits = λ j h. let d : at la v - 1 ≡ k = omega (arith, ek) in rw (eb, cut_at l lb j h, ec, ← d) (p.fit j h);
      full = p.full_a;
      out = e1 ∙ p.out;
      work = e2 ∙ p.work;
    }

    pub start-stands : {x : List ℕ} {o2 : List Float} → Stands (turns l v poly k (put_in cb w3) (value_in n r w3)) o2 x
        → Stands (horner l v poly (at la v) put (constant_block zero_f)) o2 x
    start-stands s =
        let e1 : put_in cb w3 ≡ cut l put = ap (block cb) k3.holds ∙ cut-is l lb b eb in
        let e2 : value_in n r w3 ≡ first_of l v poly k = block-is t1.stands.lengths (value_same ∙ t1.kept) in
        let e3 : turns l v poly k (put_in cb w3) (value_in n r w3) ≡ horner l v poly (at la v) put (constant_block zero_f) =
        rw (e1, e2) (turns-is l v poly put p.var p.positive (lengths-pos p.left) (lengths-pos p.right) z k under_first ∙ sym whole_is) in
        rw e3 at s
