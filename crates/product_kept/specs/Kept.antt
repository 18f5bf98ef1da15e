-- A header beside which another may stand as a right factor and change nothing that is announced.
use Rattle.std.specs.Prelude.{ℕ, ◌+◌, ◌-◌, ◌≤◌, ◌<◌, min, max, List, Bool, ◌&&◌, ◌||◌, ◌≡◌, leb, ltb}
use Rattle.std.proofs.Math.Bool.{true}
use Rattle.std.proofs.Common.{sym, ap, ◌∙◌, arith}
use Rattle.std.proofs.Math.Dec.{eqb}
use borrow.Author.Tests.{leb-true, le-leb, eqb-true, eqb-false, eq-eqb}
use Rattle.lists.specs.Test.{and_left, and_right, or_right, decide}
use Rattle.lists.specs.Four.{at, four, four_same, at-four, each}
use Rattle.model.specs.declared.Header.{Header}
use Rattle.model.specs.declared.Family.TheVariants.{Product}
use Rattle.model.specs.Header.{header, limit, len}
use Rattle.model.specs.Cap.{min_cap}
use Rattle.model.specs.Limits.{min_limit, min_degrees_p1}
use Rattle.model.specs.Announced.{announced, paired}
use Rattle.shape_words.specs.Rules.{GoodVar, Ruled, Regular, ruled-at}

-- in one variable: l and n the left operand's limit and length, k and m the right one's. The same limit, and one row,
-- or all rows of the left operand stored
unfoldable pub keeps_length : ℕ → ℕ → ℕ → ℕ → Bool
keeps_length l n k m = (eqb k l && leb 1 m) && (eqb m 1 || (eqb n l && leb m l))

abbrev pub keeps_at : Header → Header → ℕ → Bool
keeps_at x y k = keeps_length (limit x k) (len x k) (limit y k) (len y k)

unfoldable pub keeps_header : Header → Header → Bool
keeps_header x y =
    ((((eqb x.vars y.vars && eqb x.cap y.cap) && keeps_at x y 0) && keeps_at x y 1) && keeps_at x y 2) && keeps_at x y 3

-- what that is worth in one variable
pub record KeepsLength (l n k m : ℕ) : Type 0 where
  pub same : k ≡ l
  pub pos : 1 ≤ m
  pub fit : 1 ≤ n → n ≤ l → m ≤ l
  pub own : 1 ≤ n → n ≤ l → min l (min l n + min l m - 1) ≡ n

-- y beside x: no limit cuts, and the announced lengths are those of x
pub record Keeps (x y : Header) : Type 0 where
  pub vars : x.vars ≡ y.vars
  pub cap : x.cap ≡ y.cap
  pub var : (k : ℕ) → k < 4 → KeepsLength (limit x k) (len x k) (limit y k) (len y k)

-- ---- laws

abbrev pub Kept : Header → Header → ℕ → Type 0
Kept x y k = KeepsLength (limit x k) (len x k) (limit y k) (len y k)

pub keeps_length_lem : (l n k m : ℕ) → keeps_length l n k m ≡ true → KeepsLength l n k m
unfolding keeps_length
keeps_length_lem l n k m h =
    let f = and_left (eqb k l && leb 1 m) (eqb m 1 || (eqb n l && leb m l)) h in
    let g = and_right (eqb k l && leb 1 m) (eqb m 1 || (eqb n l && leb m l)) h in
    let e : k ≡ l = eqb-true _ _ (and_left (eqb k l) (leb 1 m) f) in
    let p : 1 ≤ m = leb-true _ _ (and_right (eqb k l) (leb 1 m) f) in
    decide (eqb m 1)
    (λ t. let o : m ≡ 1 = eqb-true _ _ t in record { same = e; pos = p; fit = λ q r. omega arith; own = λ q r. omega arith })
    (λ t.
    let s = or_right (eqb m 1) (eqb n l && leb m l) g t in
    let a : n ≡ l = eqb-true _ _ (and_left (eqb n l) (leb m l) s) in
    let b : m ≤ l = leb-true _ _ (and_right (eqb n l) (leb m l) s) in
    record { same = e; pos = p; fit = λ q r. b; own = λ q r. omega arith })

-- the other side: beside a left operand that keeps the rules no other lengths are kept
pub length-keeps : (l n k m : ℕ) → 1 ≤ n → n ≤ l → KeepsLength l n k m → keeps_length l n k m ≡ true
unfolding keeps_length
length-keeps l n k m p f h =
    let own = h.own p f in
    let under = h.fit p f in
    decide (eqb m 1)
    (λ t. rw (eq-eqb k l h.same, le-leb 1 m h.pos, t))
    (λ t.
    let some : m ≡ 1 → ⊥ = eqb-false _ _ t in
    let all : n ≡ l = omega (arith, h.pos) in
    rw (eq-eqb k l h.same, le-leb 1 m h.pos, t, eq-eqb n l all, le-leb m l under))

module _ (x y : Header) where
  pub keeps-all : (a b c d : Bool) → a ≡ keeps_at x y 0 → b ≡ keeps_at x y 1 → c ≡ keeps_at x y 2 → d ≡ keeps_at x y 3
      → (((((eqb x.vars y.vars && eqb x.cap y.cap) && a) && b) && c) && d) ≡ keeps_header x y
  unfolding keeps_header
  keeps-all a b c d ea eb ec ed = rw (ea, eb, ec, ed)

  pub keeps_header_lem : keeps_header x y ≡ true → Keeps x y
  unfolding keeps_header
  keeps_header_lem h =
      let e = eqb x.vars y.vars && eqb x.cap y.cap in
      let h3 = and_left (((e && keeps_at x y 0) && keeps_at x y 1) && keeps_at x y 2) (keeps_at x y 3) h in
      let h2 = and_left ((e && keeps_at x y 0) && keeps_at x y 1) (keeps_at x y 2) h3 in
      let h1 = and_left (e && keeps_at x y 0) (keeps_at x y 1) h2 in
      record {
        vars = eqb-true _ _ (and_left (eqb x.vars y.vars) (eqb x.cap y.cap) (and_left e (keeps_at x y 0) h1));
        cap = eqb-true _ _ (and_right (eqb x.vars y.vars) (eqb x.cap y.cap) (and_left e (keeps_at x y 0) h1));
        var =
            each (Kept x y) (keeps_length_lem _ _ _ _ (and_right e (keeps_at x y 0) h1))
            (keeps_length_lem _ _ _ _ (and_right (e && keeps_at x y 0) (keeps_at x y 1) h2))
            (keeps_length_lem _ _ _ _ (and_right ((e && keeps_at x y 0) && keeps_at x y 1) (keeps_at x y 2) h3))
            (keeps_length_lem _ _ _ _ (and_right (((e && keeps_at x y 0) && keeps_at x y 1) && keeps_at x y 2) (keeps_at x y 3) h));
      }

  pub header-keeps : Ruled x → Keeps x y → keeps_header x y ≡ true
  unfolding keeps_header
  header-keeps r h =
      let at-k : (k : ℕ) → k < 4 → keeps_at x y k ≡ true = λ k l.
      length-keeps _ _ _ _ (ruled-at r k l).pos (ruled-at r k l).fit (h.var k l) in
      rw (
        eq-eqb x.vars y.vars h.vars,
        eq-eqb x.cap y.cap h.cap,
        at-k 0 (omega arith),
        at-k 1 (omega arith),
        at-k 2 (omega arith),
        at-k 3 (omega arith),
      )

module _ {x y : Header} (r : Ruled x) (h : Keeps x y) where
  keeps-var : (k : ℕ) → k < 4 → GoodVar y.vars k (limit y k) (len y k)
  keeps-var k l =
      let g = ruled-at r k l in
      let q = h.var k l in
      record {
        pos = q.pos;
        fit = rw q.same (q.fit g.pos g.fit);
        most = rw q.same g.most;
        gone = λ z. q.same ∙ g.gone (rw h.vars z);
      }

  pub keeps_ruled : Ruled y
  keeps_ruled = record {
    few = rw (← h.vars) r.few;
    v0 = keeps-var 0 (omega arith);
    v1 = keeps-var 1 (omega arith);
    v2 = keeps-var 2 (omega arith);
    v3 = keeps-var 3 (omega arith);
    low = rw (← h.cap) r.low;
  }

same-limit : (v k l : ℕ) → min_limit v v k l l ≡ l
unfolding min_limit
same-limit v k l = decide (ltb k v) (λ e. rw e (omega arith)) (λ e. rw e)

same-limits : {x : Header} (y : Header) → Regular x → x.vars ≡ y.vars → ((k : ℕ) → k < 4 → limit y k ≡ limit x k) → min_degrees_p1 x y ≡ x.limits
unfolding min_degrees_p1
same-limits {x} y r e s =
    four_same (λ k. min_limit x.vars y.vars k (limit x k) (limit y k)) (limit x)
    (λ k l. rw (← e, s k l) (same-limit x.vars k (limit x k))) ∙ sym r.ls

same-cap : (c : ℕ) → min_cap c c ≡ c
unfolding min_cap
same-cap c = decide (eqb c 0) (λ e. rw e) (λ e. rw e (omega arith))

pub keeps-announced : {x y : Header} → Regular x → Keeps x y → announced Product x y ≡ x
unfolding announced paired
keeps-announced {x} {y} r h =
    let f : List ℕ → Header = λ l. header (max x.vars y.vars) l (four (λ k. min (at l k) (min (at l k) (len x k) + min (at l k) (len y k) - 1)))
    (min_cap x.cap y.cap) in
    let ne : four (λ k. min (limit x k) (min (limit x k) (len x k) + min (limit x k) (len y k) - 1)) ≡ x.lengths =
    four_same (λ k. min (limit x k) (min (limit x k) (len x k) + min (limit x k) (len y k) - 1)) (len x)
    (λ k l. let g = ruled-at r.rules k l in (h.var k l).own g.pos g.fit) ∙ sym r.ns in
    let ve : max x.vars y.vars ≡ x.vars = rw (← h.vars) (omega arith) in
    let ce : min_cap x.cap y.cap ≡ x.cap = rw (← h.cap) (same-cap x.cap) in
    ap f (same-limits y r h.vars (λ k l. (h.var k l).same))
    ∙ (ap (λ (n : List ℕ). header (max x.vars y.vars) x.limits n (min_cap x.cap y.cap)) ne
    ∙ (ap (λ (v : ℕ). header v x.limits x.lengths (min_cap x.cap y.cap)) ve ∙ ap (header x.vars x.limits x.lengths) ce))

-- and the other way: a factor that keeps the rules, with the variables, limits and cap of x, under which x is announced
pub announced-keeps : {x y : Header} → Regular x → Ruled y → x.vars ≡ y.vars → y.limits ≡ x.limits → x.cap ≡ y.cap
    → announced Product x y ≡ x → Keeps x y
unfolding announced paired
announced-keeps {x} {y} r s e l c a =
    let f : List ℕ → ℕ → ℕ = λ z k. min (at z k) (min (at z k) (len x k) + min (at z k) (len y k) - 1) in
    let lim : min_degrees_p1 x y ≡ x.limits = same-limits y r e (λ k h. ap (λ (z : List ℕ). at z k) l) in
    record {
      vars = e;
      cap = c;
      var = λ k h.
          let same : limit y k ≡ limit x k = ap (λ (z : List ℕ). at z k) l in
          record {
            same = same;
            pos = (ruled-at s k h).pos;
            fit = λ p q. rw (← same) (ruled-at s k h).fit;
            own = λ p q. ap (λ (z : List ℕ). f z k) (sym lim) ∙ (sym (at-four (f (min_degrees_p1 x y)) k h) ∙ ap (λ (z : Header). len z k) a);
          };
    }
