-- Headers that keep the rules, as a record of facts beside the test of crate model, both directions.
use Rattle.std.specs.Prelude.{ℕ, ◌≤◌, ◌<◌, Bool, true, ◌&&◌, ◌||◌, ◌≡◌, refl, leb, ltb, eqb}
use Rattle.std.proofs.Common.{arith, leb-true, eqb-true, le-ltb, ltb-false, le-leb, eq-eqb, lit<}
use Rattle.lists.specs.Test.{and_left, and_right, or_right, or_intro}
use Rattle.lists.specs.Four.{at, four, each}
use Rattle.model.specs.declared.Header.{Header}
use Rattle.model.specs.Cap.{most_cap}
use Rattle.model.specs.Header.{limit, len, stored, header, no_header, good_var, good_vars, good_header}

pub record GoodVar (v k l n : ℕ) : Type 0 where
  pub pos : 1 ≤ n
  pub fit : n ≤ l
  pub most : l ≤ 64
  pub gone : v ≤ k → l ≡ 1

-- a header that keeps the rules, its count aside
pub record Ruled (h : Header) : Type 0 where
  pub few : h.vars ≤ 4
  pub v0 : GoodVar h.vars 0 (limit h 0) (len h 0)
  pub v1 : GoodVar h.vars 1 (limit h 1) (len h 1)
  pub v2 : GoodVar h.vars 2 (limit h 2) (len h 2)
  pub v3 : GoodVar h.vars 3 (limit h 3) (len h 3)
  pub low : h.cap ≤ most_cap

-- and whose lists have four numbers
pub record Regular (h : Header) : Type 0 where
  pub rules : Ruled h
  pub ls : h.limits ≡ four (limit h)
  pub ns : h.lengths ≡ four (len h)

-- and whose count is 4,096 at most
pub record Good (h : Header) : Type 0 where
  pub regular : Regular h
  pub most : stored h ≤ 4096

pub ruled-at : {h : Header} → Ruled h → (k : ℕ) → k < 4 → GoodVar h.vars k (limit h k) (len h k)
ruled-at {h} g = each (λ k. GoodVar h.vars k (limit h k) (len h k)) g.v0 g.v1 g.v2 g.v3

-- a header whose lists are given by variable
pub regular-four : (v : ℕ) (l n : ℕ → ℕ) {c : ℕ} → v ≤ 4 → c ≤ most_cap → ((k : ℕ) → k < 4 → GoodVar v k (l k) (n k))
    → Regular (header v (four l) (four n) c)
regular-four v l n few low g =
    record { rules = record { few = few; v0 = g 0 (lit< tt); v1 = g 1 (lit< tt); v2 = g 2 (lit< tt); v3 = g 3 (lit< tt); low = low }; ls = refl; ns = refl }

pub none-regular : Regular no_header
none-regular =
    regular-four 0 (λ k. 1) (λ k. 1) (omega arith) (omega arith)
    (λ k h. record { pos = omega arith; fit = omega arith; most = omega arith; gone = λ _. refl })

-- the test and the facts

pub good_var_lem : (v k l n : ℕ) → good_var v k l n ≡ true → GoodVar v k l n
unfolding good_var
good_var_lem v k l n h =
    let h3 = and_left ((leb 1 n && leb n l) && leb l 64) (ltb k v || eqb l 1) h in
    let h2 = and_left (leb 1 n && leb n l) (leb l 64) h3 in
    record {
      pos = leb-true _ _ (and_left (leb 1 n) (leb n l) h2);
      fit = leb-true _ _ (and_right (leb 1 n) (leb n l) h2);
      most = leb-true _ _ (and_right (leb 1 n && leb n l) (leb l 64) h3);
      gone = λ g. eqb-true _ _ (or_right (ltb k v) (eqb l 1) (and_right ((leb 1 n && leb n l) && leb l 64) (ltb k v || eqb l 1) h) (le-ltb _ _ g));
    }

pub var-good : {v k l n : ℕ} → GoodVar v k l n → good_var v k l n ≡ true
unfolding good_var
var-good {v} {k} {l} {n} g =
    simp (le-leb _ _ g.pos, le-leb _ _ g.fit, le-leb _ _ g.most, or_intro (ltb k v) (eqb l 1) (λ e. eq-eqb _ _ (g.gone (ltb-false _ _ e))))

pub good_vars_lem : (h : Header) → good_vars h ≡ true → h.cap ≤ most_cap → Ruled h
unfolding good_vars
good_vars_lem h g low =
    let one : ℕ → Bool = λ k. good_var h.vars k (limit h k) (len h k) in
    let g3 = and_left (((leb h.vars 4 && one 0) && one 1) && one 2) (one 3) g in
    let g2 = and_left ((leb h.vars 4 && one 0) && one 1) (one 2) g3 in
    let g1 = and_left (leb h.vars 4 && one 0) (one 1) g2 in
    record {
      few = leb-true _ _ (and_left (leb h.vars 4) (one 0) g1);
      v0 = good_var_lem _ _ _ _ (and_right (leb h.vars 4) (one 0) g1);
      v1 = good_var_lem _ _ _ _ (and_right (leb h.vars 4 && one 0) (one 1) g2);
      v2 = good_var_lem _ _ _ _ (and_right ((leb h.vars 4 && one 0) && one 1) (one 2) g3);
      v3 = good_var_lem _ _ _ _ (and_right (((leb h.vars 4 && one 0) && one 1) && one 2) (one 3) g);
      low = low;
    }

pub vars-good : {h : Header} → Ruled h → good_vars h ≡ true
unfolding good_vars
vars-good g = simp (le-leb _ _ g.few, var-good g.v0, var-good g.v1, var-good g.v2, var-good g.v3)

pub header-good : {h : Header} → Ruled h → stored h ≤ 4096 → good_header h ≡ true
unfolding good_header
header-good g m = simp (vars-good g, le-leb _ _ g.low, le-leb _ _ m)

pub header_ruled : (h : Header) → good_header h ≡ true → Ruled h
unfolding good_header
header_ruled h g =
    let k = and_left (good_vars h && leb h.cap most_cap) (leb (stored h) 4096) g in
    good_vars_lem h (and_left (good_vars h) (leb h.cap most_cap) k) (leb-true _ _ (and_right (good_vars h) (leb h.cap most_cap) k))

pub header-most : (h : Header) → good_header h ≡ true → stored h ≤ 4096
unfolding good_header
header-most h g = leb-true _ _ (and_right (good_vars h && leb h.cap most_cap) (leb (stored h) 4096) g)
