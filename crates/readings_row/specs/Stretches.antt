-- A row of a variable as it lies in its block where no length cuts it: in stretches as long as the variable's stride,
-- one row of the variables up to it apart.
use Prim.Native.Nat.{ℕ, suc, ◌+◌, ◌*◌, ◌/◌, ◌%◌, ◌≤◌, ◌<◌}
use Rattle.std.specs.Prelude.{List, ◌++◌, ◌≡◌, length, get_or, set, take, drop, Float}
use Rattle.std.proofs.Common.{◌∙◌, arith}
use Rattle.std.proofs.Math.Path.{ap}
use Rattle.std.proofs.Math.Nat.{suc-mul, div-one, mod-one}
use Rattle.std.proofs.Math.Arith.{digits_div, digits_mod}
use Rattle.std.specs.Float.{nan}
use Rattle.lists.specs.Table.{table, table_same, Filled, filled_none, filled_more}
use Rattle.lists.specs.Fill.{filled_row, filled-all, part-table}

-- the place k of what is written lies at this place of a
unfoldable pub stretch_at : List Float → ℕ → ℕ → ℕ → ℕ → Float
stretch_at a from width step k = get_or a (from + k / width * step + k % width) nan

-- m and l the lengths of the buffers: q stretches fill `to`, and all lie in a
pub record Stretched (from width step m l : ℕ) : Type 0 where
  pub some : 0 < width
  pub near : step ≤ 16777216
  pub whole : (q : ℕ) → q * width < l → q * width + width ≤ l
  pub room : (q : ℕ) → q * width < l → from + q * step + width ≤ m

-- q stretches are written
pub record Going (a : List Float) (from width step : ℕ) (to out : List Float) (k at : ℕ) : Type 0 where
  pub q : ℕ
  pub k_is : k ≡ q * width
  pub at_is : at ≡ from + q * step
  pub most : k ≤ length to
  pub done : Filled k (stretch_at a from width step) to out

module _ {a : List Float} {from width step : ℕ} {to : List Float} where
  pub going-none : Going a from width step to to 0 from
  going-none = record { q = 0; k_is = omega arith; at_is = omega arith; most = omega arith; done = filled_none }

  module _ (s : Stretched from width step (length a) (length to)) {out : List Float} {k at : ℕ} (g : Going a from width step to out k at)
      (h : k < length to) where
    pub going-fits : k + width ≤ length to
    going-fits = let e = g.k_is in let w = s.whole g.q (omega arith) in omega arith

    pub going_in : at + width ≤ length a
    going_in = let e = g.k_is in let w = s.room g.q (omega arith) in omega (arith, g.at_is)

    -- a place of the stretch that is next
    next-at : (j : ℕ) → j < width → get_or a (at + j) nan ≡ stretch_at a from width step (k + j)
    unfolding stretch_at
    next-at j l =
        let e : k + j ≡ g.q * width + j = omega (arith, g.k_is) in
        let d : (k + j) / width ≡ g.q = ap (λ (x : ℕ). x / width) e ∙ digits_div g.q l in
        let m : (k + j) % width ≡ j = ap (λ (x : ℕ). x % width) e ∙ digits_mod g.q l in
        rw (d, m, g.at_is)

    pub going_more : {row : List Float} → row ≡ take width (drop at a)
        → Going a from width step to (take k out ++ (row ++ drop (k + width) out)) (k + width) (at + step)
    going_more e = record {
      q = suc g.q;
      k_is = omega (arith, g.k_is, suc-mul g.q width);
      at_is = omega (arith, g.at_is, suc-mul g.q step);
      most = going-fits;
      done = filled_row width g.done (e ∙ (part-table nan a at width going_in ∙ table_same _ _ width next-at)) going-fits;
    }

  pub going_end : {out : List Float} {k at : ℕ} → Going a from width step to out k at → length to ≤ k → out ≡ table (length to) (stretch_at a from width step)
  going_end g h = filled-all g.done g.most h

-- stretches of one place, written one at a time
module _ {a : List Float} {from step : ℕ} {to : List Float} (s : Stretched from 1 step (length a) (length to)) {out : List Float} {k at : ℕ}
    (g : Going a from 1 step to out k at) (h : k < length to) where
  pub one_more : {x : Float} → x ≡ get_or a at nan → Going a from 1 step to (set out k x) (k + 1) (at + step)
  unfolding stretch_at
  one_more e =
      let q : k ≡ g.q = omega (arith, g.k_is) in
      let d : k / 1 ≡ g.q = div-one k ∙ q in
      let m : k % 1 ≡ 0 = mod-one k in
      let z : from + g.q * step + 0 ≡ at = omega (arith, g.at_is) in
      record {
        q = suc g.q;
        k_is = omega (arith, g.k_is);
        at_is = omega (arith, g.at_is, suc-mul g.q step);
        most = omega arith;
        done = filled_more g.done (e ∙ (rw (d, m, z))) h;
      }
