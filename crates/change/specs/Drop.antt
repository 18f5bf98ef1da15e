-- `shift_down`, part by part: s the places of a row, m how many rows are summed, xs the places of a part.
use Rattle.std.specs.Prelude.{ℕ, ◌+◌, ◌*◌, ◌/◌, ◌%◌, ◌≤◌, ◌<◌, List, ◌++◌, Bool, true, false, cond, ◌≡◌, refl, ltb, length, get_or, take, drop, Float}
use Rattle.std.proofs.Common.{sym, ap, ◌∙◌, arith, le_refl, get_or-take, take-take, lt-ltb, le-ltb, ltb-true}
use Rattle.std.proofs.Math.Arith.{digits_lt, digits_div, digits_mod}
use Rattle.std.specs.Float.{nan, binary64}
use Rattle.std.specs.Float.Ieee.{add}
use Rattle.lists.specs.Test.{decide}
use Rattle.lists.specs.Table.{table, Filled, length_front, table_same}
use Rattle.lists.specs.Walk.{walk_same}
use Rattle.model.specs.Refusals.{zero_f}
use Rattle.lists.specs.Fill.{part-table}
use Rattle.product_linear.specs.Raised.{Along}
use Rattle.change.specs.Room.{PartRoom}
use Rattle.change_sums.specs.Sums.{sum_at, front_at}

-- the row m plus the sum of those before it, and the rows after it
abbrev pub kept_at : ℕ → ℕ → List Float → ℕ → Float
kept_at s m xs k = cond (ltb k s) (front_at s m xs k) (get_or xs (m * s + k) nan)

abbrev pub dropped_at : Bool → ℕ → ℕ → List Float → ℕ → Float
dropped_at all s m xs k = cond all (sum_at s m xs k) (kept_at s m xs k)

-- parts of `width` places that become parts of `step` places, by place
abbrev pub dropped_flat : Bool → ℕ → ℕ → ℕ → ℕ → List Float → ℕ → Float
dropped_flat all s m width step xs p = dropped_at all s m (drop (p / step * width) xs) (p % step)

-- ---- one part

module _ (s m : ℕ) (a : List Float) where
  pub kept-start : (to : List Float) {k : ℕ} {f : List Float} → f ≡ table k (front_at k m a) → k ≡ s → s ≤ length to
      → Filled s (kept_at s m a) to (f ++ drop s to)
  kept-start to {k} {f} e ek h =
      let t : f ≡ table s (kept_at s m a) =
      e ∙ (ap (λ (x : ℕ). table x (front_at x m a)) ek
      ∙ table_same (front_at s m a) (kept_at s m a) s (λ i l. simp (lt-ltb _ _ l))) in
      let q = ap (λ (y : List Float). y ++ drop s to) t in
      record { len = ap length q ∙ length_front (kept_at s m a) s to h; is = q }

  pub kept-rest : (l q w : ℕ) {next : ℕ} {o : List Float} → o ≡ take l (take q (drop next a)) → l ≡ w → q ≡ w
      → next ≡ m * s + s → next + w ≤ length a → o ≡ table w (λ k. kept_at s m a (s + k))
  kept-rest l q w {next} e el eq en h =
      e ∙ (rw (el, eq) (take-take w w (drop next a) (le_refl w) ∙ (part-table nan a next w h ∙ table_same _ _ w (λ k g.
      let b : s ≤ s + k = omega arith in
      let x : next + k ≡ m * s + (s + k) = omega (arith, en) in
      rw (le-ltb _ _ b, x)))))

  pub dropped-all : {all : Bool} (k : ℕ) {o : List Float} → all ≡ true → k ≡ s → o ≡ table k (sum_at k m a) → o ≡ table k (dropped_at all s m a)
  dropped-all k e ek eo = eo ∙ table_same _ _ k (λ i h. rw (e, ek))

  pub dropped-kept : {all : Bool} (k : ℕ) {o : List Float} → all ≡ false → o ≡ table k (kept_at s m a) → o ≡ table k (dropped_at all s m a)
  dropped-kept k e eo = eo ∙ table_same _ _ k (λ i h. rw e)

-- ---- part by part

-- a part reads no further than its end
sum-part : (s m k w : ℕ) (ys : List Float) → k < s → m * s ≤ w → sum_at s m (take w ys) k ≡ sum_at s m ys k
sum-part s m k w ys h l =
    walk_same _ _ m 0 zero_f (λ j p q y. ap (add binary64 y) (get_or-take w ys (j * s + k) nan (omega (arith, digits_lt {q = j} {m = m} (omega arith) h))))

dropped-part : (all : Bool) (s m w t k : ℕ) (ys : List Float) → PartRoom all s m w t → k < t → dropped_at all s m (take w ys) k ≡ dropped_at all s m ys k
dropped-part true s m w t k ys g h = let e = g.one refl in sum-part s m k w ys (omega arith) e.1
dropped-part false s m w t k ys g h =
    let e = g.many refl in
    let x : get_or (take w ys) (m * s + k) nan ≡ get_or ys (m * s + k) nan = get_or-take w ys (m * s + k) nan (omega arith) in
    decide (ltb k s)
    (λ b. let y = sum-part s m k w ys (ltb-true k s b) (omega arith) in rw (b, x, y))
    (λ b. rw (b, x))

pub part-is : {all : Bool} {s m width step from at' : ℕ} → PartRoom all s m width step → Along width step from at'
    → (xs : List Float) {row o : List Float} {z k : ℕ}
    → row ≡ take z (drop from xs) → z ≡ width → o ≡ table k (dropped_at all s m row) → k ≡ step
    → o ≡ table step (λ j. dropped_flat all s m width step xs (at' + j))
part-is {all} {s} {m} {width} {step} {from} {at'} g a xs {row} {o} {z} er ez eo ek =
    eo ∙ (ap (λ (x : ℕ). table x (dropped_at all s m row)) ek
    ∙ table_same (dropped_at all s m row) (λ j. dropped_flat all s m width step xs (at' + j)) step (λ j h.
    let d : (at' + j) / step ≡ a.turns = ap (λ (x : ℕ). (x + j) / step) a.is_at ∙ digits_div a.turns h in
    let r : (at' + j) % step ≡ j = ap (λ (x : ℕ). (x + j) % step) a.is_at ∙ digits_mod a.turns h in
    let f : from ≡ (at' + j) / step * width = a.is_from ∙ ap (λ (x : ℕ). x * width) (sym d) in
    ap (λ (l : List Float). dropped_at all s m l j) (er ∙ ap (λ (x : ℕ). take x (drop from xs)) ez)
    ∙ (dropped-part all s m width step j (drop from xs) g h
    ∙ (ap (λ (x : ℕ). dropped_at all s m (drop x xs) j) f
    ∙ ap (dropped_at all s m (drop ((at' + j) / step * width) xs)) (sym r)))))
