-- A sub-block whose rows are one place each: a place is what the places before it leave of c, then -0.0 added in each
-- later variable, then divided.
use Rattle.std.specs.Prelude.{ℕ, ◌+◌, ◌-◌, ◌*◌, ◌≤◌, ◌<◌, List, [], ◌++◌, ◌≡◌, length, get_or, set, Float}
use Rattle.std.proofs.Common.{append-nil, ap, ◌∙◌, arith, le_refl, add-zero, mul-one}
use Rattle.std.proofs.Math.Path.{sym}
use Rattle.std.specs.Float.{nan, binary64}
use Rattle.std.specs.Float.Ieee.{add, neg, div}
use Rattle.lists.specs.Four.{at}
use Rattle.lists.specs.Part.{part, length_part}
use Rattle.lists.specs.Walk.{walk}
use Rattle.lists.specs.Grow.{grow, grow-more}
use Rattle.model.specs.Header.{span}
use Rattle.model.specs.Places.{index}
use Rattle.model.specs.Refusals.{zero_f}
use Rattle.model.specs.General.{lo, term}
use Rattle.model.specs.Quotient.{lessened}
use Rattle.shape_words.specs.Lengths.{count-pos}
use Rattle.shape_words.specs.InRow.{in_row}
use Rattle.shape_words.specs.Strides.{span_more}
use Rattle.product_lines.specs.Fours.{Summing}
use Rattle.quotient_levels.specs.Grows.{length-grown}
use Rattle.quotient_lessening.specs.Laid.{Laid, laid_none, laid-set, laid_append, laid-part, laid-under}
use Rattle.quotient_levels.specs.Level.{level_at, level_of, row_at_lem, passed, lessened-zeros}
use Rattle.quotient_levels.specs.Room.{Single, Line}
use Rattle.quotient_levels.specs.Taken.{first-zero, taken-sum, summing}
use Rattle.quotient_levels.specs.Gather.{span_in, part_at}

-- a place from those before it, done; c0 is its c
abbrev line_at : List ℕ → ℕ → List Float → List Float → Float → ℕ → Float
line_at ly v done ys c0 k =
    div binary64 (walk passed (4 - (v + 1)) (v + 1) (add binary64 (neg (walk (term done ys k) (k - lo (at ly v) k) (lo (at ly v) k) zero_f))
    c0)) (get_or ys 0 nan)

line_at_lem : {ly r : List ℕ} {v k : ℕ} (g : Single ly r v) → k < at r v → (done ys : List Float) → length done ≡ k
    → (c : List Float) → level_at ly r ys v c done ≡ line_at ly v done ys (get_or c k nan) k
line_at_lem {ly} {r} {v} {k} g l done ys n c =
    let s = g.some in
    let m : k * in_row r v + length {A = Float} [] ≡ length done = rw g.one (omega arith) in
    let full : length done ≡ k * in_row r v = rw g.one (omega arith) in
    ap (λ (x : List Float). lessened ly r ys (index r (length done)) (4 - v) v x (get_or c (length done) nan)) (sym (append-nil done))
    ∙ (ap (λ (x : ℕ). lessened ly r ys (index r x) (4 - v) v (done ++ []) (get_or c (length done) nan)) (sym m)
    ∙ (row_at_lem ly r ys v s g.result l done full [] (get_or c (length done) nan) (rw g.one (omega arith))
    ∙ (lessened-zeros ly r ys (index r 0) (4 - (v + 1)) (v + 1) _ (λ w p q. first-zero g w (omega arith))
    ∙ (rw (taken-sum g k done ys, n)))))

-- what the loop has laid after k turns; w the work as it came
abbrev pub line_laid : List ℕ → List ℕ → ℕ → ℕ → ℕ → ℕ → ℕ → List Float → ℕ → List Float
line_laid ly r v p e b f w k = grow k (level_at ly r (part b f w) v (part p e w)) []

module _ {ly r : List ℕ} {v p e q b f : ℕ} (w : List Float) (t : Line ly r v p e q b f (length w)) where
  pub line-none : Laid q (line_laid ly r v p e b f w 0) e w w
  unfolding grow
  line-none = laid_none

  module _ {k : ℕ} {w1 : List Float} (l : k < at r v) (a : Laid q (line_laid ly r v p e b f w k) e w w1) where
    -- where the places lie
    pub line_in_lem : (f ≤ length w1) × (q + k < length w1) × (p + k < length w1) × (b < f)
    line_in_lem =
        let x1 = t.apart in
        let x2 = t.ends in
        let x3 = t.room in
        let x4 = t.before in
        let x5 = t.divisor in
        let n = a.len in
        let m = count-pos t.single.right in
        (omega arith, omega arith, omega arith, omega arith)

    pub line_summing : {i : ℕ} → i ≡ lo (at ly v) k → Summing k i k (length (part q (q + k) w1)) (length (part b f w1))
    line_summing h =
        let x5 = t.divisor in
        let o = line_in_lem in
        let s = t.single.some in
        summing t.single h
        (rw (length_part q (q + k) w1 (omega arith) (omega (arith, o.1))) (omega arith))
        (rw (length_part b f w1 (omega arith) o.0) (omega (arith, span_in t.single.right v (omega arith))))

    pub line-more : {i : ℕ} {z y : Float} → i ≡ lo (at ly v) k → z ≡ walk (term (part q (q + k) w1) (part b f w1) k) (k - i) i zero_f
        → y ≡ walk passed (4 - (v + 1)) (v + 1) (add binary64 (neg z) (get_or w1 (p + k) nan))
        → Laid q (line_laid ly r v p e b f w (k + 1)) e w (set w1 (q + k) (div binary64 y (get_or w1 b nan)))
    line-more {i} {z} {y} ei ez ey =
        let ys : List Float = part b f w in
        let c : List Float = part p e w in
        let done : List Float = line_laid ly r v p e b f w k in
        let x1 = t.apart in
        let x2 = t.ends in
        let x3 = t.room in
        let x4 = t.before in
        let x5 = t.divisor in
        let n = a.len in
        let nd : length done ≡ k = length-grown _ k in
        let m = count-pos t.single.right in
        let e1 : part q (q + k) w1 ≡ done = laid-part a (q + k) (omega arith) (omega arith) in
        let e2 : part b f w1 ≡ ys = laid-under a b f (omega arith) (omega arith) (omega arith) in
        let e3 : get_or w1 (p + k) nan ≡ get_or c k nan = a.high (p + k) (omega arith) (omega arith) ∙ sym (part_at p e w k (omega arith)) in
        let e4 : get_or w1 b nan ≡ get_or ys 0 nan = a.low b (omega arith) ∙ sym (part_at b f w 0 (omega arith) ∙ ap
        (λ (x : ℕ). get_or w x nan) (add-zero b)) in
        let ev : div binary64 y (get_or w1 b nan) ≡ level_at ly r ys v c done = rw (ey, ez, e1, e2, e3, e4, ei) (sym (line_at_lem t.single l done ys nd c)) in
        rw (grow-more k (level_at ly r ys v c) [], ← ev)
        (laid_append a (omega arith) (laid-set w1 (q + k) (div binary64 y (get_or w1 b nan)) e (omega arith))
        (le_refl e))

  pub line-all : {k : ℕ} {w' : List Float} → k ≡ at r v → Laid q (line_laid ly r v p e b f w k) e w w' → Laid q (level_of ly r (part b f w)
      v (part p e w)) e w w'
  unfolding level_of
  line-all {k} ek a =
      let z : k ≡ span r (4 - v) v = ek ∙ sym (span_more r t.single.some ∙ rw t.single.one (mul-one (at r v))) in
      rw z at a
