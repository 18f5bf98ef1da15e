-- log: one long variable place by place, and the row k where more variables are long.
use Rattle.std.specs.Prelude.{ℕ, ◌+◌, ◌-◌, ◌≤◌, ◌<◌, max, List, [], ◌∷◌, ◌++◌, cond, ◌≡◌, refl, ltb, length, get_or, take, set, Float}
use Rattle.std.proofs.Common.{sym, ap, ◌∙◌, arith, add-one, length-set, take-suc-set, take_all}
use Rattle.std.specs.Float.{nan, binary64}
use Rattle.std.specs.Float.Ieee.{add, sub, mul, div}
use Rattle.lists.specs.Walk.{walk, Walked, walked_end}
use Rattle.lists.specs.Grow.{grow, grow-none, grow-more}
use Rattle.lists.specs.Four.{at}
use Rattle.model.specs.Refusals.{zero_f}
use Rattle.model.specs.Constructed.{whole_f}
use Rattle.model.specs.Series.{log_next}

-- ---- one long variable: m is x's length, q the places before

-- the next place reads x and them; k is their number
pub record NextRoom (m mx k : ℕ) : Type 0 where
  pub some : 1 ≤ m
  pub room : m ≤ mx
  pub few : k < 64

pub record LineRoom (m mx mt : ℕ) : Type 0 where
  pub some : 1 ≤ m
  pub room : m ≤ mx
  pub places : 1 ≤ mt
  pub few : mt ≤ 64

pub line-next : {m mx mt : ℕ} → LineRoom m mx mt → {k l : ℕ} → k < mt → l ≡ k → NextRoom m mx l
line-next r h e = record { some = r.some; room = r.room; few = let f = r.few in omega arith }

-- the first j that x reaches from k, 1 at least
abbrev pub first_turn : ℕ → ℕ → ℕ
first_turn m k = max 1 (k + 1 - m)

abbrev pub line_term : List Float → List Float → ℕ → ℕ → Float → Float
line_term xs q k j acc = add binary64 acc (mul binary64 (mul binary64 (get_or xs (k - j) nan) (get_or q j nan)) (whole_f j))

unfoldable pub line_sum : ℕ → List Float → List Float → Float
line_sum m xs q = walk (line_term xs q (length q)) (length q - first_turn m (length q)) (first_turn m (length q)) zero_f

unfoldable pub next_place : ℕ → List Float → List Float → Float
next_place m xs q =
    div binary64 (div binary64
    (sub binary64 (mul binary64 (cond (ltb (length q) m) (get_or xs (length q) nan) zero_f) (whole_f (length q)))
    (line_sum m xs q)) (get_or xs 0 nan)) (whole_f (length q))

pub next-is : (head : Float) (lx r : List ℕ) (v : ℕ) (xs : List Float) → next_place (at lx v) xs ≡ log_next head lx r v xs
unfolding next_place line_sum log_next
next-is head lx r v xs = refl

pub line_end_lem : (m : ℕ) (xs q : List Float) {lo j : ℕ} {z : Float} → lo ≡ first_turn m (length q)
    → Walked (line_term xs q (length q)) lo j zero_f z → j ≡ lo + (length q - lo) → z ≡ line_sum m xs q
unfolding line_sum
line_end_lem m xs q {lo} e w h = walked_end (length q - lo) w h ∙ ap (λ (i : ℕ). walk (line_term xs q (length q)) (length q - i) i zero_f) e

-- the places below k are made
pub record Grown (f : List Float → Float) (head : Float) (n k : ℕ) (to : List Float) : Type 0 where
  pub from : 1 ≤ k
  pub len : length to ≡ n
  pub places : take k to ≡ grow (k - 1) f (head ∷ [])

pub grown-one : {f : List Float → Float} {head : Float} (to : List Float) {n : ℕ} → n ≡ length to → 1 ≤ length to → Grown f head n 1 (set to 0 head)
grown-one {f} {head} to e h = record { from = omega arith; len = length-set to 0 head ∙ sym e; places = one to h ∙ sym (grow-none f (head ∷ [])) }
  where
    one : (to : List Float) → 1 ≤ length to → take 1 (set to 0 head) ≡ head ∷ []
    one [] h = absurd (omega arith)
    one (x ∷ to) h = refl

pub grown-more : {f : List Float → Float} {head : Float} {n k : ℕ} {to : List Float} {z : Float} → Grown f head n k to
    → k < n → z ≡ f (take k to) → Grown f head n (k + 1) (set to k z)
grown-more {f} {head} {n} {k} {to} {z} g h e =
    let o = g.from in
    let l = g.len in
    let c : k - 1 + 1 ≡ k + 1 - 1 = omega arith in
    record {
      from = omega arith;
      len = length-set to k z ∙ l;
      places =
          ap (λ (i : ℕ). take i (set to k z)) (add-one k)
          ∙ (take-suc-set to k z (omega arith)
          ∙ (ap (λ (y : Float). take k to ++ (y ∷ [])) e
          ∙ (ap (λ (q : List Float). q ++ (f q ∷ [])) g.places ∙ (sym (grow-more (k - 1) f (head ∷ [])) ∙ ap (λ (i : ℕ). grow i f (head ∷ [])) c))));
    }

pub grown-all : {f : List Float → Float} {head : Float} {n k : ℕ} {to : List Float} → Grown f head n k to → k ≡ n → to ≡ grow (n - 1) f (head ∷ [])
grown-all {f} {head} {n} {k} {to} g e = sym (take_all k to (let l = g.len in omega arith)) ∙ (g.places ∙ ap (λ (i : ℕ). grow (i - 1) f (head ∷ [])) e)
