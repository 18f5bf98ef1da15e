-- A text byte by byte: what was seen of it so far, and the loop that goes over it.
use Rattle.std.specs.Prelude.{Some, None, ℕ, ◌+◌, ◌-◌, ◌*◌, ◌^◌, ◌≤◌, ◌<◌, false, ◌&&◌, ◌||◌, cond, List, [], ◌∷◌, ◌≡◌, refl, leb, ltb, eqb, get_or}
use Rattle.std.proofs.Math.Path.{ap}
use Rattle.std.proofs.Common.{◌∙◌, arith, drop-cons, leb-true, leb-false, ltb-true}
use Rattle.std.proofs.Math.Numerals.{add-one}
use Rattle.std.proofs.Math.ListN.{length, drop}
use Rattle.std.proofs.Math.Seq.{drop-length}
use Rattle.std.specs.Float.{binary64}
use Rattle.std.specs.Float.Ieee.{round}
use Rattle.lists.specs.Test.{decide, and_right}
use Rattle.model_decimals.specs.Results.{Read}
use Rattle.model_decimals.specs.Typed.{is_digit}
use Rattle.decimals_reading.specs.declared.scanning.Scan.{Scan}

abbrev pub at : ℕ → ℕ → ℕ → Scan
at stage size places = record { stage = stage; size = size; places = places }

-- no number
abbrev pub none : Scan
none = at 4 0 0

-- a digit more
abbrev pub pushed_digit : Scan → ℕ → Scan
pushed_digit s d =
    cond (leb 100000000000000 s.size) none
    (cond (ltb s.stage 2) (at 1 (10 * s.size + d) 0)
    (cond (ltb s.stage 4 && ltb s.places 22) (at 3 (10 * s.size + d) (s.places + 1)) none))

-- a byte more
unfoldable pub pushed : Scan → ℕ → Scan
pushed s b = cond (is_digit b) (pushed_digit s (b - 48)) (cond (eqb b 46 && eqb s.stage 1) (at 2 s.size 0) none)

unfoldable pub scanned : Scan → List ℕ → Scan
scanned s [] = s
scanned s (b ∷ t) = scanned (pushed s b) t

-- the float nearest to size / 10 ^ places
abbrev pub said : Scan → Read
said s = cond (eqb s.stage 1 || eqb s.stage 3) (Some (round binary64 false s.size (10 ^ s.places))) None

-- what never grows past a division of two floats that hold their numbers
pub record Bounded (s : Scan) : Type 0 where
  pub small : s.size < 1000000000000000
  pub few : s.places ≤ 22

none-bounded : Bounded none
none-bounded = record { small = omega arith; few = omega arith }

digit-bounded : (s : Scan) (d : ℕ) → d ≤ 9 → Bounded (pushed_digit s d)
digit-bounded s d h =
    decide (leb 100000000000000 s.size)
    (λ u. rw u none-bounded)
    (λ u.
    let l = leb-false 100000000000000 s.size u in
    decide (ltb s.stage 2)
    (λ v. rw (u, v) (record { small = omega arith; few = omega arith }))
    (λ v.
    decide (ltb s.stage 4 && ltb s.places 22)
    (λ w.
    let k = ltb-true s.places 22 (and_right (ltb s.stage 4) (ltb s.places 22) w) in
    rw (u, v, w) (record { small = omega arith; few = omega arith }))
    (λ w. rw (u, v, w) none-bounded)))

pushed-bounded : (s : Scan) (b : ℕ) → Bounded s → Bounded (pushed s b)
unfolding pushed
pushed-bounded s b r =
    decide (is_digit b)
    (λ t. let m = leb-true b 57 (and_right (leb 48 b) (leb b 57) t) in rw t (digit-bounded s (b - 48) (omega arith)))
    (λ t.
    decide (eqb b 46 && eqb s.stage 1)
    (λ u. rw (t, u) (record { small = r.small; few = omega arith }))
    (λ u. rw (t, u) none-bounded))

-- ---- the loop, at byte k
pub record Scanning (text : List ℕ) (s : Scan) (k : ℕ) : Type 0 where
  pub most : k ≤ length text
  pub rest : scanned (at 0 0 0) text ≡ scanned s (drop k text)
  pub bounded : Bounded s

pub scanning-none : (text : List ℕ) → Scanning text (at 0 0 0) 0
scanning-none text = record { most = omega arith; rest = refl; bounded = record { small = omega arith; few = omega arith } }

module _ (text : List ℕ) {s : Scan} {k : ℕ} (c : Scanning text s k) where
  pub scanning-more : {r : Scan} → k < length text → r ≡ pushed s (get_or text k 0) → Scanning text r (k + 1)
  unfolding scanned
  scanning-more {r} l e =
      record {
        most = omega arith;
        rest = c.rest ∙ (ap (scanned s) (drop-cons text k 0 l) ∙ rw (e, add-one k));
        bounded = rw e (pushed-bounded s (get_or text k 0) c.bounded);
      }

  pub scanning_end : length text ≤ k → said (scanned (at 0 0 0) text) ≡ said s
  unfolding scanned
  scanning_end l =
      let e : k ≡ length text = omega (arith, c.most) in
      ap said (c.rest ∙ ap (scanned s) (ap (λ (j : ℕ). drop j text) e ∙ drop-length text))
