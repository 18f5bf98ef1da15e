-- Rows times the powers of m, and what the loops have done.
use Rattle.std.specs.Prelude.{ℕ, ◌+◌, ◌*◌, ◌/◌, ◌%◌, ◌≤◌, ◌<◌, List, ◌≡◌, refl, length, get_or, take, drop, Float}
use Rattle.std.proofs.Common.{sym, ap, ◌∙◌, arith, add-one, length-take, length-drop, get_or-take, get_or-drop}
use Rattle.std.proofs.Math.Nat.{div-mul-le_self, mul-div_cancel}
use Rattle.std.proofs.Math.Arith.{digits_div, digits_mod}
use Rattle.std.specs.Float.{nan, binary64}
use Rattle.std.specs.Float.Ieee.{mul}
use borrow.Rule.Slice.PartMut.{put_mid}
use Rattle.lists.specs.Table.{table, table_same, Filled}
use Rattle.lists.specs.Walk.{walk, walk_more}
use Rattle.model.specs.Readings.{one_f}
use Rattle.lists.specs.Fill.{filled-rest}
use Rattle.product_linear.specs.Raised.{turn-below, turn-more}

-- m to the k, by running products from 1.0
abbrev pub power : Float → ℕ → Float
power m k = walk (λ j f. mul binary64 f m) k 0 one_f

-- rows of s places, each times its power of m
abbrev pub by_row : Float → ℕ → List Float → ℕ → Float
by_row m s a p = mul binary64 (get_or a p nan) (power m (p / s))

-- parts of `width` places, which are such rows
abbrev pub by_part : Float → ℕ → ℕ → List Float → ℕ → Float
by_part m s width a p = mul binary64 (get_or a p nan) (power m (p % width / s))

-- as many rows of s places as fill a buffer
pub record Whole (s mt : ℕ) : Type 0 where
  pub turns : ℕ
  pub full : mt ≡ turns * s
  pub pos : 0 < s

-- ---- the loops

-- the part r lies in the buffer
pub part-fits : (s mt r : ℕ) → r < mt / s → r * s + s ≤ mt
part-fits s mt r h = omega (arith, turn-below s r (mt / s) h, div-mul-le_self mt s)

-- the parts are all of it
pub whole-parts : {s mt : ℕ} → Whole s mt → mt / s * s ≡ mt
whole-parts {s} w = ap (λ (x : ℕ). x / s * s) w.full ∙ (ap (λ (x : ℕ). x * s) (mul-div_cancel w.turns w.pos) ∙ sym w.full)

-- each place of the lent part r was changed by g, which is what f is to do there
pub part-more : (f g : ℕ → Float → Float) (w q r : ℕ) {d out o : List Float}
    → Filled (r * w) (λ p. f p (get_or d p nan)) d out
    → o ≡ table (length (take q (drop (r * w) out))) (λ k. g k (get_or (take q (drop (r * w) out)) k nan))
    → r * w + w ≤ length d → q ≡ w
    → ((k : ℕ) (x : Float) → k < w → g k x ≡ f (r * w + k) x)
    → Filled ((r + 1) * w) (λ p. f p (get_or d p nan)) d (put_mid (r * w) q out o)
part-more f g w q r {d} {out} {o} e v h eq same =
    let l : length (take q (drop (r * w) out)) ≡ w = let n = e.len in simp (length-take, length-drop) (omega arith) in
    turn-more w q r e
    (v ∙ (ap (λ (n : ℕ). table n (λ k. g k (get_or (take q (drop (r * w) out)) k nan))) l
    ∙ table_same _ _ w (λ k lt.
    let x : get_or (take q (drop (r * w) out)) k nan ≡ get_or d (r * w + k) nan =
    get_or-take q (drop (r * w) out) k nan (omega arith) ∙ (ap (λ (y : List Float). get_or y k nan) (filled-rest e) ∙ get_or-drop (r * w) d k nan) in
    same k _ lt ∙ ap (f (r * w + k)) x)))
    h eq

pub power-first : (m : Float) → one_f ≡ power m 0
unfolding walk
power-first m = refl

pub power-more : (m : Float) (r : ℕ) {f : Float} → f ≡ power m r → mul binary64 f m ≡ power m (r + 1)
power-more m r e =
    ap (λ (x : Float). mul binary64 x m) e
    ∙ (sym (walk_more (λ j f. mul binary64 f m) r 0 one_f) ∙ ap (power m) (sym (add-one r)))

pub row-power : (m : Float) (s r : ℕ) {f : Float} → f ≡ power m r → (k : ℕ) (x : Float) → k < s
    → mul binary64 x f ≡ mul binary64 x (power m ((r * s + k) / s))
row-power m s r e k x h = ap (mul binary64 x) (e ∙ ap (power m) (sym (digits_div r h)))

pub part-power : (m : Float) (s width r k : ℕ) (x : Float) → k < width
    → mul binary64 x (power m (k / s)) ≡ mul binary64 x (power m ((r * width + k) % width / s))
part-power m s width r k x h = ap (λ (y : ℕ). mul binary64 x (power m (y / s))) (sym (digits_mod r h))
